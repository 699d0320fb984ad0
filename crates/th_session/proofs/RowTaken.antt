-- A row of lines is put and taken.
use Rattle.std.proofs.Common.{◌≡◌, ◌∙◌, inl, inr, ℕ, ◌-◌, ◌<◌, ◌≤◌, Bool, false, List, [], ◌∷◌, ◌++◌, length, map, drop, get_or, take, refl, sym, ap, subst, append-nil, arith, length-append, length-drop, Option, Result, Ok, Err}
use Rattle.std.specs.List.{concat}
use Rattle.std.proofs.Math.Seq.{drop-append_seam}
use Rattle.std.proofs.lemmas.Bool.{false≢true}
use Rattle.std.proofs.lemmas.List.{get_or-map, length-map, take_all}
use Rattle.std.proofs.lemmas.List.Folds.{concat-append}
use Rattle.th_lines.specs.Answering.{Answers, Breaks, Turned}
use Rattle.th_lines.specs.Feeding.{TakesRow}
use Rattle.th_lines.specs.Intake.{IsRow, Reading}
use Rattle.th_lines.specs.Lines.{Good, Line}
use Rattle.th_lines.specs.Output.{Adds, AddsOrFails, Output, WritesFront}
use Rattle.th_lines.specs.Tally.{Tally}
use Rattle.th_lines.proofs.AnsweringLemmas.{breaks_after, turned-append}
use Rattle.th_lines.proofs.OutputLemmas.{adds_both}
use Rattle.th_registry.specs.Hub.{Query, Said}
use Rattle.th_registry.specs.Receipts.{ChannelReceipt}
use Rattle.th_registry.specs.Rows.{on_topic}
use Rattle.th_registry.specs.declared.opening.TopicId.{TopicId}
use Rattle.th_session.specs.declared.fault.Stop.{Stop}
use Rattle.th_session.specs.declared.fault.Stop.TheVariants as stop
use Rattle.th_session.specs.declared.keeping.Keeping.{Keeping}
use Rattle.th_session.specs.Kept.{Kept, kept_by}
use Rattle.th_session.specs.Rows.{Carried, CarriesOut, RowEnds, ServesRow, told_by, with_more}
use Rattle.th_session.specs.Run.{AreLet, BreaksOff, IsOver, Progress, Strictness, Took, line_turn, quitting, stands}
use Rattle.th_session.proofs.Letting.{first_let, more_let, row_let}
use Rattle.th_session.proofs.Running.{breaks_off_after}

-- the texts of the receipts that came last
texts_on : (n : ℕ) (added : List ChannelReceipt) → map (λ r. told_by r.1) (on_topic n added) ≡ map told_by added
texts_on n [] = refl
texts_on n (r ∷ rs) = ap (λ (ts : List (List ℕ)). told_by r ∷ ts) (texts_on n rs)

last_ones : (receipts : List (TopicId × ChannelReceipt)) (n : ℕ) (added : List ChannelReceipt) (count : ℕ) → length added ≡ count →
    drop (length (receipts ++ on_topic n added) - count) (receipts ++ on_topic n added) ≡ on_topic n added
last_ones receipts n added count many =
    let f : ChannelReceipt → TopicId × ChannelReceipt = λ r. (record { 0 = n }, r) in
    let k = length-map added f in
    let at : length (receipts ++ on_topic n added) - count ≡ length receipts =
    omega (arith, length-append receipts (on_topic n added), k, many) in
    ap (λ (i : ℕ). drop i (receipts ++ on_topic n added)) at ∙ drop-append_seam receipts (on_topic n added)

-- the last ones of a list, as a slice has them
pub all_last : (receipts : List (TopicId × ChannelReceipt)) (count : ℕ) →
    take (length receipts - (length receipts - count)) (drop (length receipts - count) receipts)
    ≡ drop (length receipts - count) receipts
all_last receipts count = take_all (length receipts - (length receipts - count)) (drop (length receipts - count) receipts)
    (omega (arith, length-drop (length receipts - count) receipts))

-- the text of one of them
pub text_at : (receipts : List (TopicId × ChannelReceipt)) (k : ℕ) (e : TopicId × ChannelReceipt) → k < length receipts →
    e ≡ get_or receipts k e → get_or (map (λ r. told_by r.1) receipts) k [] ≡ told_by e.1
text_at receipts k e h is = get_or-map (λ r. told_by r.1) receipts k e [] h ∙ ap (λ (r : TopicId × ChannelReceipt). told_by r.1) (sym is)

module _ {D : Type 0} (says : D → (q : Query) → Said q → D → Type 0) (keeping : Keeping) (there : Reading) (most : ℕ) where
  -- a row of no lines is none
  pub none_carried : (old new : Kept × D) (count : ℕ) (out : Output) → count ≡ 0 → CarriesOut says there most old count new →
      ServesRow says keeping there most (old, out) count (Ok tt) (new, out)
  none_carried old new count out zero (inl none) = inl (none.0, ap (λ (s : Kept × D). (s, out)) none.1, refl)
  none_carried old new count out zero (inr (lines, is, within, carried)) =
      absurd (omega (arith, zero, is.counted, length-map lines (λ l. Good l), carried.some))

  -- so many receipts are there
  pub are_kept : (old new : Kept × D) (count : ℕ) → CarriesOut says there most old count new → count ≤ length new.0.receipts
  are_kept old new count (inl none) = omega (arith, none.0)
  are_kept old new count (inr (lines, is, within, carried)) =
      let n = ap (λ (k : Kept). length k.receipts) carried.kept in
      let f : ChannelReceipt → TopicId × ChannelReceipt = λ r. (record { 0 = carried.topic }, r) in
      omega (
        arith,
        n,
        length-append old.0.receipts (on_topic carried.topic carried.added),
        length-map carried.added f,
        carried.many,
        is.counted,
        length-map lines (λ l. Good l),
      )

  module _ (old mid : Kept × D) (left : Kept) (count : ℕ) (before after : Output) (some : 0 < count) (is : left ≡ kept_by keeping mid.0)
    where
      abbrev told : List ℕ
      told = concat (map (λ r. told_by r.1) (drop (length mid.0.receipts - count) mid.0.receipts))

      told_is : (lines : List (List ℕ)) (r : IsRow there count (map (λ l. Good l) lines)) (c : Carried says lines old mid) →
          told ≡ concat (map told_by c.added)
      told_is lines r c =
          let many : length c.added ≡ count = omega (arith, c.many, r.counted, length-map lines (λ l. Good l)) in
          let at = ap (λ (k : Kept). k.receipts) c.kept in
          ap concat (ap (λ (rs : List (TopicId × ChannelReceipt)). map (λ r. told_by r.1) (drop (length rs - count) rs)) at
          ∙ ap (λ (rs : List (TopicId × ChannelReceipt)). map (λ r. told_by r.1) rs)
          (last_ones old.0.receipts c.topic c.added count many)
          ∙ texts_on c.topic c.added)

      turned : (lines : List (List ℕ)) (c : Carried says lines old mid) →
          Turned (line_turn keeping says) (map (λ l. Good l) lines) (old, false) (map told_by c.added) ((left, mid.1), false)
      turned lines c = subst (λ (k : Kept). Turned (line_turn keeping says) (map (λ l. Good l) lines) (old, false) (map told_by c.added)
          ((k, mid.1), false)) (sym is) (c.turned keeping)

      pub row_put : CarriesOut says there most old count mid → Adds told before after →
          ServesRow says keeping there most (old, before) count (Ok tt) ((left, mid.1), after)
      row_put (inl none) put = absurd (omega (arith, some, none.0))
      row_put (inr (lines, r, within, c)) put = inr (
        map (λ l. Good l) lines,
        r,
        within,
        some,
        record {
          texts = map told_by c.added;
          turned = turned lines c;
          said = subst (λ (l : List ℕ). Adds l before after) (told_is lines r c) put;
        },
      )

      pub row_broken : CarriesOut says there most old count mid → WritesFront (before.waiting ++ told) before after →
          ServesRow says keeping there most (old, before) count (Err stop.Write) ((left, mid.1), after)
      row_broken (inl none) put = absurd (omega (arith, some, none.0))
      row_broken (inr (lines, r, within, c)) put = inr (
        map (λ l. Good l) lines,
        r,
        within,
        some,
        (
          refl,
          record {
            done = map (λ l. Good l) lines;
            later = [];
            texts = map told_by c.added;
            parts = sym (append-nil (map (λ l. Good l) lines));
            turned = turned lines c;
            said = subst (λ (l : List ℕ). WritesFront (before.waiting ++ l) before after) (told_is lines r c) put;
          },
        ),
      )

-- lines were answered, and then more
answers_both : {S : Type 0} {turn : S → Line → List ℕ → S → Type 0} {a b c : S × Output} {xs ys : List Line} →
    Answers turn a xs b → Answers turn b ys c → Answers turn a (xs ++ ys) c
answers_both {S} {turn} {a} {b} {c} {xs} {ys} p q = record {
  texts = p.texts ++ q.texts;
  turned = turned-append turn xs ys a.0 b.0 c.0 p.texts q.texts p.turned q.turned;
  said = subst (λ (l : List ℕ). Adds l a.1 c.1) (sym (concat-append p.texts q.texts)) (adds_both p.said q.said);
}

module _ {W D G : Type 0} (says : D → (q : Query) → Said q → D → Type 0) (strict : G × ℕ → Strictness)
    (contents : W → Option (List ℕ)) where
  -- a run takes a row
  pub row_taken : (taken most : ℕ) (there : Reading) (old new : Progress G × D × Tally W) (count : ℕ) (r : Result (Unit {0}) Stop) →
      new.0.keeping ≡ old.0.keeping → new.0.gate ≡ old.0.gate → AreLet (strict old.0.gate) taken count
      → ServesRow says old.0.keeping there most (stands contents old) count r (stands contents new) →
      TakesRow (Took says strict contents) (IsOver says strict contents) taken most there old count r new
  row_taken taken most there old new count (Err why) same gate these (inl none) = absurd (false≢true none.2)
  row_taken taken most there old new count (Ok x) same gate these (inl none) = record {
    row = [];
    is = record { counted = sym none.0; first = λ ended more. (_, refl) };
    within = omega (arith, none.0);
    some = tt;
    takes = λ from lines many t. (
      same ∙ t.0,
      gate ∙ t.1,
      subst (λ (ls : List Line). AreLet (strict from.0.gate) 0 (length ls)) (sym (append-nil lines)) t.2,
      subst (λ (ls : List Line). Answers (line_turn from.0.keeping says) (quitting false (stands contents from)) ls
          (quitting false (stands contents new))) (sym (append-nil lines))
          (subst (λ (at : (Kept × D) × Output). Answers (line_turn from.0.keeping says) (quitting false (stands contents from)) lines
          (quitting false at)) (sym none.1) t.3),
    );
  }
  row_taken taken most there old new count (Ok x) same gate these (inr (row, is, within, some, ends)) = record {
    row = row;
    is = is;
    within = within;
    some = tt;
    takes = λ from lines many t. (
      same ∙ t.0,
      gate ∙ t.1,
      more_let (strict from.0.gate) taken lines row many t.2
          (row_let (strict from.0.gate) (strict old.0.gate) taken count row (ap strict t.1) is.counted these),
      answers_both t.3 (subst (λ (k : Keeping). Answers (line_turn k says) (quitting false (stands contents old)) row
          (quitting false (stands contents new))) t.0 ends),
    );
  }
  row_taken taken most there old new count (Err why) same gate these (inr (row, is, within, some, ends)) = record {
    row = row;
    is = is;
    within = within;
    some = some;
    takes = λ from lines many t.
        let b = subst (λ (k : Keeping). Breaks (line_turn k says) false (quitting false (stands contents old)) row
        (quitting false (stands contents new))) t.0 ends.1 in
        let fewer : length b.done ≤ length row = omega (arith, ap (λ (l : List Line). length l) b.parts, length-append b.done b.later) in
        let let_done = first_let (strict from.0.gate) taken (length b.done) (length row) fewer
        (row_let (strict from.0.gate) (strict old.0.gate) taken count row (ap strict t.1) is.counted these) in
        subst (λ (w : Stop). IsOver says strict contents from (lines ++ row) w new) (sym ends.0) (
          false,
          breaks_off_after from.0.keeping says (strict from.0.gate) taken (stands contents from) (stands contents old)
              (stands contents new) lines row many t.2 t.3 false false (b, let_done),
        );
  }
