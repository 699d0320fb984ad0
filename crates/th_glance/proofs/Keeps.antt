-- Each step on the word keeps the rule.
use Rattle.std.proofs.Common.{◌≡◌, ◌≢◌, ℕ, zero, suc, ◌+◌, Bool, false, List, [], ◌∷◌, ◌++◌, Some, slice_get, set, get_or, refl, ap, sym, ◌∙◌, subst, arith, ⊎_elim}
use mathlib.Core.Option.{none, some, some-injective, some-ne-none}
use mathlib.Core.List.{IsPrefix}
use lib.ListN.{get_elem?}
use Rattle.atomic_table.specs.Table.{step, keeps, stepped, opening, Allows, Splits, Joins}
use Rattle.atomic_table.proofs.Lists.{at_set, at_snoc, set_again}
use Rattle.th_glance.specs.declared.glance.Glance.{Glance}
use Rattle.th_glance.specs.declared.sight.Sight.{Sight}
use Rattle.th_glance.specs.Lists.{glance_of, word_of, last_count, IsCounted}
use Rattle.th_glance.specs.Seats.{Kept, Words, Sitter, Sees, Writes, Covers, sight, first_sight}
use Rattle.th_glance.proofs.Prefix.{prefix_self, prefix_trans, last-snoc, counted-snoc, word-injective}

first_counted : (k : ℕ) (g : Glance) → slice_get (glance_of 0 false ∷ []) k ≡ Some g → g.count ≡ k
first_counted zero g e = let same : glance_of 0 false ≡ g = cc (e) in sym (ap (λ (x : Glance). x.count) same)
first_counted (suc k) g e = absurd (cc (e))

first_seat : (by : ℕ) (v : Sight) → get_elem? (first_sight ∷ []) by ≡ some v → IsPrefix v.seen (glance_of 0 false ∷ [])
    × IsPrefix v.told (glance_of 0 false ∷ [])
first_seat zero v e = subst (λ (x : Sight). IsPrefix x.seen (glance_of 0 false ∷ []) × IsPrefix x.told (glance_of 0 false ∷ []))
    (some-injective first_sight v e) (prefix_self _, (glance_of 0 false ∷ [], refl))
first_seat (suc by) v e = absurd (some-ne-none v (sym e))

-- the list at the opening
pub opening_counted : IsCounted (glance_of 0 false ∷ [])
opening_counted = (omega arith, λ k g e. first_counted k g e)

-- at the opening
pub opens : Kept (opening {S = Unit {0}} (0 ∷ []) [] first_sight)
opens = let log : List Glance = glance_of 0 false ∷ [] in record {
  log = log;
  words = refl;
  counted = opening_counted;
  pen = λ v e. ap (λ (x : Sight). x.seen) (sym (some-injective first_sight v e));
  seats = λ by v e. first_seat by v e;
}

-- a seat has another view, whose lists begin the log, and the pen's is the log
kept_at : (s : Words) (r : Kept s) (id : ℕ) (w : Sight) → (0 ≡ id → w.seen ≡ r.log) → IsPrefix w.seen r.log → IsPrefix w.told r.log
    → Kept record { words = s.words; homes = s.homes; views = set s.views id w }
kept_at s r id w pen seen told = record {
  log = r.log;
  words = r.words;
  counted = r.counted;
  pen = λ v e.
      ⊎_elim (λ (t : (0 ≡ id) × (w ≡ v)). ap (λ (x : Sight). x.seen) (sym t.1) ∙ pen t.0)
      (λ (t : (0 ≢ id) × (get_elem? s.views 0 ≡ some v)). r.pen v t.1) (at_set s.views id 0 w v e);
  seats =
      λ by v e. ⊎_elim (λ (t : (by ≡ id) × (w ≡ v)). subst (λ (x : Sight). IsPrefix x.seen r.log × IsPrefix x.told r.log) t.1 (seen, told))
      (λ (t : (by ≢ id) × (get_elem? s.views by ≡ some v)). r.seats by v t.1) (at_set s.views id by w v e);
}

-- a load leaves the words
same_words : (s : Words) (r : Kept s) → set s.words 0 (get_or s.words 0 0) ≡ s.words
same_words s r = ap (λ (ws : List ℕ). set ws 0 (get_or ws 0 0)) r.words ∙ sym r.words

loaded : (s : Words) (r : Kept s) (id : ℕ) (me : Sitter) (w : Sight) → Kept record {
  words = s.words;
  homes = s.homes;
  views = set s.views id w;
}
    → Kept (stepped s 0 (get_or s.words 0 0) id me.1 w keeps)
loaded s r id me w k =
    subst (λ (ws : List ℕ). Kept record { words = ws; homes = s.homes; views = set s.views id w }) (sym (same_words s r)) k

pub sees : (slots id : ℕ) (me : Sitter) → Allows Kept slots id me 0 (λ n. n) (Sees (step slots 0 0 0 none) me)
sees slots id me s r wide at small = let w : Sight = sight r.log me.0.told in let mine = r.seats id me.0 at in (
  w,
  keeps,
  tt,
  loaded s r id me w (kept_at s r id w (λ _. refl) (prefix_self r.log) mine.1),
  (mine.0, r.counted, ap (λ (ws : List ℕ). get_or ws 0 0) r.words),
)

pub covers : (slots id : ℕ) (me : Sitter) → id ≡ 0 → Allows Kept slots id me 0 (λ n. n) (Covers (step slots 0 0 0 none) me)
covers slots id me first s r wide at small = let mine = r.seats id me.0 at in let whole : me.0.seen ≡ r.log =
    r.pen me.0 (subst (λ (z : ℕ). get_elem? s.views z ≡ some me.0) first at) in (
      me.0,
      keeps,
      tt,
      loaded s r id me me.0 (kept_at s r id me.0 (λ _. whole) mine.0 mine.1),
      (refl, subst (λ (l : List Glance). IsPrefix me.0.told l) (sym whole) mine.1),
    )

pub writes : (slots id : ℕ) (me : Sitter) (closed : Bool) (word : ℕ) → id ≡ 0 → word ≡ word_of (glance_of (last_count me.0.seen + 1) closed)
    → Allows Kept slots id me 0 (λ _. word) (λ _. Writes (step slots 0 word 0 none) me word)
writes slots id me closed word first is s r wide at small =
    let g : Glance = glance_of (last_count me.0.seen + 1) closed in
    let mine = r.seats id me.0 at in
    let whole : me.0.seen ≡ r.log = r.pen me.0 (subst (λ (z : ℕ). get_elem? s.views z ≡ some me.0) first at) in
    let log : List Glance = me.0.seen ++ g ∷ [] in
    let w : Sight = sight log me.0.told in
    let counted : IsCounted me.0.seen = subst IsCounted (sym whole) r.counted in
    let longer : IsPrefix r.log log = (g ∷ [], ap (λ (l : List Glance). l ++ g ∷ []) (sym whole)) in (
      w,
      keeps,
      tt,
      record {
        log = log;
        words = ap (λ (ws : List ℕ). set ws 0 word) r.words ∙ ap (λ (n : ℕ). n ∷ []) (is ∙ ap word_of (sym (last-snoc me.0.seen g)));
        counted = counted-snoc me.0.seen closed counted;
        pen = λ v e.
            ⊎_elim (λ (t : (0 ≡ id) × (w ≡ v)). ap (λ (x : Sight). x.seen) (sym t.1))
            (λ (t : (0 ≢ id) × (get_elem? s.views 0 ≡ some v)). absurd (t.0 (sym first))) (at_set s.views id 0 w v e);
        seats = λ by v e.
            ⊎_elim
            (λ (t : (by ≡ id) × (w ≡ v)). subst (λ (x : Sight). IsPrefix x.seen log × IsPrefix x.told log) t.1
            (prefix_self log, prefix_trans me.0.told r.log log mine.1 longer))
            (λ (t : (by ≢ id) × (get_elem? s.views by ≡ some v)). let old = r.seats by v t.1 in
            (prefix_trans v.seen r.log log old.0 longer, prefix_trans v.told r.log log old.1 longer)) (at_set s.views id by w v e);
      },
      λ h e. ap (λ (z : Glance). me.0.seen ++ z ∷ []) (word-injective g h (sym is ∙ e)),
    )

first_stays : (l m : List Sight) (i : ℕ) (v : Sight) → get_elem? l i ≡ some v → get_elem? (l ++ m) 0 ≡ get_elem? l 0
first_stays [] m i v e = absurd (some-ne-none v (sym e))
first_stays (x ∷ xs) m i v e = refl

pub splits : (id : ℕ) (v : Sight) → Splits Kept id v v v
splits id v s r at = let mine = r.seats id v at in
    subst (λ (l : List Sight). Kept record { words = s.words; homes = s.homes; views = l ++ v ∷ [] })
    (sym (set_again s.views id v at)) record {
      log = r.log;
      words = r.words;
      counted = r.counted;
      pen = λ u e. r.pen u (sym (first_stays s.views (v ∷ []) id v at) ∙ e);
      seats = λ by u e.
          ⊎_elim (λ (t : get_elem? s.views by ≡ some u). r.seats by u t)
          (λ (t : v ≡ u). subst (λ (x : Sight). IsPrefix x.seen r.log × IsPrefix x.told r.log) t mine) (at_snoc s.views v u by e);
    }

pub joins : (id : ℕ) (v : Sight) (other : ℕ) (w : Sight) → id ≡ 0 → Joins Kept id v other w (sight v.seen w.seen) (sight [] [])
joins id v other w first s r at apart there =
    let both : Sight = sight v.seen w.seen in
    let mine = r.seats id v at in
    let whole : v.seen ≡ r.log = r.pen v (subst (λ (z : ℕ). get_elem? s.views z ≡ some v) first at) in
    let theirs : IsPrefix w.seen r.log =
    ⊎_elim (λ (t : (other ≡ id) × (both ≡ w)). absurd (apart t.0))
    (λ (t : (other ≢ id) × (get_elem? s.views other ≡ some w)). (r.seats other w t.1).0) (at_set s.views id other both w there) in
    let told = kept_at s r id both (λ _. whole) mine.0 theirs in
    kept_at record { words = s.words; homes = s.homes; views = set s.views id both } told other (sight [] [])
    (λ z. absurd (apart (sym z ∙ sym first))) (told.log, refl) (told.log, refl)
