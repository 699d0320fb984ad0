-- What a channel's word has said, at each place of the log's present part.
use Rattle.std.proofs.Common.{◌≡◌, ◌∙◌, ℕ, ◌+◌, ◌≤◌, ⊎_elim, inl, inr, List, [], ◌∷◌, ◌++◌, length, ap, sym, subst, arith, length-append}
use Rattle.std.specs.Prelude.{Some, slice_get}
use Rattle.std.proofs.lemmas.Bool.Decides.{eqb_tells}
use Rattle.std.proofs.lemmas.List.{take-append-le, take_all}
use Rattle.std.proofs.lemmas.Option.{same_Some}
use Rattle.th_seats.specs.Tally.{Tally}
use Rattle.th_glance.specs.declared.glance.Glance.{Glance}
use Rattle.th_glance.specs.Lists.{glance_of, last_of, last_count, IsCounted}
use Rattle.th_glance.specs.Seats.{Known as Sighted}
use Rattle.th_glance.proofs.Prefix.{count-length, get-last, get-snoc}
use Rattle.th_log.specs.History.{IsKept, IsLegal, Machine, Piece, end_of, next_of}
use Rattle.th_log.specs.Outcome.{added, ticked}
use Rattle.th_block.specs.Locked.{IsPosted, Post, TellsClosed, closed_after}

-- the glance behind all others is the last one
at_last : (list : List Glance) (g : Glance) → IsCounted list → slice_get list (last_count list) ≡ Some g → last_of list ≡ g
at_last [] g counted there = absurd (omega (arith, counted.0))
at_last (x ∷ xs) g counted there =
    let long = count-length (x ∷ xs) counted in
    let at : last_count (x ∷ xs) ≡ length xs = omega (arith, long) in
    same_Some (last_of (x ∷ xs)) g (sym (get-last x xs) ∙ (ap (slice_get (x ∷ xs)) (sym at) ∙ there))

module _ {E S C R : Type 0} (m : Machine E S C R) (sound : S → Type 0) where
  -- at the end of a part it was as it is there
  at_end : (p : Piece S C R) → IsLegal m sound p → (n : ℕ) → n ≡ length p.entries → closed_after m p n ≡ m.closed p.last
  at_end p legal n is =
      ap (λ (es : List (C × R)). m.closed (m.see (end_of m (m.whole p.start) es)))
      (take_all n p.entries (omega (arith, is))) ∙ ap m.closed legal.end

  -- so the last glance tells it
  last_tells : (p : Piece S C R) (list : List Glance) → IsLegal m sound p → IsCounted list
      → last_of list ≡ glance_of (p.first + length p.entries) (m.closed p.last) → (n : ℕ) (g : Glance) → n ≡ length p.entries
      → slice_get list (p.first + n) ≡ Some g → g.closed ≡ closed_after m p n
  last_tells p list legal counted last n g is there =
      let place : p.first + n ≡ last_count list = ap (λ (k : ℕ). p.first + k) is ∙ sym (ap (λ (x : Glance). x.count) last) in
      let here : last_of list ≡ g = at_last list g counted (ap (slice_get list) (sym place) ∙ there) in
      ap (λ (x : Glance). x.closed) (sym here ∙ last) ∙ sym (at_end p legal n is)

  -- a part that has no entry yet
  begun : (p : Piece S C R) (list : List Glance) → IsLegal m sound p → length p.entries ≡ 0 → IsCounted list
      → last_of list ≡ glance_of (p.first + length p.entries) (m.closed p.last) → TellsClosed m p list
  begun p list legal none counted last n g within there = last_tells p list legal counted last n g (omega (arith, within, none)) there

  -- one entry more
  goes_on : (p : Piece S C R) (call : C) (reply : R) (last : S) (list : List Glance) (g : Glance) → TellsClosed m p list
      → IsLegal m sound (added p call reply last) → IsCounted (list ++ g ∷ [])
      → last_of (list ++ g ∷ []) ≡ glance_of (p.first + length (p.entries ++ (call, reply) ∷ [])) (m.closed last)
      → TellsClosed m (added p call reply last) (list ++ g ∷ [])
  goes_on p call reply last list g tells legal counted is n h within there =
      let more : length (p.entries ++ (call, reply) ∷ []) ≡ length p.entries + 1 = length-append p.entries ((call, reply) ∷ []) in
      let long : length (list ++ g ∷ []) ≡ length list + 1 = length-append list (g ∷ []) in
      let full = count-length (list ++ g ∷ []) counted in
      let count : last_count (list ++ g ∷ []) ≡ p.first + length (p.entries ++ (call, reply) ∷ []) = ap (λ (x : Glance). x.count) is in
      elim (eqb_tells n (length (p.entries ++ (call, reply) ∷ []))) [
        | inl same ↦ last_tells (added p call reply last) (list ++ g ∷ []) legal counted is n h same.1 there
        | inr other ↦
            let fewer : n ≤ length p.entries = omega (arith, within, more, other.1) in
            let before : slice_get list (p.first + n) ≡ Some h =
            ⊎_elim (λ (t : slice_get list (p.first + n) ≡ Some h). t)
            (λ (t : (p.first + n ≡ length list) × (g ≡ h)). absurd (omega (arith, t.0, fewer, more, long, full, count)))
            (get-snoc list g (p.first + n) h there) in
            tells n h fewer before
            ∙ ap (λ (es : List (C × R)). m.closed (m.see (end_of m (m.whole p.start) es)))
            (sym (take-append-le n p.entries ((call, reply) ∷ []) fewer))
      ]

  -- an event, and its store
  pub posted_on : (old new : Post S C R) (call : C) (reply : R) → IsPosted m old → IsKept m sound new.log
      → new.log.piece ≡ added old.log.piece call reply new.log.piece.last → new.log.tally ≡ ticked old.log.tally
      → new.pen.list ≡ old.pen.list ++ glance_of (last_count old.pen.list + 1) (m.closed new.log.piece.last) ∷ []
      → last_of new.pen.list ≡ glance_of (last_count old.pen.list + 1) (m.closed new.log.piece.last)
      → IsCounted new.pen.list → IsPosted m new
  posted_on old new call reply was kept entry ticks stores last counted =
      let total : new.log.tally.total ≡ old.log.tally.total + 1 = ap (λ (t : Tally). t.total) ticks in
      let count : last_count old.pen.list ≡ old.log.tally.total = ap (λ (x : Glance). x.count) was.last in
      let now : last_count old.pen.list + 1 ≡ new.log.tally.total = omega (arith, total, count) in
      let says : last_of new.pen.list ≡ glance_of new.log.tally.total (m.closed new.log.piece.last) =
      last ∙ ap (λ (k : ℕ). glance_of k (m.closed new.log.piece.last)) now in
      let end : new.log.piece.first + length new.log.piece.entries ≡ new.log.tally.total = kept.counted in
      let far : old.log.piece.first + length (old.log.piece.entries ++ (call, reply) ∷ []) ≡ new.log.tally.total =
      ap (λ (p : Piece S C R). p.first + length p.entries) (sym entry) ∙ end in
      let legal : IsLegal m sound (added old.log.piece call reply new.log.piece.last) = subst (IsLegal m sound) entry kept.legal in
      let tells = goes_on old.log.piece call reply new.log.piece.last old.pen.list _ was.each legal (subst IsCounted stores counted)
      (ap last_of (sym stores) ∙ (says ∙ ap (λ (k : ℕ). glance_of k (m.closed new.log.piece.last)) (sym far))) in
      record {
        counted = counted;
        last = says;
        each = subst (λ (p : Piece S C R). TellsClosed m p new.pen.list) (sym entry)
            (subst (λ (l : List Glance). TellsClosed m (added old.log.piece call reply new.log.piece.last) l) (sym stores) tells);
      }

  -- the next part
  pub posted_next : (old new : Post S C R) → IsPosted m old → IsKept m sound new.log → new.pen ≡ old.pen
      → new.log.piece ≡ next_of old.log.piece old.log.tally.total → new.log.tally ≡ old.log.tally → IsPosted m new
  posted_next old new was kept pen next tally =
      let counted : IsCounted new.pen.list = subst (λ (k : Sighted). IsCounted k.list) (sym pen) was.counted in
      let none : length new.log.piece.entries ≡ 0 = ap (λ (p : Piece S C R). length p.entries) next in
      let says : last_of new.pen.list ≡ glance_of new.log.tally.total (m.closed new.log.piece.last) =
      ap (λ (k : Sighted). last_of k.list) pen ∙ (was.last
      ∙ (ap (λ (t : Tally). glance_of t.total (m.closed old.log.piece.last)) (sym tally)
      ∙ ap (λ (p : Piece S C R). glance_of new.log.tally.total (m.closed p.last)) (sym next))) in
      record {
        counted = counted;
        last = says;
        each = begun new.log.piece new.pen.list kept.legal none counted
            (says ∙ ap (λ (k : ℕ). glance_of k (m.closed new.log.piece.last)) (sym kept.counted));
      }
