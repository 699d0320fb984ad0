-- What a line tells of live handles.
use Rattle.std.proofs.Common.{◌≡◌, ◌∙◌, ℕ, Bool, true, false, List, [], sym, ap, subst, Result, Ok, Err}
use Rattle.std.specs.Prelude.{nat_le}
use Rattle.std.specs.Map.{keys_of}
use Rattle.std.proofs.lemmas.Bool.{leb-true}
use Rattle.th_model.specs.Handles.{AreLive, with_sender}
use Rattle.th_model.specs.Places.{ArePlaces}
use Rattle.th_model.specs.WatchMachine.{Kept, with_reader}
use Rattle.th_model.proofs.PlaceLemmas.{places-with}
use Rattle.th_lines.specs.Fields.{Rest, number_last, number_then}
use Rattle.th_lines.specs.declared.fault.LineFault.{LineFault}
use Rattle.th_lines.specs.declared.fault.LineFault.TheVariants.{BadLine, Short}
use Rattle.th_lines.proofs.Numbers.{and_parts}
use Rattle.th_traces.specs.BroadcastDrafts.{Drawn, handles, place_last}
use Rattle.th_traces.specs.Drafts.{More, TakesLine, Tells, Whole}
use Rattle.th_traces.specs.LiveHandles.{Live, receiver_fields, takes_receiver, takes_sender, with_rx}
use Rattle.th_traces.proofs.Begun.{allowed-found}
use Rattle.th_traces.proofs.Further.{above, entry-last, keys-snoc, none_of, not_true, receiver-live, sender-live}

module _ {X : Type 0} (has_values : Bool) (h : Live X) (live : AreLive h.next h.senders (keys_of h.receivers)) where
  pub sender-told : (tx : ℕ) → takes_sender has_values h tx ≡ true → AreLive h.next (with_sender h.senders tx) (keys_of h.receivers)
  sender-told tx t =
      let b = and_parts _ _ (and_parts has_values _ t).1 in
      let none : keys_of h.receivers ≡ [] = ap keys_of (none_of h.receivers b.0) in
      let alone = subst (λ (ks : List ℕ). AreLive h.next h.senders ks) none live in
      subst (λ (ks : List ℕ). AreLive h.next (with_sender h.senders tx) ks) (sym none) (sender-live h.next h.senders tx alone b.1)

  pub receiver-told : (rx : ℕ) (x : X) → takes_receiver has_values h rx ≡ true →
      AreLive h.next h.senders (keys_of (with_reader h.receivers rx x))
  receiver-told rx x t =
      let b = and_parts _ _ (and_parts has_values _ t).1 in
      let top = above h.next (keys_of h.receivers) rx live.by_receiver b.0 in
      let keys = ap (λ (rs : Kept X). keys_of rs) (entry-last h.receivers rx x top) ∙ keys-snoc h.receivers rx x in
      subst (λ (ks : List ℕ). AreLive h.next h.senders ks) (sym keys)
      (receiver-live h.next h.senders (keys_of h.receivers) rx live b.0 (not_true _ b.1))

-- the places of a picture stay within its tail
pub receiver-within : (p : Drawn) (has_values : Bool) (rest : Rest) (r : Result Bool LineFault) (new : Live ℕ) →
    ArePlaces p.window.tail p.window.places →
    TakesLine r (handles p) new (receiver_fields (λ (h : Live ℕ). h) has_values (handles p) (place_last p rest)) →
    ArePlaces p.window.tail new.receivers
receiver-within p has_values rest r new within t = at r t
  where
    put : ℕ × ℕ → Live ℕ
    put rx = with_rx (handles p) rx

    more : (next : Live ℕ) → Tells (Live ℕ) → Live ℕ
    more next (More h) = h
    more next Whole = next

    at : (r : Result Bool LineFault) →
        TakesLine r (handles p) new (receiver_fields (λ (h : Live ℕ). h) has_values (handles p) (place_last p rest)) →
        ArePlaces p.window.tail new.receivers
    at (Ok false) t =
        let told =
        allowed-found (λ (rx : ℕ × ℕ). takes_receiver has_values (handles p) rx.0) (λ (rx : ℕ × ℕ). More (put rx)) (place_last p rest)
        (More new) t in
        let pair : ℕ → ℕ → ℕ × ℕ = λ n m. (n, m) in
        let read =
        allowed-found (λ (x : ℕ × ℕ). nat_le x.1 p.window.tail) (λ (x : ℕ × ℕ). x)
        (number_then (λ n. number_last (pair n)) rest) told.0 told.1 in
        let rx = read.0 in
        let same : put rx ≡ new = ap put read.3 ∙ ap (more new) told.3 in
        subst (λ (h : Live ℕ). ArePlaces p.window.tail h.receivers) same
        (places-with p.window.tail p.window.places rx.0 rx.1 within (leb-true rx.1 p.window.tail read.2))
    at (Ok true) t = subst (λ (h : Live ℕ). ArePlaces p.window.tail h.receivers) (sym t.1) within
    at (Err BadLine) t = subst (λ (h : Live ℕ). ArePlaces p.window.tail h.receivers) (sym t.1) within
    at (Err Short) t = subst (λ (h : Live ℕ). ArePlaces p.window.tail h.receivers) (sym t.1) within
