-- The next places of topics.
use Rattle.std.proofs.Common.{◌≡◌, ℕ, zero, suc, ◌+◌, ◌^◌, ◌<◌, ◌≤◌, List, [], ◌∷◌, length, map, set, Option, Some, None, slice_get, sym, ap, ◌∙◌, arith}
use Rattle.std.proofs.lemmas.Option.{none-some, same_Some, slice_get-map, slice_get_past}
use Rattle.std.specs.Option.{SomeIff, option_map}
use Rattle.th_orders.specs.declared.rests.EventAt.{EventAt}
use Rattle.th_orders.specs.Nexts.{place_of}
use Rattle.th_orders.specs.Orders.{IsNext, Nexts, advanced}

-- of a topic that is not there no event is the next
pub past-next : (ps : List (Option ℕ)) (e : EventAt) → length ps ≤ e.topic → IsNext (map place_of ps) e → ⊥
past-next ps e past n =
    none-some e.place (sym (slice_get-map place_of ps e.topic ∙ ap (option_map place_of) (slice_get_past ps e.topic past)) ∙ n)

pub at-next : (ps : List (Option ℕ)) (e : EventAt) (o : Option ℕ) → slice_get ps e.topic ≡ Some o →
    slice_get (map place_of ps) e.topic ≡ Some (place_of o)
at-next ps e o at = slice_get-map place_of ps e.topic ∙ ap (option_map place_of) at

pub next-is : (ps : List (Option ℕ)) (e : EventAt) (o : Option ℕ) → slice_get ps e.topic ≡ Some o → IsNext (map place_of ps) e →
    place_of o ≡ e.place
next-is ps e o at n = same_Some (place_of o) e.place (sym (at-next ps e o at) ∙ n)

pub is-next : (ps : List (Option ℕ)) (e : EventAt) (o : Option ℕ) → slice_get ps e.topic ≡ Some o → place_of o ≡ e.place →
    IsNext (map place_of ps) e
is-next ps e o at same = at-next ps e o at ∙ ap (λ (n : ℕ). Some n) same

-- the place behind one, as it is told
pub told-next : (n : ℕ) (o : Option ℕ) → n < 2 ^ 64 → SomeIff o (n + 1 < 2 ^ 64) (n + 1) → place_of o ≡ n + 1
told-next n None fits h = omega (arith, fits, h)
told-next n (Some k) fits h = h.1

-- the place behind it
pub advance-at : (ps : List (Option ℕ)) (t n : ℕ) (o : Option ℕ) → slice_get (map place_of ps) t ≡ Some n → place_of o ≡ n + 1 →
    map place_of (set ps t o) ≡ advanced (map place_of ps) t
advance-at [] t n o at next = absurd (none-some n at)
advance-at (p ∷ ps) zero n o at next = ap (λ (k : ℕ). k ∷ map place_of ps)
    (next ∙ ap (λ (k : ℕ). k + 1) (sym (same_Some (place_of p) n at)))
advance-at (p ∷ ps) (suc t) n o at next = ap (λ (l : Nexts). place_of p ∷ l) (advance-at ps t n o at next)

pub topic-within : (ns : Nexts) (e : EventAt) → IsNext ns e → length ns ≤ e.topic → ⊥
topic-within ns e n past = none-some e.place (sym (slice_get_past ns e.topic past) ∙ n)
