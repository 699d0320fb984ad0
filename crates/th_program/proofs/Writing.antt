-- A text that is written in parts.
use Rattle.std.proofs.Common.{◌≡◌, ℕ, ◌+◌, ◌-◌, List, length, take, drop, sym, arith, Option, subst, length-drop}
use Rattle.std.specs.Io.KnownBytes.{Appends}
use Rattle.std.proofs.KnownBytes.{Appends-trans}
use Rattle.std.proofs.Math.Seq.{take-add}
use Rattle.std.proofs.lemmas.List.{take_all}

range_rest : (text : List ℕ) (i : ℕ) → take (length text - i) (drop i text) ≡ drop i text
range_rest text i = take_all (length text - i) (drop i text) (omega (arith, length-drop i text))

pub written_next : (a b c : Option (List ℕ)) (text : List ℕ) (i n : ℕ) → Appends a b (take i text)
    → Appends b c (take n (take (length text - i) (drop i text))) → Appends a c (take (i + n) text)
written_next a b c text i n p q =
    let next : Appends b c (take n (drop i text)) =
    subst (λ (t : List ℕ). Appends b c (take n t)) (range_rest text i) q in
    subst (λ (t : List ℕ). Appends a c t) (sym (take-add i n text))
    (Appends-trans a b c (take i text) (take n (drop i text)) p next)
