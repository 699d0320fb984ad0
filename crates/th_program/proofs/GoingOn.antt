-- How a history goes on with one more file, by the names.
use Rattle.std.proofs.Common.{◌≡◌, ◌≢◌, ◌∙◌, ℕ, ◌+◌, ◌<◌, ◌≤◌, ◌^◌, List, refl, sym, ap, subst, arith, Option, Some, None, Ok, Err, IfSome, Result}
use Rattle.std.specs.Str.Parse.{digits_value}
use Rattle.std.proofs.lemmas.Option.{none-some, same_Some}
use Rattle.th_program.specs.declared.part_names.Misplaced.{Misplaced}
use Rattle.th_program.specs.declared.part_names.Place.{Place}
use Rattle.th_program.specs.PartNames.{Agrees, GoesOn, HasRoom, IsNamed, IsUnnamed, Says, SaysPart, Stands}
use Rattle.th_program.proofs.PartNames.{same_name}

some-none : {A : Type 0} (a : A) → Some a ≡ None → ⊥
some-none a e = none-some a (sym e)

-- a file that is not named as a part
pub unnamed_goes : (place : Option Place) (before count : ℕ) (path : List ℕ) (r : Result (Option Place) Misplaced) → IsUnnamed path
    → IfSome place (λ p. 1 ≤ p.first) → HasRoom place count r → GoesOn place before count path r
unnamed_goes None before count path (Ok None) un low room = (refl, un)
unnamed_goes None before count path (Ok (Some p)) un low room = absurd (some-none p room.0)
unnamed_goes None before count path (Err e) un low room = absurd room
unnamed_goes (Some q) before count path (Ok None) un low room = absurd (none-some q room.0)
unnamed_goes (Some q) before count path (Ok (Some p)) un low room =
    subst (λ (x : Place). GoesOn (Some q) before count path (Ok (Some x))) (sym (same_Some p q room.0)) (
      (refl, refl),
      record { named = λ other digits is. absurd (un other digits is); to = room.1 },
      low,
      λ none. absurd (some-none q none),
    )
unnamed_goes (Some q) before count path (Err e) un low room = λ topic first up agrees stands.
    room (omega (arith, stands.to, agrees.1))

-- a file that is named so
module _ (place : Option Place) (before count : ℕ) (path t : List ℕ) (number : Option ℕ) (says : SaysPart path t number) where
  pub misplaced_goes : ((first : ℕ) → 1 ≤ first → Agrees place t first → number ≢ Some (first + before))
      → (topic : List ℕ) (first : ℕ) → 1 ≤ first → Agrees place topic first → Stands topic first before count path → ⊥
  misplaced_goes none topic first up agrees stands =
      let named = stands.named t says.0 says.1 in
      none first up (subst (λ (u : List ℕ). Agrees place u first) (sym named.0) agrees)
      (is number says.2 (first + before) named.1 named.2)
    where
      is : (number : Option ℕ) → Says (digits_value 10 says.0) number → (n : ℕ) → digits_value 10 says.0 ≡ n → n < 2 ^ 64
          → number ≡ Some n
      is None high n e low = absurd (omega (arith, high, e, low))
      is (Some m) value n e low = ap (λ (k : ℕ). Some k) (sym value ∙ e)

  module _ (q : Place) (agrees : Agrees place q.topic.now q.first) (topic : q.topic.now ≡ t)
      (at : number ≡ Some (q.first + before)) (low : q.first + before < 2 ^ 64) (begun : place ≡ None → 1 ≤ q.first)
      (up : IfSome place (λ p. 1 ≤ p.first)) where
    value : digits_value 10 says.0 ≡ q.first + before
    value = subst (λ (o : Option ℕ). Says (digits_value 10 says.0) o) at says.2

    first_up : (o : Option Place) → (o ≡ None → 1 ≤ q.first) → IfSome o (λ p. 1 ≤ p.first) → Agrees o q.topic.now q.first → 1 ≤ q.first
    first_up None new old same = new refl
    first_up (Some p) new old same = omega (arith, old, same.1)

    here : IsNamed path q.topic.now says.0
    here = subst (λ (u : List ℕ). IsNamed path u says.0) (sym topic) says.1

    goes : q.first + count ≤ 2 ^ 64 → GoesOn place before count path (Ok (Some q))
    goes room = (
      agrees,
      record {
        named = λ other ds is.
            let same = same_name path other t ds says.0 is says.1 in
            (same.0 ∙ sym topic, ap (digits_value 10) same.1 ∙ value, low);
        to = room;
      },
      first_up place begun up agrees,
      λ none. (says.0, here),
    )

    named_by : (r : Result (Option Place) Misplaced) → HasRoom (Some q) count r → GoesOn place before count path r
    named_by (Ok None) room = absurd (none-some q room.0)
    named_by (Ok (Some p)) room =
        subst (λ (x : Place). GoesOn place before count path (Ok (Some x))) (sym (same_Some p q room.0)) (goes room.1)
    named_by (Err e) room = λ other first low' agrees' stands.
        let named = stands.named t says.0 says.1 in
        room (omega (arith, stands.to, named.1, value))

    pub named_goes : (r : Result (Option Place) Misplaced) → (1 ≤ q.first → HasRoom (Some q) count r)
        → GoesOn place before count path r
    named_goes r room = named_by r (room (first_up place begun up agrees))
