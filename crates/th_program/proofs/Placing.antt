-- Where a history stands by the names of its files.
use Rattle.std.proofs.Common.{inl, inr, ◌≡◌, ℕ, ◌+◌, ◌≤◌, ◌^◌, List, [], ◌∷◌, ◌++◌, refl, sym, subst, arith, Option, Some, None, Ok, Err, IfSome}
use Rattle.std.specs.List.{AllByRecursion}
use Rattle.th_program.specs.declared.part_names.Misplaced.{Misplaced}
use Rattle.th_program.specs.declared.part_names.Place.{Place}
use Rattle.th_program.specs.Files.{IsNamedIn, IsPlace, PartFile, StandFrom, entries_in, place_of}
use Rattle.th_program.specs.PartNames.{Agrees, GoesOn, IsNamed, IsUnnamed, Stands}

abbrev IsUnnamedFile : PartFile → Type 0
IsUnnamedFile f = IsUnnamed f.name

-- files that are not named as parts stand anywhere where there is room
unnamed_stand : (topic : List ℕ) (first before : ℕ) (files : List PartFile) → AllByRecursion IsUnnamedFile files
    → first + (before + entries_in files) ≤ 2 ^ 64 → StandFrom topic first before files
unnamed_stand topic first before [] all room = tt
unnamed_stand topic first before (f ∷ later) all room = (
  record { named = λ other digits is. absurd (all.0 other digits is); to = omega (arith, room) },
  unnamed_stand topic first (before + f.entries) later all.1 (omega (arith, room)),
)

stand_more : (topic : List ℕ) (first before : ℕ) (files : List PartFile) (f : PartFile) → StandFrom topic first before files
    → Stands topic first (before + entries_in files) (before + entries_in files + f.entries) f.name
    → StandFrom topic first before (files ++ f ∷ [])
stand_more topic first before [] f all one =
    let same : before + 0 ≡ before = omega arith in
    (subst (λ (n : ℕ). Stands topic first n (n + f.entries) f.name) same one, tt)
stand_more topic first before (g ∷ later) f all one =
    let same : before + (g.entries + entries_in later) ≡ before + g.entries + entries_in later = omega arith in (
      all.0,
      stand_more topic first (before + g.entries) later f all.1
          (subst (λ (n : ℕ). Stands topic first n (n + f.entries) f.name) same one),
    )

named_last : (topic : List ℕ) (files : List PartFile) (f : PartFile) → ((digits : List ℕ) × IsNamed f.name topic digits)
    → IsNamedIn topic (files ++ f ∷ [])
named_last topic [] f is = inl is
named_last topic (g ∷ later) f is = inr (named_last topic later f is)

named_before : (topic : List ℕ) (files : List PartFile) (f : PartFile) → IsNamedIn topic files → IsNamedIn topic (files ++ f ∷ [])
named_before topic [] f is = absurd is
named_before topic (g ∷ later) f (inl is) = inl is
named_before topic (g ∷ later) f (inr is) = inr (named_before topic later f is)

all_and : (P : PartFile → Type 0) (xs : List PartFile) (x : PartFile) → AllByRecursion P xs → P x → AllByRecursion P (xs ++ x ∷ [])
all_and P [] x all p = (p, tt)
all_and P (y ∷ ys) x all p = (all.0, all_and P ys x all.1 p)

-- of all places one alone agrees with the names
same_place : (t u : List ℕ) (n m before : ℕ) (files : List PartFile) → StandFrom t n before files → StandFrom u m before files
    → IsNamedIn t files → (u ≡ t) × (m ≡ n)
same_place t u n m before [] one other is = absurd is
same_place t u n m before (f ∷ later) one other (inl (digits, is)) =
    let a = one.0.named t digits is in
    let b = other.0.named t digits is in
    (sym b.0, omega (arith, a.1, b.1))
same_place t u n m before (f ∷ later) one other (inr is) = same_place t u n m (before + f.entries) later one.1 other.1 is

-- and there is room for all of them there
stand_to : (t : List ℕ) (n before : ℕ) (f : PartFile) (later : List PartFile) → StandFrom t n before (f ∷ later)
    → n + (before + (f.entries + entries_in later)) ≤ 2 ^ 64
stand_to t n before f [] all = omega (arith, all.0.to)
stand_to t n before f (g ∷ more) all = omega (arith, stand_to t n (before + f.entries) g more all.1)

room : (t : List ℕ) (n : ℕ) (files : List PartFile) → StandFrom t n 0 files → IsNamedIn t files → n + entries_in files ≤ 2 ^ 64
room t n [] all is = absurd is
room t n (f ∷ later) all is = omega (arith, stand_to t n 0 f later all)

pub place_low : (files : List PartFile) (place : Option Place) → IsPlace files (place_of place) → IfSome place (λ p. 1 ≤ p.first)
place_low files None is = tt
place_low files (Some p) is = is.0

pub place_room : (files : List PartFile) (count : ℕ) (place : Option Place) → IsPlace files (place_of place) → entries_in files ≡ count
    → IfSome place (λ p. p.first + count ≤ 2 ^ 64)
place_room files count None is counted = tt
place_room files count (Some p) is counted = omega (arith, room p.topic.now p.first files is.1 is.2, counted)

-- a history goes on with a file
module _ (files : List PartFile) (f : PartFile) (n : ℕ) (counted : entries_in files ≡ n) where
  stands_here : (topic : List ℕ) (first : ℕ) → Stands topic first n (n + f.entries) f.name
      → Stands topic first (0 + entries_in files) (0 + entries_in files + f.entries) f.name
  stands_here topic first s =
      let same : n ≡ 0 + entries_in files = omega (arith, counted) in
      subst (λ (k : ℕ). Stands topic first k (k + f.entries) f.name) same s

  pub place_more : (place next : Option Place) → IsPlace files (place_of place) → GoesOn place n (n + f.entries) f.name (Ok next)
      → IsPlace (files ++ f ∷ []) (place_of next)
  place_more None None is goes = all_and IsUnnamedFile files f is goes.1
  place_more (Some q) None is goes = absurd (let e : Some q ≡ None = goes.0 in cc)
  place_more None (Some p) is goes =
      let stands : Stands p.topic.now p.first n (n + f.entries) f.name = goes.1 in (
        goes.2,
        stand_more p.topic.now p.first 0 files f
            (unnamed_stand p.topic.now p.first 0 files is (omega (arith, stands.to, counted)))
            (stands_here p.topic.now p.first stands),
        named_last p.topic.now files f (goes.3 refl),
      )
  place_more (Some q) (Some p) is goes =
      let topic : p.topic.now ≡ q.topic.now = goes.0.0 in
      let first : p.first ≡ q.first = goes.0.1 in
      let named : IsNamedIn p.topic.now files = subst (λ (t : List ℕ). IsNamedIn t files) (sym topic) is.2 in
      let stand : StandFrom p.topic.now p.first 0 files =
      subst (λ (t : List ℕ). StandFrom t p.first 0 files) (sym topic)
      (subst (λ (k : ℕ). StandFrom q.topic.now k 0 files) (sym first) is.1) in (
        goes.2,
        stand_more p.topic.now p.first 0 files f stand (stands_here p.topic.now p.first goes.1),
        named_before p.topic.now files f named,
      )

  pub place_apart : (place : Option Place) (e : Misplaced) → IsPlace files (place_of place)
      → GoesOn place n (n + f.entries) f.name (Err e) → (topic : List ℕ) (first : ℕ) → 1 ≤ first → StandFrom topic first 0 files
      → Stands topic first (entries_in files) (entries_in files + f.entries) f.name → ⊥
  place_apart place e is goes topic first low stand s =
      goes topic first low (agrees place is) (subst (λ (k : ℕ). Stands topic first k (k + f.entries) f.name) counted s)
    where
      agrees : (place : Option Place) → IsPlace files (place_of place) → Agrees place topic first
      agrees None is = tt
      agrees (Some q) is = same_place q.topic.now topic q.first first 0 files is.1 stand is.2
