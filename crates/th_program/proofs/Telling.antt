-- What is told of files that are checked one after the other.
use Rattle.std.proofs.Common.{inl, inr, ◌≡◌, ◌∙◌, ℕ, ◌+◌, ◌<◌, Bool, false, List, [], ◌∷◌, ◌++◌, length, take, drop, get_or, map, IfOk, Result, Err, refl, sym, ap, subst, append-nil, append_assoc, arith, Option, Some, None, Ok}
use Rattle.std.specs.Io.KnownBytes.{Appends}
use Rattle.std.specs.List.{AllByRecursion}
use Rattle.std.proofs.KnownBytes.{Appends-trans}
use Rattle.std.proofs.lemmas.List.{drop_more, map-append, map_more, take-append-drop}
use Rattle.std.proofs.lemmas.Option.{none-some, same_Some}
use Rattle.th_lines.specs.Lines.{Line, lines_of}
use Rattle.th_check.specs.Joined.{Adds, AreAdded, Reach}
use Rattle.th_check.specs.declared.fault.CheckFault.{CheckFault}
use Rattle.th_check.specs.declared.fault.CheckFault.TheVariants as fault
use Rattle.th_check.specs.declared.parts.Joined.{Joined}
use Rattle.th_check.specs.declared.parts.Joined.TheVariants.{Judged, Apart}
use Rattle.th_check.specs.declared.verdict.Verdict.TheVariants as verdict
use Rattle.th_program.specs.declared.end.End.{End}
use Rattle.th_program.specs.declared.part_names.Misplaced.{Misplaced}
use Rattle.th_program.specs.declared.part_names.Place.{Place}
use Rattle.th_program.specs.Files.{AreOneHistory, EachIsTold, EndsEach, EndsFolder, EndsJoined, IsBrokenBy, Breaks, IsFile, IsLack, IsMisplaced, IsNext, IsOutcome, IsTextOf, IsToldBy, Outcome, PartFile, TellsBroken, TellsHistory, Told, Wants, broken_line, end_by, end_of, end_with, entries_in, entries_of, fault_line, file_line, history_line, lines_by, place_of, worse, worst}
use Rattle.th_program.specs.PartNames.{GoesOn}
use Rattle.th_program.specs.Run.{Errors, IsSaid}
use Rattle.th_program.specs.declared.whole.Lack.{Lack}
use Rattle.th_program.proofs.Hearing.{said_more}
use Rattle.th_program.proofs.Placing.{place_apart, place_more}

abbrev IsWrite : End → Type 0
IsWrite End.Write = Unit {0}
IsWrite ends = ⊥

-- one more
map-more : {A B : Type 0} (f : A → B) (xs : List A) (x : A) → map f (xs ++ x ∷ []) ≡ map f xs ++ f x ∷ []
map-more f [] x = refl
map-more {A} {B} f (y ∷ ys) x = ap (λ (l : List B). f y ∷ l) (map-more f ys x)

all-more : {A : Type 0} (P : A → Type 0) (xs : List A) (x : A) → AllByRecursion P xs → P x → AllByRecursion P (xs ++ x ∷ [])
all-more P [] x all p = (p, tt)
all-more P (y ∷ ys) x all p = (all.0, all-more P ys x all.1 p)

lines-more : (line : Told → List ℕ) (xs : List Told) (x : Told) → lines_by line (xs ++ x ∷ []) ≡ lines_by line xs ++ line x
lines-more line [] x = append-nil (line x)
lines-more line (y ∷ ys) x =
    ap (λ (l : List ℕ). line y ++ l) (lines-more line ys x) ∙ sym (append_assoc (line y) (lines_by line ys) (line x))

worst-more : (e : End) (xs : List Told) (x : Told) → worst e (xs ++ x ∷ []) ≡ worse (worst e xs) (end_of x.1)
worst-more e [] x = refl
worst-more e (y ∷ ys) x = worst-more (worse e (end_of y.1)) ys x

module _ (holds : List ℕ → Option (List ℕ)) (names : List (List ℕ)) (name : List ℕ) where
  pub each_more : (before mid after : Option (List ℕ)) (people : Bool) (a b c : Errors) (so_far : End) (outcome : Outcome)
      → EachIsTold holds names before mid people a b so_far → IsOutcome (holds name) outcome
      → Appends mid after (file_line (name, outcome)) → (people ≡ false → IsSaid b c (fault_line (name, outcome)))
      → (c.failures ≡ 0 → b.failures ≡ 0)
      → EachIsTold holds (names ++ name ∷ []) before after people a c (worse so_far (end_of outcome))
  each_more before mid after people a b c so_far outcome told is wrote said still =
      let one : Told = (name, outcome) in
      record {
        files = told.files ++ one ∷ [];
        named = map-more (λ (f : Told). f.0) told.files one ∙ ap (λ (l : List (List ℕ)). l ++ name ∷ []) told.named;
        seen = all-more (λ (f : Told). IsOutcome (holds f.0) f.1) told.files one told.seen is;
        told = subst (λ (l : List ℕ). Appends before after l) (sym (lines-more file_line told.files one))
            (Appends-trans before mid after (lines_by file_line told.files) (file_line one) told.told wrote);
        said = λ quiet. subst (λ (l : List ℕ). IsSaid a c l) (sym (lines-more fault_line told.files one))
            (said_more a b c (lines_by fault_line told.files) (fault_line one) (told.said quiet) (said quiet) still);
        end = ap (λ (e : End). worse e (end_of outcome)) told.end ∙ sym (worst-more _ told.files one);
      }

-- a further text of a history
added_more : (here mid there : Option Reach) (texts : List (List Line)) (text : List Line) (n m : ℕ) → AreAdded here texts n mid →
    Adds mid text m there → AreAdded here (texts ++ text ∷ []) (n + m) there
added_more here mid there [] text n m a adds =
    (there, m, 0, subst (λ (o : Option Reach). Adds o text m there) a.1 adds, (refl, refl), omega (arith, a.0))
added_more here mid there (t ∷ ts) text n m (next, one, rest, first, later, counted) adds =
    (next, one, rest + m, first, added_more next mid there ts text rest m later adds, omega (arith, counted))

entries_more : (files : List PartFile) (f : PartFile) → entries_in (files ++ f ∷ []) ≡ entries_in files + f.entries
entries_more [] f = omega arith
entries_more (g ∷ later) f = omega (arith, entries_more later f)

-- the history up to a file
pub record UpTo (holds : List ℕ → Option (List ℕ)) (names : List (List ℕ)) (count : ℕ) (there : Option Reach)
    (place : Option Place) : Type 0 where
  pub history : AreOneHistory holds names count there (place_of place)
  pub counted : entries_in history.files ≡ count

module _ (holds : List ℕ → Option (List ℕ)) (names : List (List ℕ)) (name : List ℕ) where
  pub history_more : (n m : ℕ) (mid there : Option Reach) (place next : Option Place) → UpTo holds names n mid place
      → IsNext (holds name) mid (Judged (verdict.Legal m)) there → GoesOn place n (n + m) name (Ok next)
      → UpTo holds (names ++ name ∷ []) (n + m) there next
  history_more n m mid there place next up (left, j) goes =
      let h = up.history in
      let lines : List Line = lines_of (j.input ++ []) in
      let adds : Adds mid lines m there = j.so [] (λ e. refl) in
      let file : PartFile = record { name = name; lines = lines; entries = m } in
      let text : IsTextOf (holds name) lines = record {
        input = j.input;
        left = left;
        read = j.read;
        whole = j.whole tt;
        is = ap lines_of (append-nil j.input);
      } in
      let is : IsFile holds file = (text, (adds.part, adds.is, adds.counted)) in
      record {
        history = record {
          files = h.files ++ file ∷ [];
          named = map-more (λ (f : PartFile). f.name) h.files file ∙ ap (λ (l : List (List ℕ)). l ++ name ∷ []) h.named;
          are = all-more (IsFile holds) h.files file h.are is;
          added = subst (λ (l : List (List Line)). AreAdded None l (n + m) there)
              (sym (map-more (λ (f : PartFile). f.lines) h.files file))
              (added_more None mid there (map (λ (f : PartFile). f.lines) h.files) lines n m h.added adds);
          placed = place_more h.files file n up.counted place next h.placed goes;
        };
        counted = entries_more h.files file ∙ ap (λ (k : ℕ). k + m) up.counted;
      }

-- the pieces of a list around one of its elements
pub split_at : {A : Type 0} (f : A → List ℕ) (xs : List A) (i : ℕ) (x : A) → i < length xs → x ≡ get_or xs i x
    → map f xs ≡ map f (take i xs) ++ f x ∷ map f (drop (i + 1) xs)
split_at {A} f xs i x low is =
    ap (map f) (sym (take-append-drop i xs) ∙ ap (λ (ys : List A). take i xs ++ ys) (drop_more xs i x low))
    ∙ map-append f (take i xs) (get_or xs i x ∷ drop (i + 1) xs)
    ∙ ap (λ (y : A). map f (take i xs) ++ f y ∷ map f (drop (i + 1) xs)) (sym is)

pub one_more : {A : Type 0} (f : A → List ℕ) (xs : List A) (i : ℕ) (x : A) → i < length xs → x ≡ get_or xs i x
    → map f (take (i + 1) xs) ≡ map f (take i xs) ++ f x ∷ []
one_more {A} f xs i x low is = map_more f xs i x low ∙ ap (λ (y : A). map f (take i xs) ++ f y ∷ []) (sym is)

-- a file with so many entries goes on with a history
pub goes_on : (said : Result Joined CheckFault) (n : ℕ) → entries_of said ≡ Some n → said ≡ Ok (Judged (verdict.Legal n))
goes_on (Ok (Judged (verdict.Legal m))) n e = ap (λ (k : ℕ). Ok (Judged (verdict.Legal k))) (same_Some m n e)
goes_on (Ok (Judged (verdict.Illegal m))) n e = absurd (none-some n e)
goes_on (Ok (Judged (verdict.BadTrace m))) n e = absurd (none-some n e)
goes_on (Ok Apart) n e = absurd (none-some n e)
goes_on (Err why) n e = absurd (none-some n e)

pub never_on : (said : Result Joined CheckFault) → entries_of said ≡ None → (n : ℕ) → said ≡ Ok (Judged (verdict.Legal n)) → ⊥
never_on said none n e = absurd (none-some n (sym none ∙ ap entries_of e))

-- what holds of a run that failed to write, and of each other one
unless_write : (P : End → Type 0) (ends : End) → P End.Write → ((ends ≡ End.Write → ⊥) → P ends) → P ends
unless_write P End.Done p q = q (λ e. absurd (subst IsWrite (sym e) tt))
unless_write P End.Help p q = q (λ e. absurd (subst IsWrite (sym e) tt))
unless_write P End.Read p q = q (λ e. absurd (subst IsWrite (sym e) tt))
unless_write P End.Write p q = p
unless_write P End.TooLong p q = q (λ e. absurd (subst IsWrite (sym e) tt))
unless_write P End.Short p q = q (λ e. absurd (subst IsWrite (sym e) tt))
unless_write P End.Socket p q = q (λ e. absurd (subst IsWrite (sym e) tt))
unless_write P End.Usage p q = q (λ e. absurd (subst IsWrite (sym e) tt))
unless_write P End.Illegal p q = q (λ e. absurd (subst IsWrite (sym e) tt))
unless_write P End.Bad p q = q (λ e. absurd (subst IsWrite (sym e) tt))
unless_write P End.Apart p q = q (λ e. absurd (subst IsWrite (sym e) tt))
unless_write P End.Partial p q = q (λ e. absurd (subst IsWrite (sym e) tt))

-- how a history ends that a file breaks
module _ (holds : List ℕ → Option (List ℕ)) (wants : Wants) (names earlier later : List (List ℕ)) (name : List ℕ)
    (parts : names ≡ earlier ++ name ∷ later) (count : ℕ) (mid there : Option Reach) (place : Option Place)
    (up : UpTo holds earlier count mid place) (before after : Option (List ℕ)) where
  breaks : (said : Joined) → Breaks (holds name) up.history.files name mid said → Appends before after (broken_line name said)
      → IsBrokenBy holds names said before after
  breaks said why told = record {
    earlier = earlier;
    name = name;
    later = later;
    parts = parts;
    count = count;
    there = mid;
    place = place_of place;
    so_far = up.history;
    breaks = why;
    told = told;
  }

  as_it_was : (said : Joined) → there ≡ mid → IsNext (holds name) mid said there → IsNext (holds name) mid said mid
  as_it_was said same next = subst (λ (o : Option Reach). IsNext (holds name) mid said o) same next

  by_said : (said : Result Joined CheckFault) → IfOk said (λ s. IsNext (holds name) mid s there)
      → ((n : ℕ) → said ≡ Ok (Judged (verdict.Legal n)) → ⊥) → IsToldBy name said before after
      → EndsJoined holds wants names before after (end_by said)
  by_said (Ok (Judged (verdict.Legal n))) next never told = absurd (never n refl)
  by_said (Ok (Judged (verdict.Illegal n))) next never told =
      (n, breaks (Judged (verdict.Illegal n)) (as_it_was (Judged (verdict.Illegal n)) (next.1.so [] (λ e. refl)).1 next) told)
  by_said (Ok (Judged (verdict.BadTrace n))) next never told =
      (n, breaks (Judged (verdict.BadTrace n)) (as_it_was (Judged (verdict.BadTrace n)) (next.1.so [] (λ e. refl)).1 next) told)
  by_said (Ok Apart) next never told = breaks Apart (inl (as_it_was Apart (next.1.so [] (λ e. refl)).1 next)) told
  by_said (Err fault.Read) next never told = told
  by_said (Err fault.TooLong) next never told = told
  by_said (Err fault.Short) next never told = told

  pub ends_broken : (said : Result Joined CheckFault) → IfOk said (λ s. IsNext (holds name) mid s there)
      → ((n : ℕ) → said ≡ Ok (Judged (verdict.Legal n)) → ⊥) → (ends : End) → TellsBroken name said before after ends
      → EndsJoined holds wants names before after ends
  ends_broken said next never ends tells = unless_write (λ (e : End). EndsJoined holds wants names before after e) ends tt
      (λ no. let t = tells no in
      subst (λ (e : End). EndsJoined holds wants names before after e) (sym t.0) (by_said said next never t.1))

  pub ends_misplaced : (m : ℕ) (e : Misplaced) → IsNext (holds name) mid (Judged (verdict.Legal m)) there
      → GoesOn place count (count + m) name (Err e)
      → (ends : End) → TellsBroken name (Ok Apart) before after ends → EndsJoined holds wants names before after ends
  ends_misplaced m e next goes ends tells = unless_write (λ (e : End). EndsJoined holds wants names before after e) ends tt
      (λ no. let t = tells no in
      let file : PartFile = record { name = name; lines = []; entries = m } in
      let misplaced : IsMisplaced (holds name) up.history.files name mid = record {
        count = m;
        there = there;
        next = next;
        apart = place_apart up.history.files file count up.counted place e up.history.placed goes;
      } in
      subst (λ (e : End). EndsJoined holds wants names before after e) (sym t.0) (breaks Apart (inr misplaced) t.1))

-- how a history ends that no file breaks
module _ (holds : List ℕ → Option (List ℕ)) (wants : Wants) (names : List (List ℕ)) (count : ℕ) (there : Option Reach)
    (place : Option (List ℕ × ℕ)) (are : AreOneHistory holds names count there place) (before after : Option (List ℕ)) where
  by_lack : (lack : Option Lack) → IsLack holds wants names there place lack → Appends before after (history_line names count place lack)
      → EndsJoined holds wants names before after (end_with lack)
  by_lack None e told = record { count = count; there = there; place = place; are = are; lacks = e; told = told }
  by_lack (Some lack) e told =
      (lack, record { count = count; there = there; place = place; are = are; lacks = e; told = told })

  pub ends_told : (lack : Option Lack) → IsLack holds wants names there place lack → (ends : End)
      → TellsHistory names count place lack before after ends → EndsJoined holds wants names before after ends
  ends_told lack e ends tells = unless_write (λ (e : End). EndsJoined holds wants names before after e) ends tt
      (λ no. let t = tells no in
      subst (λ (e : End). EndsJoined holds wants names before after e) (sym t.0) (by_lack lack e t.1))

-- before the first file
pub nothing_told : (holds : List ℕ → Option (List ℕ)) (before : Option (List ℕ)) (people : Bool) (a : Errors) →
    Appends before before [] → EachIsTold holds [] before before people a a End.Done
nothing_told holds before people a same = record {
  files = [];
  named = refl;
  seen = tt;
  told = same;
  said = λ quiet begun ended. nothing_said a.written;
  end = refl;
}
  where
    nothing_said : (o : Option (List ℕ)) → Appends o o []
    nothing_said None = tt
    nothing_said (Some l) = sym (append-nil l)

pub no_history : (holds : List ℕ → Option (List ℕ)) → UpTo holds [] 0 None None
no_history holds = record {
  history = record { files = []; named = refl; are = tt; added = (refl, refl); placed = tt };
  counted = refl;
}

-- histories that are checked one after the other
each_history : (holds : List ℕ → Option (List ℕ)) (wants : Wants) (all : List (List (List ℕ))) (names : List (List ℕ)) (begun so_far said : End)
    (before mid after : Option (List ℕ)) → EndsEach holds wants all begun before mid so_far → EndsJoined holds wants names mid after said
    → EndsEach holds wants (all ++ names ∷ []) begun before after (worse so_far said)
each_history holds wants [] names begun so_far said before mid after each one = (
  after,
  said,
  subst (λ (o : Option (List ℕ)). EndsJoined holds wants names o after said) each.0 one,
  (refl, ap (λ (e : End). worse e said) each.1),
)
each_history holds wants (first ∷ later) names begun so_far said before mid after (now, told, joined, rest) one =
    (now, told, joined, each_history holds wants later names (worse begun told) so_far said now mid after rest one)

pub folder_begins : (holds : List ℕ → Option (List ℕ)) (wants : Wants) (before : Option (List ℕ)) → EndsFolder holds wants before before End.Done
folder_begins holds wants before = record { topics = []; each = (refl, refl) }

pub folder_more : (holds : List ℕ → Option (List ℕ)) (wants : Wants) (names : List (List ℕ)) (so_far said : End) (before mid after : Option (List ℕ))
    → EndsFolder holds wants before mid so_far → EndsJoined holds wants names mid after said → EndsFolder holds wants before after (worse so_far said)
folder_more holds wants names so_far said before mid after folder one = record {
  topics = folder.topics ++ names ∷ [];
  each = each_history holds wants folder.topics names End.Done so_far said before mid after folder.each one;
}
