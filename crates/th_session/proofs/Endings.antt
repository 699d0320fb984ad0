-- What a run comes to, by what was fed to it and what was written of the answers.
use Rattle.std.proofs.Common.{◌≡◌, Bool, ◌+◌, ℕ, ◌<◌, ◌≤◌, true, false, List, [], ◌∷◌, ◌++◌, length, take, refl, sym, ap, ◌∙◌, append_assoc, append-nil, arith, Option, subst, length-append}
use Rattle.std.specs.Io.KnownBytes.{Appends}
use Rattle.std.proofs.Math.Seq.{take-append_seam}
use Rattle.std.proofs.lemmas.Bool.{false≢true}
use Rattle.th_lines.specs.Feeding.{Feeding, Finished, Halted, IsFull, Underway}
use Rattle.th_lines.specs.Intake.{lines_after}
use Rattle.th_lines.specs.Lines.{Line, lines_from, lines_of}
use Rattle.th_lines.specs.Output.{Output, WritesFront}
use Rattle.th_lines.proofs.LineLemmas.{last_line-none, lines_from-some}
use Rattle.th_session.specs.Run.{IsFirst}
use Rattle.th_session.specs.Ending.{AllAnswered, AppendsFront, Devices, FirstAnswered, PastLines, WholeAnswered}

-- the first items of a list in two parts
front_of : {X : Type 0} (xs ys : List X) (n : ℕ) → n ≡ length xs → take n (xs ++ ys) ≡ xs
front_of xs ys n e = ap (λ (k : ℕ). take k (xs ++ ys)) e ∙ take-append_seam xs ys

-- the first of some lines is that of these and more
first_of_more : (Is : Line → Type 0) (lines more : List Line) → IsFirst Is lines → IsFirst Is (lines ++ more)
first_of_more Is [] more never = absurd never
first_of_more Is (line ∷ lines) more is = is

-- how a text came to a writer that had this, and has this then
abbrev pub Writing : Type 1
Writing = Option (List ℕ) → Option (List ℕ) → List ℕ → Type 0

-- what was written, where the devices stood and stand as the replies did
module _ (old new : Devices) (before after : Output) (first : old.contents ≡ before.written) (last : new.contents ≡ after.written) where
  pub appended : (text : List ℕ) → Appends before.written after.written text → Appends old.contents new.contents text
  appended text a = subst (λ (x : Option (List ℕ)). Appends x new.contents text) (sym first)
      (subst (λ (x : Option (List ℕ)). Appends before.written x text) (sym last) a)

  pub fronts : (text : List ℕ) → WritesFront text before after → AppendsFront old.contents new.contents text
  fronts text g = record { shown = g.shown; unsaid = g.unsaid; wrote = appended g.shown g.wrote; parts = g.text }

module _ {P : Type 0} (took : P → List Line → P → Type 0) (answers : List Line → List ℕ → Type 0) (old new : Devices) (from now : P) where
  -- lines that were taken are answered by some text, and so much of it was written
  abbrev pub Shows : Writing → Type 0
  Shows writes = (lines : List Line) → took from lines now → (text : List ℕ) × answers lines text × writes old.contents new.contents text

module _ {P E : Type 0} {took : P → List Line → P → Type 0} {halts : P → List Line → E → P → Type 0}
    (answers : List Line → List ℕ → Type 0) (old new : Devices) (from now : P) (f : Feeding) (few : f.taken ≤ f.limit) where
  module _ (s : Finished took halts old.remaining new.remaining from f now) where
    unfoldable pub whole_answered : Shows took answers old new from now Appends → WholeAnswered answers f.limit old new
    whole_answered shows =
        let t = shows (lines_of s.input) s.stands in
        record {
          input = s.input;
          read = s.read;
          whole = s.whole;
          within = omega (arith, s.counted, few);
          text = t.0;
          answered = t.1;
          wrote = t.2;
        }

    pub first_whole : (writes : Writing) → Shows took answers old new from now writes → FirstAnswered answers f.limit old new writes
    first_whole writes shows =
        let t = shows (lines_of s.input) s.stands in
        record {
          input = s.input;
          read = s.read;
          ended = true;
          whole = λ _. s.whole;
          first = lines_of s.input;
          later = [];
          lines = sym (append-nil (lines_of s.input));
          within = omega (arith, s.counted, few);
          text = t.0;
          answered = t.1;
          wrote = t.2;
        }

  module _ (n : ℕ) (u : Underway took halts old.remaining new.remaining from n f now) where
    part : lines_from false [] u.input ≡ u.done ++ lines_after false f.came []
    part = ap (λ (l : List ℕ). lines_from false [] l) (sym (append-nil u.input)) ∙ u.lines false []

    pub all_answered : f.came.ahead ≡ [] → Shows took answers old new from now Appends → AllAnswered answers f.limit old new
    all_answered none shows =
        let t = shows u.done u.stands in
        let all : lines_from false [] u.input ≡ u.done =
        part ∙ ap (λ (l : List ℕ). u.done ++ lines_from false f.came.begun (l ++ [])) none
        ∙ ap (λ (l : List Line). u.done ++ l) (last_line-none f.came.begun) ∙ append-nil u.done in
        record {
          input = u.input;
          read = u.read;
          within = omega (arith, ap (λ (l : List Line). length l) all, u.counted, few);
          text = t.0;
          answered = subst (λ (l : List Line). answers l t.0) (sym all) t.1;
          wrote = t.2;
        }

    pub past_lines : IsFull f → Shows took answers old new from now Appends → PastLines answers f.limit old new
    past_lines full shows =
        let t = shows u.done u.stands in
        let rest : List Line = lines_after true f.came [] in
        let all : lines_of u.input ≡ u.done ++ rest =
        ap (λ (l : List ℕ). lines_from true [] l) (sym (append-nil u.input)) ∙ u.lines true [] in
        let count : f.limit ≡ length u.done = omega (arith, u.counted, full.bound) in
        let more : 0 < length rest = lines_from-some f.came.begun (f.came.ahead ++ [])
        (omega (arith, full.beyond, length-append f.came.ahead [])) in
        let front : take f.limit (lines_of u.input) ≡ u.done =
        ap (λ (l : List Line). take f.limit l) all ∙ front_of u.done rest f.limit count in
        record {
          input = u.input;
          read = u.read;
          beyond = omega (arith, ap (λ (l : List Line). length l) all, length-append u.done rest, count, more);
          text = t.0;
          answered = subst (λ (l : List Line). answers l t.0) (sym front) t.1;
          wrote = t.2;
        }

    pub first_within : (writes : Writing) → Shows took answers old new from now writes → FirstAnswered answers f.limit old new writes
    first_within writes shows =
        let t = shows u.done u.stands in
        record {
          input = u.input;
          read = u.read;
          ended = false;
          whole = λ e. absurd (false≢true e);
          first = u.done;
          later = lines_after false f.came [];
          lines = part;
          within = omega (arith, u.counted, few);
          text = t.0;
          answered = t.1;
          wrote = t.2;
        }

  -- a taker has stopped, and of the lines that it was handed these first ones are answered by this text
  module _ (writes : Writing) (why : E) (s : Halted took halts old.remaining new.remaining from f why now) (first later : List Line)
      (parts : s.done ≡ first ++ later) (text : List ℕ) (answered : answers first text)
      (wrote : writes old.contents new.contents text) where
    unfoldable pub first_halted : FirstAnswered answers f.limit old new writes
    first_halted =
        let more = s.lines f.ended [] (λ e. (e, refl)) in
        record {
          input = s.input;
          read = s.read;
          ended = f.ended;
          whole = s.whole;
          first = first;
          later = later ++ more.0;
          lines = ap (λ (l : List ℕ). lines_from f.ended [] l) (sym (append-nil s.input)) ∙ more.1
              ∙ ap (λ (l : List Line). l ++ more.0) parts
              ∙ append_assoc first later more.0;
          within = omega (arith, few, s.counted, ap (λ (l : List Line). length l) parts, length-append first later);
          text = text;
          answered = answered;
          wrote = wrote;
        }

    -- and the next one is such a one, behind so many
    pub held_back : (May : ℕ → Line → Type 0) → IsFirst (May (0 + length first)) later →
        (g : FirstAnswered answers f.limit old new writes) × IsFirst (May (length g.first)) g.later
    unfolding first_halted
    held_back May may =
        let more = s.lines f.ended [] (λ e. (e, refl)) in
        let so_many : 0 + length first ≡ length first = omega arith in
        (first_halted, first_of_more (May (length first)) later more.0 (subst (λ (n : ℕ). IsFirst (May n) later) so_many may))
