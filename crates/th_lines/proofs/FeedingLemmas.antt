-- How lines are fed, step after step.
use Rattle.std.proofs.Common.{◌≡◌, ℕ, ◌+◌, ◌-◌, ◌<◌, ◌≤◌, Bool, true, false, List, [], ◌∷◌, ◌++◌, inr, length, refl, sym, ap, ◌∙◌, append_assoc, append-nil, arith, length-append, subst, take, Option, Result, Ok, Err}
use Rattle.std.proofs.Math.Seq.{take-append_seam}
use Rattle.std.specs.Io.KnownBytes.{Consumes, IsAtEnd, Keeps}
use Rattle.std.proofs.KnownBytes.{Consumes-nil, Consumes-trans, Consumes-kept}
use Rattle.std.proofs.lemmas.Bool.{false≢true}
use Rattle.th_lines.specs.Feeding.{Feeding, Finished, Halted, HandsOut, HasPassed, TakesAll, Underway, beginning, reading}
use Rattle.th_lines.specs.Intake.{Came, Ends, Fills, Finds, IsRow, IsSameLine, Passes, Reading, lines_after, most_read}
use Rattle.th_lines.specs.Lines.{Line, last_line, line_of, lines_from, lines_of}
use Rattle.th_lines.specs.declared.counted.Moved.{Moved}
use Rattle.th_lines.specs.declared.counted.Moved.TheVariants as moved
use Rattle.th_lines.specs.declared.feeder.Fed.TheVariants.{Failed}
use Rattle.th_lines.proofs.LineLemmas.{last_line-none, last_line-one, lines_from-same}

-- the next line was looked for, within the bound
pub handed_out : (found : Bool) (old : Feeding) (mid : Reading) → Finds old.came found mid → old.taken < old.limit
    → HandsOut old found (record old { line = mid.line; came = mid.came })
handed_out true old mid f room = (room, f, refl)
handed_out false old mid f room = (inr f.0, f.1, refl)

-- two texts that are the same have the same front of so many lines
pub same_front : (xs ys zs ws : List Line) → length xs ≡ length ys → xs ++ zs ≡ ys ++ ws → xs ≡ ys
same_front xs ys zs ws n e = sym (take-append_seam xs zs) ∙ ap (λ (k : ℕ). take k (xs ++ zs)) n
    ∙ ap (λ (l : List Line). take (length ys) l) e ∙ take-append_seam ys ws

-- what is there of a line that was handed out and those behind it
pub line_and_ahead : (f : Feeding) → f.came.begun ≡ [] → (ended : Bool) (more : List ℕ) →
    line_of true f.line ∷ lines_from ended [] (f.came.ahead ++ more) ≡ line_of true f.line ∷ lines_after ended f.came more
line_and_ahead f b ended more =
    ap (λ (l : List ℕ). line_of true f.line ∷ lines_from ended l (f.came.ahead ++ more)) (sym b)

-- so many lines were taken together, as they are there, and passed
pub passed_row : (f f' : Feeding) (count : ℕ) (row : List Line) → f.came.begun ≡ [] → 0 < count → IsRow (reading f) count row
    → Passes (count - 1) f.came f'.came
    → f' ≡ record f { line = f'.line; came = f'.came; taken = f.taken + count } → HasPassed f row f'
passed_row f f' count row b some r p e =
    let line : Line = line_of true f.line in
    let there : (ended : Bool) (more : List ℕ) → line ∷ lines_after ended f.came more ≡ (line ∷ p.passed) ++ lines_after ended f'.came more =
    λ ended more. ap (λ (l : List Line). line ∷ l) (p.lines ended more) in
    let n : length row ≡ length (line ∷ p.passed) = omega (arith, r.counted, p.counted, some) in
    let all = r.first false [] in
    let same : row ≡ line ∷ p.passed = same_front row (line ∷ p.passed) all.0 (lines_after false f'.came []) n
    (sym all.1 ∙ line_and_ahead f b false [] ∙ there false []) in
    record {
      some = omega (arith, r.counted, some);
      lines = λ ended more. there ended more ∙ ap (λ (l : List Line). l ++ lines_after ended f'.came more) (sym same);
      same = e ∙ ap (λ (n : ℕ). record f { line = f'.line; came = f'.came; taken = f.taken + n }) (sym r.counted);
    }

-- and there are as many
pub are_there : (f : Feeding) (count : ℕ) (row : List Line) → f.came.begun ≡ [] → IsRow (reading f) count row
    → count ≤ 1 + length (lines_after false f.came [])
are_there f count row b r =
    let all = r.first false [] in
    let e = ap length (sym (line_and_ahead f b false []) ∙ all.1) in
    omega (arith, e, r.counted, length-append row all.0)

-- one line alone
pub passed_one : (f f' : Feeding) → f' ≡ record f { taken = f.taken + 1 } → HasPassed f (line_of true f.line ∷ []) f'
passed_one f f' e = subst (λ (g : Feeding). HasPassed f (line_of true f.line ∷ []) g) (sym e) (record {
  some = omega arith;
  lines = λ ended more. refl;
  same = refl;
})

-- one line more was handed out, since there are as many
module _ (k : ℕ) (first here : Came) (p : Passes k first here) (there : k < length (lines_after false first [])) (mid : Reading) where
  none_whole : mid.came.ahead ≡ [] → lines_after false mid.came [] ≡ []
  none_whole e = ap (λ (l : List ℕ). lines_from false mid.came.begun (l ++ [])) e ∙ last_line-none mid.came.begun

  pub passes_on : (found : Bool) → Finds here found mid → Passes (k + 1) first mid.came
  passes_on true f = record {
    passed = p.passed ++ line_of true mid.line ∷ [];
    counted = omega (arith, p.counted, length-append p.passed (line_of true mid.line ∷ []));
    lines = λ ended more. p.lines ended more ∙ ap (λ (l : List Line). p.passed ++ l) (f.1 ended more)
        ∙ sym (append_assoc p.passed (line_of true mid.line ∷ []) (lines_after ended mid.came more));
    begun = λ _. f.0;
  }
  passes_on false f =
      let all : lines_after false first [] ≡ p.passed =
      p.lines false [] ∙ ap (λ (l : List Line). p.passed ++ l) (f.1 false [] ∙ none_whole f.0) ∙ append-nil p.passed in
      let n = ap length all in
      absurd (omega (arith, n, p.counted, there))

-- what is handed out at the end of the input is its last line
last_none : (c : Came) → c.ahead ≡ [] → c.begun ≡ [] → lines_after true c [] ≡ []
last_none c e f = ap (λ (l : List ℕ). lines_from true c.begun (l ++ [])) e ∙ ap (λ (l : List ℕ). last_line true l) f

last_one : (c : Came) → c.ahead ≡ [] → 0 < length c.begun → lines_after true c [] ≡ line_of false c.begun ∷ []
last_one c e some = ap (λ (l : List ℕ). lines_from true c.begun (l ++ [])) e ∙ last_line-one c.begun some

as_kept : (r1 r2 : Option (List ℕ)) (bytes : List ℕ) → bytes ≡ [] → Keeps r1 r2 → Consumes r1 r2 bytes
as_kept r1 r2 bytes e k = subst (λ (l : List ℕ). Consumes r1 r2 l) (sym e) (Consumes-kept r1 r1 r2 [] (Consumes-nil r1) k)

-- a row of no lines, and then one line alone
no_line : (row : List Line) → length row ≡ 0 → row ≡ []
no_line [] e = refl
no_line (l ∷ row) e = absurd (omega (arith, e))

module _ {P E : Type 0} (took : P → List Line → P → Type 0) (halts : P → List Line → E → P → Type 0) {B : Type 0} (taken : ℕ)
    (row : List Line) (e : length row ≡ 0) (line : Line) (old mid : P) where
  still_there : (said : Result B E) (b : B) → said ≡ Ok b → TakesAll took halts taken row old said mid →
      (from : P) (lines : List Line) → taken ≡ length lines → took from lines old → took from lines mid
  still_there said b is t from lines n w =
      let all = subst (λ (r : Result B E). TakesAll took halts taken row old r mid) is t from lines n w in
      subst (λ (l : List Line). took from l mid) (ap (λ (r : List Line). lines ++ r) (no_line row e) ∙ append-nil lines) all

  pub then_one : {A : Type 0} (said : Result B E) (b : B) → said ≡ Ok b → TakesAll took halts taken row old said mid → (result : Result A E) (new : P) →
      TakesAll took halts taken (line ∷ []) mid result new → TakesAll took halts taken (line ∷ []) old result new
  then_one said b is t (Ok a) new k = λ from lines n w. k from lines n (still_there said b is t from lines n w)
  then_one said b is t (Err why) new k = λ from lines n w. k from lines n (still_there said b is t from lines n w)

module _ {P E : Type 0} {took : P → List Line → P → Type 0} {halts : P → List Line → E → P → Type 0} where
  module _ {r r' : Option (List ℕ)} {from : P} {n : ℕ} {old : Feeding} {was : P} (u : Underway took halts r r' from n old was) where
    -- the taker holds nothing back, or has stopped
    pub settles : (now : P) → ((start : P) (lines : List Line) → took start lines was → took start lines now) →
        Underway took halts r r' from n old now
    settles now s = record {
      input = u.input;
      read = u.read;
      few = u.few;
      done = u.done;
      lines = u.lines;
      counted = u.counted;
      more = u.more;
      stands = s from u.done u.stands;
    }

    pub halts_here : (why : E) (now : P) → ((start : P) (lines : List Line) → took start lines was → halts start lines why now) →
        Halted took halts r r' from old why now
    halts_here why now s = record {
      input = u.input;
      read = u.read;
      whole = λ e. absurd (false≢true (sym u.more ∙ e));
      done = u.done;
      lines = λ ended more _. (lines_after ended old.came more, u.lines ended more);
      counted = u.counted;
      stands = s from u.done u.stands;
    }

    -- the next line was handed out, and from it on these were taken
    module _ (mid last : Feeding) (h : HandsOut old true mid) (row : List Line) (p : HasPassed mid row last) where
      some_more : (ended : Bool) (more : List ℕ) → lines_from ended [] (u.input ++ more)
          ≡ (u.done ++ row) ++ lines_after ended last.came more
      some_more ended more = u.lines ended more ∙ ap (λ (l : List Line). u.done ++ l) (h.1.1 ended more ∙ p.lines ended more)
          ∙ sym (append_assoc u.done row (lines_after ended last.came more))

      counted : last.taken ≡ length (u.done ++ row)
      counted = omega (
        arith,
        ap (λ (f : Feeding). f.taken) p.same,
        ap (λ (f : Feeding). f.taken) h.2,
        u.counted,
        length-append u.done row,
      )

      still : last.ended ≡ false
      still = ap (λ (f : Feeding). f.ended) p.same ∙ ap (λ (f : Feeding). f.ended) h.2 ∙ u.more

      so_many : mid.taken ≡ length u.done
      so_many = ap (λ (f : Feeding). f.taken) h.2 ∙ u.counted

      pub takes_on : (now : P) → ((start : P) (lines : List Line) → mid.taken ≡ length lines → took start lines was →
          took start (lines ++ row) now) → Underway took halts r r' from n last now
      takes_on now t = record {
        input = u.input;
        read = u.read;
        few = u.few;
        done = u.done ++ row;
        lines = some_more;
        counted = counted;
        more = still;
        stands = t from u.done so_many u.stands;
      }

      pub halts_at : (why : E) (now : P) → ((start : P) (lines : List Line) → mid.taken ≡ length lines → took start lines was →
          halts start (lines ++ row) why now) → Halted took halts r r' from last why now
      halts_at why now t = record {
        input = u.input;
        read = u.read;
        whole = λ k. absurd (false≢true (sym still ∙ k));
        done = u.done ++ row;
        lines = λ ended more _. (lines_after ended last.came more, some_more ended more);
        counted = counted;
        stands = t from u.done so_many u.stands;
      }

    -- the reader was asked for more
    module _ (r2 : Option (List ℕ)) (new : Feeding) (e : new ≡ record old { line = new.line; came = new.came }) (none : old.came.ahead ≡ [])
        (most : length new.came.ahead ≤ most_read) where
      reads_on : IsSameLine new.came.begun old.came.begun → Consumes r' r2 new.came.ahead → Underway took halts r r2 from (n + 1) new was
      reads_on same read = record {
        input = u.input ++ new.came.ahead;
        read = Consumes-trans r r' r2 u.input new.came.ahead u.read read;
        few = omega (arith, u.few, most, length-append u.input new.came.ahead);
        done = u.done;
        lines = λ ended more.
            ap (λ (l : List ℕ). lines_from ended [] l) (append_assoc u.input new.came.ahead more)
            ∙ u.lines ended (new.came.ahead ++ more)
            ∙ ap (λ (l : List ℕ). u.done ++ lines_from ended old.came.begun (l ++ (new.came.ahead ++ more))) none
            ∙ ap (λ (l : List Line). u.done ++ l) (sym (lines_from-same ended new.came.begun old.came.begun (new.came.ahead ++ more) same));
        counted = ap (λ (f : Feeding). f.taken) e ∙ u.counted;
        more = ap (λ (f : Feeding). f.ended) e ∙ u.more;
        stands = u.stands;
      }

      pub fills_on : (m : Moved) → Fills r' r2 m old.came new.came → Underway took halts r r2 from (n + 1) new was
      fills_on (moved.Bytes k) f = reads_on f.0 f.2
      fills_on moved.Again f = reads_on f.0 (as_kept r' r2 _ f.1 f.2)
      fills_on moved.Failed f = reads_on f.0 (as_kept r' r2 _ f.1 f.2)

    -- the input has ended
    module _ (none : old.came.ahead ≡ []) (end : IsAtEnd r') (within : old.taken ≤ old.limit) (mid : Feeding)
        (e : mid ≡ record old { line = mid.line; came = mid.came; ended = true }) where
      all_lines : (last : List Line) → lines_after true old.came [] ≡ last → lines_of u.input ≡ u.done ++ last
      all_lines last l = ap (λ (b : List ℕ). lines_from true [] b) (sym (append-nil u.input)) ∙ u.lines true []
          ∙ ap (λ (k : List Line). u.done ++ k) l

      pub finishes : Ends old.came false (record { line = mid.line; came = mid.came }) → Finished took halts r r' from mid was
      finishes f =
          let all = all_lines [] (last_none old.came none f.0) ∙ append-nil u.done in
          subst (λ (g : Feeding). Finished took halts r r' from g was) (sym e) (record {
            input = u.input;
            read = u.read;
            whole = end;
            counted = u.counted ∙ ap length (sym all);
            within = within;
            stands = subst (λ (l : List Line). took from l was) (sym all) u.stands;
          })

      module _ (f : Ends old.came true (record { line = mid.line; came = mid.came })) (room : old.taken < old.limit) (last : Feeding)
          (k : last ≡ record mid { taken = mid.taken + 1 }) where
        abbrev final : Line
        final = line_of false mid.line

        whole_text : lines_of u.input ≡ u.done ++ final ∷ []
        whole_text = all_lines (final ∷ []) (last_one old.came none f.0 ∙ ap (λ (g : Reading). line_of false g.line ∷ []) (sym f.1))

        count : mid.taken + 1 ≡ length (u.done ++ final ∷ [])
        count = omega (arith, ap (λ (g : Feeding). g.taken) e, u.counted, length-append u.done (final ∷ []))

        so_far : mid.taken ≡ length u.done
        so_far = ap (λ (g : Feeding). g.taken) e ∙ u.counted

        pub finishes_at : (now : P) → ((start : P) (lines : List Line) → mid.taken ≡ length lines → took start lines was →
            took start (lines ++ final ∷ []) now) → Finished took halts r r' from last now
        finishes_at now t = subst (λ (g : Feeding). Finished took halts r r' from g now) (sym k) (record {
          input = u.input;
          read = u.read;
          whole = end;
          counted = count ∙ ap length (sym whole_text);
          within = omega (arith, room, ap (λ (g : Feeding). g.taken) e, ap (λ (g : Feeding). g.limit) e);
          stands = subst (λ (l : List Line). took from l now) (sym whole_text) (t from u.done so_far u.stands);
        })

        pub halts_last : (why : E) (now : P) → ((start : P) (lines : List Line) → mid.taken ≡ length lines → took start lines was →
            halts start (lines ++ final ∷ []) why now) → Halted took halts r r' from last why now
        halts_last why now t = subst (λ (g : Feeding). Halted took halts r r' from g why now) (sym k) (record {
          input = u.input;
          read = u.read;
          whole = λ _. end;
          done = u.done ++ final ∷ [];
          lines = λ ended more h.
              let at = h (ap (λ (g : Feeding). g.ended) e) in (
                [],
                ap (λ (b : List ℕ). lines_from ended [] (u.input ++ b)) at.1
                    ∙ ap (λ (b : Bool). lines_from b [] (u.input ++ [])) at.0
                    ∙ ap (λ (b : List ℕ). lines_from true [] b) (append-nil u.input) ∙ whole_text ∙ sym (append-nil (u.done ++ final ∷ [])),
              );
          counted = count;
          stands = t from u.done so_far u.stands;
        })

module _ {P E : Type 0} (took : P → List Line → P → Type 0) (halts : P → List Line → E → P → Type 0) where
  -- nothing was read yet
  pub starts : (r : Option (List ℕ)) (limit : ℕ) (from : P) → took from [] from → Underway took halts r r from 0 (beginning limit) from
  starts r limit from t = record {
    input = [];
    read = Consumes-nil r;
    few = omega arith;
    done = [];
    lines = λ ended more. refl;
    counted = refl;
    more = refl;
    stands = t;
  }
