-- How a check goes on, line after line, and what comes of it.
use Rattle.std.proofs.Common.{◌≡◌, ℕ, ◌+◌, ◌≤◌, ◌<◌, ◌^◌, Bool, true, false, cond, eqb, List, [], ◌∷◌, ◌++◌, length, refl, sym, ap, ◌∙◌, append_assoc, append-nil, arith, length-append, subst, Option, Ok, Err}
use Rattle.std.specs.Prelude.{IfErr, IfOk, Result}
use Rattle.std.specs.Io.KnownBytes.{IsAtEnd}
use Rattle.std.proofs.lemmas.Bool.{false≢true}
use Rattle.th_lines.specs.Device.{kept_count}
use Rattle.th_lines.specs.Feeding as feeding
use Rattle.th_lines.specs.Feeding.{Feeding, Feeds, Finished, Halted, Stands, Underway}
use Rattle.th_lines.specs.Intake.{lines_after}
use Rattle.th_lines.specs.Lines.{Line, line_of, lines_from, lines_of}
use Rattle.th_lines.specs.declared.feeder.Fed.{Fed}
use Rattle.th_lines.specs.declared.feeder.Fed.TheVariants as why
use Rattle.th_lines.proofs.LineLemmas.{last_line-none}
use Rattle.th_traces.specs.declared.place.Place.TheVariants.{Nothing}
use Rattle.th_check.specs.declared.fault.CheckFault.{CheckFault}
use Rattle.th_check.specs.declared.fault.Stop.{Stop}
use Rattle.th_check.specs.declared.fault.Stop.TheVariants as stop
use Rattle.th_check.specs.declared.point.Spot.{Spot}
use Rattle.th_check.specs.declared.point.Spot.TheVariants as spot
use Rattle.th_check.specs.declared.verdict.Verdict.{Verdict}
use Rattle.th_check.specs.declared.verdict.Verdict.TheVariants as verdict
use Rattle.th_check.specs.Checked.{Checked, IsGoodSoFar, Stopped}
use Rattle.th_check.specs.Judging.{Concludes, EndSays, Halts, Holds, IsHeldAfter, IsReached, Passes, Reached, StopsAt, Takes, taken}
use Rattle.th_check.specs.Points.{Point, start}
use Rattle.th_check.specs.Verdicts.{IsSo, Leads}

-- lines lead on, and then others
pub leads-append : (a b c : Point) (xs ys : List Line) → Leads a xs b → Leads b ys c → Leads a (xs ++ ys) c
leads-append a b c [] ys p q = subst (λ (x : Point). Leads x ys c) p q
leads-append a b c (x ∷ xs) ys p q = (p.0, p.1, leads-append p.0 b c xs ys p.2 q)

-- one line was judged
pub takes_on : (so_many : ℕ) (old new : Reached) (line : Line) (r : Result (Unit {0}) Stop) →
    ((here : Point) → Holds here old.0 → Takes here line (taken r new.0))
    → feeding.Takes Passes Halts so_many line old r new
takes_on so_many old new line (Ok x) h = λ from lines many p here held.
    let one = p here held in
    let t = h one.0 one.2 in
    (t.0, leads-append here one.0 t.0 lines (line ∷ []) one.1 (t.0, t.1, refl), t.2)
takes_on so_many old new line (Err why) h = λ from lines many p here held.
    let one = p here held in
    record { before = lines; line = line; parts = refl; there = one.0; led = one.1; stops = h one.0 one.2 }

abbrev pub first : Reached
first = (spot.InPicture Nothing, tt, tt)

-- a text is legal only at its end
abbrev is_legal : Verdict → Bool
is_legal (verdict.Legal n) = true
is_legal v = false

pub no_legal : {A : Type 0} (v : Verdict) (n : ℕ) → is_legal v ≡ false → v ≡ verdict.Legal n → A
no_legal v n e f = absurd (false≢true (sym e ∙ ap is_legal f))

so_at : (v : Verdict) (lines : List Line) (judged : ℕ) (there : Point) → Leads start lines there → EndSays there judged v →
    judged ≡ length lines → IsSo lines v
so_at (verdict.Legal n) lines judged there led says count = record { end = there; led = led; ended = says }
so_at (verdict.Illegal n) lines judged there led says count = absurd says
so_at (verdict.BadTrace n) lines judged there led says count = record {
  before = lines;
  rest = [];
  parts = sym (append-nil lines);
  here = there;
  led = led;
  bad = says.0;
  counted = omega (arith, says.1, count);
}

-- there are no more lines than bytes
few_from : (held bytes : List ℕ) → length (lines_from false held bytes) ≤ length bytes
few_from held [] = rw (last_line-none held) (omega arith)
few_from held (b ∷ bytes) =
    let other = few_from (held ++ b ∷ []) bytes in
    let next = few_from [] bytes in
    elim (eqb b 10) as (λ t. length (cond t (line_of true held ∷ lines_from false [] bytes)
    (lines_from false (held ++ b ∷ []) bytes)) ≤ length (b ∷ bytes)) [
      | true ↦ omega (arith, next)
      | false ↦ omega (arith, other)
    ]

module _ (r r' : Option (List ℕ)) where
  -- all lines lead on, and the input has ended
  ended : (f : Feeding) (now : Reached) (v : Verdict) → Finished Passes Halts r r' first f now →
      ((here : Point) → Holds here now.0 → EndSays here f.taken v) → Checked r r' v
  ended f now v s says =
      let there = s.stands start refl in
      let all : (more : List ℕ) → (IsAtEnd r' → more ≡ []) → lines_of (s.input ++ more) ≡ lines_of s.input =
      λ more none. ap (λ (l : List ℕ). lines_of (s.input ++ l)) (none s.whole) ∙ ap lines_of (append-nil s.input) in
      record {
        input = s.input;
        read = s.read;
        so = λ more none. subst (λ (l : List Line). IsSo l v) (sym (all more none))
            (so_at v (lines_of s.input) f.taken there.0 there.1 (says there.0 there.2) s.counted);
        whole = λ n e. s.whole;
      }

  held_at_end : (f : Feeding) (now : Reached) (v : Verdict) → Finished Passes Halts r r' first f now →
      ((here : Point) → Holds here now.0 → EndSays here f.taken v) → IsHeldAfter r r' v now.0
  held_at_end f now (verdict.Legal count) s says =
      let there = s.stands start refl in
      record {
        input = s.input;
        read = s.read;
        whole = s.whole;
        end = there.0;
        led = there.1;
        ended = says there.0 there.2;
        holds = there.2;
      }
  held_at_end f now (verdict.Illegal number) s says = tt
  held_at_end f now (verdict.BadTrace number) s says = tt

  -- a line stopped the code
  halted : (f : Feeding) (now : Reached) (why : Stop) (v : Verdict) → Halted Passes Halts r r' first f why now →
      ((n : ℕ) → v ≡ verdict.Legal n → ⊥)
      → ((here : Point) (before : List Line) (line : Line) (later : List Line) → Leads start before here → StopsAt here line why →
      f.taken ≡ length before + 1
      → IsSo (before ++ line ∷ later) v) → Checked r r' v
  halted f now why v s legal so =
      let h = s.stands start refl in
      record {
        input = s.input;
        read = s.read;
        so = λ more end.
            let all = s.lines true more (λ e. (refl, end (s.whole e))) in
            let parts : lines_of (s.input ++ more) ≡ h.before ++ h.line ∷ all.0 =
            all.1 ∙ ap (λ (l : List Line). l ++ all.0) h.parts ∙ append_assoc h.before (h.line ∷ []) all.0 in
            subst (λ (l : List Line). IsSo l v) (sym parts)
            (so h.there h.before h.line all.0 h.led h.stops (omega
            (arith, s.counted, ap length h.parts, length-append h.before (h.line ∷ []))));
        whole = λ n e. absurd (legal n e);
      }

  -- so far no line is bad or illegal
  good_so_far : (n : ℕ) (f : Feeding) (now : Reached) → Underway Passes Halts r r' first n f now → f.came.ahead ≡ [] → IsGoodSoFar r r'
  good_so_far n f now u none =
      let there = u.stands start refl in
      let all : lines_from false [] u.input ≡ u.done =
      ap (λ (l : List ℕ). lines_from false [] l) (sym (append-nil u.input)) ∙ u.lines false []
      ∙ ap (λ (l : List ℕ). u.done ++ lines_from false f.came.begun (l ++ [])) none
      ∙ ap (λ (l : List Line). u.done ++ l) (last_line-none f.came.begun) ∙ append-nil u.done in
      record { input = u.input; read = u.read; here = there.0; led = subst (λ (l : List Line). Leads start l there.0) (sym all) there.1 }

  -- no bound on the lines is met
  never_full : (n : ℕ) (f : Feeding) (now : Reached) → Underway Passes Halts r r' first n f now → n ≤ 2 ^ 32 → 2 ^ 49 < f.taken → ⊥
  never_full n f now u le big = absurd (omega (
    arith,
    le,
    big,
    u.counted,
    u.few,
    ap length (u.lines false []),
    ap length (append-nil u.input),
    length-append u.done (lines_after false f.came []),
    few_from [] (u.input ++ []),
  ))

  module _ (A : Type 0) (calls calls' n : ℕ) (f : Feeding) (now : Reached) (le : n ≤ 2 ^ 32) (bound : 2 ^ 49 < f.limit) where
    -- from the first line on
    pub stands_so : (x : Spot) (fed : Fed Stop) → x ≡ spot.InPicture Nothing →
        Feeds Passes Halts IsReached r r' calls calls' n (x, tt, tt) fed f now
        → Stands Passes Halts r r' first IsReached (kept_count calls' ≡ kept_count (calls + n)) n fed f now
    stands_so x fed e h = subst (λ (y : Spot). Passes (y, tt, tt) [] (y, tt, tt) →
        Stands Passes Halts r r' (y, tt, tt) IsReached (kept_count calls' ≡ kept_count (calls + n)) n fed f now) e h
        (λ here held. (here, refl, held))

    pub says_so : (fed : Fed Stop) (result : Result (Verdict × A) CheckFault) →
        Stands Passes Halts r r' first IsReached (kept_count calls' ≡ kept_count (calls + n)) n fed f now
        → Concludes fed now.0 f.taken result → IfOk result (λ said. Checked r r' said.0)
    says_so fed (Err e) s c = tt
    says_so why.Ended (Ok said) s c = ended f now said.0 s c
    says_so (why.Stopped stop.Bad) (Ok said) s c =
        halted f now stop.Bad said.0 s (λ n e. no_legal (verdict.BadTrace f.taken) n refl (sym c ∙ e))
        (λ here before line later led stops count. subst (λ (v : Verdict). IsSo (before ++ line ∷ later) v) (sym c)
        (record { before = before; rest = line ∷ later; parts = refl; here = here; led = led; bad = stops; counted = count }))
    says_so (why.Stopped (stop.Illegal own)) (Ok said) s c =
        halted f now (stop.Illegal own) said.0 s (λ n e. no_legal (verdict.Illegal f.taken) n refl (sym c ∙ e))
        (λ here before line later led stops count. subst (λ (v : Verdict). IsSo (before ++ line ∷ later) v) (sym c)
        (record {
          before = before;
          line = line;
          later = later;
          parts = refl;
          here = here;
          led = led;
          illegal = stops.illegal;
          counted = count;
        }))
    says_so (why.Stopped stop.Short) (Ok said) s c = absurd c
    says_so why.Full (Ok said) s c = absurd c
    says_so why.Failed (Ok said) s c = absurd c
    says_so why.Spent (Ok said) s c = absurd c

    pub held_so : (fed : Fed Stop) (result : Result (Verdict × A) CheckFault) →
        Stands Passes Halts r r' first IsReached (kept_count calls' ≡ kept_count (calls + n)) n fed f now
        → Concludes fed now.0 f.taken result → IfOk result (λ said. IsHeldAfter r r' said.0 now.0)
    held_so fed (Err e) s c = tt
    held_so why.Ended (Ok said) s c = held_at_end f now said.0 s c
    held_so (why.Stopped stop.Bad) (Ok said) s c = subst (λ (v : Verdict). IsHeldAfter r r' v now.0) (sym c) tt
    held_so (why.Stopped (stop.Illegal own)) (Ok said) s c = subst (λ (v : Verdict). IsHeldAfter r r' v now.0) (sym c) tt
    held_so (why.Stopped stop.Short) (Ok said) s c = absurd c
    held_so why.Full (Ok said) s c = absurd c
    held_so why.Failed (Ok said) s c = absurd c
    held_so why.Spent (Ok said) s c = absurd c

    pub stops_so : (fed : Fed Stop) (result : Result (Verdict × A) CheckFault) →
        Stands Passes Halts r r' first IsReached (kept_count calls' ≡ kept_count (calls + n)) n fed f now
        → Concludes fed now.0 f.taken result → IfErr result (λ e. Stopped r r' calls calls' n e)
    stops_so fed (Ok said) s c = tt
    stops_so why.Ended (Err e) s c = absurd c
    stops_so (why.Stopped stop.Bad) (Err e) s c = absurd c
    stops_so (why.Stopped (stop.Illegal own)) (Err e) s c = absurd c
    stops_so (why.Stopped stop.Short) (Err e) s c = subst (λ (x : CheckFault). Stopped r r' calls calls' n x) (sym c) tt
    stops_so why.Full (Err e) s c = absurd (never_full n f now s.0 le (omega (arith, s.1.bound, bound)))
    stops_so why.Failed (Err e) s c = subst (λ (x : CheckFault). Stopped r r' calls calls' n x) (sym c) (good_so_far n f now s.0 s.1)
    stops_so why.Spent (Err e) s c = subst (λ (x : CheckFault). Stopped r r' calls calls' n x) (sym c) (good_so_far n f now s.0 s.1, s.2)

    pub counted_within : (fed : Fed Stop) → Stands Passes Halts r r' first IsReached (kept_count calls' ≡ kept_count (calls + n)) n fed f
        now → fed ≡ why.Ended → f.taken ≤ f.limit
    counted_within fed s e = (subst (λ (x : Fed Stop). Stands Passes Halts r r' first IsReached (kept_count calls' ≡ kept_count (calls + n))
        n x f now) e s).within
