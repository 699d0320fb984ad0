-- Exactly one verdict is so of each text.
use Rattle.std.proofs.Common.{◌≡◌, ℕ, ◌+◌, Bool, true, false, List, [], ◌∷◌, ◌++◌, length, refl, sym, ap, ◌∙◌, subst, Option, Some, None, arith, append-nil, append_assoc, length-append}
use Rattle.std.proofs.lemmas.Bool.{false≢true}
use Rattle.std.proofs.lemmas.Option.{none-some, same_Some}
use Rattle.th_model.specs.declared.broadcast.BReply.{BReply}
use Rattle.th_model.specs.declared.watch.WReply.{WReply}
use Rattle.th_model.specs.WatchMachine.{IsExact}
use Rattle.th_lines.specs.Lines.{Line, Good, Long}
use Rattle.th_log.specs.History.{Machine}
use Rattle.th_log.specs.Machines as machines
use Rattle.th_traces.specs.Pictures as pictures
use Rattle.th_traces.specs.Spelled.{Bytes}
use Rattle.th_check.specs.declared.verdict.Verdict.{Verdict}
use Rattle.th_check.specs.declared.verdict.Verdict.TheVariants as verdict
use Rattle.th_check.specs.Points.{Point, InPicture, InBroadcast, InWatch, BroadcastStage, WatchStage, Does, ended_with, lifted, picture_turn, start, watch_machine, words_of_broadcast, words_of_watch}
use Rattle.th_check.specs.Stages.{Stage, CallDue, ReplyDue, Ended, Turn, On, Bad, Illegal, Turns, Words, answered, begun}
use Rattle.th_check.specs.Verdicts.{IsBadHere, IsSo, Leads}
use Rattle.th_check.proofs.Running.{leads-append}

-- at a stage a line does one thing
module _ {E S C R : Type 0} (m : Machine E S C R) (words : Words C R) where
  no_both : {A B : Type 0} (o : Option A) (a : A) → o ≡ Some a → o ≡ None → B
  no_both o a some none = absurd (none-some a (sym none ∙ some))

  one_turn : (stage : Stage E C) (line : List ℕ) (t u : Turn (Stage E C)) → Turns m words stage line t → Turns m words stage line u → t ≡ u
  one_turn (CallDue e n) line (On a) (On b) p q = ap On (same_Some a b (sym p ∙ q))
  one_turn (CallDue e n) line (On a) Bad p q = no_both _ a p q
  one_turn (CallDue e n) line (On a) Illegal p q = absurd q
  one_turn (CallDue e n) line Bad (On b) p q = no_both _ b q p
  one_turn (CallDue e n) line Bad Bad p q = refl
  one_turn (CallDue e n) line Bad Illegal p q = absurd q
  one_turn (CallDue e n) line Illegal u p q = absurd p
  one_turn (ReplyDue e n c) line (On a) (On b) p q = ap On (p.1 ∙ sym q.1)
  one_turn (ReplyDue e n c) line (On a) Bad p q = no_both _ (m.step e c).0 p.0.1 q
  one_turn (ReplyDue e n c) line (On a) Illegal p q = absurd (q.2 p.0.0 (same_Some q.0 (m.step e c).0 (sym q.1 ∙ p.0.1)))
  one_turn (ReplyDue e n c) line Bad (On b) p q = no_both _ (m.step e c).0 q.0.1 p
  one_turn (ReplyDue e n c) line Bad Bad p q = refl
  one_turn (ReplyDue e n c) line Bad Illegal p q = no_both _ q.0 q.1 p
  one_turn (ReplyDue e n c) line Illegal (On b) p q = absurd (p.2 q.0.0 (same_Some p.0 (m.step e c).0 (sym p.1 ∙ q.0.1)))
  one_turn (ReplyDue e n c) line Illegal Bad p q = no_both _ p.0 p.1 q
  one_turn (ReplyDue e n c) line Illegal Illegal p q = refl
  one_turn (Ended e n) line (On a) u p q = absurd p
  one_turn (Ended e n) line Bad (On b) p q = absurd q
  one_turn (Ended e n) line Bad Bad p q = refl
  one_turn (Ended e n) line Bad Illegal p q = absurd q
  one_turn (Ended e n) line Illegal u p q = absurd p

  -- and something it does
  module _ (same : R → R → Bool) (exact : IsExact same) where
    at_begun : (e : E) (n : ℕ) (line : List ℕ) (o : Option (Stage E C)) → begun m words e n line ≡ o
        → (t : Turn (Stage E C)) × Turns m words (CallDue e n) line t
    at_begun e n line None h = (Bad, h)
    at_begun e n line (Some next) h = (On next, h)

    module _ (e : E) (n : ℕ) (call : C) (line : List ℕ) (said : R) (h : words.reply_of call line ≡ Some said) where
      at_same : (b : Bool) → m.ready (m.see e) call ≡ true → same said (m.step e call).0 ≡ b
          → (t : Turn (Stage E C)) × Turns m words (ReplyDue e n call) line t
      at_same true late is = (On (answered m words e n call), ((late, h ∙ ap Some ((exact said (m.step e call).0).0 is)), refl))
      at_same false late is = (Illegal, (said, h, λ r s. absurd (false≢true (sym is ∙ (exact said (m.step e call).0).1 s))))

      at_ready : (b : Bool) → m.ready (m.see e) call ≡ b → (t : Turn (Stage E C)) × Turns m words (ReplyDue e n call) line t
      at_ready true late = at_same (same said (m.step e call).0) late refl
      at_ready false early = (Illegal, (said, h, λ late s. absurd (false≢true (sym early ∙ late))))

    at_said : (e : E) (n : ℕ) (call : C) (line : List ℕ) (o : Option R) → words.reply_of call line ≡ o
        → (t : Turn (Stage E C)) × Turns m words (ReplyDue e n call) line t
    at_said e n call line None h = (Bad, h)
    at_said e n call line (Some said) h = at_ready e n call line said h (m.ready (m.see e) call) refl

    some_turn : (stage : Stage E C) (line : List ℕ) → (t : Turn (Stage E C)) × Turns m words stage line t
    some_turn (CallDue e n) line = at_begun e n line (begun m words e n line) refl
    some_turn (ReplyDue e n call) line = at_said e n call line (words.reply_of call line) refl
    some_turn (Ended e n) line = (Bad, tt)

-- the same at a point
pub one_does : (here : Point) (line : Line) (t u : Turn Point) → Does here line t → Does here line u → t ≡ u
one_does here Long t u p q = p ∙ sym q
one_does (InPicture place) (Good line) t u p q = p ∙ sym q
one_does (InBroadcast version from stage) (Good line) t u p q = p.2 ∙ ap (λ (a : Turn BroadcastStage). lifted (InBroadcast version from) a)
    (one_turn machines.broadcast (words_of_broadcast version) stage line p.0 q.0 p.1 q.1) ∙ sym q.2
one_does (InWatch from stage) (Good line) t u p q =
    p.2 ∙ ap (λ (a : Turn WatchStage). lifted (InWatch from) a) (one_turn watch_machine words_of_watch stage line p.0 q.0 p.1 q.1) ∙ sym q.2

-- what lines say from a point on, where so many came before
abbrev SaysOf : Turn Point → (Point → Type 0) → ℕ → Verdict → Type 0
SaysOf (On next) later n v = later next
SaysOf Bad later n v = v ≡ verdict.BadTrace (n + 1)
SaysOf Illegal later n v = v ≡ verdict.Illegal (n + 1)

abbrev EndOf : Option ℕ → ℕ → Verdict → Type 0
EndOf (Some count) n v = v ≡ verdict.Legal count
EndOf None n v = v ≡ verdict.BadTrace (n + 1)

abbrev Says : Point → ℕ → List Line → Verdict → Type 0
Says here n [] v = EndOf (ended_with here) n v
Says here n (line ∷ lines) v = (t : Turn Point) × Does here line t × SaysOf t (λ next. Says next (n + 1) lines v) n v

-- one verdict is said
module _ (breply : BReply Bytes → BReply Bytes → Bool) (bexact : IsExact breply) (wreply : WReply Bytes → WReply Bytes → Bool)
    (wexact : IsExact wreply) where
  some_does : (here : Point) (line : Line) → (t : Turn Point) × Does here line t
  some_does here Long = (Bad, refl)
  some_does (InPicture place) (Good line) = (picture_turn (pictures.step place line), refl)
  some_does (InBroadcast version from stage) (Good line) =
      let s = some_turn machines.broadcast (words_of_broadcast version) breply bexact stage line in
      (lifted (InBroadcast version from) s.0, (s.0, s.1, refl))
  some_does (InWatch from stage) (Good line) =
      let s = some_turn watch_machine words_of_watch wreply wexact stage line in
      (lifted (InWatch from) s.0, (s.0, s.1, refl))

  some_end : (o : Option ℕ) (n : ℕ) → (v : Verdict) × EndOf o n v
  some_end (Some count) n = (verdict.Legal count, refl)
  some_end None n = (verdict.BadTrace (n + 1), refl)

  says_turn : (here : Point) (n : ℕ) (line : Line) (lines : List Line) → ((next : Point) → (v : Verdict) × Says next (n + 1) lines v)
      → (t : Turn Point) → Does here line t → (v : Verdict) × Says here n (line ∷ lines) v
  says_turn here n line lines later (On next) d = let l = later next in (l.0, (On next, d, l.1))
  says_turn here n line lines later Bad d = (verdict.BadTrace (n + 1), (Bad, d, refl))
  says_turn here n line lines later Illegal d = (verdict.Illegal (n + 1), (Illegal, d, refl))

  says_some : (here : Point) (n : ℕ) (lines : List Line) → (v : Verdict) × Says here n lines v
  says_some here n [] = some_end (ended_with here) n
  says_some here n (line ∷ lines) =
      let d = some_does here line in
      says_turn here n line lines (λ next. says_some next (n + 1) lines) d.0 d.1

one_end : (o : Option ℕ) (n : ℕ) (v w : Verdict) → EndOf o n v → EndOf o n w → v ≡ w
one_end (Some count) n v w p q = p ∙ sym q
one_end None n v w p q = p ∙ sym q

one_of : (n : ℕ) (lines : List Line) (v w : Verdict) → ((next : Point) → Says next (n + 1) lines v → Says next (n + 1) lines w → v ≡ w)
    → (t : Turn Point) → SaysOf t (λ next. Says next (n + 1) lines v) n v → SaysOf t (λ next. Says next (n + 1) lines w) n w → v ≡ w
one_of n lines v w later (On next) p q = later next p q
one_of n lines v w later Bad p q = p ∙ sym q
one_of n lines v w later Illegal p q = p ∙ sym q

one_says : (here : Point) (n : ℕ) (lines : List Line) (v w : Verdict) → Says here n lines v → Says here n lines w → v ≡ w
one_says here n [] v w p q = one_end (ended_with here) n v w p q
one_says here n (line ∷ lines) v w p q = one_of n lines v w (λ next. one_says next (n + 1) lines v w) p.0 p.2
    (subst (λ (t : Turn Point). SaysOf t (λ next. Says next (n + 1) lines w) n w) (one_does here line q.0 p.0 q.1 p.1) q.2)

-- what is said is so, and what is so is said
led_on : (here there : Point) (n : ℕ) (before rest : List Line) (v : Verdict) → Leads here before there →
    Says there (n + length before) rest v → Says here n (before ++ rest) v
led_on here there n [] rest v p q =
    subst (λ (k : ℕ). Says here k rest v) (omega arith) (subst (λ (x : Point). Says x (n + length {A = Line} []) rest v) p q)
led_on here there n (line ∷ before) rest v p q =
    (On p.0, p.1, led_on p.0 there (n + 1) before rest v p.2 (subst (λ (k : ℕ). Says there k rest v) (omega arith) q))

led_from : (here there : Point) (before rest : List Line) (v : Verdict) → Leads here before there → Says there (length before) rest v →
    Says here 0 (before ++ rest) v
led_from here there before rest v p q =
    let e : length before ≡ 0 + length before = omega arith in
    led_on here there 0 before rest v p (subst (λ (k : ℕ). Says there k rest v) e q)

end_said : (o : Option ℕ) (n count : ℕ) → o ≡ Some count → EndOf o n (verdict.Legal count)
end_said o n count e = subst (λ (p : Option ℕ). EndOf p n (verdict.Legal count)) (sym e) refl

end_missed : (o : Option ℕ) (n : ℕ) → o ≡ None → EndOf o n (verdict.BadTrace (n + 1))
end_missed o n e = subst (λ (p : Option ℕ). EndOf p n (verdict.BadTrace (n + 1))) (sym e) refl

bad_said : (here : Point) (rest : List Line) (n : ℕ) → IsBadHere here rest → Says here n rest (verdict.BadTrace (n + 1))
bad_said here [] n h = end_missed (ended_with here) n h
bad_said here (line ∷ later) n h = (Bad, h, refl)

so_said : (lines : List Line) (v : Verdict) → IsSo lines v → Says start 0 lines v
so_said lines (verdict.Legal count) h =
    let whole : Says start 0 (lines ++ []) (verdict.Legal count) =
    led_from start h.end lines [] (verdict.Legal count) h.led (end_said (ended_with h.end) (length lines) count h.ended) in
    subst (λ (l : List Line). Says start 0 l (verdict.Legal count)) (append-nil lines) whole
so_said lines (verdict.Illegal number) h =
    let v : Verdict = verdict.Illegal number in
    let here : Says h.here (length h.before) (h.line ∷ h.later) v = (Illegal, h.illegal, ap verdict.Illegal h.counted) in
    subst (λ (l : List Line). Says start 0 l v) (sym h.parts) (led_from start h.here h.before (h.line ∷ h.later) v h.led here)
so_said lines (verdict.BadTrace number) h =
    let v : Verdict = verdict.BadTrace number in
    let here : Says h.here (length h.before) h.rest v =
    subst (λ (w : Verdict). Says h.here (length h.before) h.rest w) (ap verdict.BadTrace (sym h.counted))
    (bad_said h.here h.rest (length h.before) h.bad) in
    subst (λ (l : List Line). Says start 0 l v) (sym h.parts) (led_from start h.here h.before h.rest v h.led here)

pub one_so : (lines : List Line) (v w : Verdict) → IsSo lines v → IsSo lines w → v ≡ w
one_so lines v w p q = one_says start 0 lines v w (so_said lines v p) (so_said lines w q)

end_so : (before : List Line) (here : Point) → Leads start before here → (o : Option ℕ) → ended_with here ≡ o → (v : Verdict) →
    EndOf o (length before) v
    → IsSo (before ++ []) v
end_so before here led (Some count) e v p = subst (λ (w : Verdict). IsSo (before ++ []) w) (sym p)
    (record { end = here; led = subst (λ (l : List Line). Leads start l here) (sym (append-nil before)) led; ended = e })
end_so before here led None e v p = subst (λ (w : Verdict). IsSo (before ++ []) w) (sym p)
    (record { before = before; rest = []; parts = refl; here = here; led = led; bad = e; counted = refl })

turn_so : (before : List Line) (here : Point) → Leads start before here → (line : Line) (rest : List Line) (v : Verdict)
    → ((next : Point) → Leads start (before ++ line ∷ []) next → Says next (length before + 1) rest v → IsSo (before ++ line ∷ rest) v)
    → (t : Turn Point) → Does here line t → SaysOf t (λ next. Says next (length before + 1) rest v) (length before) v →
    IsSo (before ++ line ∷ rest) v
turn_so before here led line rest v later (On next) d p = later next (leads-append start here next before (line ∷ []) led (next, d, refl)) p
turn_so before here led line rest v later Bad d p = subst (λ (w : Verdict). IsSo (before ++ line ∷ rest) w) (sym p)
    (record { before = before; rest = line ∷ rest; parts = refl; here = here; led = led; bad = d; counted = refl })
turn_so before here led line rest v later Illegal d p = subst (λ (w : Verdict). IsSo (before ++ line ∷ rest) w) (sym p)
    (record { before = before; line = line; later = rest; parts = refl; here = here; led = led; illegal = d; counted = refl })

said_so : (before : List Line) (here : Point) → Leads start before here → (rest : List Line) (v : Verdict) →
    Says here (length before) rest v
    → IsSo (before ++ rest) v
said_so before here led [] v p = end_so before here led (ended_with here) refl v p
said_so before here led (line ∷ rest) v p = turn_so before here led line rest v
    (λ next on later.
    let more : length (before ++ line ∷ []) ≡ length before + 1 = omega (arith, length-append before (line ∷ [])) in
    subst (λ (l : List Line). IsSo l v) (append_assoc before (line ∷ []) rest)
    (said_so (before ++ line ∷ []) next on rest v (subst (λ (k : ℕ). Says next k rest v) (sym more) later)))
    p.0 p.1 p.2

-- exactly one verdict is so
module _ (breply : BReply Bytes → BReply Bytes → Bool) (bexact : IsExact breply) (wreply : WReply Bytes → WReply Bytes → Bool)
    (wexact : IsExact wreply) where
  pub one_verdict : (lines : List Line) → (v : Verdict) × IsSo lines v × ((w : Verdict) → IsSo lines w → w ≡ v)
  one_verdict lines =
      let s = says_some breply bexact wreply wexact start 0 lines in
      (s.0, said_so [] start refl lines s.0 s.1, λ w h. one_says start 0 lines w s.0 (so_said lines w h) s.1)
