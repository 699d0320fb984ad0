-- One line below a picture.
use Rattle.std.proofs.Common.{◌≡◌, ℕ, ◌+◌, ◌<◌, Bool, true, false, cond, List, refl, sym, ap, ◌∙◌, subst, Option, Some, None, Ok, Err}
use Rattle.std.specs.Prelude.{Result, is_some}
use Rattle.std.proofs.lemmas.Bool.{false≢true, eq-eqb, lt-ltb, ne_eqb}
use Rattle.th_lines.specs.Reads.{Reads}
use Rattle.th_lines.specs.declared.fault.LineFault.{LineFault}
use Rattle.th_lines.specs.declared.fault.LineFault.TheVariants.{BadLine}
use Rattle.th_log.specs.History.{Machine}
use Rattle.th_traces.specs.Entries.{end_of}
use Rattle.th_check.specs.declared.course.Course.{Course}
use Rattle.th_check.specs.declared.course.Due.{Due}
use Rattle.th_check.specs.declared.course.Due.TheVariants as due
use Rattle.th_check.specs.declared.fault.Stop.{Stop}
use Rattle.th_check.specs.declared.fault.Stop.TheVariants as stop
use Rattle.th_check.specs.Judging.{EndsAt, IsOther, IsShown, ShowsBy, TurnsTo, taken}
use Rattle.th_check.specs.Stages.{Stage, CallDue, ReplyDue, Ended, Words, begins, reply_at}

-- a line that says nothing
pub reads_bad : {A : Type 0} (asks : A → Bool) (fault : LineFault) (said : Option A) → fault ≡ BadLine → Reads asks (Err fault) said
    → said ≡ None
reads_bad asks fault said e h = subst (λ (f : LineFault). Reads asks (Err f) said) e h

-- what is there
some_of : {A : Type 0} (o : Option A) → is_some o ≡ true → (a : A) × (o ≡ Some a)
some_of None h = absurd (false≢true h)
some_of (Some a) h = (a, refl)

module _ {E S C R : Type 0} (m : Machine E S C R) (IsProper : E → Type 0) (words : Words C R) where
  module _ (state : E) (count : ℕ) (line : List ℕ) where
    -- a line says a call
    pub says_call : (object : S) (call : C) (held : Course S C) → IsShown m IsProper state object → words.call_of line ≡ Some call
        → count < 1000000
        → held.channel ≡ object → held.count ≡ count + 1 → held.due ≡ due.Reply call → TurnsTo m IsProper words (CallDue state count) line
        (Ok held)
    says_call object call held shown e low same more next = (
      ReplyDue state count call,
      ap (λ (o : Option C). begins m words state count o (end_of line)) e
          ∙ ap (λ (b : Bool). cond b (Some (ReplyDue state count call)) None) (lt-ltb count 1000000 low),
      subst (λ (d : Due C). ShowsBy m IsProper (ReplyDue state count call) held.channel held.count d) (sym next)
          (subst (λ (o : S). IsShown m IsProper state o) (sym same) shown, more, refl),
    )

    -- no call: the end line, or a bad one
    module _ (held : Course S C) (shown : IsShown m IsProper state held.channel) (same : held.count ≡ count)
        (over : held.due ≡ due.Nothing) where
      end_turns : (told : Option ℕ) (result : Result (Unit {0}) Stop) → end_of line ≡ told → words.call_of line ≡ None
          → EndsAt count told result
          → TurnsTo m IsProper words (CallDue state count) line (taken result held)
      end_turns told (Ok done) t e h = (
        Ended state count,
        ap (λ (o : Option C). begins m words state count o (end_of line)) e
            ∙ ap (λ (o : Option ℕ). begins m words state count None o) (t ∙ h)
            ∙ ap (λ (b : Bool). cond b (Some (Ended state count)) None) (eq-eqb count count refl),
        subst (λ (d : Due C). ShowsBy m IsProper (Ended state count) held.channel held.count d) (sym over) (shown, same),
      )
      end_turns None (Err stop.Bad) t e h = ap (λ (o : Option C). begins m words state count o (end_of line)) e
          ∙ ap (λ (o : Option ℕ). begins m words state count None o) t
      end_turns (Some told) (Err stop.Bad) t e h = ap (λ (o : Option C). begins m words state count o (end_of line)) e
          ∙ ap (λ (o : Option ℕ). begins m words state count None o) t
          ∙ ap (λ (b : Bool). cond b (Some (Ended state count)) None) (ne_eqb told count (λ k. h (ap Some k)))
      end_turns told (Err (stop.Illegal own)) t e h = absurd h
      end_turns told (Err stop.Short) t e h = absurd h

      pub says_no_call : (result : Result (Unit {0}) Stop) → words.call_of line ≡ None → EndsAt count (end_of line) result
          → TurnsTo m IsProper words (CallDue state count) line (taken result held)
      says_no_call result e h = end_turns (end_of line) result refl e h

  module _ (step_ok : (e : E) (c : C) → IsProper e → IsProper (m.step e c).1)
      (answer_ok : (e : E) (c : C) → IsProper e → m.answer (m.see e) c ≡ ((m.step e c).0, m.see (m.step e c).1))
      (state : E) (object : S) (shown : IsShown m IsProper state object) (count : ℕ) (call : C) (line : List ℕ) where
    -- the call is ready where the channel says so
    ready : m.ready (m.see state) call ≡ m.ready object call
    ready = ap (λ (p : S). m.ready p call) shown.shown

    -- whether it is decides which reply is expected
    expects : (is : Bool) → m.ready object call ≡ is
        → words.told (cond is (Some (m.step state call).0) None) ≡ words.told (reply_at m words state call)
    expects is e = ap (λ (b : Bool). words.told (cond b (Some (m.step state call).0) None)) (sym e ∙ sym ready)

    -- the line says another reply, or none
    pub says_too_early : (why : Stop) → IsOther (words.reply_of call line) (words.told None) why → m.ready object call ≡ false
        → TurnsTo m IsProper words (ReplyDue state count call) line (Err why)
    says_too_early stop.Bad h early = h
    says_too_early (stop.Illegal expected) h early =
        let said = some_of (words.reply_of call line) h.0 in
        ((said.0, said.1, λ late same. false≢true (sym early ∙ sym ready ∙ late)), h.1 ∙ expects false early)
    says_too_early stop.Short h early = tt

    module _ (new : S) (reply : R) (step : m.answer object call ≡ (reply, new)) where
      answered : ◌≡◌ {A = R × S} (reply, new) ((m.step state call).0, m.see (m.step state call).1)
      answered = sym step ∙ ap (λ (p : S). m.answer p call) (sym shown.shown) ∙ answer_ok state call shown.proper

      own : reply ≡ (m.step state call).0
      own = ap (λ (a : R × S). a.0) answered

      pub says_reply : (held : Course S C) → (reply ≡ (m.step state call).0 → words.reply_of call line ≡ Some reply)
          → m.ready object call ≡ true → held.channel ≡ new → held.count ≡ count + 1
          → held.due ≡ due.Call → TurnsTo m IsProper words (ReplyDue state count call) line (Ok held)
      says_reply held e late same more next = (
        CallDue (m.step state call).1 (count + 1),
        ((ready ∙ late, e own ∙ ap Some own), refl),
        subst (λ (d : Due C). ShowsBy m IsProper (CallDue (m.step state call).1 (count + 1)) held.channel held.count d) (sym next)
            (record { proper = step_ok state call shown.proper; shown = sym (same ∙ ap (λ (a : R × S). a.1) answered) }, more),
      )

  pub at_reply : (object : S) (count : ℕ) (next : Due C) (call : C) → next ≡ due.Reply call
      → (line : List ℕ) (result : Result (Course S C) Stop)
      → ((state : E) (before : ℕ) → IsShown m IsProper state object → count ≡ before + 1 → TurnsTo m IsProper words
      (ReplyDue state before call) line result)
      → (stage : Stage E C) → ShowsBy m IsProper stage object count next → TurnsTo m IsProper words stage line result
  at_reply object count next call e line result h stage s =
      by_stage stage (subst (λ (d : Due C). ShowsBy m IsProper stage object count d) e s)
    where
      by_stage : (stage : Stage E C) → ShowsBy m IsProper stage object count (due.Reply call) → TurnsTo m IsProper words stage line result
      by_stage (CallDue state told) k = absurd k
      by_stage (ReplyDue state told given) k = subst (λ (c : C). TurnsTo m IsProper words (ReplyDue state told c) line result) k.2
          (h state told k.0 k.1)
      by_stage (Ended state told) k = absurd k

  pub at_end : (object : S) (count : ℕ) (next : Due C) → next ≡ due.Nothing → (line : List ℕ)
      → (stage : Stage E C) → ShowsBy m IsProper stage object count next → TurnsTo m IsProper words stage line (Err stop.Bad)
  at_end object count next e line stage s = by_stage stage (subst (λ (d : Due C). ShowsBy m IsProper stage object count d) e s)
    where
      by_stage : (stage : Stage E C) → ShowsBy m IsProper stage object count due.Nothing
          → TurnsTo m IsProper words stage line (Err stop.Bad)
      by_stage (CallDue state told) k = absurd k
      by_stage (ReplyDue state told given) k = absurd k
      by_stage (Ended state told) k = tt
