-- How a session's run goes on, and how it ends.
use Rattle.std.proofs.Common.{◌≡◌, inl, inr, ℕ, ◌+◌, ◌≤◌, Bool, true, false, List, [], ◌∷◌, ◌++◌, length, refl, sym, ap, ◌∙◌, append-nil, length-append, arith, Option, Some, Ok, Err, subst}
use Rattle.std.specs.List.{concat}
use Rattle.std.specs.Io.KnownBytes.{Appends}
use Rattle.std.specs.Prelude.{Result}
use Rattle.std.proofs.lemmas.Bool.{false≢true}
use Rattle.std.proofs.KnownBytes.{Appends-nil}
use Rattle.th_lines.specs.Answering.{Answers}
use Rattle.th_lines.specs.Commands.{command_of}
use Rattle.th_lines.specs.Device.{kept_count, one_more}
use Rattle.th_lines.specs.Feeding.{Feeding, Settles, Stands, Takes}
use Rattle.th_lines.specs.Lines.{Line, Good, Long}
use Rattle.th_lines.specs.Output.{Output, Adds, WritesAll, WritesFront, output}
use Rattle.th_lines.specs.Tally.{Tally}
use Rattle.th_lines.specs.declared.feeder.Fed.{Fed}
use Rattle.th_lines.specs.declared.feeder.Fed.TheVariants as why
use Rattle.th_lines.specs.declared.reply.Code.TheVariants as Codes
use Rattle.th_lines.specs.declared.reply.Reply.TheVariants.{Refused}
use Rattle.th_lines.proofs.AnsweringLemmas.{answers_line, answers_on, breaks_after, breaks_at, breaks_here, wrote_all, wrote_front}
use Rattle.th_lines.proofs.OutputLemmas.{adds_both, adds_none, flushed_adds, front_after, waiting_front}
use Rattle.th_registry.specs.Hub.{Query, Said}
use Rattle.th_session.specs.declared.fault.SessionFault.{SessionFault}
use Rattle.th_session.specs.declared.fault.SessionFault.TheVariants.{Write, Short}
use Rattle.th_session.specs.declared.fault.Stop.{Stop}
use Rattle.th_session.specs.declared.fault.Stop.TheVariants as stop
use Rattle.th_session.specs.declared.keeping.Keeping.{Keeping}
use Rattle.th_session.specs.declared.session.Answer as session
use Rattle.th_session.specs.Answer.{said}
use Rattle.th_session.specs.Ending.{AppendsFront, Devices}
use Rattle.th_session.specs.Kept.{IsKept, Kept, Tells, kept_by, told}
use Rattle.th_session.specs.Run.{AnsweredBy, AreLet, Awaits, BreaksOff, EndsBefore, Enters, HeldBack, IsFirst, MayGiveUp, MayHold, Progress, Halts, IsAnswered, IsOver, IsSettled, Ran, Served, Serves, SpellsWait, Took, fault_by, beginning, line_turn, may_wait, nothing_had, Strictness, quitting, stands, tells_bye, writer_failures}
use Rattle.th_session.specs.Script.{Answer, Replied, Told, Traced, has_quit}
use Rattle.th_session.proofs.Endings.{all_answered, appended, first_halted, first_whole, first_within, fronts, held_back, past_lines, whole_answered}
use Rattle.th_session.proofs.Kept.{as-before, keeps_as}
use Rattle.th_session.proofs.Letting.{more_let, none_let, one_let}

-- an answer that is told as BYE is that of QUIT
tells_quit : (answer : Answer) → tells_bye (told answer) ≡ has_quit answer
tells_quit (Replied reply) = refl
tells_quit (Told n receipt) = refl
tells_quit (Traced n segment) = refl

-- what may stand behind so many lines, where that is said of another number that is the same
pub may_behind : (May : ℕ → Line → Type 0) (n m : ℕ) (later : List Line) → n ≡ m → IsFirst (May n) later → IsFirst (May m) later
may_behind May n m later e is = subst (λ (k : ℕ). IsFirst (May k) later) e is

-- so many lines behind these, and none
behind_all : (n : ℕ) (lines done : List Line) → n ≡ length lines → n + length done ≡ 0 + length (lines ++ done)
behind_all n lines done many = omega (arith, many, length-append lines done)

module _ {D : Type 0} (keeping : Keeping) (says : D → (q : Query) → Said q → D → Type 0) (gate : Strictness) (answered : ℕ) where
  -- it is to end before a line, which may not be carried out, or behind which the writer failed
  held_here : (May : ℕ → Line → Type 0) (line : Line) (at : Kept × D) (before after : Output) → Adds [] before after → May answered line →
      HeldBack keeping says gate answered May (at, before) (line ∷ []) (at, after)
  unfolding breaks_here
  held_here May line at before after said may = (
    (breaks_here true ((at, false), before) (line ∷ []) after said, none_let gate answered),
    may_behind May answered (answered + 0) (line ∷ []) (omega arith) may,
  )

  broken_here : (line : Line) (at : Kept × D) (before after : Output) → WritesFront (before.waiting ++ []) before after →
      Halts keeping says gate answered (at, before) (line ∷ []) stop.Write (at, after)
  unfolding breaks_here
  broken_here line at before after said =
      (false, (breaks_here false ((at, false), before) (line ∷ []) after said, none_let gate answered))

  -- it was not let through
  out_here : (line : Line) (at : Kept × D) (before after : Output) (why : Stop) →
      Enters {A = Unit {0}} gate answered before after (Err why) → Halts keeping says gate answered (at, before) (line ∷ []) why (at, after)
  out_here line at before after stop.Quit never = absurd never
  out_here line at before after stop.Gate said = held_here (MayHold gate) line at before after said.0 said.1
  out_here line at before after stop.Gone never = absurd never
  out_here line at before after stop.Write said = broken_here line at before after said

  pub kept_out : (line : Line) (s : Kept) (d e : D) (before after : Output) (why : Stop) → e ≡ d →
      Enters {A = Unit {0}} gate answered before after (Err why)
      → Halts keeping says gate answered ((s, d), before) (line ∷ []) why ((s, e), after)
  kept_out line s d e before after why same said =
      subst (λ (x : D). Halts keeping says gate answered ((s, d), before) (line ∷ []) why ((s, x), after)) (sym same)
      (out_here line (s, d) before after why said)

  -- it waited, and was given up
  given_up : (line : Line) (at : Kept × D) (before entered after : Output) (why : Stop) → Adds [] before entered →
      Awaits {A = Unit {0}} gate (SpellsWait line) entered after (Err why) →
      Halts keeping says gate answered (at, before) (line ∷ []) why (at, after)
  given_up line at before entered after stop.Quit p never = absurd never
  given_up line at before entered after stop.Gate p never = absurd never
  given_up line at before entered after stop.Gone p q = held_here (MayGiveUp gate) line at before after (adds_both p q.0) (q.1, q.2)
  given_up line at before entered after stop.Write p f = broken_here line at before after (front_after [] p f)

  -- what is kept after a line
  keeps_line : (line : Line) (old new : Kept × D) (answer : Answer) → IsAnswered says line old answer new → IsKept old.0 answer new.0
  keeps_line (Good bytes) old new answer w = keeps_as says old.0 old.1 new.0 new.1 answer (command_of bytes) w
  keeps_line Long old new answer w = as-before says old.0 old.1 new.0 answer (Refused Codes.LongLine) w.0 (ap (λ (s : Kept × D). s.0) w.1)

  -- it was let through
  module _ (line : Line) (s : Kept) (d e : D) (new : Kept × D) (before entered after : Output) (same : e ≡ d)
      (enters : Enters {A = Unit {0}} gate answered before entered (Ok tt))
    where
      p : Adds [] before entered
      p = enters.0

      -- and not carried out
      pub in_time_broken : (why : Stop) → new ≡ (s, e) → Awaits {A = Unit {0}} gate (SpellsWait line) entered after (Err why) →
          Halts keeping says gate answered ((s, d), before) (line ∷ []) why (new, after)
      in_time_broken why at said = subst (λ (x : Kept × D). Halts keeping says gate answered ((s, d), before) (line ∷ []) why (x, after))
          (sym (at ∙ ap (λ (x : D). (s, x)) same)) (given_up line (s, d) before entered after why p said)

      -- it was carried out
      module _ (mid : Output) (tells : session.Answer) (t : Tells tells (λ answer. IsAnswered says line (s, e) answer new))
          (q : Adds [] entered mid) (left : Kept) (is : left ≡ kept_by keeping new.0) where
        turned : (quit : Bool) → quit ≡ tells_bye tells →
            line_turn keeping says ((s, d), false) line (said t.0) ((left, new.1), quit)
        turned quit bye = (
          t.0,
          new.0,
          subst (λ (x : D). IsAnswered says line (s, x) t.0 new) same t.2,
          is,
          refl,
          refl,
          bye ∙ ap tells_bye t.1 ∙ tells_quit t.0,
        )

        kept : IsKept s t.0 new.0
        kept = keeps_line line (s, e) new t.0 t.2

        module _ (put : (answer : Answer) (had : Kept) → tells ≡ told answer → IsKept had answer new.0 → Adds (said answer) mid after) where
          put_on : Adds (said t.0) before after
          put_on = adds_both p (adds_both q (put t.0 s t.1 kept))

          pub carries : false ≡ tells_bye tells →
              Serves keeping says gate answered {A = Unit {0}} line ((s, d), before) ((left, new.1), after) (Ok tt)
          carries stays = (enters.1, said t.0, turned false stays, put_on)

          pub quits : true ≡ tells_bye tells →
              Halts keeping says gate answered ((s, d), before) (line ∷ []) stop.Quit ((left, new.1), after)
          unfolding breaks_at
          quits bye = (
            breaks_at true (((s, d), false), before) line (said t.0) (((left, new.1), true), after) (turned true bye) put_on,
            one_let gate answered enters.1,
          )

        pub carries_broken : ((answer : Answer) (had : Kept) → tells ≡ told answer → IsKept had answer new.0 →
            WritesFront (mid.waiting ++ said answer) mid after)
            → Halts keeping says gate answered ((s, d), before) (line ∷ []) stop.Write ((left, new.1), after)
        unfolding breaks_at
        carries_broken put =
            let quit : Bool = tells_bye tells in
            let broken = breaks_at false (((s, d), false), before) line (said t.0) (((left, new.1), quit), after) (turned quit refl)
            (front_after (said t.0) p (front_after (said t.0) q (put t.0 s t.1 kept))) in (
              quit,
              (broken, one_let gate answered enters.1),
            )

  -- it is to end behind lines that were answered, the first ones of all
  module _ (from old new : (Kept × D) × Output) (lines more : List Line) (many : answered ≡ length lines)
      (these : AreLet gate 0 (length lines)) (a : Answers (line_turn keeping says) (quitting false from) lines (quitting false old))
    where
      pub breaks_off_after : (whole quit : Bool) → BreaksOff keeping says gate answered whole quit old more new →
          BreaksOff keeping says gate 0 whole quit from (lines ++ more) new
      unfolding breaks_after
      breaks_off_after whole quit b = (breaks_after a b.0, more_let gate answered lines b.0.done many these b.1)

      held_after : (May : ℕ → Line → Type 0) → HeldBack keeping says gate answered May old more new →
          HeldBack keeping says gate 0 May from (lines ++ more) new
      unfolding breaks_off_after breaks_after
      held_after May b = (
        breaks_off_after true false b.0,
        may_behind May (answered + length b.0.0.done) (0 + length (lines ++ b.0.0.done)) b.0.0.later
            (behind_all answered lines b.0.0.done many) b.1,
      )

      pub halts_after : (why : Stop) → Halts keeping says gate answered old more why new →
          Halts keeping says gate 0 from (lines ++ more) why new
      halts_after stop.Quit b = breaks_off_after true true b
      halts_after stop.Gate b = held_after (MayHold gate) b
      halts_after stop.Gone b = held_after (MayGiveUp gate) b
      halts_after stop.Write b = (b.0, breaks_off_after false b.0 b.1)

module _ {W D G : Type 0} (says : D → (q : Query) → Said q → D → Type 0) (strict : G × ℕ → Strictness)
    (contents : W → Option (List ℕ)) where
  -- a run takes a line
  pub takes_on : (taken : ℕ) (line : Line) (old new : Progress G × D × Tally W) (r : Result (Unit {0}) Stop) →
      new.0.keeping ≡ old.0.keeping → new.0.gate ≡ old.0.gate
      → Serves old.0.keeping says (strict old.0.gate) taken line (stands contents old) (stands contents new) r →
      Takes (Took says strict contents) (IsOver says strict contents) taken line old r new
  takes_on taken line old new (Ok x) same gate s = λ from lines many t.
      let served : G × ℕ → Keeping → Type 0 =
      λ g k. Serves k says (strict g) taken line (stands contents old) (stands contents new) (Ok x) in
      let s' = subst (λ (g : G × ℕ). served g from.0.keeping) t.1 (subst (λ (k : Keeping). served old.0.gate k) t.0 s) in (
        same ∙ t.0,
        gate ∙ t.1,
        more_let (strict from.0.gate) taken lines (line ∷ []) many t.2 (one_let (strict from.0.gate) taken s'.0),
        answers_line t.3 line s'.1 (quitting false (stands contents new)) s'.2 s'.3,
      )
  takes_on taken line old new (Err why) same gate s = λ from lines many t.
      let halted : G × ℕ → Keeping → Type 0 =
      λ g k. Halts k says (strict g) taken (stands contents old) (line ∷ []) why (stands contents new) in
      halts_after from.0.keeping says (strict from.0.gate) taken (stands contents from) (stands contents old) (stands contents new) lines
      (line ∷ []) many t.2 t.3 why
      (subst (λ (g : G × ℕ). halted g from.0.keeping) t.1 (subst (λ (k : Keeping). halted old.0.gate k) t.0 s))

  -- it settles
  pub settles_on : (old new : Progress G × D × Tally W) → new.0.keeping ≡ old.0.keeping → new.0.gate ≡ old.0.gate
      → new.0.kept ≡ old.0.kept → new.1 ≡ old.1
      → WritesAll old.0.waiting (stands contents old).1 (stands contents new).1 × (new.0.waiting ≡ []) → new.0.owes ≡ false
      → Settles (Took says strict contents) (IsOver says strict contents) {A = Unit {0}} IsSettled old (Ok tt) new
  settles_on old new same gate actor desk f paid = (
    λ from lines t. (
      same ∙ t.0,
      gate ∙ t.1,
      t.2,
      subst (λ (x : Kept × D). Answers (line_turn from.0.keeping says) (quitting false (stands contents from)) lines
          ((x, false), (stands contents new).1))
          (λ i. (sym actor i, sym desk i)) (answers_on t.3 (stands contents new).1 (flushed_adds f.0 f.1)),
    ),
    (f.1, paid),
  )

  pub settles_broken : (old new : Progress G × D × Tally W) → new.0.kept ≡ old.0.kept → new.1 ≡ old.1
      → WritesFront old.0.waiting (stands contents old).1 (stands contents new).1
      → (from : Progress G × D × Tally W) (lines : List Line) → Took says strict contents from lines old →
      IsOver says strict contents from lines stop.Write new
  unfolding breaks_here
  settles_broken old new actor desk f from lines t =
      let at = (stands contents old).0 in
      let out = (stands contents new).1 in
      let gate = strict from.0.gate in
      let front = waiting_front (adds_none (stands contents old).1) f in
      let b : BreaksOff from.0.keeping says gate (length lines) false false (stands contents old) [] (at, out) =
      (breaks_here false ((at, false), (stands contents old).1) [] out front, none_let gate (length lines)) in
      let over : List Line → Kept × D → Type 0 =
      λ ls x. Halts from.0.keeping says gate 0 (stands contents from) ls stop.Write (x, out) in
      subst (λ (x : Kept × D). over lines x) (λ i. (sym actor i, sym desk i))
      (subst (λ (ls : List Line). over ls at) (append-nil lines) (
        false,
        breaks_off_after from.0.keeping says gate (length lines) (stands contents from) (stands contents old) (at, out) lines []
            refl t.2 t.3 false false b,
      ))

-- A run from its beginning on, its devices before and after it, and where it stands.
module _ {W D G : Type 0} (keeping : Keeping) (says : D → (q : Query) → Said q → D → Type 0) (strict : G × ℕ → Strictness)
    (gate : G × ℕ) (contents : W → Option (List ℕ)) (old new : Devices) (d : D) (w : Tally W)
    (before : old.contents ≡ contents w.device) (f : Feeding) (now : Progress G × D × Tally W) (few : f.taken ≤ f.limit) where
  abbrev first : Progress G × D × Tally W
  first = (beginning keeping gate, d, w)

  abbrev out : Output
  out = output contents w []

  abbrev at : (Kept × D) × Output
  at = stands contents now

  -- these lines were answered by this text, and whether the last one by BYE
  abbrev By : Bool → List Line → List ℕ → Type 0
  By quit = AnsweredBy keeping says (strict gate) d at.0 quit

  -- how the run has ended, and how often the writer has failed
  abbrev pub Comes : (reads failures : ℕ) → Option SessionFault → Type 0
  Comes reads failures fault = Ran keeping says (strict gate) f.limit reads old new d at.0 fault
      × (failures ≡ writer_failures w.failures fault)

  module _ (after : Output) (same : new.contents ≡ after.written) where
    -- so much of a text was written
    wrote : (text : List ℕ) → WritesAll text out after → Appends old.contents new.contents text
    wrote text g = appended old new out after before same text g.wrote

    wrote_part : (text : List ℕ) → WritesFront text out after → AppendsFront old.contents new.contents text
    wrote_part text g = fronts old new out after before same text g

    -- all replies of lines that were taken are written, or a front of them
    shown : WritesAll at.1.waiting at.1 after → (lines : List Line) → Took says strict contents first lines now
        → (text : List ℕ) × By false lines text × Appends old.contents new.contents text
    shown g lines t =
        let text : List ℕ = concat t.3.texts in
        (text, (t.2, t.3.texts, t.3.turned, refl), wrote text (wrote_all refl t.3.said g))

    shown_front : WritesFront at.1.waiting at.1 after → (lines : List Line) → Took says strict contents first lines now
        → (text : List ℕ) × By false lines text × AppendsFront old.contents new.contents text
    shown_front g lines t =
        let text : List ℕ = concat t.3.texts in
        (text, (t.2, t.3.texts, t.3.turned, refl), wrote_part text (wrote_front refl t.3.said g))

  module _ (reads : ℕ) where
    abbrev spent : Type 0
    spent = kept_count new.calls ≡ kept_count (old.calls + reads)

    abbrev Here : Fed Stop → Type 0
    Here fed = Stands (Took says strict contents) (IsOver says strict contents) old.remaining new.remaining first
        IsSettled spent reads fed f now

    -- it ended with no reply left
    pub ends_at_once : (fed : Fed Stop) → Here fed → new.contents ≡ at.1.written → may_wait (fault_by fed) ≡ false →
        Comes reads at.1.failures (fault_by fed)
    ends_at_once why.Ended s same e = absurd (false≢true (sym e))
    ends_at_once (why.Stopped stop.Quit) s same e = absurd (false≢true (sym e))
    ends_at_once (why.Stopped stop.Gate) s same e = absurd (false≢true (sym e))
    ends_at_once (why.Stopped stop.Gone) s same e = absurd (false≢true (sym e))
    ends_at_once (why.Stopped stop.Write) s same e =
        let b = s.stands.1.0 in
        let text : List ℕ = concat b.texts in
        let ran = first_halted (By s.stands.0) old new first now f few AppendsFront stop.Write s b.done b.later b.parts text
        (s.stands.1.1, b.texts, b.turned, refl) (wrote_part at.1 same text b.said) in
        ((s.stands.0, ran), b.said.failed)
    ends_at_once why.Full s same e = absurd (false≢true (sym e))
    ends_at_once why.Failed s same e =
        let all : WritesAll at.1.waiting at.1 at.1 = subst (λ (l : List ℕ). WritesAll l at.1 at.1) (sym s.2.0)
        (record { wrote = Appends-nil at.1.written; same = refl }) in
        (all_answered (By false) old new first now f few reads s.0 s.1 (shown at.1 same all), s.0.stands.3.said.same)
    ends_at_once why.Spent s same e = absurd (false≢true (sym e))

    module _ (after : Output) (same : new.contents ≡ after.written) where
      -- it ended before a line, at which the lines in front had been answered
      abbrev Before : (ℕ → Line → Type 0) → List Line → Type 0
      Before May lines = HeldBack keeping says (strict gate) 0 May (stands contents first) lines at

      before_written : (May : ℕ → Line → Type 0) (stopped : Stop) (s : Here (why.Stopped stopped)) → Before May s.done →
          WritesAll at.1.waiting at.1 after → EndsBefore keeping says (strict gate) f.limit reads old new d at.0 May
          × (after.failures ≡ w.failures)
      before_written May stopped s h g =
          let b = h.0.0 in
          let text : List ℕ = concat b.texts in
          let all = wrote_all refl b.said g in
          let ran = held_back (By false) old new first now f few Appends stopped s b.done b.later b.parts text
          (h.0.1, b.texts, b.turned, refl) (wrote after same text all) May h.1 in
          (ran, all.same)

      before_broken : (May : ℕ → Line → Type 0) (stopped : Stop) (s : Here (why.Stopped stopped)) → Before May s.done →
          WritesFront at.1.waiting at.1 after → Comes reads after.failures (Some Write)
      before_broken May stopped s h g =
          let b = h.0.0 in
          let text : List ℕ = concat b.texts in
          let front = wrote_front refl b.said g in
          let ran = first_halted (By false) old new first now f few AppendsFront stopped s b.done b.later b.parts text
          (h.0.1, b.texts, b.turned, refl) (wrote_part after same text front) in
          ((false, ran), front.failed)

      -- and then all replies were written
      pub ends_written : (fed : Fed Stop) → Here fed → WritesAll at.1.waiting at.1 after → may_wait (fault_by fed) ≡ true →
          Comes reads after.failures (fault_by fed)
      ends_written why.Ended s g e =
          (inl (whole_answered (By false) old new first now f few s (shown after same g)), g.same ∙ s.stands.3.said.same)
      ends_written (why.Stopped stop.Quit) s g e =
          let b = s.stands.0 in
          let text : List ℕ = concat b.texts in
          let all = wrote_all refl b.said g in
          let ran = first_halted (By true) old new first now f few Appends stop.Quit s b.done b.later b.parts text
          (s.stands.1, b.texts, b.turned, refl) (wrote after same text all) in
          (inr ran, all.same)
      ends_written (why.Stopped stop.Gate) s g e = before_written (MayHold (strict gate)) stop.Gate s s.stands g
      ends_written (why.Stopped stop.Gone) s g e = before_written (MayGiveUp (strict gate)) stop.Gone s s.stands g
      ends_written (why.Stopped stop.Write) s g e = absurd (false≢true e)
      ends_written why.Full s g e =
          (inl (past_lines (By false) old new first now f few reads s.0 s.1 (shown after same g)), g.same ∙ s.0.stands.3.said.same)
      ends_written why.Failed s g e = absurd (false≢true e)
      ends_written why.Spent s g e =
          (inr (all_answered (By false) old new first now f few reads s.0 s.1 (shown after same g), s.2), g.same ∙ s.0.stands.3.said.same)

      -- or the writer failed
      pub ends_broken : (fed : Fed Stop) → Here fed → WritesFront at.1.waiting at.1 after → may_wait (fault_by fed) ≡ true →
          Comes reads after.failures (Some Write)
      ends_broken why.Ended s g e = (
        (false, first_whole (By false) old new first now f few s AppendsFront (shown_front after same g)),
        g.failed ∙ ap one_more s.stands.3.said.same,
      )
      ends_broken (why.Stopped stop.Quit) s g e =
          let b = s.stands.0 in
          let text : List ℕ = concat b.texts in
          let front = wrote_front refl b.said g in
          let ran = first_halted (By true) old new first now f few AppendsFront stop.Quit s b.done b.later b.parts text
          (s.stands.1, b.texts, b.turned, refl) (wrote_part after same text front) in
          ((true, ran), front.failed)
      ends_broken (why.Stopped stop.Gate) s g e = before_broken (MayHold (strict gate)) stop.Gate s s.stands g
      ends_broken (why.Stopped stop.Gone) s g e = before_broken (MayGiveUp (strict gate)) stop.Gone s s.stands g
      ends_broken (why.Stopped stop.Write) s g e = absurd (false≢true e)
      ends_broken why.Full s g e = (
        (false, first_within (By false) old new first now f few reads s.0 AppendsFront (shown_front after same g)),
        g.failed ∙ ap one_more s.0.stands.3.said.same,
      )
      ends_broken why.Failed s g e = absurd (false≢true e)
      ends_broken why.Spent s g e = (
        (false, first_within (By false) old new first now f few reads s.0 AppendsFront (shown_front after same g)),
        g.failed ∙ ap one_more s.0.stands.3.said.same,
      )

-- there was no memory for the buffers
pub served_short : {D : Type 0} (keeping : Keeping) (says : D → (q : Query) → Said q → D → Type 0) (gate : Strictness)
    (lines reads : ℕ) (here : Devices) (d : D) (left : Kept) → left ≡ nothing_had →
    Served keeping says gate lines reads here here d d left (Some Short)
served_short keeping says gate lines reads here d left e = record {
  last = (nothing_had, d);
  ran = (refl, refl);
  spent = (refl, refl, refl);
  kept = e;
}
