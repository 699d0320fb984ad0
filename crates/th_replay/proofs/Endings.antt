-- How a replay goes on, and what has come of it when it ends.
use Rattle.std.proofs.Common.{◌≡◌, ℕ, ◌+◌, ◌≤◌, true, false, List, [], refl, sym, append-nil, inl, inr, Option, Ok, Err, subst}
use Rattle.std.specs.Io.KnownBytes.{Appends}
use Rattle.std.specs.List.{concat}
use Rattle.std.specs.Prelude.{Result}
use Rattle.std.proofs.KnownBytes.{Appends-nil}
use Rattle.std.proofs.lemmas.Bool.{false≢true}
use Rattle.th_lines.specs.Answering.{Answers, Breaks, Turned}
use Rattle.th_lines.specs.Device.{kept_count}
use Rattle.th_lines.specs.Feeding.{Feeding, Settles, Stands, Takes}
use Rattle.th_lines.specs.Lines.{Line}
use Rattle.th_lines.specs.Output.{Output, AddsOrFails, Flushes, WritesAll, WritesFront, output}
use Rattle.th_lines.specs.Tally.{Tally}
use Rattle.th_lines.specs.declared.feeder.Fed.{Fed}
use Rattle.th_lines.specs.declared.feeder.Fed.TheVariants.{Ended, Stopped, Full, Failed, Spent}
use Rattle.th_lines.specs.declared.fault.WriteFailed.{WriteFailed}
use Rattle.th_lines.proofs.AnsweringLemmas.{answers_line, answers_on, breaks_after, breaks_at, breaks_here, wrote_all, wrote_front}
use Rattle.th_lines.proofs.OutputLemmas.{adds_none, flushed_adds, waiting_front}
use Rattle.th_registry.specs.Pictures.{SeenTopics}
use Rattle.th_session.specs.Ending.{AppendsFront, Devices, FirstAnswered}
use Rattle.th_session.proofs.Endings.{all_answered, appended, first_halted, first_whole, first_within, fronts, past_lines, whole_answered}
use Rattle.th_replay.specs.Outcome.{Comes, HasText}
use Rattle.th_replay.specs.Progress.{Progress, IsBroken, Took, beginning, end_by, may_wait, stands}
use Rattle.th_replay.specs.Schedule.{Hub, answers, seen_start}
use Rattle.th_replay.specs.Session.{Turns}
use Rattle.th_replay.proofs.Turning.{turned_text}

-- lines that were answered in turn have a session text
told : (lines : List Line) (texts : List (List ℕ)) (now : Hub SeenTopics) → Turned (Turns answers) lines seen_start texts now →
    HasText answers seen_start lines (concat texts)
told lines texts now t = let r = turned_text answers lines seen_start texts now t in (r.marks, sym r.text)

module _ {W D : Type 0} (contents : W → Option (List ℕ)) where
  -- one line was answered
  pub takes_on : (taken : ℕ) (line : Line) (old new : Progress × D × Tally W) (text : List ℕ) (r : Result (Unit {0}) WriteFailed) →
      Turns answers old.0.hub line text new.0.hub
      → AddsOrFails text (stands contents old).1 (stands contents new).1 r → Takes (Took contents) (IsBroken contents) taken line old r new
  takes_on taken line old new text (Ok x) t said = λ from lines many a. answers_line a line text (stands contents new) t said
  takes_on taken line old new text (Err why) t front = λ from lines many a.
      breaks_after a (breaks_at false (stands contents old) line text (stands contents new) t front)

  -- all replies that waited were written
  pub settles_on : (old new : Progress × D × Tally W) (r : Result (Unit {0}) WriteFailed) → new.0.hub ≡ old.0.hub
      → Flushes (stands contents old).1 (stands contents new).1 r →
      Settles (Took contents) (IsBroken contents) (λ p. p.0.waiting ≡ []) old r new
  settles_on old new (Ok x) e f = (
    λ from lines a. subst (λ (h : Hub SeenTopics). Answers (Turns answers) (stands contents from) lines (h, (stands contents new).1))
        (sym e) (answers_on a (stands contents new).1 (flushed_adds f.0 f.1)),
    f.1,
  )
  settles_on old new (Err why) e f = λ from lines a.
      subst (λ (h : Hub SeenTopics). Breaks (Turns answers) false (stands contents from) lines (h, (stands contents new).1)) (sym e)
      (subst (λ (ls : List Line). Breaks (Turns answers) false (stands contents from) ls (old.0.hub, (stands contents new).1))
      (append-nil lines)
      (breaks_after a (breaks_here false (stands contents old) [] (stands contents new).1
      (waiting_front (adds_none (stands contents old).1) f))))

  -- A run from its beginning on, its devices before and after it, and where it stands.
  module _ (old new : Devices) (w : Tally W) (d : D) (before : old.contents ≡ contents w.device) (f : Feeding)
      (now : Progress × D × Tally W) (few : f.taken ≤ f.limit) where
    abbrev first : Progress × D × Tally W
    first = (beginning, d, w)

    abbrev out : Output
    out = output contents w []

    abbrev at : Hub SeenTopics × Output
    at = stands contents now

    abbrev By : List Line → List ℕ → Type 0
    By = HasText answers seen_start

    module _ (after : Output) (same : new.contents ≡ after.written) where
      -- all replies to lines that were taken are written, or a front of them
      shown : WritesAll at.1.waiting at.1 after → (lines : List Line) → Took contents first lines now
          → (text : List ℕ) × By lines text × Appends old.contents new.contents text
      shown g lines a =
          let text : List ℕ = concat a.texts in
          let all = wrote_all refl a.said g in
          (text, told lines a.texts at.0 a.turned, appended old new out after before same text all.wrote)

      shown_front : WritesFront at.1.waiting at.1 after → (lines : List Line) → Took contents first lines now
          → (text : List ℕ) × By lines text × AppendsFront old.contents new.contents text
      shown_front g lines a =
          let text : List ℕ = concat a.texts in
          (text, told lines a.texts at.0 a.turned, fronts old new out after before same text (wrote_front refl a.said g))

    module _ (reads : ℕ) where
      abbrev spent : Type 0
      spent = kept_count new.calls ≡ kept_count (old.calls + reads)

      abbrev Here : Fed WriteFailed → Type 0
      Here fed = Stands (Took contents) (IsBroken contents) old.remaining new.remaining first (λ p. p.0.waiting ≡ []) spent reads
          fed f now

      -- it ended with no reply left
      pub comes_at_once : (fed : Fed WriteFailed) → Here fed → new.contents ≡ at.1.written → may_wait (end_by fed f.taken) ≡ false →
          Comes answers seen_start f.limit reads old new (end_by fed f.taken)
      comes_at_once Ended s same e = absurd (false≢true (sym e))
      comes_at_once (Stopped why) s same e =
          let b = s.stands in
          let text : List ℕ = concat b.texts in
          first_halted By old new first now f few AppendsFront why s b.done b.later b.parts text (told b.done b.texts at.0 b.turned)
          (fronts old new out at.1 before same text b.said)
      comes_at_once Full s same e = absurd (false≢true (sym e))
      comes_at_once Failed s same e =
          let all : WritesAll at.1.waiting at.1 at.1 = subst (λ (l : List ℕ). WritesAll l at.1 at.1) (sym s.2)
          (record { wrote = Appends-nil at.1.written; same = refl }) in
          all_answered By old new first now f few reads s.0 s.1 (shown at.1 same all)
      comes_at_once Spent s same e = absurd (false≢true (sym e))

      module _ (after : Output) (same : new.contents ≡ after.written) where
        -- and then all replies were written
        pub comes_written : (fed : Fed WriteFailed) → Here fed → WritesAll at.1.waiting at.1 after
            → may_wait (end_by fed f.taken) ≡ true → Comes answers seen_start f.limit reads old new (end_by fed f.taken)
        unfolding whole_answered
        comes_written Ended s g e = ((whole_answered By old new first now f few s (shown after same g), s.counted), few)
        comes_written (Stopped why) s g e = absurd (false≢true e)
        comes_written Full s g e = inl (past_lines By old new first now f few reads s.0 s.1 (shown after same g))
        comes_written Failed s g e = absurd (false≢true e)
        comes_written Spent s g e = inr (all_answered By old new first now f few reads s.0 s.1 (shown after same g), s.2)

        -- or the writer failed
        pub comes_broken : (fed : Fed WriteFailed) → Here fed → WritesFront at.1.waiting at.1 after
            → may_wait (end_by fed f.taken) ≡ true → FirstAnswered By f.limit old new AppendsFront
        comes_broken Ended s g e = first_whole By old new first now f few s AppendsFront (shown_front after same g)
        comes_broken (Stopped why) s g e = absurd (false≢true e)
        comes_broken Full s g e = first_within By old new first now f few reads s.0 AppendsFront (shown_front after same g)
        comes_broken Failed s g e = absurd (false≢true e)
        comes_broken Spent s g e = first_within By old new first now f few reads s.0 AppendsFront (shown_front after same g)
