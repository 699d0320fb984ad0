-- Lines of a session that are carried out in a row, each of which is answered by its own event.
use Rattle.std.specs.Prelude.{◌≡◌, ◌⊎◌, ℕ, ◌≤◌, Bool, true, false, List, [], ◌∷◌, ◌++◌, length, map, Option, Some, Result, Ok, Err, IsOk, ◌<◌}
use Rattle.th_model.specs.declared.verb.ReceiverVerb.{ReceiverVerb}
use Rattle.th_model.specs.declared.verb.SenderVerb.TheVariants.{Send}
use Rattle.th_lines.specs.Answering.{Answers, Breaks, Turned}
use Rattle.th_lines.specs.Commands.{command_of}
use Rattle.th_lines.specs.Intake.{IsRow, Reading}
use Rattle.th_lines.specs.Lines.{Good, Line, lines_from}
use Rattle.th_lines.specs.Output.{Output}
use Rattle.th_lines.specs.Replies.{spell}
use Rattle.th_lines.specs.declared.command.Action.TheVariants.{ByReceiver, BySender}
use Rattle.th_lines.specs.declared.command.Command.TheVariants.{On}
use Rattle.th_registry.specs.Calls.{Bytes}
use Rattle.th_registry.specs.Events.{Event}
use Rattle.th_registry.specs.Hub.{Query, Said}
use Rattle.th_registry.specs.Receipts.{ChannelReceipt, reply_in}
use Rattle.th_registry.specs.Rows.{MadeInRow, on_topic}
use Rattle.th_registry.specs.declared.opening.TopicId.{TopicId}
use Rattle.th_session.specs.declared.keeping.Keeping.{Keeping}
use Rattle.th_session.specs.declared.fault.Stop.{Stop}
use Rattle.th_session.specs.declared.fault.Stop.TheVariants as stop
use Rattle.th_session.specs.Held.{Holding}
use Rattle.th_session.specs.Kept.{Kept, kept_by}
use Rattle.th_session.specs.Run.{line_turn, quitting}
use Rattle.th_session.specs.Table.{replied_channel}

-- these lines send these values to the topic of this name, one each, in their order
abbrev pub SendEach : Bytes → List Bytes → List Bytes → Type 0
SendEach name [] [] = Unit {0}
SendEach name [] (v ∷ values) = ⊥
SendEach name (l ∷ lines) [] = ⊥
SendEach name (l ∷ lines) (v ∷ values) =
    (command_of l ≡ Some (On name (BySender (Send v)))) × SendEach name lines values

-- each of these lines is what a receiver does on the topic of this name
abbrev pub ReceiveEach : Bytes → ReceiverVerb → List Bytes → Type 0
ReceiveEach name verb [] = Unit {0}
ReceiveEach name verb (l ∷ lines) =
    (command_of l ≡ Some (On name (ByReceiver verb))) × ReceiveEach name verb lines

-- what an actor had, and more receipts
abbrev pub with_more : Kept → List (TopicId × ChannelReceipt) → Kept
with_more had more = record had { receipts = had.receipts ++ more }

-- the text that answers an event, by its receipt
abbrev pub told_by : ChannelReceipt → List ℕ
told_by receipt = spell (replied_channel (reply_in receipt))

-- On a topic the actor's own handle, where it holds one, made the first ones of these events in a row, so many; or none.
abbrev pub RowBy : {D H : Type 0} → (D → (q : Query) → Said q → D → Type 0) → (n : ℕ)
    → Option H → (events : H → List Event) → (h h' : Holding)
    → (receipts receipts' : List (TopicId × ChannelReceipt)) → (old new : D) → ℕ → Type 0
RowBy {D} {H} says n handle events h h' receipts receipts' old new count = (h' ≡ h)
    × (((count ≡ 0) × (receipts' ≡ receipts) × (new ≡ old))
    ⊎ ((by : H) × (handle ≡ Some by)
    × MadeInRow says n (events by) receipts receipts' old new count))

-- a line, and those that stand whole in the bytes behind it: these are the first of them, and the rest stands here
abbrev pub ReadsTo : (line ahead : List ℕ) → List Bytes → (rest : List ℕ) → Type 0
ReadsTo line ahead lines rest = (ended : Bool) (more : List ℕ) →
    Good line ∷ lines_from ended [] (ahead ++ more)
    ≡ map (λ l. Good l) lines ++ lines_from ended [] (rest ++ more)

-- the same, wherever the rest stands
abbrev pub AreThere : (line ahead : List ℕ) → List Bytes → Type 0
AreThere line ahead lines = (ended : Bool) (more : List ℕ) → (later : List Line)
    × (Good line ∷ lines_from ended [] (ahead ++ more) ≡ map (λ l. Good l) lines ++ later)

module _ {D : Type 0} (says : D → (q : Query) → Said q → D → Type 0) where
  -- These lines were answered in turn, each by an event, whose receipt came behind those that the actor had.
  pub record Carried (lines : List Bytes) (old new : Kept × D) : Type 0 where
    pub some : 0 < length lines
    pub topic : ℕ
    pub added : List ChannelReceipt
    pub many : length added ≡ length lines
    pub kept : new.0 ≡ with_more old.0 (on_topic topic added)
    pub turned : (keeping : Keeping) → Turned (line_turn keeping says) (map (λ l. Good l) lines)
        (old, false) (map told_by added) ((kept_by keeping new.0, new.1), false)

  -- the first ones of these lines were carried out, so many, or none of them
  abbrev pub CarriesFirst : List Bytes → Kept × D → ℕ → Kept × D → Type 0
  CarriesFirst lines old count new = ((count ≡ 0) × (new ≡ old))
      ⊎ ((done : List Bytes) × (later : List Bytes) × (lines ≡ done ++ later)
      × (length done ≡ count) × Carried done old new)

  -- A line was carried out, and those whole behind it, in these bytes: so many, at most so many; or none.
  abbrev pub CarriesLines : (line ahead : List ℕ) → (most : ℕ) → Kept × D → ℕ → Kept × D → Type 0
  CarriesLines line ahead most old count new = ((count ≡ 0) × (new ≡ old))
      ⊎ ((lines : List Bytes) × (length lines ≡ count) × AreThere line ahead lines × (count ≤ most)
      × Carried lines old new)

  -- these lines were answered, and their texts came behind what waited; or the writer failed within them
  abbrev pub RowEnds : (keeping : Keeping) → (Kept × D) × Output → List Line →
      Result (Unit {0}) Stop → (Kept × D) × Output → Type 0
  RowEnds keeping old lines (Ok _) new =
      Answers (line_turn keeping says) (quitting false old) lines (quitting false new)
  RowEnds keeping old lines (Err why) new = (why ≡ stop.Write)
      × Breaks (line_turn keeping says) false (quitting false old) lines (quitting false new)

  -- The line that was handed out and those whole behind it were carried out as a row, so many, at most so many; or none.
  abbrev pub CarriesOut : Reading → (most : ℕ) → Kept × D → ℕ → Kept × D → Type 0
  CarriesOut there most old count new = ((count ≡ 0) × (new ≡ old))
      ⊎ ((lines : List Bytes) × IsRow there count (map (λ l. Good l) lines) × (count ≤ most)
      × Carried lines old new)

  -- A row of lines was answered, so many, or none, and their texts came behind what waited; or the writer failed within them.
  abbrev pub ServesRow : (keeping : Keeping) → Reading → (most : ℕ) → (Kept × D) × Output → ℕ →
      Result (Unit {0}) Stop → (Kept × D) × Output → Type 0
  ServesRow keeping there most old count result new = ((count ≡ 0) × (new ≡ old) × IsOk result)
      ⊎ ((lines : List Line) × IsRow there count lines × (count ≤ most) × (0 < count)
      × RowEnds keeping old lines result new)
