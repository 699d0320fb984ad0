-- One line answered at a desk, and the text of the answer.
use Rattle.std.specs.Prelude.{◌≡◌, ◌⊎◌, ◌++◌, ℕ, List, length, Option, Some, None, Result, true}
use Rattle.th_lines.specs.Commands.{carries_value, command_of}
use Rattle.th_lines.specs.Output.{AddsOrFails, Output}
use Rattle.th_lines.specs.Replies.{spell}
use Rattle.th_lines.specs.declared.command.Command.{Command}
use Rattle.th_lines.specs.declared.fault.LineFault.{LineFault}
use Rattle.th_lines.specs.declared.fault.LineFault.TheVariants as Faults
use Rattle.th_lines.specs.declared.reply.Code.TheVariants as Codes
use Rattle.th_lines.specs.declared.reply.Reply.TheVariants.{Count, Refused}
use Rattle.th_traces.specs.Spelled.{Bytes, text}
use Rattle.th_traces.specs.Traces.{broadcast_lines, watch_lines}
use Rattle.th_registry.specs.declared.channel.Channel.TheVariants.{Broadcast, Watch}
use Rattle.th_registry.specs.History.{ChannelSegment}
use Rattle.th_registry.specs.Hub.{Query, Said}
use Rattle.th_session.specs.declared.session.Answer as session
use Rattle.th_session.specs.Kept.{IsKept, Kept, told}
use Rattle.th_session.specs.Script.{Answer, Replied, Told, Traced}
use Rattle.th_session.specs.Table.{replied_channel}
use Rattle.th_registry.specs.Receipts.{reply_in}
use Rattle.th_session.specs.Step.{IsStep}

-- the lines of a segment's trace
abbrev pub trace_lines : ChannelSegment → List Bytes
trace_lines (Broadcast s) = broadcast_lines s.start s.entries
trace_lines (Watch s) = watch_lines s.start s.entries

-- a segment told: how many lines its trace has, and these
abbrev pub trace_told : ChannelSegment → List ℕ
trace_told segment = spell (Count (length (trace_lines segment))) ++ text (trace_lines segment)

-- the text of an answer
abbrev pub said : Answer → List ℕ
said (Replied reply) = spell reply
said (Told n receipt) = spell (replied_channel (reply_in receipt))
said (Traced n segment) = trace_told segment

-- the text of an answer that is told so, and after which the actor has this, was put behind what waits, or the writer
-- failed
abbrev pub PutsTold : {A E : Type 0} → session.Answer → Kept → Output → Output → Result A E → Type 0
PutsTold tells has before after result =
    (answer : Answer) (had : Kept) → tells ≡ told answer → IsKept had answer has →
    AddsOrFails (said answer) before after result

-- the answer to a line that gave no command
abbrev pub refused : LineFault → Answer
refused Faults.BadLine = Replied (Refused Codes.BadLine)
refused Faults.Short = Replied (Refused Codes.NoMemory)

module _ {D : Type 0} (says : D → (q : Query) → Said q → D → Type 0) where
  -- by what a line spells: nothing, which is answered 10; or a command, whose step this is, or whose value there was no
  -- memory for, which is answered 21 with nothing changed
  abbrev pub AnswersAs : Option Command → Kept → D → Answer → Kept → D → Type 0
  AnswersAs None had old answer has new =
      (answer ≡ Replied (Refused Codes.BadLine)) × (has ≡ had) × (new ≡ old)
  AnswersAs (Some command) had old answer has new =
      IsStep says had old command answer has new
      ⊎ ((answer ≡ Replied (Refused Codes.NoMemory)) × (has ≡ had) × (new ≡ old)
      × (carries_value command ≡ true))

  -- the answer to a line, with what the actor has and the desk afterwards
  abbrev pub Answers : Kept → D → List ℕ → Answer → Kept → D → Type 0
  Answers had old line answer has new = AnswersAs (command_of line) had old answer has new

  -- the same, and its text was put behind what waits, or the writer failed
  abbrev pub Puts : {A E : Type 0} → Kept → D → List ℕ → Kept → D →
      Output → Output → Result A E → Type 0
  Puts had old line has new before after result =
      (answer : Answer) × Answers had old line answer has new
      × AddsOrFails (said answer) before after result
