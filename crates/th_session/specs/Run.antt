-- A session's run: its lines are answered one after another at a desk, until it ends, and then its handles are spent.
use Rattle.std.specs.Prelude.{◌≡◌, ◌⊎◌, ℕ, ◌+◌, ◌<◌, Bool, true, false, List, [], ◌∷◌, ◌++◌, length, Option, Some, None, Result, Ok, Err}
use Rattle.std.specs.Io.KnownBytes.{Appends}
use Rattle.std.specs.List.{concat}
use Rattle.th_lines.specs.Answering.{Answers, Breaks, Turned}
use Rattle.th_lines.specs.Commands.{command_of}
use Rattle.th_lines.specs.Device.{one_more}
use Rattle.th_lines.specs.Lines.{Line, Good, Long}
use Rattle.th_lines.specs.Output.{Output, Adds, WritesFront, output}
use Rattle.th_lines.specs.Tally.{Tally}
use Rattle.th_lines.specs.declared.feeder.Fed.{Fed}
use Rattle.th_lines.specs.declared.feeder.Fed.TheVariants as why
use Rattle.th_lines.specs.declared.command.Action.TheVariants.{ByReceiver}
use Rattle.th_lines.specs.declared.command.Command.{Command}
use Rattle.th_lines.specs.declared.command.Command.TheVariants.{On}
use Rattle.th_lines.specs.declared.reply.Code.TheVariants as Codes
use Rattle.th_lines.specs.declared.reply.Reply.TheVariants.{Bye, Refused}
use Rattle.th_model.specs.declared.verb.ReceiverVerb.TheVariants.{Recv, Changed}
use Rattle.th_registry.specs.Hub.{Query, Said}
use Rattle.th_session.specs.declared.keeping.Keeping.{Keeping}
use Rattle.th_session.specs.declared.session.Answer as session
use Rattle.th_session.specs.declared.session.Answer.TheVariants as answers
use Rattle.th_session.specs.declared.fault.SessionFault.{SessionFault}
use Rattle.th_session.specs.declared.fault.SessionFault.TheVariants.{Read, Write, TooLong, Gate, Gone, Short}
use Rattle.th_session.specs.declared.fault.Stop.{Stop}
use Rattle.th_session.specs.declared.fault.Stop.TheVariants as stop
use Rattle.th_session.specs.Answer as desk
use Rattle.th_session.specs.Answer.{said}
use Rattle.th_session.specs.Ending.{AllAnswered, AppendsFront, Devices, FirstAnswered, WasTooLong, WholeAnswered}
use Rattle.th_session.specs.Kept.{Kept, Tells, kept_by}
use Rattle.th_session.specs.Script.{Answer, Plays, Replied, has_quit, spend_all}

-- How strict a gate is with one session: which lines it may hold back and which it may let through, by their numbers, and
-- whether it may give the session up while that waits for an answer.
pub record Strictness : Type 0 where
  pub holds_back : ℕ → Bool
  pub lets : ℕ → Bool
  pub gives_up : Bool

-- the same of this gate, with the session of this number
abbrev pub strictness : {G : Type 0} → (holds_back lets : G → ℕ → ℕ → Bool) →
    (gives_up : G → ℕ → Bool) → G × ℕ → Strictness
strictness holds_back lets gives_up (gate, session) =
    record {
      holds_back = holds_back gate session;
      lets = lets gate session;
      gives_up = gives_up gate session;
    }

-- the line behind so many was let through
abbrev pub IsLet : Strictness → (answered : ℕ) → Type 0
IsLet gate answered = gate.lets (one_more answered) ≡ true

-- each of the lines behind so many was, so many of them
abbrev pub AreLet : Strictness → (answered count : ℕ) → Type 0
AreLet gate answered count = (k : ℕ) → k < count → IsLet gate (answered + k)

-- whether a command is one that waits for its answer
abbrev pub waits : Command → Bool
waits (On name (ByReceiver Recv)) = true
waits (On name (ByReceiver Changed)) = true
waits command = false

-- a line spells one
abbrev pub SpellsWait : Line → Type 0
SpellsWait Long = ⊥
SpellsWait (Good bytes) =
    (command : Command) × (command_of bytes ≡ Some command) × (waits command ≡ true)

-- it may hold back the line behind so many
abbrev pub MayHold : Strictness → (answered : ℕ) → Line → Type 0
MayHold gate answered line = gate.holds_back (one_more answered) ≡ true

-- it may give a line up, which waits for its answer
abbrev pub MayGiveUp : Strictness → (answered : ℕ) → Line → Type 0
MayGiveUp gate answered line = (gate.gives_up ≡ true) × SpellsWait line

-- the first of these lines is such a one
abbrev pub IsFirst : (Line → Type 0) → List Line → Type 0
IsFirst Is [] = ⊥
IsFirst Is (line ∷ lines) = Is line

-- What is not written yet of the replies of a session; and its gate, with its number there.
pub record Unwritten (G : Type 0) : Type 0 where
  pub text : List ℕ
  pub gate : G × ℕ

-- an actor that has nothing
abbrev pub nothing_had : Kept
nothing_had = record { handles = []; receipts = []; segments = [] }

-- How far a run has got: what its actor has, and the replies that wait; its gate, with its number there; what it keeps of
-- the answers; and whether it owes somebody a wake for what was done.
pub record Progress (G : Type 0) : Type 0 where
  pub kept : Kept
  pub waiting : List ℕ
  pub gate : G × ℕ
  pub keeping : Keeping
  pub owes : Bool

-- before anything was read
abbrev pub beginning : {G : Type 0} → Keeping → G × ℕ → Progress G
beginning keeping gate =
    record { kept = nothing_had; waiting = []; gate = gate; keeping = keeping; owes = false }

-- No reply waits, and nobody is owed a wake: so a run reads on, which may take time.
abbrev pub IsSettled : {D W G : Type 0} → Progress G × D × W → Type 0
IsSettled p = (p.0.waiting ≡ []) × (p.0.owes ≡ false)

-- what a run and its desk have, and where the replies stand
abbrev pub stands : {W D G : Type 0} → (W → Option (List ℕ)) → Progress G × D × Tally W →
    (Kept × D) × Output
stands contents p = ((p.0.kept, p.1), output contents p.2 p.0.waiting)

-- the same, of an actor that has quit, or has not
abbrev pub quitting : {D : Type 0} → Bool → (Kept × D) × Output → ((Kept × D) × Bool) × Output
quitting quit at = ((at.0, quit), at.1)

-- the fault by which a run ends, by why no further line is fed
abbrev pub fault_by : Fed Stop → Option SessionFault
fault_by why.Ended = None
fault_by (why.Stopped stop.Quit) = None
fault_by (why.Stopped stop.Gate) = Some Gate
fault_by (why.Stopped stop.Gone) = Some Gone
fault_by (why.Stopped stop.Write) = Some Write
fault_by why.Full = Some TooLong
fault_by why.Failed = Some Read
fault_by why.Spent = Some TooLong

-- whether replies may wait still where a run ends so: none does after the settling before a read, or a failed write
abbrev pub may_wait : Option SessionFault → Bool
may_wait (Some Read) = false
may_wait (Some Write) = false
may_wait fault = true

-- the reader's failures, and the writer's, after a run that ended so
abbrev pub reader_failures : ℕ → Option SessionFault → ℕ
reader_failures n (Some Read) = one_more n
reader_failures n fault = n

abbrev pub writer_failures : ℕ → Option SessionFault → ℕ
writer_failures n (Some Write) = one_more n
writer_failures n fault = n

-- whether an answer that is told so is BYE
abbrev pub tells_bye : session.Answer → Bool
tells_bye (answers.Reply reply) = has_quit (Replied reply)
tells_bye answers.Event = false
tells_bye answers.Trace = false

-- The line behind so many was let through, and nothing was said; or it was not; or the writer failed.
abbrev pub Enters : {A : Type 0} → Strictness → (answered : ℕ) → Output → Output →
    Result A Stop → Type 0
Enters gate answered before after (Ok a) = Adds [] before after × IsLet gate answered
Enters gate answered before after (Err stop.Gate) =
    Adds [] before after × (gate.holds_back (one_more answered) ≡ true)
Enters gate answered before after (Err stop.Write) =
    WritesFront (before.waiting ++ []) before after
Enters gate answered before after (Err stop.Gone) = ⊥
Enters gate answered before after (Err stop.Quit) = ⊥

-- Nothing was said, and a command has its answer at once; or the gate gave it up, which waits; or the writer failed.
abbrev pub Awaits : {A : Type 0} → Strictness → (Waits : Type 0) → Output → Output →
    Result A Stop → Type 0
Awaits gate Waits before after (Ok a) = Adds [] before after
Awaits gate Waits before after (Err stop.Gone) =
    Adds [] before after × (gate.gives_up ≡ true) × Waits
Awaits gate Waits before after (Err stop.Write) =
    WritesFront (before.waiting ++ []) before after
Awaits gate Waits before after (Err stop.Gate) = ⊥
Awaits gate Waits before after (Err stop.Quit) = ⊥

module _ {D : Type 0} (says : D → (q : Query) → Said q → D → Type 0) where
  -- the answer to a line; what is too long is answered 23, and nothing has changed
  abbrev pub IsAnswered : Line → Kept × D → Answer → Kept × D → Type 0
  IsAnswered Long old answer new = (answer ≡ Replied (Refused Codes.LongLine)) × (new ≡ old)
  IsAnswered (Good bytes) old answer new = desk.Answers says old.0 old.1 bytes answer new.0 new.1

  -- a line was answered, and its text is still to come; or nothing was done, since it may not be or the writer failed
  abbrev pub AnswersInTime : Strictness → Line → Kept × D → Kept × D → Output → Output →
      Result session.Answer Stop → Type 0
  AnswersInTime gate line old new before after (Ok tells) =
      Tells tells (λ answer. IsAnswered line old answer new) × Adds [] before after
  AnswersInTime gate line old new before after (Err why) =
      (new ≡ old) × Awaits {A = Unit {0}} gate (SpellsWait line) before after (Err why)

-- where a run keeps so much of its answers
module _ {D : Type 0} (keeping : Keeping) (says : D → (q : Query) → Said q → D → Type 0) where
  -- A line was answered by this text, by an actor that had not quit; it has quit then where the answer is BYE. Of what the
  -- actor has then, that is left which the run keeps.
  abbrev pub line_turn : (Kept × D) × Bool → Line → List ℕ → (Kept × D) × Bool → Type 0
  line_turn old line text new =
      (answer : Answer) × (has : Kept) × IsAnswered says line old.0 answer (has, new.0.1)
      × (new.0.0 ≡ kept_by keeping has) × (text ≡ said answer)
      × (old.1 ≡ false) × (new.1 ≡ has_quit answer)

  -- by a gate that is so strict, and behind so many lines
  module _ (gate : Strictness) (answered : ℕ) where
    -- Of these lines the first ones were answered, each of which was let through, and no further one is.
    abbrev pub BreaksOff : (whole quit : Bool) → (Kept × D) × Output → List Line →
        (Kept × D) × Output → Type 0
    BreaksOff whole quit old lines new =
        (b : Breaks line_turn whole (quitting false old) lines (quitting quit new))
        × AreLet gate answered (length b.done)

    -- The line behind those that were answered was not carried out, and such a one may stand behind so many.
    abbrev pub HeldBack : (May : ℕ → Line → Type 0) → (Kept × D) × Output → List Line →
        (Kept × D) × Output → Type 0
    HeldBack May old lines new = (b : BreaksOff true false old lines new)
        × IsFirst (May (answered + length b.0.done)) b.0.later

    -- These lines were answered, as far as they were done, and no further one is: the last was answered BYE; or one of them was
    -- not let through, or given up; or the writer failed.
    abbrev pub Halts : (Kept × D) × Output → List Line → Stop → (Kept × D) × Output → Type 0
    Halts old lines stop.Quit new = BreaksOff true true old lines new
    Halts old lines stop.Gate new = HeldBack (MayHold gate) old lines new
    Halts old lines stop.Gone new = HeldBack (MayGiveUp gate) old lines new
    Halts old lines stop.Write new = (quit : Bool) × BreaksOff false quit old lines new

    -- a line was let through and answered by this text, and the actor has not quit; or the run is to end
    abbrev pub Serves : {A : Type 0} → Line → (Kept × D) × Output → (Kept × D) × Output →
        Result A Stop → Type 0
    Serves line old new (Ok a) = IsLet gate answered
        × (text : List ℕ) × line_turn (old.0, false) line text (new.0, false)
        × Adds text old.1 new.1
    Serves line old new (Err why) = Halts old (line ∷ []) why new

  -- From an actor that has nothing on, these lines were let through and answered in turn by this text; and whether the last was
  -- answered BYE.
  abbrev pub AnsweredBy : Strictness → D → Kept × D → Bool → List Line → List ℕ → Type 0
  AnsweredBy gate desk last quit lines text = AreLet gate 0 (length lines)
      × (texts : List (List ℕ))
      × Turned line_turn lines ((nothing_had, desk), false) texts (last, quit)
      × (text ≡ concat texts)

  -- by a gate that is so strict, at most so many lines and reads; where the devices and the desk stood, and where they and the
  -- actor stand then
  module _ (gate : Strictness) (lines reads : ℕ) (old new : Devices) (d : D) (last : Kept × D) where
    -- these lines were answered by this text, and whether the last by BYE
    abbrev pub By : Bool → List Line → List ℕ → Type 0
    By quit = AnsweredBy gate d last quit

    -- The line behind those that are answered was not carried out, and such a one may stand behind so many.
    abbrev pub EndsBefore : (May : ℕ → Line → Type 0) → Type 0
    EndsBefore May = (f : FirstAnswered (By false) lines old new Appends)
        × IsFirst (May (length f.first)) f.later

    -- How a run ends. Each line that is answered was let through. Without a fault the whole input was read and its lines are
    -- answered, or the last answer was BYE. At Read all lines that came are answered. At TooLong a line beyond the bound
    -- began, or all reads were made and the input had not ended. At Gate a line was not let through, by a gate that may hold
    -- it back; at Gone a line that waits was given up, by a gate that may. At Short nothing was read.
    abbrev pub Ran : Option SessionFault → Type 0
    Ran None = WholeAnswered (By false) lines old new
        ⊎ FirstAnswered (By true) lines old new Appends
    Ran (Some Read) = AllAnswered (By false) lines old new
    Ran (Some Write) = (quit : Bool) × FirstAnswered (By quit) lines old new AppendsFront
    Ran (Some TooLong) = WasTooLong (By false) lines old new reads
    Ran (Some Gate) = EndsBefore (MayHold gate)
    Ran (Some Gone) = EndsBefore (MayGiveUp gate)
    Ran (Some Short) = (new ≡ old) × (last ≡ (nothing_had, d))

  -- And then every handle was spent, in the order of QUIT, whatever was said of it.
  pub record Served (gate : Strictness) (lines reads : ℕ) (old new : Devices) (desk desk' : D)
      (left : Kept) (fault : Option SessionFault) : Type 0 where
    pub last : Kept × D
    pub ran : Ran gate lines reads old new desk last fault
    pub spent : Plays says (spend_all last.0.handles) last.1 (Replied Bye) [] desk'
    pub kept : left ≡ record last.0 { handles = [] }

module _ {W D G : Type 0} (says : D → (q : Query) → Said q → D → Type 0)
    (strict : G × ℕ → Strictness) (contents : W → Option (List ℕ)) where
  -- a run took these lines, each of which was let through
  abbrev pub Took : Progress G × D × Tally W → List Line → Progress G × D × Tally W → Type 0
  Took old lines new = (new.0.keeping ≡ old.0.keeping) × (new.0.gate ≡ old.0.gate)
      × AreLet (strict old.0.gate) 0 (length lines)
      × Answers (line_turn old.0.keeping says)
      (quitting false (stands contents old)) lines (quitting false (stands contents new))

  -- or no further one is taken
  abbrev pub IsOver : Progress G × D × Tally W → List Line → Stop → Progress G × D × Tally W →
      Type 0
  IsOver old lines why new =
      Halts old.0.keeping says (strict old.0.gate) 0 (stands contents old) lines why
      (stands contents new)
