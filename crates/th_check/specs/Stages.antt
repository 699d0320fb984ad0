-- The entries of a trace, judged line by line (docs/FORMATS.md, "Checks"): the machine that remembers
-- everything goes through them again.
use Rattle.std.specs.Prelude.{◌≡◌, ℕ, ◌+◌, List, nat_lt, ◌==◌, true, Option, Some, None, if◌then◌else◌}
use Rattle.th_log.specs.History.{Machine}
use Rattle.th_traces.specs.Entries.{end_of}
use Rattle.th_traces.specs.Grammars.{Grammar, reply_of}
use Rattle.th_check.specs.declared.fault.Expected.{Expected}

-- the most entries of a trace
abbrev pub most_entries : ℕ
most_entries = 1000000

-- Below a picture, after so many entries: a call is due, or the end line; or the reply to a call is; or
-- the trace has ended. E are the machine's states, C the calls.
pub data Stage (E C : Type 0) : Type 0 where
  CallDue : (state : E) (count : ℕ) → Stage E C
  ReplyDue : (state : E) (count : ℕ) (call : C) → Stage E C
  Ended : (state : E) (count : ℕ) → Stage E C

-- What a line does: it leads on, or it is bad, or it is a reply of good form that is not the machine's.
pub data Turn (P : Type 0) : Type 0 where
  On : (next : P) → Turn P
  Bad : Turn P
  Illegal : Turn P

-- what the lines of one kind's entries say: a call, and a reply to a call; and how the check tells the
-- reply that it expects
pub record Words (C R : Type 0) : Type 0 where
  pub call_of : List ℕ → Option C
  pub reply_of : C → List ℕ → Option R
  pub told : Option R → Expected

-- by how the lines are spelled and read, in a trace of this form
abbrev pub words_of : {F C R : Type 0} → Grammar F C R → (Option R → Expected) → F → Words C R
words_of g told form = record {
  call_of = g.call_of form;
  reply_of = reply_of g;
  told = told;
}

-- some state of the machine gives this reply to the call
abbrev pub GivenBy : {E S C R : Type 0} → Machine E S C R → C → R → Type 0
GivenBy {E} m call reply = (state : E) × (reply ≡ (m.step state call).0)

-- this is known of each reply of the machine
abbrev pub IsKnown : {E S C R : Type 0} → Machine E S C R → (C → R → Type 0) → Type 0
IsKnown {E} {S} {C} m Known = (state : E) (call : C) → Known call (m.step state call).0

module _ {E S C R : Type 0} (m : Machine E S C R) (words : Words C R) where
  -- where a call is due, or the end line: the call of a further entry, or the number of the entries
  abbrev pub begins : E → ℕ → Option C → Option ℕ → Option (Stage E C)
  begins state count (Some call) end =
      if nat_lt count most_entries then Some (ReplyDue state count call) else None
  begins state count None (Some told) = if told == count then Some (Ended state count) else None
  begins state count None None = None

  -- the stage after a line where a call is due, or the end line
  abbrev pub begun : E → ℕ → List ℕ → Option (Stage E C)
  begun state count line = begins state count (words.call_of line) (end_of line)

  -- the call is ready, and the line says the machine's reply to it
  abbrev pub SaysReply : E → C → List ℕ → Type 0
  SaysReply state call line =
      (m.ready (m.see state) call ≡ true) × (words.reply_of call line ≡ Some (m.step state call).0)

  -- the line says a reply to the call; but the call is not ready, or the machine's is another one
  abbrev pub SaysAnother : E → C → List ℕ → Type 0
  SaysAnother state call line = (reply : R) × (words.reply_of call line ≡ Some reply)
      × (m.ready (m.see state) call ≡ true → reply ≡ (m.step state call).0 → ⊥)

  -- the machine's reply to a call, none where the call would wait
  abbrev pub reply_at : E → C → Option R
  reply_at state call =
      if m.ready (m.see state) call then Some (m.step state call).0 else None

  -- the reply to a call is due, and this is the one that is expected
  abbrev pub Expects : Stage E C → Expected → Type 0
  Expects (ReplyDue state count call) expected = expected ≡ words.told (reply_at state call)
  Expects stage expected = ⊥

  -- the stage after an entry
  abbrev pub answered : E → ℕ → C → Stage E C
  answered state count call = CallDue (m.step state call).1 (count + 1)

  -- what a line does at a stage
  abbrev pub Turns : Stage E C → List ℕ → Turn (Stage E C) → Type 0
  Turns (CallDue state count) line (On next) = begun state count line ≡ Some next
  Turns (CallDue state count) line Bad = begun state count line ≡ None
  Turns (CallDue state count) line Illegal = ⊥
  Turns (ReplyDue state count call) line (On next) =
      SaysReply state call line × (next ≡ answered state count call)
  Turns (ReplyDue state count call) line Bad = words.reply_of call line ≡ None
  Turns (ReplyDue state count call) line Illegal = SaysAnother state call line
  Turns (Ended state count) line (On next) = ⊥
  Turns (Ended state count) line Bad = Unit {0}
  Turns (Ended state count) line Illegal = ⊥
