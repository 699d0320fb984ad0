-- What a run of the program does with its streams.
use Rattle.std.specs.Prelude.{◌≡◌, ◌≢◌, ◌⊎◌, ℕ, ◌^◌, List, [], ◌∷◌, ◌++◌, codes, Option, Some, None}
use Rattle.std.specs.Fmt.{decimal}
use Rattle.std.specs.Io.KnownBytes.{Appends}
use Rattle.clap.specs.Words.{fault_of}
use Rattle.th_lines.specs.Tally.{Tally}
use Rattle.th_check.specs.Checked as check
use Rattle.th_check.specs.Checked.{Checked}
use Rattle.th_check.specs.declared.fault.CheckFault.{CheckFault}
use Rattle.th_check.specs.declared.fault.CheckFault.TheVariants as check_fault
use Rattle.th_check.specs.declared.verdict.Verdict.{Verdict}
use Rattle.th_check.specs.declared.verdict.Verdict.TheVariants as verdict
use Rattle.th_replay.specs.Outcome.{Devices, Replayed, Stopped}
use Rattle.th_replay.specs.Schedule.{machine, start}
use Rattle.th_replay.specs.declared.fault.ReplayFault.{ReplayFault}
use Rattle.th_replay.specs.declared.fault.ReplayFault.TheVariants as fault
use Rattle.th_program.specs.declared.end.End.{End}
use Rattle.th_program.specs.declared.end.End.TheVariants.{Done, Help, Read, Write, TooLong, Short, Usage, Illegal, Bad}
use Rattle.th_program.specs.Status.{explanation_of}
use Rattle.th_program.specs.Words.{AreCheck, AreReplay, AreHelp, AreVersion, AreNone, command_line}

-- what is known of standard error: the bytes written, and how many calls failed
pub record Errors : Type 0 where
  pub written : Option (List ℕ)
  pub failures : ℕ

abbrev pub errors_of : {E : Type 0} → (E → Option (List ℕ)) → Tally E → Errors
errors_of contents errors =
    record { written = contents errors.device; failures = errors.failures }

-- the text is on standard output, or could not be written
abbrev pub IsHelpOf : List ℕ → Option (List ℕ) → Option (List ℕ) → End → Type 0
IsHelpOf text before after Help = Appends before after text
IsHelpOf text before after Write = Unit {0}
IsHelpOf text before after end = ⊥

-- the line that tells a verdict
abbrev pub word_of : Verdict → List ℕ
word_of (verdict.Legal count) = codes "legal "
word_of (verdict.Illegal number) = codes "illegal "
word_of (verdict.BadTrace number) = codes "bad "

abbrev pub number_of : Verdict → ℕ
number_of (verdict.Legal count) = count
number_of (verdict.Illegal number) = number
number_of (verdict.BadTrace number) = number

abbrev pub verdict_line : Verdict → List ℕ
verdict_line said = word_of said ++ (decimal (number_of said) ++ 10 ∷ [])

module _ (before after : Devices) where
  -- nothing was read
  pub record IsUnread : Type 0 where
    pub input : after.remaining ≡ before.remaining
    pub reads : after.calls ≡ before.calls

  -- the schedule was carried out to its end
  abbrev pub IsReplayed : Type 0
  IsReplayed = (count : ℕ) × Replayed machine start 1000000 before after count

  -- the schedule was stopped by this fault
  abbrev pub IsStopped : ReplayFault → Type 0
  IsStopped fault = Stopped machine start 1000000 (2 ^ 32) before after fault

  -- how a run ends that carries out a schedule
  abbrev pub EndsReplay : End → Type 0
  EndsReplay Done = IsReplayed
  EndsReplay Read = IsStopped fault.Read
  EndsReplay Write = IsStopped fault.Write
  EndsReplay TooLong = IsStopped fault.TooLong
  EndsReplay Short = IsStopped fault.Short
  EndsReplay end = ⊥

  -- The text that was read has this verdict, and its line is on standard output.
  pub record IsChecked (said : Verdict) : Type 0 where
    pub checked : Checked before.remaining after.remaining said
    pub told : Appends before.contents after.contents (verdict_line said)

  -- the check was stopped by this fault, with nothing on standard output
  abbrev pub IsUnchecked : CheckFault → Type 0
  IsUnchecked fault =
      check.Stopped before.remaining after.remaining before.calls after.calls (2 ^ 32) fault
      × (after.contents ≡ before.contents)

  -- how a run ends that checks a trace
  abbrev pub EndsCheck : End → Type 0
  EndsCheck Done = (count : ℕ) × IsChecked (verdict.Legal count)
  EndsCheck Illegal = (number : ℕ) × IsChecked (verdict.Illegal number)
  EndsCheck Bad = (number : ℕ) × IsChecked (verdict.BadTrace number)
  EndsCheck Read = IsUnchecked check_fault.Read
  EndsCheck Write = (said : Verdict) × Checked before.remaining after.remaining said
  EndsCheck TooLong = IsUnchecked check_fault.TooLong
  EndsCheck Short = IsUnchecked check_fault.Short
  EndsCheck end = ⊥

  -- how a run ends that was asked for help: with a text on standard output, where there was memory
  -- for it and the writer took it
  abbrev pub EndsHelp : End → Type 0
  EndsHelp Help = ((text : List ℕ) × Appends before.contents after.contents text) × IsUnread
  EndsHelp Write = IsUnread
  EndsHelp Short = (after.contents ≡ before.contents) × IsUnread
  EndsHelp end = ⊥

  -- how a run ends whose words are wrong: with nothing on standard output
  abbrev pub EndsRefused : End → Type 0
  EndsRefused Usage = (after.contents ≡ before.contents) × IsUnread
  EndsRefused Short = (after.contents ≡ before.contents) × IsUnread
  EndsRefused end = ⊥

-- the text was written on standard error, unless a write of it failed
abbrev pub IsSaid : Errors → Errors → List ℕ → Type 0
IsSaid before after text =
    before.failures ≡ 0 → after.failures ≡ 0 → Appends before.written after.written text

-- the line that says what stopped the run, where anything did
abbrev pub line_of : Option (List ℕ) → List ℕ
line_of None = []
line_of (Some text) = text ++ 10 ∷ []

-- Standard error has the line of what stopped the run. Where the words were wrong, it has `clap`'s
-- text on them instead, of which nothing is said here.
abbrev pub IsExplained : Errors → Errors → End → Type 0
IsExplained before after end =
    end ≢ Usage → IsSaid before after (line_of (explanation_of end))

-- how a run by these words ends
pub record Ends (words : List (List ℕ)) (before after : Devices) (end : End) : Type 0 where
  pub replay : AreReplay words → EndsReplay before after end
  pub check : AreCheck words → EndsCheck before after end
  pub help : AreHelp words → EndsHelp before after end
  pub version : AreVersion words → EndsHelp before after end
  pub none : AreNone words → EndsRefused before after end
  pub wrong : fault_of command_line words ≢ []
      → EndsHelp before after end ⊎ EndsRefused before after end
