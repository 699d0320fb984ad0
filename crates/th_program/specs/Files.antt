-- What a run does that checks files.
use Rattle.std.specs.Prelude.{◌≡◌, ◌≢◌, ◌⊎◌, ◌==◌, ◌+◌, ◌≤◌, ℕ, zero, suc, Bool, false, true, IfSome, IsSome, List, [], ◌∷◌, ◌++◌, map, string_bytes, codes, Option, Some, None, Result, Ok, Err, if◌then◌else◌}
use Rattle.std.specs.Fmt.{decimal}
use Rattle.std.specs.Io.KnownBytes.{Appends, Consumes, IsAtEnd}
use Rattle.std.specs.List.{AllByRecursion}
use Rattle.std.specs.Option.{option_map}
use Rattle.clap.specs.Words.{fault_of}
use Rattle.th_lines.specs.Lines.{Line, lines_of}
use Rattle.th_check.specs.Checked.{Checked}
use Rattle.th_check.specs.Joined.{AreAdded, IsPart, Joins, Part, Reach}
use Rattle.th_check.specs.declared.fault.CheckFault.{CheckFault}
use Rattle.th_check.specs.declared.fault.CheckFault.TheVariants as fault
use Rattle.th_check.specs.declared.parts.Joined.{Joined}
use Rattle.th_check.specs.declared.parts.Joined.TheVariants.{Judged, Apart}
use Rattle.th_check.specs.declared.verdict.Verdict.{Verdict}
use Rattle.th_check.specs.declared.verdict.Verdict.TheVariants as verdict
use Rattle.th_program.specs.declared.end.End.{End}
use Rattle.th_program.specs.declared.end.End.TheVariants as end
use Rattle.th_program.specs.declared.part_names.Place.{Place}
use Rattle.th_program.specs.PartNames.{IsNamed, IsUnnamed, Stands}
use Rattle.th_program.specs.Run.{Errors, IsSaid, verdict_line}
use Rattle.th_program.specs.Shown.{shown}
use Rattle.th_program.specs.Status.{status_of}
use Rattle.th_program.specs.Listed.{held_by, listed}
use Rattle.th_program.specs.Words.{AreSources, HasFiles, anchors_of, arguments_by, asked_by, command_line, files_of, list_of, manner_of}
use Rattle.th_program.specs.Whole.{lack_if, lack_line}
use Rattle.th_program.specs.Anchors.{AnchorLine, LackBy, anchors_in, told_if}
use Rattle.th_program.specs.declared.modes.Asked.{Asked}
use Rattle.th_program.specs.declared.modes.Manner.{Manner}
use Rattle.th_program.specs.declared.modes.Manner.TheVariants as manner
use Rattle.th_program.specs.declared.modes.Sources.{Sources}
use Rattle.th_program.specs.declared.modes.Sources.TheVariants as sources
use Rattle.th_program.specs.declared.modes.Wanted.{Wanted}
use Rattle.th_program.specs.declared.whole.Lack.{Lack}

-- what came of a file: the verdict on it, or why there is none
abbrev pub Outcome : Type 0
Outcome = Result Verdict CheckFault

-- the verdict is on the bytes of the file, as far as they are known
abbrev pub IsOutcome : Option (List ℕ) → Outcome → Type 0
IsOutcome held (Ok said) = (left : Option (List ℕ)) × Checked held left said
IsOutcome held (Err why) = Unit {0}

-- how a run ends that has such an outcome alone
abbrev pub end_of : Outcome → End
end_of (Ok (verdict.Legal count)) = end.Done
end_of (Ok (verdict.Illegal number)) = end.Illegal
end_of (Ok (verdict.BadTrace number)) = end.Bad
end_of (Err fault.Read) = end.Read
end_of (Err fault.TooLong) = end.TooLong
end_of (Err fault.Short) = end.Short

-- of two ends the first that says what stopped a check, else the first that finds a fault in a trace
abbrev pub worse : End → End → End
worse one other =
    if status_of one == 1 then one
    else if status_of other == 1 then other
    else if status_of one == 3 then one
    else other

-- a file by its name, with its outcome
abbrev pub Told : Type 0
Told = List ℕ × Outcome

-- the worst of all
abbrev pub worst : End → List Told → End
worst so_far [] = so_far
worst so_far (f ∷ later) = worst (worse so_far (end_of f.1)) later

-- the words that tell a fault
abbrev pub fault_word : CheckFault → List ℕ
fault_word fault.Read = codes "read fault"
fault_word fault.TooLong = codes "too long"
fault_word fault.Short = codes "no memory"

-- the line on standard output that tells of a file, and the one on standard error
abbrev pub file_line : Told → List ℕ
file_line (name, Ok said) = shown name ++ (codes ": " ++ verdict_line said)
file_line (name, Err why) = []

abbrev pub fault_line : Told → List ℕ
fault_line (name, Ok said) = []
fault_line (name, Err why) =
    codes "topichub: " ++ (shown name ++ (codes ": " ++ (fault_word why ++ 10 ∷ [])))

-- the lines of all files, in their order
abbrev pub lines_by : (Told → List ℕ) → List Told → List ℕ
lines_by line [] = []
lines_by line (f ∷ later) = line f ++ lines_by line later

-- Each of the files was checked, by what is known of the bytes that a name stands for. What came of them
-- was told in their order, and the run ends by the worst of it.
pub record EachIsTold (holds : List ℕ → Option (List ℕ)) (names : List (List ℕ))
    (before after : Option (List ℕ)) (people : Bool) (errors errors' : Errors) (so_far : End)
    : Type 0 where
  pub files : List Told
  pub named : map (λ f. f.0) files ≡ names
  pub seen : AllByRecursion (λ f. IsOutcome (holds f.0) f.1) files
  pub told : Appends before after (lines_by file_line files)
  pub said : people ≡ false → IsSaid errors errors' (lines_by fault_line files)
  pub end : so_far ≡ worst end.Done files

-- what is known of the whole text of a file
pub record IsTextOf (held : Option (List ℕ)) (lines : List Line) : Type 0 where
  pub input : List ℕ
  pub left : Option (List ℕ)
  pub read : Consumes held left input
  pub whole : IsAtEnd left
  pub is : lines ≡ lines_of input

-- a file that is a part of a history: its name, its lines, and how many entries they have
pub record PartFile : Type 0 where
  pub name : List ℕ
  pub lines : List Line
  pub entries : ℕ

-- this is known of its text
abbrev pub IsFile : (List ℕ → Option (List ℕ)) → PartFile → Type 0
IsFile holds f =
    IsTextOf (holds f.name) f.lines
    × ((part : Part) × IsPart f.lines part × (part.count ≡ f.entries))

-- by their names the files may stand one behind the other, from so many entries on in a history that begins with the
-- event `first` of the topic
abbrev pub StandFrom : (topic : List ℕ) (first before : ℕ) → List PartFile → Type 0
StandFrom topic first before [] = Unit {0}
StandFrom topic first before (f ∷ later) =
    Stands topic first before (before + f.entries) f.name
    × StandFrom topic first (before + f.entries) later

-- one of the files is named as a part of this topic's history
abbrev pub IsNamedIn : List ℕ → List PartFile → Type 0
IsNamedIn topic [] = ⊥
IsNamedIn topic (f ∷ later) =
    ((digits : List ℕ) × IsNamed f.name topic digits) ⊎ IsNamedIn topic later

-- where their history stands by the files' names: the topic, and the number of the first event
abbrev pub IsPlace : List PartFile → Option (List ℕ × ℕ) → Type 0
IsPlace files None = AllByRecursion (λ f. IsUnnamed f.name) files
IsPlace files (Some (topic, first)) =
    (1 ≤ first) × StandFrom topic first 0 files × IsNamedIn topic files

-- how many entries they have together
abbrev pub entries_in : List PartFile → ℕ
entries_in [] = 0
entries_in (f ∷ later) = f.entries + entries_in later

-- These files are one history with so many entries, which has come there, and stands at this place by their names.
pub record AreOneHistory (holds : List ℕ → Option (List ℕ)) (names : List (List ℕ)) (count : ℕ)
    (there : Option Reach) (place : Option (List ℕ × ℕ)) : Type 0 where
  pub files : List PartFile
  pub named : map (λ f. f.name) files ≡ names
  pub are : AllByRecursion (IsFile holds) files
  pub added : AreAdded None (map (λ f. f.lines) files) count there
  pub placed : IsPlace files place

-- the same of what the code has of it
abbrev pub place_of : Option Place → Option (List ℕ × ℕ)
place_of = option_map (λ p. (p.topic.now, p.first))

-- what is told of a history's place: from which event to which, and of which topic
abbrev pub place_told : Option (List ℕ × ℕ) → ℕ → List ℕ
place_told None count = []
place_told (Some (topic, first)) zero = []
place_told (Some (topic, first)) (suc more) =
    32 ∷ (decimal first ++ 45 ∷ (decimal (first + more) ++ 32 ∷ shown topic))

-- the line that tells of a history, and the one that tells which file breaks it
abbrev pub joined_line : ℕ → Option (List ℕ × ℕ) → List ℕ
joined_line count place = codes "joined " ++ (decimal count ++ (place_told place count ++ 10 ∷ []))

abbrev pub broken_line : List ℕ → Joined → List ℕ
broken_line name (Judged said) = file_line (name, Ok said)
broken_line name Apart = codes "gap " ++ (shown name ++ 10 ∷ [])

-- the file is judged as the next part of a history, by what is known of its bytes
abbrev pub IsNext : Option (List ℕ) → Option Reach → Joined → Option Reach → Type 0
IsNext held here said there = (left : Option (List ℕ)) × Joins held left here said there

-- how many entries a file has that goes on with a history
abbrev pub entries_of : Result Joined CheckFault → Option ℕ
entries_of (Ok (Judged (verdict.Legal count))) = Some count
entries_of (Ok (Judged said)) = None
entries_of (Ok Apart) = None
entries_of (Err why) = None

-- The file is legal and begins where the history of these files ends, and by its name it stands elsewhere, wherever that
-- history stands by theirs.
pub record IsMisplaced (held : Option (List ℕ)) (files : List PartFile) (name : List ℕ)
    (here : Option Reach) : Type 0 where
  pub count : ℕ
  pub there : Option Reach
  pub next : IsNext held here (Judged (verdict.Legal count)) there
  pub apart : (topic : List ℕ) (first : ℕ) → 1 ≤ first → StandFrom topic first 0 files
      → Stands topic first (entries_in files) (entries_in files + count) name → ⊥

-- why this is said of a file that does not go on with the history of these files
abbrev pub Breaks : Option (List ℕ) → List PartFile → (name : List ℕ) → (here : Option Reach)
    → Joined → Type 0
Breaks held files name here (Judged said) = IsNext held here (Judged said) here
Breaks held files name here Apart = IsNext held here Apart here ⊎ IsMisplaced held files name here

-- The files before this one are one history, and it does not go on with it: this is said of it.
pub record IsBrokenBy (holds : List ℕ → Option (List ℕ)) (names : List (List ℕ)) (said : Joined)
    (before after : Option (List ℕ)) : Type 0 where
  pub earlier : List (List ℕ)
  pub name : List ℕ
  pub later : List (List ℕ)
  pub parts : names ≡ earlier ++ name ∷ later
  pub count : ℕ
  pub there : Option Reach
  pub place : Option (List ℕ × ℕ)
  pub so_far : AreOneHistory holds earlier count there place
  pub breaks : Breaks (holds name) so_far.files name there said
  pub told : Appends before after (broken_line name said)

-- what is wanted of a history: whether it is to be whole, and what its files are to be, if that was told
pub record Wants : Type 0 where
  pub is_whole : Bool
  pub anchors : Option (List AnchorLine)

abbrev pub wanted_of : Wanted → Wants
wanted_of wanted = record { is_whole = wanted.whole; anchors = told_if wanted.anchors }

-- what is lacking is the first of two things, if it is anything, else the other
abbrev pub IsFirst : Option Lack → (Option Lack → Type 0) → Option Lack → Type 0
IsFirst (Some lack) other found = found ≡ Some lack
IsFirst None other found = other found

-- what a history of these files, which has come there and stands at this place, lacks of what is wanted
abbrev pub IsLack : (List ℕ → Option (List ℕ)) → Wants → List (List ℕ) → Option Reach
    → Option (List ℕ × ℕ) → Option Lack → Type 0
IsLack holds wants names there place =
    IsFirst (lack_if wants.is_whole there place) (LackBy holds wants.anchors names)

-- These files are one history, which lacks this of what is wanted of it. The line is told.
pub record IsHistoryTold (holds : List ℕ → Option (List ℕ)) (wants : Wants)
    (names : List (List ℕ)) (lack : Option Lack) (line : ℕ → Option (List ℕ × ℕ) → List ℕ)
    (before after : Option (List ℕ)) : Type 0 where
  pub count : ℕ
  pub there : Option Reach
  pub place : Option (List ℕ × ℕ)
  pub are : AreOneHistory holds names count there place
  pub lacks : IsLack holds wants names there place lack
  pub told : Appends before after (line count place)

-- how a run ends that checks files as one history, of which this is wanted
abbrev pub EndsJoined : (List ℕ → Option (List ℕ)) → Wants → List (List ℕ)
    → (before after : Option (List ℕ)) → End → Type 0
EndsJoined holds wants names before after end.Done =
    IsHistoryTold holds wants names None joined_line before after
EndsJoined holds wants names before after end.Partial = (lack : Lack)
    × IsHistoryTold holds wants names (Some lack) (λ count place. lack_line lack names)
    before after
EndsJoined holds wants names before after end.Illegal =
    (number : ℕ) × IsBrokenBy holds names (Judged (verdict.Illegal number)) before after
EndsJoined holds wants names before after end.Bad =
    (number : ℕ) × IsBrokenBy holds names (Judged (verdict.BadTrace number)) before after
EndsJoined holds wants names before after end.Apart = IsBrokenBy holds names Apart before after
EndsJoined holds wants names before after end.Read = after ≡ before
EndsJoined holds wants names before after end.TooLong = after ≡ before
EndsJoined holds wants names before after end.Short = after ≡ before
EndsJoined holds wants names before after end.Write = Unit {0}
EndsJoined holds wants names before after so = ⊥

-- the line of a history that lacks this, and how a run ends by it
abbrev pub history_line : List (List ℕ) → ℕ → Option (List ℕ × ℕ) → Option Lack → List ℕ
history_line names count place None = joined_line count place
history_line names count place (Some lack) = lack_line lack names

abbrev pub end_with : Option Lack → End
end_with None = end.Done
end_with (Some lack) = end.Partial

-- the run ends so, and the line is on standard output, unless a write to it failed
abbrev pub TellsHistory : List (List ℕ) → ℕ → Option (List ℕ × ℕ) → Option Lack
    → (before after : Option (List ℕ)) → End → Type 0
TellsHistory names count place lack before after ends = ends ≢ end.Write
    → (ends ≡ end_with lack) × Appends before after (history_line names count place lack)

-- how a run ends at what is said of a file
abbrev pub end_by : Result Joined CheckFault → End
end_by (Ok (Judged said)) = end_of (Ok said)
end_by (Ok Apart) = end.Apart
end_by (Err why) = end_of (Err why)

-- what is on standard output then
abbrev pub IsToldBy : List ℕ → Result Joined CheckFault → (before after : Option (List ℕ)) → Type 0
IsToldBy name (Ok said) before after = Appends before after (broken_line name said)
IsToldBy name (Err why) before after = after ≡ before

-- the run ends so, and this is on standard output, unless a write to it failed
abbrev pub TellsBroken : List ℕ → Result Joined CheckFault → (before after : Option (List ℕ)) → End
    → Type 0
TellsBroken name said before after ends =
    ends ≢ end.Write → (ends ≡ end_by said) × IsToldBy name said before after

-- each of these lists of files is one history, or is told not to be; the run ends by the worst of it
abbrev pub EndsEach : (List ℕ → Option (List ℕ)) → Wants → List (List (List ℕ)) → (so_far : End)
    → (before after : Option (List ℕ)) → End → Type 0
EndsEach holds wants [] so_far before after ends = (after ≡ before) × (ends ≡ so_far)
EndsEach holds wants (names ∷ later) so_far before after ends =
    (mid : Option (List ℕ)) × (said : End) × EndsJoined holds wants names before mid said
    × EndsEach holds wants later (worse so_far said) mid after ends

-- how a run ends that checks the files of each topic in a folder
pub record EndsFolder (holds : List ℕ → Option (List ℕ)) (wants : Wants)
    (before after : Option (List ℕ)) (ends : End) : Type 0 where
  pub topics : List (List (List ℕ))
  pub each : EndsEach holds wants topics end.Done before after ends

-- how a run ends that could not read a folder, or found none there
abbrev pub EndsUnread : End → (before after : Option (List ℕ)) → Type 0
EndsUnread end.Read before after = after ≡ before
EndsUnread end.Short before after = after ≡ before
EndsUnread end.Usage before after = after ≡ before
EndsUnread so before after = ⊥

-- how a run ends that checks histories: one of these files, or of a folder that stands alone one of each topic
abbrev pub EndsHistories : (List ℕ → Option (List ℕ)) → Wants → List (List ℕ)
    → (before after : Option (List ℕ)) → End → Type 0
EndsHistories holds wants names before after ends =
    EndsJoined holds wants names before after ends
    ⊎ ((folder : List ℕ) × (names ≡ folder ∷ []) × (holds folder ≡ None)
    × (ends ≢ end.Write
    → EndsFolder holds wants before after ends ⊎ EndsUnread ends before after))

-- the words ask rightly to check files
pub record AreFiles (words : List (List ℕ)) : Type 0 where
  pub taken : fault_of command_line words ≡ []
  pub asked : asked_by words ≡ Asked.Check
  pub files : HasFiles (arguments_by words)
  pub named : IsSome (files_of (arguments_by words)) ⊎ IsSome (list_of (arguments_by words))

-- how a run ends that checks these files so, of which anchors tell if any are given
abbrev pub EndsNamed : (List ℕ → Option (List ℕ)) → Manner → Option (List AnchorLine)
    → List (List ℕ) → (before after : Option (List ℕ)) → Bool → Errors → Errors → End → Type 0
EndsNamed holds manner.Each told names before after people errors errors' ends =
    ends ≢ end.Write → EachIsTold holds names before after people errors errors' ends
EndsNamed holds manner.Joined told names before after people errors errors' ends =
    EndsHistories holds (record { is_whole = false; anchors = told }) names before after ends
EndsNamed holds manner.Whole told names before after people errors errors' ends =
    EndsHistories holds (record { is_whole = true; anchors = told }) names before after ends

-- how a run ends whose list of files is not read, or names none
abbrev pub EndsUnlisted : End → Type 0
EndsUnlisted end.Read = Unit {0}
EndsUnlisted end.TooLong = Unit {0}
EndsUnlisted end.Short = Unit {0}
EndsUnlisted end.Usage = Unit {0}
EndsUnlisted so = ⊥

-- how a run ends that checks the files that a list names, of which this is known
abbrev pub EndsListed : (List ℕ → Option (List ℕ)) → Manner → Option (List AnchorLine)
    → Option (List ℕ) → (before after : Option (List ℕ)) → Bool → Errors → Errors → End → Type 0
EndsListed holds so told list before after people errors errors' ends =
    ((names : List (List ℕ)) × IfSome list (λ bytes. names ≡ listed bytes)
    × EndsNamed holds so told names before after people errors errors' ends)
    ⊎ (EndsUnlisted ends × (after ≡ before))

-- the same of files that are named by words, or by a list
abbrev pub EndsSources : (List ℕ → Option (List ℕ)) → (input : Option (List ℕ)) → Manner
    → Option (List AnchorLine) → Sources
    → (before after : Option (List ℕ)) → Bool → Errors → Errors → End → Type 0
EndsSources holds input so told (sources.Words names) before after people errors errors' ends =
    EndsNamed holds so told (map string_bytes names.items) before after people errors errors' ends
EndsSources holds input so told (sources.List list) before after people errors errors' ends =
    EndsListed holds so told (held_by holds input (string_bytes list)) before after people
    errors errors' ends

-- how a run ends whose anchors are not read
abbrev pub EndsUntold : End → Type 0
EndsUntold end.Read = Unit {0}
EndsUntold end.TooLong = Unit {0}
EndsUntold end.Short = Unit {0}
EndsUntold so = ⊥

-- how a run ends that checks files of which anchors tell, those in the file with this name
abbrev pub EndsAnchored : (List ℕ → Option (List ℕ)) → (input : Option (List ℕ)) → Manner
    → List ℕ → Sources
    → (before after : Option (List ℕ)) → Bool → Errors → Errors → End → Type 0
EndsAnchored holds input so name which before after people errors errors' ends =
    ((told : List AnchorLine) × IfSome (holds name) (λ bytes. told ≡ anchors_in bytes)
    × EndsSources holds input so (Some told) which before after people errors errors' ends)
    ⊎ (EndsUntold ends × (after ≡ before))

-- the same where such a file is named, if one is
abbrev pub EndsBy : (List ℕ → Option (List ℕ)) → (input : Option (List ℕ)) → Manner
    → Option (List ℕ) → Sources
    → (before after : Option (List ℕ)) → Bool → Errors → Errors → End → Type 0
EndsBy holds input so None which before after people errors errors' ends =
    EndsSources holds input so None which before after people errors errors' ends
EndsBy holds input so (Some name) which before after people errors errors' ends =
    EndsAnchored holds input so name which before after people errors errors' ends

-- It checks the files that these words name, or ends for want of memory with nothing on standard output.
abbrev pub EndsFiles : (List ℕ → Option (List ℕ)) → (input : Option (List ℕ)) → List (List ℕ)
    → (before after : Option (List ℕ)) → Bool → Errors → Errors → End → Type 0
EndsFiles holds input words before after people errors errors' ends =
    let rows = arguments_by words in
    ((so : Manner) × (which : Sources) × (manner_of rows ≡ Some so) × AreSources rows which
    × EndsBy holds input so (anchors_of rows) which before after people errors errors' ends)
    ⊎ ((ends ≡ end.Short) × (after ≡ before))
