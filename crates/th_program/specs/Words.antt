-- What the words of the command line ask for.
use Rattle.std.specs.Prelude.{◌≡◌, ◌⊎◌, ◌≤◌, ◌||◌, ◌&&◌, not, ℕ, Bool, List, [], ◌∷◌, Option, Some, None, is_some, IfSome, IsSome, Result, MatchResult, codes, map, string_bytes, true, false, if◌then◌else◌}
use Rattle.std.specs.Str.{bytes_eq}
use Rattle.std.specs.Str.Parse.{IsNumeral, digits_value, without_leading_plus}
use Rattle.std.specs.Option.{option_map, unwrap_or}
use Rattle.clap.specs.Words.{App, Row, Rule, all_of, fault_of, first_of, new_app, new_rule, subcommand_of, with_rule, with_subcommand}
use Rattle.clap.specs.declared.builder.action.ArgAction.TheVariants.{Append, SetTrue}
use Rattle.th_program.specs.declared.modes.Manner.{Manner}
use Rattle.th_program.specs.declared.modes.Manner.TheVariants as manner
use Rattle.th_program.specs.declared.modes.Mode.{Mode}
use Rattle.th_program.specs.declared.modes.Mode.TheVariants.{Check, CheckFiles, Replay, Serve}
use Rattle.th_program.specs.declared.modes.Serving.{Serving}
use Rattle.th_program.specs.declared.modes.Serving.TheVariants as serving
use Rattle.th_program.specs.declared.modes.Sources.{Sources}
use Rattle.th_program.specs.declared.modes.Sources.TheVariants as sources
use Rattle.th_program.specs.declared.modes.Sources.TheVariants.{Words}
use Rattle.th_program.specs.declared.modes.Standing.{Standing}
use Rattle.th_program.specs.declared.modes.Asked.{Asked}
use Rattle.th_program.specs.declared.modes.ModeFault.{ModeFault}
use Rattle.th_program.specs.declared.modes.ModeFault.TheVariants.{Usage, Help, Short}

-- the words are the program's name and `replay`
abbrev pub AreReplay : List (List ℕ) → Type 0
AreReplay words = (name : List ℕ) × (words ≡ name ∷ codes "replay" ∷ [])

-- the words are the program's name and `check`
abbrev pub AreCheck : List (List ℕ) → Type 0
AreCheck words = (name : List ℕ) × (words ≡ name ∷ codes "check" ∷ [])

-- the words are the program's name and `--help`
abbrev pub AreHelp : List (List ℕ) → Type 0
AreHelp words = (name : List ℕ) × (words ≡ name ∷ codes "--help" ∷ [])

-- the words are the program's name and `--version`
abbrev pub AreVersion : List (List ℕ) → Type 0
AreVersion words = (name : List ℕ) × (words ≡ name ∷ codes "--version" ∷ [])

-- the only word is the program's name
abbrev pub AreNone : List (List ℕ) → Type 0
AreNone words = (name : List ℕ) × (words ≡ name ∷ [])

-- help was asked for, or the version
abbrev pub IsHelp : ModeFault → Type 0
IsHelp (Help text) = Unit {0}
IsHelp (Usage text) = ⊥
IsHelp Short = ⊥

-- the words are wrong
abbrev pub IsUsage : ModeFault → Type 0
IsUsage (Usage text) = Unit {0}
IsUsage (Help text) = ⊥
IsUsage Short = ⊥

-- the answer is a replay, or memory was refused
abbrev pub GivesReplay : Result Mode ModeFault → Type 0
GivesReplay r = MatchResult r (λ m. m ≡ Replay) (λ e. e ≡ Short)

-- the answer is a check, or memory was refused
abbrev pub GivesCheck : Result Mode ModeFault → Type 0
GivesCheck r = MatchResult r (λ m. m ≡ Check) (λ e. e ≡ Short)

-- the answer is a mode, or memory was refused
abbrev pub GivesMode : Result Mode ModeFault → Type 0
GivesMode r = MatchResult r (λ m. Unit {0}) (λ e. e ≡ Short)

-- the answer is this kind of fault, or memory was refused
abbrev pub GivesFault : (ModeFault → Type 0) → Result Mode ModeFault → Type 0
GivesFault kind r = MatchResult r (λ _. ⊥) (λ e. kind e ⊎ (e ≡ Short))

-- which mode a command's name is of
abbrev pub asked_of : Option (List ℕ) → Asked
asked_of None = Asked.Replay
asked_of (Some name) =
    if bytes_eq name (codes "check") then Asked.Check
    else if bytes_eq name (codes "serve") then Asked.Serve
    else Asked.Replay

-- 1 to 64 sessions, or 1 to 1,024 at a time, with numbers within their bounds
abbrev pub IsWithin : Serving → Type 0
IsWithin (serving.Sessions n) = (1 ≤ n) × (n ≤ 64)
IsWithin (serving.Standing how) = (1 ≤ how.at_once) × (how.at_once ≤ 1024)
    × (1 ≤ how.history) × (how.history ≤ 1000000)
    × (1024 ≤ how.memory) × (how.memory ≤ 1000000000)
    × IfSome how.socket_fd (λ fd. (3 ≤ fd) × (fd ≤ 1023))
    × IfSome how.memory_bytes (λ bytes. (67108864 ≤ bytes) × (bytes ≤ 1099511627776))

-- a mode that serves has so many
abbrev pub HasSessions : Mode → Type 0
HasSessions (Serve path serving) = IsWithin serving
HasSessions mode = Unit {0}

-- a command of the program has to be named, and the program tells its version
abbrev pub with_required : App → App
with_required app =
    record app { top = record app.top { subcommand_required = true; has_version = true } }

-- a word that is given or not
abbrev pub flag_of : List ℕ → Rule
flag_of word = record (new_rule word) { long = Some word; action = Some SetTrue }

-- a word with a text behind it, which its help names by a letter or a word
abbrev pub option_of : List ℕ → Rule
option_of word = record (new_rule word) { long = Some word; value_names = 1 }

-- the first words of a server that stands: how many sessions at a time, and three that are given or not
abbrev pub with_standing : App → App
with_standing app =
    with_rule
    (with_rule
    (with_rule
    (with_rule app (option_of (codes "at-once")))
    (flag_of (codes "replace")))
    (flag_of (codes "until-eof")))
    (flag_of (codes "verbose"))

-- and its further ones: how long histories may be, where what is cut goes, and which socket is bound already
abbrev pub with_keeping : App → App
with_keeping app =
    with_rule
    (with_rule
    (with_rule
    (with_rule app (option_of (codes "history")))
    (option_of (codes "memory")))
    (option_of (codes "traces")))
    (option_of (codes "socket-fd"))

-- and those that guard it: who is one too many, how many bytes it takes, and how what is cut lasts
abbrev pub with_guarding : App → App
with_guarding app =
    with_rule
    (with_rule
    (with_rule
    (with_rule app (flag_of (codes "busy")))
    (option_of (codes "memory-bytes")))
    (flag_of (codes "sync")))
    (flag_of (codes "anchors"))

-- `serve` and its words: a path, how many sessions, and those of a server that stands
abbrev pub serve_line : App
serve_line =
    with_guarding
    (with_keeping
    (with_standing
    (with_rule
    (with_rule (new_app (codes "serve")) (record (new_rule (codes "PATH")) { required = true }))
    (option_of (codes "sessions")))))

-- the words of a history: whether files are one, whether it is to be whole, and which file has the anchors of its files
abbrev pub with_history : App → App
with_history app =
    with_rule
    (with_rule
    (with_rule app (flag_of (codes "joined")))
    (flag_of (codes "whole")))
    (option_of (codes "anchors"))

-- `check` and its words: files, what is asked of them as a history, and a list of files
abbrev pub check_line : App
check_line =
    with_rule
    (with_history
    (with_rule (new_app (codes "check"))
    (record (new_rule (codes "FILE")) { action = Some Append })))
    (option_of (codes "files-from"))

-- the command line as `clap` reads it: `replay`, which takes no words, `check` and `serve`
abbrev pub command_line : App
command_line =
    with_subcommand
    (with_subcommand
    (with_subcommand (with_required (new_app (codes "topichub"))) (new_app (codes "replay")).top)
    check_line.top)
    serve_line.top

-- which mode words name that `clap` takes
abbrev pub asked_by : List (List ℕ) → Asked
asked_by words = asked_of (option_map (λ p. p.0) (subcommand_of command_line words))

-- the words behind a mode's name, as `clap` takes them for its arguments
abbrev pub arguments_of : Option (List ℕ × List Row) → List Row
arguments_of found = unwrap_or (option_map (λ p. p.1) found) []

abbrev pub arguments_by : List (List ℕ) → List Row
arguments_by words = arguments_of (subcommand_of command_line words)

-- the text of one of them, none where there is none
abbrev pub text_of : List ℕ → List Row → List ℕ
text_of id rows = unwrap_or (first_of id rows) []

-- whether a text was given behind such a word
abbrev pub has : List ℕ → List Row → Bool
has id rows = is_some (first_of id rows)

-- the text is a number from the least to the most in decimal digits; a plus may stand before them
abbrev pub IsCount : (least most : ℕ) → List ℕ → ℕ → Type 0
IsCount least most text n = IsNumeral 10 (without_leading_plus text)
    × (n ≡ digits_value 10 (without_leading_plus text))
    × (least ≤ n) × (n ≤ most)

-- so is the number where a text is given, and else there is none
abbrev pub IsCountIf : (least most : ℕ) → Option (List ℕ) → Option ℕ → Type 0
IsCountIf least most None None = Unit {0}
IsCountIf least most None (Some n) = ⊥
IsCountIf least most (Some text) None = ⊥
IsCountIf least most (Some text) (Some n) = IsCount least most text n

-- so is the number where a text is given, and else it is that other one
abbrev pub IsCountOr : ℕ → (least most : ℕ) → Option (List ℕ) → ℕ → Type 0
IsCountOr other least most None n = n ≡ other
IsCountOr other least most (Some text) n = IsCount least most text n

-- a text that is given is such a number
abbrev pub CountsIf : (least most : ℕ) → Option (List ℕ) → Type 0
CountsIf least most given = (found : Option ℕ) × IsCountIf least most given found

-- so many sessions in all, 1 to 64; or at a time, 1 to 1,024
abbrev pub AsksFor : List ℕ → ℕ → Type 0
AsksFor = IsCount 1 64

abbrev pub AsksAtOnce : List ℕ → ℕ → Type 0
AsksAtOnce = IsCount 1 1024

-- from how many entries on a history is cut, and how many all of them hold together
abbrev pub AsksHistory : List Row → ℕ → Type 0
AsksHistory rows = IsCountOr 100000 1 1000000 (first_of (codes "history") rows)

abbrev pub AsksMemory : List Row → ℕ → Type 0
AsksMemory rows = IsCountOr 2000000 1024 1000000000 (first_of (codes "memory") rows)

-- which descriptor is a socket that is bound already
abbrev pub AsksSocket : List Row → Option ℕ → Type 0
AsksSocket rows = IsCountIf 3 1023 (first_of (codes "socket-fd") rows)

-- how many bytes it may take
abbrev pub AsksBytes : List Row → Option ℕ → Type 0
AsksBytes rows = IsCountIf 67108864 1099511627776 (first_of (codes "memory-bytes") rows)

-- whether such a word was given
abbrev pub is_given : List ℕ → List Row → Bool
is_given word rows = bytes_eq (text_of word rows) (codes "true")

-- a socket that is bound already is to be replaced
abbrev pub replaces_bound : List Row → Bool
replaces_bound rows = is_given (codes "replace") rows && has (codes "socket-fd") rows

-- it is said how traces are written, and none are
abbrev pub lacks_traces : List Row → Bool
lacks_traces rows = (is_given (codes "sync") rows || is_given (codes "anchors") rows)
    && not (has (codes "traces") rows)

-- a server that stands runs as these words say
pub record StandsBy (rows : List Row) (how : Standing) : Type 0 where
  pub at_once : AsksAtOnce (text_of (codes "at-once") rows) how.at_once
  pub replaces : how.replaces ≡ is_given (codes "replace") rows
  pub until_eof : how.until_eof ≡ is_given (codes "until-eof") rows
  pub is_verbose : how.is_verbose ≡ is_given (codes "verbose") rows
  pub history : AsksHistory rows how.history
  pub memory : AsksMemory rows how.memory
  pub traces : option_map string_bytes how.traces ≡ first_of (codes "traces") rows
  pub socket_fd : AsksSocket rows how.socket_fd
  pub is_busy_told : how.is_busy_told ≡ is_given (codes "busy") rows
  pub memory_bytes : AsksBytes rows how.memory_bytes
  pub syncs : how.syncs ≡ is_given (codes "sync") rows
  pub anchors : how.anchors ≡ is_given (codes "anchors") rows
  pub leaves_bound : replaces_bound rows ≡ false
  pub has_traces : lacks_traces rows ≡ false

-- which words of one that serves are given: how many sessions in all, how many at a time, and others of a server that stands
abbrev pub has_sessions : List Row → Bool
has_sessions rows = has (codes "sessions") rows

abbrev pub has_at_once : List Row → Bool
has_at_once rows = has (codes "at-once") rows

abbrev pub has_flags : List Row → Bool
has_flags rows = is_given (codes "replace") rows
    || is_given (codes "until-eof") rows || is_given (codes "verbose") rows

abbrev pub has_keeping : List Row → Bool
has_keeping rows = has (codes "history") rows || has (codes "memory") rows
    || has (codes "traces") rows || has (codes "socket-fd") rows

abbrev pub has_guarding : List Row → Bool
has_guarding rows = is_given (codes "busy") rows || has (codes "memory-bytes") rows
    || is_given (codes "sync") rows || is_given (codes "anchors") rows

abbrev pub has_others : List Row → Bool
has_others rows = has_flags rows || has_keeping rows || has_guarding rows

-- as many sessions are served as these words say, and none of them belongs to the other way to serve
abbrev pub ServesBy : List Row → Serving → Type 0
ServesBy rows (serving.Sessions n) = AsksFor (text_of (codes "sessions") rows) n
    × (has_at_once rows ≡ false) × (has_others rows ≡ false)
ServesBy rows (serving.Standing how) = StandsBy rows how × (has_sessions rows ≡ false)

-- the files that are named, none where none is
abbrev pub files_of : List Row → Option (List (List ℕ))
files_of rows = all_of (codes "FILE") rows

-- the files are to be one history
abbrev pub is_joined : List Row → Bool
is_joined rows = is_given (codes "joined") rows

-- and a whole one
abbrev pub is_whole : List Row → Bool
is_whole rows = is_given (codes "whole") rows

-- the file with anchors, of which its files are to be
abbrev pub anchors_of : List Row → Option (List ℕ)
anchors_of rows = first_of (codes "anchors") rows

abbrev pub has_anchors : List Row → Bool
has_anchors rows = has (codes "anchors") rows

-- as what they are checked; files that are no history cannot be a whole one, or those of anchors
abbrev pub manner_of : List Row → Option Manner
manner_of rows =
    if is_joined rows then Some (if is_whole rows then manner.Whole else manner.Joined)
    else if is_whole rows || has_anchors rows then None
    else Some manner.Each

-- the list that names them instead
abbrev pub list_of : List Row → Option (List ℕ)
list_of rows = first_of (codes "files-from") rows

-- a history has a file at least, what is whole or has anchors is a history, and files are named by words or by a list
pub record HasFiles (rows : List Row) : Type 0 where
  pub whole : is_whole rows ≡ true → is_joined rows ≡ true
  pub anchored : has_anchors rows ≡ true → is_joined rows ≡ true
  pub some : is_joined rows ≡ true → IsSome (files_of rows) ⊎ IsSome (list_of rows)
  pub one : IsSome (files_of rows) → list_of rows ≡ None

-- which files are checked by these words
abbrev pub AreSources : List Row → Sources → Type 0
AreSources rows (Words names) =
    (files_of rows ≡ Some (map string_bytes names.items)) × (list_of rows ≡ None)
AreSources rows (sources.List list) =
    (files_of rows ≡ None) × (list_of rows ≡ Some (string_bytes list))

-- the files are those of this list, and are checked so, with the anchors of that file
abbrev pub IsList : Mode → List ℕ → Manner → Option (List ℕ) → Type 0
IsList (CheckFiles (sources.List list) manner anchors) name so file =
    (string_bytes list ≡ name) × (manner ≡ so) × (option_map string_bytes anchors ≡ file)
IsList mode name so file = ⊥

-- the mode that was asked for; one that checks files has those that the words name, and one that serves has what they say
abbrev pub IsMode : Asked → List Row → Mode → Type 0
IsMode asked rows Replay = asked ≡ Asked.Replay
IsMode asked rows Check = (asked ≡ Asked.Check)
    × (files_of rows ≡ None) × (list_of rows ≡ None) × (manner_of rows ≡ Some manner.Each)
IsMode asked rows (CheckFiles files manner anchors) = (asked ≡ Asked.Check)
    × AreSources rows files
    × (manner_of rows ≡ Some manner)
    × (option_map string_bytes anchors ≡ anchors_of rows)
IsMode asked rows (Serve path serving) = (asked ≡ Asked.Serve)
    × (string_bytes path ≡ text_of (codes "PATH") rows)
    × ServesBy rows serving

-- the further words of a server that stands are right: numbers within their bounds, no bound socket that is to be replaced, and
-- traces where it is said how they are written
pub record AreRight (rows : List Row) : Type 0 where
  pub history : CountsIf 1 1000000 (first_of (codes "history") rows)
  pub memory : CountsIf 1024 1000000000 (first_of (codes "memory") rows)
  pub socket_fd : CountsIf 3 1023 (first_of (codes "socket-fd") rows)
  pub memory_bytes : CountsIf 67108864 1099511627776 (first_of (codes "memory-bytes") rows)
  pub leaves_bound : replaces_bound rows ≡ false
  pub has_traces : lacks_traces rows ≡ false

-- words that ask rightly to serve so many sessions, or so many at a time: one of both, and further words with the second alone
abbrev pub AsksRightly : List Row → ℕ → Type 0
AsksRightly rows n =
    (AsksFor (text_of (codes "sessions") rows) n × (has_sessions rows ≡ true)
    × (has_at_once rows ≡ false) × (has_others rows ≡ false))
    ⊎ (AsksAtOnce (text_of (codes "at-once") rows) n × AreRight rows
    × (has_at_once rows ≡ true) × (has_sessions rows ≡ false))

pub record AreServe (words : List (List ℕ)) (n : ℕ) : Type 0 where
  pub taken : fault_of command_line words ≡ []
  pub asked : asked_by words ≡ Asked.Serve
  pub number : AsksRightly (arguments_by words) n
