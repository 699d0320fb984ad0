-- A line of some words and what follows them, as the code holds it.
use Rattle.std.specs.Prelude.{◌≤◌, ◌++◌, length}
use Rattle.std.specs.Fmt.{decimal}
use Rattle.th_traces.specs.Spelled.{Bytes}
use Rattle.th_traces.specs.declared.spelling.Spelling.{Spelling}
use Rattle.th_traces.specs.declared.spelling.Spelling.TheVariants.{Words, Number, OfValue}

abbrev pub spelled : Spelling → Bytes
spelled (Words words) = words.now
spelled (Number words n) = words.now ++ decimal n
spelled (OfValue words value) = words.now ++ value.now

-- few bytes are before what follows
abbrev pub IsShort : Spelling → Type 0
IsShort (Words words) = length words.now ≤ 100
IsShort (Number words n) = length words.now ≤ 100
IsShort (OfValue words value) = length words.now ≤ 100
