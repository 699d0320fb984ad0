-- The lines of a picture that are still to be printed.
use Rattle.std.specs.Prelude.{◌≡◌, ℕ, Bool, true, false, List, [], ◌∷◌, ◌++◌, Result, Ok, Err}
use Rattle.th_lines.specs.Replies.{ended}
use Rattle.th_traces.specs.Spelled.{Bytes, PictureFields, start_line, body_lines, picture_lines}
use Rattle.th_traces.specs.declared.stage.Stage.{Stage}
use Rattle.th_traces.specs.declared.stage.Stage.TheVariants.{Head, Start, Body, Begun}

-- at a stage, where the picture's lists are what is left of them
abbrev pub to_come : Stage → PictureFields → List Bytes
to_come Head t = picture_lines t
to_come Start t = start_line t ∷ body_lines t
to_come Body t = body_lines t
to_come Begun t = []

-- the first of the lines to come was appended, or there was none, or no memory for it
abbrev pub PrintsNext : {E : Type 0} → (to_come after : List Bytes) → (old new : List ℕ)
    → Result Bool E → Type 0
PrintsNext to_come after old new (Ok true) =
    (next : Bytes) × (to_come ≡ next ∷ after) × (new ≡ old ++ ended next)
PrintsNext to_come after old new (Ok false) = (to_come ≡ []) × (after ≡ []) × (new ≡ old)
PrintsNext to_come after old new (Err e) = (after ≡ to_come) × (new ≡ old)
