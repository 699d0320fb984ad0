-- Whether a history is whole: from the opening of its channel to its last handle (docs/FORMATS.md, "One history").
use Rattle.std.specs.Prelude.{ℕ, ◌-◌, Bool, not, ◌&&◌, ◌==◌, List, [], ◌∷◌, ◌++◌, length, codes, Option, Some, None, slice_get, if◌then◌else◌}
use Rattle.std.specs.Option.{unwrap_or}
use Rattle.th_check.specs.Joined.{Reach, is_opened, is_over}
use Rattle.th_program.specs.Shown.{shown}
use Rattle.th_program.specs.declared.whole.Lack.{Lack}
use Rattle.th_program.specs.declared.whole.Lack.TheVariants.{Anchor, Beginning, Ending, Rest}

-- a history begins where its topic does: its channel was just opened, and a name that says where it stands says event 1
abbrev pub is_begun : Option Reach → Option (List ℕ × ℕ) → Bool
is_begun there None = is_opened there
is_begun there (Some (topic, first)) = is_opened there && first == 1

-- what a history that has come there, and stands at this place, lacks of a whole one
abbrev pub lack_of : Option Reach → Option (List ℕ × ℕ) → Option Lack
lack_of there place =
    if not (is_begun there place) then Some Beginning
    else if not (is_over there) then Some Ending
    else None

-- what it lacks if it is to be whole
abbrev pub lack_if : Bool → Option Reach → Option (List ℕ × ℕ) → Option Lack
lack_if is_whole there place = if is_whole then lack_of there place else None

-- the name of the file in which a history of these files lacks it: the first, the last, or the one at this place
abbrev pub name_at : List (List ℕ) → ℕ → List ℕ
name_at names at = unwrap_or (slice_get names at) []

abbrev pub lack_file : Lack → List (List ℕ) → List ℕ
lack_file Beginning names = name_at names 0
lack_file Ending names = name_at names (length names - 1)
lack_file (Anchor at) names = name_at names at
lack_file Rest names = name_at names (length names - 1)

-- the word that tells of it, and the line
abbrev pub lack_word : Lack → List ℕ
lack_word Beginning = codes "begun "
lack_word Ending = codes "open "
lack_word (Anchor at) = codes "unanchored "
lack_word Rest = codes "ended "

abbrev pub lack_line : Lack → List (List ℕ) → List ℕ
lack_line lack names = lack_word lack ++ (shown (lack_file lack names) ++ 10 ∷ [])
