-- How a name is printed, so that it stands on its line and does nothing to a terminal.
use Rattle.std.specs.Prelude.{ℕ, zero, suc, Bool, List, [], ◌∷◌, ◌==◌, ◌&&◌, ◌||◌, nat_lt, if◌then◌else◌}

-- the byte is a control character
abbrev pub is_control : ℕ → Bool
is_control b = nat_lt b 32 || b == 127

-- the two bytes are one, U+0080 to U+009F, where they are text
abbrev pub are_control : ℕ → ℕ → Bool
are_control b c = b == 194 && nat_lt c 160

-- how many bytes the control character has that a text begins with, 0 where it begins with none
abbrev pub control_at : List ℕ → ℕ
control_at [] = 0
control_at (b ∷ []) = if is_control b then 1 else 0
control_at (b ∷ c ∷ later) = if is_control b then 1 else if are_control b c then 2 else 0

-- what is printed in the place of one
abbrev pub mark : ℕ → List ℕ
mark zero = []
mark (suc n) = 63 ∷ []

-- the text, with `?` in the place of each control character
unfoldable pub shown : List ℕ → List ℕ
shown [] = []
shown (b ∷ []) = (if is_control b then 63 else b) ∷ []
shown (b ∷ c ∷ later) =
    if is_control b then 63 ∷ shown (c ∷ later)
    else if are_control b c then 63 ∷ shown later
    else b ∷ shown (c ∷ later)
