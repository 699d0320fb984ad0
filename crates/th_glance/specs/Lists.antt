-- Lists of glances: what a channel's word said, one after another (docs/GLANCES.md, "The lists").
use Rattle.std.specs.Prelude.{◌≡◌, ℕ, ◌+◌, ◌*◌, ◌<◌, Bool, true, false, List, [], ◌∷◌, length, Some, slice_get}
use Rattle.th_glance.specs.declared.glance.Glance.{Glance}

abbrev pub glance_of : ℕ → Bool → Glance
glance_of count closed = record { count = count; closed = closed }

abbrev pub bit : Bool → ℕ
bit true = 1
bit false = 0

-- the word is twice the count, plus one where no sender is left
abbrev pub word_of : Glance → ℕ
word_of g = 2 * g.count + bit g.closed

-- the last glance; of no glance the one at a channel's opening
abbrev pub last_of : List Glance → Glance
last_of [] = glance_of 0 false
last_of (g ∷ []) = g
last_of (g ∷ h ∷ gs) = last_of (h ∷ gs)

-- the count of the last glance
abbrev pub last_count : List Glance → ℕ
last_count gs = (last_of gs).count

-- the counts rise by one, from 0 on
abbrev pub IsCounted : List Glance → Type 0
IsCounted gs =
    (0 < length gs) × ((k : ℕ) (g : Glance) → slice_get gs k ≡ Some g → g.count ≡ k)
