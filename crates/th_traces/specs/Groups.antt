-- The numbers of handles, as the lines of a picture tell them.
use Rattle.std.specs.Prelude.{ℕ, Bool, List, [], ◌∷◌, length, nat_lt, ◌&&◌}

-- the last number of a group, or 0
abbrev pub last_id : List ℕ → ℕ
last_id [] = 0
last_id (k ∷ []) = k
last_id (k ∷ j ∷ ks) = last_id (j ∷ ks)

-- a further number of a group: above the last one, given out, and not the 65,536th
abbrev pub is_further : ℕ → List ℕ → ℕ → Bool
is_further next ids id = nat_lt (last_id ids) id && (nat_lt id next && nat_lt (length ids) 65535)
