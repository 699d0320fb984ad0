-- The parts of a channel's whole history, joined (docs/HISTORIES.md, "Shares").
use Rattle.std.specs.Prelude.{◌≡◌, ℕ, ◌+◌, List, [], ◌∷◌, length}
use Rattle.th_seats.specs.Tally.{Part, count_of}
use Rattle.th_log.specs.History.{Follows, Piece, joined}

module _ {S C R : Type 0} where
  -- the place behind the last entry
  abbrev pub end_of : Piece S C R → ℕ
  end_of p = p.first + length p.entries

  -- each part begins where the one before it ends, from this one on
  abbrev pub FollowEachOther : Piece S C R → List (Piece S C R) → Type 0
  FollowEachOther p [] = Unit {0}
  FollowEachOther p (q ∷ qs) = Follows p q × FollowEachOther q qs

  -- the last of them
  abbrev pub last_of : Piece S C R → List (Piece S C R) → Piece S C R
  last_of p [] = p
  last_of p (q ∷ qs) = last_of q qs

  -- all of them as one
  abbrev pub joined_all : Piece S C R → List (Piece S C R) → Piece S C R
  joined_all p [] = p
  joined_all p (q ∷ qs) = joined_all (joined p q) qs

-- Where parts follow each other from the opening of a channel on, and the last one ends at the number of events that its
-- shares count, the joined part has an entry for each of these events.
abbrev pub JoinedAreCounted : Type 0 → Type 0 → Type 0 → Type 0
JoinedAreCounted S C R = (p : Piece S C R) (ps : List (Piece S C R)) (shares : List Part)
    → p.first ≡ 0 → FollowEachOther p ps → end_of (last_of p ps) ≡ count_of shares
    → length (joined_all p ps).entries ≡ count_of shares
