-- The joined parts of a whole history have as many entries as the shares count.
use Rattle.std.proofs.Common.{◌≡◌, ℕ, ◌+◌, List, [], ◌∷◌, ◌++◌, length, arith}
use Rattle.th_log.specs.History.{Piece, joined}
use Rattle.th_accounts.specs.Joined.{FollowEachOther, JoinedAreCounted, end_of, joined_all, last_of}

length_append : {X : Type 0} (xs ys : List X) → length (xs ++ ys) ≡ length xs + length ys
length_append [] ys = omega arith
length_append (x ∷ xs) ys = omega (arith, length_append xs ys)

module _ {S C R : Type 0} where
  -- the entries of these parts together
  abbrev entries_of : List (Piece S C R) → ℕ
  entries_of [] = 0
  entries_of (q ∷ qs) = length q.entries + entries_of qs

  ends : (p : Piece S C R) (ps : List (Piece S C R)) → FollowEachOther p ps → end_of (last_of p ps) ≡ end_of p + entries_of ps
  ends p [] f = omega arith
  ends p (q ∷ qs) f = omega (arith, ends q qs f.1, f.0.place)

  has : (p : Piece S C R) (ps : List (Piece S C R)) → length (joined_all p ps).entries ≡ length p.entries + entries_of ps
  has p [] = omega arith
  has p (q ∷ qs) = omega (arith, has (joined p q) qs, length_append p.entries q.entries)

  pub counted : JoinedAreCounted S C R
  counted p ps shares opening follow end = omega (arith, opening, end, ends p ps follow, has p ps)
