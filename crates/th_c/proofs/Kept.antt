-- How many values a channel keeps.
use Rattle.std.proofs.Common.{◌≤◌, arith, length}
use Rattle.th_model.specs.BroadcastPicture.{Picture, IsSound}
use Rattle.th_model.specs.Places.{low_of}

pub few_kept : {T : Type 0} (p : Picture T) → IsSound p → length p.window.kept ≤ 65536
unfolding low_of
few_kept p s = omega (arith, s.window.low, s.window.kept, s.window.capacity.2)
