use Rattle.std.proofs.Common.{◌≡◌, map, take}
use Rattle.th_schedule.specs.Hub.{first_of}
use Rattle.th_schedule.proofs.schedules.starts.Given as goal

abbrev pub invariant-loop-segment : goal.invariant-loop-segment
invariant-loop-segment l = l.starts.items ≡ map first_of (take l.segment-index l.segments)
