use Rattle.std.proofs.Common.{arith, ap, ◌∙◌, ◌+◌, ◌≤◌, drop}
use Rattle.std.specs.List.{prefix_len}
use Rattle.th_model.specs.Names.{is_name_byte}
use Rattle.th_model.proofs.Fronts.{run-ends, run-goes-on}
use Rattle.th_model.proofs.name.name_run.Goals.{then-bytes-ge-LANES+else-count-lt-LANES, else-bytes-ge-LANES+else-bytes-ge8+else-bytes-ge4}
use Rattle.th_model.proofs.name.name_run.Goals as goal

pub returns-then-count-lt-LANES : goal.returns-then-count-lt-LANES
returns-then-count-lt-LANES c =
    let found = c.lanes_run-count.ensures in
    found ∙ run-ends is_name_byte c.args.bytes.now 16 c.if-bytes-ge-LANES.true (omega (arith, found, c.if-count-lt-LANES.true))

pub loop-count-init : goal.loop-count-init
loop-count-init c =
    let bs = c.args.bytes.now in
    let count = c.if-bytes-ge-LANES.count in
    elim c.if-bytes-ge-LANES.branch [
      | then-bytes-ge-LANES+else-count-lt-LANES w ↦
          let sixteen = w.if-bytes-ge-LANES.true in
          let full : 16 ≤ count = omega (arith, w.count-is, w.if-count-lt-LANES.false) in
          let on = run-goes-on is_name_byte bs 16 sixteen count (w.count-is ∙ w.lanes_run-count.ensures) full in
          record { within = omega (arith, on.0, sixteen); left = on.1 }
      | else-bytes-ge-LANES+else-bytes-ge8+else-bytes-ge4 w ↦
          let none = ap (λ k. k + prefix_len is_name_byte (drop k bs)) w.count-is in
          record { within = omega (arith, w.count-is); left = none ∙ omega arith }
    ]
