use Rattle.std.proofs.Common.{◌≡◌, List, ℕ, length}
use Rattle.th_session.specs.Rows.{ReadsTo, SendEach}
use Rattle.th_session.specs.Run.{AreLet, strictness}
use Rattle.th_session.proofs.rows.read_sends.Given as goal

abbrev pub invariant-loop-count : goal.invariant-loop-count
invariant-loop-count g l =
    let gate = strictness g.G.Gate.holds_back g.G.Gate.lets g.G.Gate.gives_up l.replies.gate in
    (lines : List (List ℕ)) × (length lines ≡ l.count) × AreLet gate l.answered l.count × SendEach l.name lines l.values.items
    × ReadsTo l.line l.ahead lines l.rest
