use Rattle.th_registry.specs.Rows.{times}
use Rattle.th_session.specs.Rows.{ReadsTo}
use Rattle.th_session.specs.Run.{AreLet, strictness}
use Rattle.th_session.proofs.rows.count_same.Given as goal

abbrev pub invariant-loop-count : goal.invariant-loop-count
invariant-loop-count g l = record {
  same : ReadsTo l.line l.ahead (times l.count l.line) l.rest;
  let_through : AreLet (strictness g.G.Gate.holds_back g.G.Gate.lets g.G.Gate.gives_up l.replies.gate) l.answered l.count;
}
