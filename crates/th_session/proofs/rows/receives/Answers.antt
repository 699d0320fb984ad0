use Rattle.std.proofs.Common.{◌≡◌, ◌≤◌, arith, length}
use Rattle.th_registry.specs.Rows.{times}
use Rattle.th_session.specs.Run.{strictness}
use Rattle.th_session.proofs.Letting.{first_let}
use Rattle.th_session.proofs.Turns.{carries_lines, no_more_than, same_each, so_many_same}
use Rattle.th_session.proofs.rows.receives.Goals as goal

pub returns-clause-row : goal.returns-clause-row
returns-clause-row g c =
    let same = c.count_same-same.result in
    let lines = times same c.args.line.now in
    let many : length lines ≡ same = so_many_same same c.args.line.now in
    let few : length lines ≤ c.args.most = omega (arith, many, c.count_same-same.ensures.most) in
    carries_lines g.D.Desk.says c.args.line.now c.args.ahead.now c.args.most lines (c.args.session.now, c.args.desk.now)
    c.receive_row.result (c.receive_row.new.self, c.receive_row.new.desk) c.count_same-same.ensures.same few
    (c.receive_row.ensures lines many (same_each c.in-Some.name c.in-Some.verb c.args.line.now same c.in-Some.ensures))

pub returns-clause-let_through : goal.returns-clause-let_through
returns-clause-let_through g c =
    let same = c.count_same-same.result in
    let lines = times same c.args.line.now in
    let many : length lines ≡ same = so_many_same same c.args.line.now in
    let row = c.receive_row.ensures lines many (same_each c.in-Some.name c.in-Some.verb c.args.line.now same c.in-Some.ensures) in
    let few : c.receive_row.result ≤ same = omega (
      arith,
      many,
      no_more_than g.D.Desk.says lines (c.args.session.now, c.args.desk.now)
          c.receive_row.result (c.receive_row.new.self, c.receive_row.new.desk) row,
    ) in
    let gate = strictness g.G.Gate.holds_back g.G.Gate.lets g.G.Gate.gives_up c.args.replies.now.gate in
    first_let gate c.args.answered c.receive_row.result same few c.count_same-same.ensures.let_through
