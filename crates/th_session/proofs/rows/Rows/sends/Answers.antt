use Rattle.std.proofs.Common.{◌≤◌, length}
use Rattle.th_session.specs.Run.{strictness}
use Rattle.th_session.proofs.Letting.{first_let}
use Rattle.th_session.proofs.Turns.{carries_lines, no_more_than}
use Rattle.th_session.proofs.rows.Rows.sends.Goals as goal

pub returns-clause-row : goal.returns-clause-row
returns-clause-row g c =
    let r = c.in-Some-read_sends.ensures in
    carries_lines g.D.Desk.says c.args.line.now c.args.ahead.now c.args.most r.0
    (c.args.session.now, c.args.desk.now)
    c.send_row.result (c.send_row.new.self, c.send_row.new.desk) r.4 r.1 (c.send_row.ensures r.0 r.3)

pub returns-clause-let_through : goal.returns-clause-let_through
returns-clause-let_through g c =
    let r = c.in-Some-read_sends.ensures in
    let few : c.send_row.result ≤ length r.0 = no_more_than g.D.Desk.says r.0 (c.args.session.now, c.args.desk.now) c.send_row.result
    (c.send_row.new.self, c.send_row.new.desk) (c.send_row.ensures r.0 r.3) in
    let gate = strictness g.G.Gate.holds_back g.G.Gate.lets g.G.Gate.gives_up c.args.replies.now.gate in
    first_let gate c.args.answered c.send_row.result (length r.0) few r.2
