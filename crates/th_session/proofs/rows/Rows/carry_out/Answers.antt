use Rattle.std.proofs.Common.{◌≤◌, ◌∙◌, ℕ, List, Option, ap, arith, subst, sym}
use Rattle.std.specs.Borrow.{Bor}
use Rattle.th_lines.specs.Intake.{line_given}
use Rattle.th_session.specs.Rows.{CarriesLines}
use Rattle.th_session.proofs.Turns.{carries_out}
use Rattle.th_session.proofs.rows.Rows.carry_out.Goals as goal

pub returns-then-is_send-2-clause-row : goal.returns-then-is_send-2-clause-row
returns-then-is_send-2-clause-row g c =
    let is = sym (ap (λ (l : Option (Bor (List ℕ))). line_given l) c.in-Some.is) ∙ c.line.ensures in
    let few : c.min-most.result ≤ c.args.most = omega (arith, c.min-most.ensures) in
    let lines = subst (λ (l : List ℕ). CarriesLines g.D.Desk.says c.in-Some.line.now l c.min-most.result
    (c.args.session.now, c.args.desk.now) c.sends.result (c.sends.new.session, c.sends.new.desk)) c.ahead-ahead.ensures
    c.sends.ensures.row in
    carries_out g.D.Desk.says c.args.intake.now c.in-Some.line.now c.min-most.result c.args.most (c.args.session.now, c.args.desk.now)
    c.sends.result (c.sends.new.session, c.sends.new.desk) is few lines

pub returns-else-is_send-2-clause-row : goal.returns-else-is_send-2-clause-row
returns-else-is_send-2-clause-row g c =
    let is = sym (ap (λ (l : Option (Bor (List ℕ))). line_given l) c.in-Some.is) ∙ c.line.ensures in
    let few : c.min-most.result ≤ c.args.most = omega (arith, c.min-most.ensures) in
    let lines = subst (λ (l : List ℕ). CarriesLines g.D.Desk.says c.in-Some.line.now l c.min-most.result
    (c.args.session.now, c.args.desk.now) c.receives.result (c.receives.new.session, c.receives.new.desk)) c.ahead-ahead.ensures
    c.receives.ensures.row in
    carries_out g.D.Desk.says c.args.intake.now c.in-Some.line.now c.min-most.result c.args.most (c.args.session.now, c.args.desk.now)
    c.receives.result (c.receives.new.session, c.receives.new.desk) is few lines
