use Rattle.std.proofs.Common.{◌∙◌, ℕ, Err, subst, sym}
use Rattle.th_lines.specs.Intake.{line_given}
use Rattle.th_lines.specs.Output.{Output, output}
use Rattle.th_session.specs.Run.{Awaits, SpellsWait, Strictness, strictness}
use Rattle.th_session.proofs.Running.{carries, carries_broken, in_time_broken, kept_out, quits}
use Rattle.th_session.proofs.run.serve.Goals as goal

pub returns-in-Err-clause-serves : goal.returns-in-Err-clause-serves
returns-in-Err-clause-serves g c =
    let gate = strictness g.G.Gate.holds_back g.G.Gate.lets g.G.Gate.gives_up c.args.replies.now.gate in
    kept_out c.args.keeping g.D.Desk.says gate c.args.answered (line_given c.args.line) c.args.session.now c.args.desk.now
    c.enter.new.desk _ _ c.in-Err.e c.in-Err.ensures.desk c.in-Err.ensures.wrote

pub returns-in-Err-answer_in_time-clause-serves : goal.returns-in-Err-answer_in_time-clause-serves
returns-in-Err-answer_in_time-clause-serves g c =
    let gate = strictness g.G.Gate.holds_back g.G.Gate.lets g.G.Gate.gives_up c.args.replies.now.gate in
    let failed = c.in-Err-answer_in_time.ensures.answers in
    let why = c.in-Err-answer_in_time.why in
    let mid : Output = output g.W.Write.contents c.enter.new.writer c.enter.new.self.text in
    let after : Output = output g.W.Write.contents c.answer_in_time.new.writer c.answer_in_time.new.replies.text in
    let strict : g.row.G.Denot × ℕ → Strictness = strictness g.G.Gate.holds_back g.G.Gate.lets g.G.Gate.gives_up in
    let P : g.row.G.Denot × ℕ → Type 0 =
    λ at. Awaits {A = Unit {0}} (strict at) (SpellsWait (line_given c.args.line)) mid after (Err why) in
    in_time_broken c.args.keeping g.D.Desk.says gate c.args.answered (line_given c.args.line) c.args.session.now
    c.args.desk.now c.enter.new.desk _ _ _ _ c.in-Ok.ensures.desk c.in-Ok.ensures.wrote why failed.0 (subst P c.in-Ok.ensures.gate failed.1)

pub returns-in-Ok-put-clause-serves : goal.returns-in-Ok-put-clause-serves
returns-in-Ok-put-clause-serves g c =
    let gate = strictness g.G.Gate.holds_back g.G.Gate.lets g.G.Gate.gives_up c.args.replies.now.gate in
    let answered = c.in-Ok-answer_in_time.ensures.answers in
    rw (c.let_go.ensures.desk, c.in-Ok-put.ensures.desk) (quits c.args.keeping g.D.Desk.says gate c.args.answered
    (line_given c.args.line) c.args.session.now c.args.desk.now c.enter.new.desk _ _ _ _ c.in-Ok.ensures.desk c.in-Ok.ensures.wrote _
    c.in-Ok-answer_in_time.answer answered.0 answered.1 c.let_go.new.self c.let_go.ensures.session c.in-Ok-put.ensures.told
    (sym c.if-quits.true ∙ c.tells_bye-quits.ensures))

pub returns-in-Ok-2-clause-serves : goal.returns-in-Ok-2-clause-serves
returns-in-Ok-2-clause-serves g c =
    let gate = strictness g.G.Gate.holds_back g.G.Gate.lets g.G.Gate.gives_up c.args.replies.now.gate in
    let answered = c.in-Ok-answer_in_time.ensures.answers in
    rw (c.let_go.ensures.desk, c.in-Ok-2.ensures.desk) (carries c.args.keeping g.D.Desk.says gate c.args.answered
    (line_given c.args.line) c.args.session.now c.args.desk.now c.enter.new.desk _ _ _ _ c.in-Ok.ensures.desk c.in-Ok.ensures.wrote _
    c.in-Ok-answer_in_time.answer answered.0 answered.1 c.let_go.new.self c.let_go.ensures.session c.in-Ok-2.ensures.told
    (sym c.if-quits.false ∙ c.tells_bye-quits.ensures))

pub returns-in-Err-put-clause-serves : goal.returns-in-Err-put-clause-serves
returns-in-Err-put-clause-serves g c =
    let gate = strictness g.G.Gate.holds_back g.G.Gate.lets g.G.Gate.gives_up c.args.replies.now.gate in
    let answered = c.in-Ok-answer_in_time.ensures.answers in
    rw (c.let_go.ensures.desk, c.in-Err-put.ensures.desk) (carries_broken c.args.keeping g.D.Desk.says gate c.args.answered
    (line_given c.args.line) c.args.session.now c.args.desk.now c.enter.new.desk _ _ _ _ c.in-Ok.ensures.desk c.in-Ok.ensures.wrote _
    c.in-Ok-answer_in_time.answer answered.0 answered.1 c.let_go.new.self c.let_go.ensures.session c.in-Err-put.ensures.told)
