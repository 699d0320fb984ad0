use Rattle.std.proofs.Common.{refl, sym, ap, subst, ◌∙◌}
use Rattle.th_lines.specs.declared.command.Command.{Command}
use Rattle.th_lines.specs.declared.command.Command.TheVariants as Commands
use Rattle.th_lines.specs.declared.reply.Reply.TheVariants.{Bye}
use Rattle.th_session.specs.Held.{Holding, held}
use Rattle.th_session.specs.Kept.{Kept, with_receipt, with_segment}
use Rattle.th_session.specs.Script.{Plays, Replied, script}
use Rattle.th_session.proofs.Telling.{no-receipt, no-segment}
use Rattle.th_session.proofs.session.Session.step_owing.Goals as goal

pub returns-in-Open : goal.returns-in-Open
returns-in-Open g c =
    let P : Command → Type 0 = λ command. Plays g.D.Desk.says (script c.args.self.now.handles command) c.args.desk.now
    (Replied c.replied_opening.result) c.args.self.now.handles c.open_topic.new.self in
    let played : P (Commands.Open c.in-Open.name c.in-Open.making) = (
      c.open_topic.result,
      c.open_topic.new.self,
      c.open_topic.ensures,
      (
        ap (λ reply.
            Replied reply) c.replied_opening.ensures,
        refl,
        refl,
      ),
    ) in
    (Replied c.replied_opening.result, refl, (subst P (sym c.in-Open.is) played, (refl, refl)))

pub returns-in-On : goal.returns-in-On
returns-in-On g c =
    let did = c.on_topic.ensures in
    let P : Holding → Command → Type 0 = λ h command. Plays g.D.Desk.says (script h command) c.args.desk.now did.0
    (held g.D.Desk.tx g.D.Desk.rx c.on_topic.new.handles.entries) c.on_topic.new.desk in
    let same = ap (λ (k : Kept). k.handles) c.self.view_is in
    let receipts = ap (λ (k : Kept). with_receipt k.receipts did.0) c.self.view_is in
    let segments = no-segment g.D.Desk.says did.0 _ _ c.in-On.action (held g.D.Desk.tx g.D.Desk.rx c.self.inside.handles.entries) _
    c.args.desk.now c.args.self.now.segments did.2.0 in (
      did.0,
      did.1,
      (
        subst (P c.args.self.now.handles) (sym c.in-On.is) (subst (λ h. P h (Commands.On c.in-On.name c.in-On.action)) same did.2.0),
        (did.2.1 ∙ receipts, ap (λ (k : Kept). k.segments) c.self.view_is ∙ sym segments),
      ),
    )

pub returns-in-Trace : goal.returns-in-Trace
returns-in-Trace g c =
    let traced = c.trace.ensures (held g.D.Desk.tx g.D.Desk.rx c.self.inside.handles.entries) in
    let P : Holding → Command → Type 0 = λ h command. Plays g.D.Desk.says (script h command) c.args.desk.now traced.0
    (held g.D.Desk.tx g.D.Desk.rx c.self.inside.handles.entries) c.trace.new.desk in
    let same = ap (λ (k : Kept). k.handles) c.self.view_is in
    let segments = ap (λ (k : Kept). with_segment k.segments traced.0) c.self.view_is in
    let receipts = no-receipt g.D.Desk.says traced.0 _ _ (held g.D.Desk.tx g.D.Desk.rx c.self.inside.handles.entries) _ c.args.desk.now
    c.args.self.now.receipts traced.2.0 in (
      traced.0,
      traced.1,
      (
        subst (P c.args.self.now.handles) (sym c.in-Trace.is) (subst (λ h. P h (Commands.Trace c.in-Trace.name)) same traced.2.0),
        (ap (λ (k : Kept). k.receipts) c.self.view_is ∙ sym receipts, traced.2.1 ∙ segments),
      ),
    )

pub returns-in-List : goal.returns-in-List
returns-in-List g c =
    let P : Command → Type 0 = λ command. Plays g.D.Desk.says (script c.args.self.now.handles command) c.args.desk.now
    (Replied c.replied_list.result) c.args.self.now.handles c.args.desk.now in
    let played : P Commands.List = (
      c.list.result,
      c.args.desk.now,
      c.list.ensures,
      (
        ap (λ reply.
            Replied reply) c.replied_list.ensures,
        refl,
        refl,
      ),
    ) in
    (Replied c.replied_list.result, refl, (subst P (sym c.in-List.is) played, (refl, refl)))

pub returns-in-Quit : goal.returns-in-Quit
returns-in-Quit g c =
    let had = held g.D.Desk.tx g.D.Desk.rx c.self.inside.handles.entries in
    let P : Holding → Holding → Command → Type 0 = λ h after command.
    Plays g.D.Desk.says (script h command) c.args.desk.now (Replied Bye) after c.quit.new.desk in
    let same = ap (λ (k : Kept). k.handles) c.self.view_is in
    let none = ap (held g.D.Desk.tx g.D.Desk.rx) c.quit.ensures.none in
    let after = held g.D.Desk.tx g.D.Desk.rx c.quit.new.handles.entries in
    let spent : P had after Commands.Quit = subst (λ after. P had after Commands.Quit) (sym none) c.quit.ensures.spent in (
      Replied Bye,
      refl,
      (
        subst (P c.args.self.now.handles after) (sym c.in-Quit.is) (subst (λ h. P h after Commands.Quit) same
            spent),
        (ap (λ (k : Kept). k.receipts) c.self.view_is, ap (λ (k : Kept). k.segments) c.self.view_is),
      ),
    )
