use Rattle.std.proofs.Common.{refl, sym, ap, subst, ◌∙◌}
use Rattle.th_lines.specs.declared.command.Action.{Action}
use Rattle.th_registry.specs.Typed.{ended}
use Rattle.th_session.specs.Held.{held}
use Rattle.th_session.specs.Script.{Plays, Replied, acting}
use Rattle.th_session.proofs.Playing.{answered-end}
use Rattle.th_session.proofs.action.act.Goals as goal

pub returns-in-Unbind : goal.returns-in-Unbind
returns-in-Unbind g c =
    let h = held g.D.Desk.tx g.D.Desk.rx c.args.handles.now.entries in
    let P : Action → Type 0 = λ action. Plays g.D.Desk.says (acting action c.args.topic.0 h) c.args.desk.now (Replied c.unbind.result)
    (held g.D.Desk.tx g.D.Desk.rx c.unbind.new.handles.entries) c.unbind.new.desk in
    (Replied c.unbind.result, refl, (subst P (sym c.in-Unbind.is) c.unbind.ensures, refl))

pub returns-in-Unsubscribe : goal.returns-in-Unsubscribe
returns-in-Unsubscribe g c =
    let h = held g.D.Desk.tx g.D.Desk.rx c.args.handles.now.entries in
    let P : Action → Type 0 = λ action. Plays g.D.Desk.says (acting action c.args.topic.0 h) c.args.desk.now (Replied c.unsubscribe.result)
    (held g.D.Desk.tx g.D.Desk.rx c.unsubscribe.new.handles.entries) c.unsubscribe.new.desk in
    (Replied c.unsubscribe.result, refl, (subst P (sym c.in-Unsubscribe.is) c.unsubscribe.ensures, refl))

pub returns-in-End : goal.returns-in-End
returns-in-End g c =
    let h = held g.D.Desk.tx g.D.Desk.rx c.args.handles.now.entries in
    let P : Action → Type 0 = λ action. Plays g.D.Desk.says (acting action c.args.topic.0 h) c.args.desk.now
    (Replied c.replied_ended.result) h c.end.new.self in (
      Replied c.replied_ended.result,
      refl,
      (
        subst P (sym c.in-End.is) (
          ended c.end.result,
          c.end.new.self,
          c.end.ensures,
          (
            ap (λ reply.
                Replied reply) c.replied_ended.ensures ∙ sym (answered-end c.args.topic.0 c.end.result),
            refl,
            refl,
          ),
        ),
        refl,
      ),
    )
