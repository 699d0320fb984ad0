use Rattle.std.proofs.Common.{◌≡◌, ◌∙◌, true, false, sym, ap, subst, slice_get}
use Rattle.std.specs.Prelude.{remove}
use Rattle.std.specs.Map.{values_of}
use Rattle.std.specs.Option.{option_copied_mut, option_map}
use Rattle.indexmap.specs.IndexMap.{set_value_at}
use Rattle.th_lines.specs.Output.{Output, output}
use Rattle.th_lines.specs.declared.reply.Code.TheVariants as Codes
use Rattle.th_lines.specs.declared.reply.Reply.TheVariants.{Refused}
use Rattle.th_registry.specs.Pictures.{Desk, SeenTopics}
use Rattle.th_session.specs.Kept.{told}
use Rattle.th_session.specs.Script.{Replied, has_quit}
use Rattle.th_session.specs.declared.session.Answer.TheVariants as answers
use Rattle.th_replay.specs.Schedule.{Actors, Hub, PutsAt, holdings}
use Rattle.th_replay.proofs.Holdings.{at-held, handles, set-held}
use Rattle.th_replay.proofs.Orders.{goes_on, gone, lacks, stays}
use Rattle.th_replay.proofs.Steps.{ends_so, keeps, only_replies_quit, told_reply}
use Rattle.th_replay.proofs.actors.Hub.by_step.Goals as goal

pub returns-in_default : goal.returns-in_default
returns-in_default g c =
    let i = c.self.inside in
    let after : Output = output g.W.Write.contents c.append.new.writer c.append.new.self in
    let inside : Hub SeenTopics = record { topics = i.desk.topics; actors = holdings i.actors.entries } in
    let P : Hub SeenTopics → Type 0 = λ hub. PutsAt c.args.place c.args.command hub inside
    (output g.W.Write.contents c.args.writer.now c.args.out.now) after
    c.append.result in
    let none = at-held i.actors.entries c.args.place ∙ ap (option_map handles)
    (sym c.get_index_mut.ensures.value ∙ ap option_copied_mut c.in_default.is) in
    subst P c.self.view_is (
      Replied (Refused Codes.NotHeld),
      lacks inside c.args.place c.args.command (slice_get (values_of inside.actors)
          c.args.place) none,
      c.append.ensures,
    )

pub returns-then-is_gone : goal.returns-then-is_gone
returns-then-is_gone g c =
    let i = c.self.inside in
    let a = c.step.ensures.step in
    let had = c.in-Some.session.now in
    let has = c.step.new.session in
    let after : Output = output g.W.Write.contents c.put_answer-put.new.writer c.put_answer-put.new.out in
    let left : Actors = c.take_out.new.self.actors in
    let P : Hub SeenTopics → SeenTopics → Type 0 = λ hub topics.
    PutsAt c.args.place c.args.command hub (record { topics = topics; actors = left })
    (output g.W.Write.contents c.args.writer.now c.args.out.now) after
    c.put_answer-put.result in
    let said : answers.Reply c.in-Reply.reply ≡ told a.0 = sym c.in-Reply.is ∙ a.1 in
    let quit : has_quit a.0 ≡ true = ap has_quit (told_reply a.0 c.in-Reply.reply said) ∙ sym c.has_quit-is_gone.ensures
    ∙ c.if-is_gone.true in
    let rest = gone a.0 c.args.place has.handles (holdings i.actors.entries) left quit
    (c.take_out.ensures.actors ∙ ap (λ (all : Actors). remove all c.args.place) (set-held i.actors.entries c.args.place has)) in
    let there = at-held i.actors.entries c.args.place ∙ ap (option_map handles)
    (sym c.get_index_mut.ensures.value ∙ ap option_copied_mut c.in-Some.is) in
    let end = ends_so had i.desk.topics c.args.command a.0 has c.step.new.desk.topics i.desk.limit c.self.invariant a.2 in
    let put = c.put_answer-put.ensures a.0 had said (keeps had i.desk.topics c.args.command a.0 has c.step.new.desk.topics i.desk.limit
    a.2) in
    subst (λ (topics : SeenTopics). P c.args.self.now topics) (sym c.take_out.ensures.topics)
    (subst (λ (hub : Hub SeenTopics). P hub c.step.new.desk.topics) c.self.view_is (
      a.0,
      goes_on i.desk.topics (holdings
          i.actors.entries) c.args.place c.args.command had.handles has.handles a.0 c.step.new.desk.topics left there end rest,
      put,
    ))

pub returns-else-is_gone : goal.returns-else-is_gone
returns-else-is_gone g c =
    let i = c.self.inside in
    let a = c.step.ensures.step in
    let had = c.in-Some.session.now in
    let has = c.step.new.session in
    let after : Output = output g.W.Write.contents c.put_answer-put.new.writer c.put_answer-put.new.out in
    let left : Actors = holdings (set_value_at i.actors.entries c.args.place has) in
    let P : Hub SeenTopics → Type 0 = λ hub. PutsAt c.args.place c.args.command hub
    (record { topics = c.step.new.desk.topics; actors = left })
    (output g.W.Write.contents c.args.writer.now c.args.out.now) after c.put_answer-put.result in
    let said : answers.Reply c.in-Reply.reply ≡ told a.0 = sym c.in-Reply.is ∙ a.1 in
    let not_quit : has_quit a.0 ≡ false = ap has_quit (told_reply a.0 c.in-Reply.reply said) ∙ sym c.has_quit-is_gone.ensures
    ∙ c.if-is_gone.false in
    let rest = set-held i.actors.entries c.args.place has ∙ stays a.0 c.args.place has.handles (holdings i.actors.entries) not_quit in
    let there = at-held i.actors.entries c.args.place ∙ ap (option_map handles)
    (sym c.get_index_mut.ensures.value ∙ ap option_copied_mut c.in-Some.is) in
    let end = ends_so had i.desk.topics c.args.command a.0 has c.step.new.desk.topics i.desk.limit c.self.invariant a.2 in
    let put = c.put_answer-put.ensures a.0 had said (keeps had i.desk.topics c.args.command a.0 has c.step.new.desk.topics i.desk.limit
    a.2) in
    subst P c.self.view_is (
      a.0,
      goes_on i.desk.topics (holdings
          i.actors.entries) c.args.place c.args.command had.handles has.handles a.0 c.step.new.desk.topics left there end rest,
      put,
    )

pub returns-in_default-step : goal.returns-in_default-step
returns-in_default-step g c =
    let i = c.self.inside in
    let a = c.step.ensures.step in
    let had = c.in-Some.session.now in
    let has = c.step.new.session in
    let after : Output = output g.W.Write.contents c.put_answer-put-in_default-step.new.writer c.put_answer-put-in_default-step.new.out in
    let left : Actors = holdings (set_value_at i.actors.entries c.args.place c.let_go.new.self) in
    let given = ap (λ (d : Desk). d.topics) c.let_go.ensures.desk in
    let P : SeenTopics → Hub SeenTopics → Type 0 = λ ts hub. PutsAt c.args.place c.args.command hub
    (record { topics = ts; actors = left })
    (output g.W.Write.contents c.args.writer.now c.args.out.now) after c.put_answer-put-in_default-step.result in
    let not_quit : has_quit a.0 ≡ false = only_replies_quit a.0 (λ reply t. c.in_default-step.not-Reply reply (a.1 ∙ t)) in
    let kept = ap handles c.let_go.ensures.session in
    let rest = set-held i.actors.entries c.args.place c.let_go.new.self ∙ ap (set_value_at (holdings i.actors.entries) c.args.place) kept
    ∙ stays a.0 c.args.place has.handles (holdings i.actors.entries) not_quit in
    let there = at-held i.actors.entries c.args.place ∙ ap (option_map handles)
    (sym c.get_index_mut.ensures.value ∙ ap option_copied_mut c.in-Some.is) in
    let end = ends_so had i.desk.topics c.args.command a.0 has c.step.new.desk.topics i.desk.limit c.self.invariant a.2 in
    let put = c.put_answer-put-in_default-step.ensures a.0 had a.1
    (keeps had i.desk.topics c.args.command a.0 has c.step.new.desk.topics i.desk.limit a.2) in
    subst (λ (ts : SeenTopics). P ts c.args.self.now) (sym given) (subst (P c.step.new.desk.topics) c.self.view_is (
      a.0,
      goes_on i.desk.topics (holdings
          i.actors.entries) c.args.place c.args.command had.handles has.handles a.0 c.step.new.desk.topics left there end rest,
      put,
    ))

pub invariant_of-self-then-is_gone : goal.invariant_of-self-then-is_gone
invariant_of-self-then-is_gone g c = c.step.ensures.limit ∙ c.self.invariant

pub invariant_of-self-else-is_gone : goal.invariant_of-self-else-is_gone
invariant_of-self-else-is_gone g c = c.step.ensures.limit ∙ c.self.invariant
