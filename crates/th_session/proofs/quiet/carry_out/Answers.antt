use Rattle.std.proofs.Common.{◌∙◌, ap, sym}
use Rattle.std.specs.Option.{option_copied_mut}
use Rattle.th_lines.specs.Output.{output}
use Rattle.th_session.proofs.Unkept.{lacks}
use Rattle.th_session.proofs.quiet.carry_out.Goals as goal

pub returns-in_default : goal.returns-in_default
returns-in_default g c = λ limit.
    lacks limit c.args.session.now c.args.name.now c.args.own c.args.topics.now.entries c.append.result
    (output g.W.Write.contents c.args.writer.now c.args.out.now) (output g.W.Write.contents c.append.new.writer c.append.new.self)
    (sym c.in_default.ensures.index) c.append.ensures

pub returns : goal.returns
returns g c = λ limit.
    let there = sym c.get_index_mut.ensures.value ∙ ap option_copied_mut c.in-Some-get_index_mut.is in
    c.on_channel.ensures limit c.args.topics.now.entries c.args.name.now (sym c.in-Some.ensures.index, there)
