use Rattle.std.proofs.Common.{refl, inl, inr}
use Rattle.th_replay.specs.Outcome.{Devices, devices}
use Rattle.th_program.specs.Run.{EndsHelp}
use Rattle.th_program.proofs.Endings.{ends_help}
use Rattle.th_program.proofs.program.run_for.Goals as goal

pub returns-in-Err-Help-clause-ends : goal.returns-in-Err-Help-clause-ends
returns-in-Err-Help-clause-ends g c =
    let before : Devices = devices g.R.Read.remaining c.args.input.now g.W.Write.contents c.args.output.now in
    let after : Devices = record before {
      contents = g.W.Write.contents c.write_help-end.new.output.device;
    } in
    let ends : EndsHelp before after c.write_help-end.result =
    ends_help _ before after c.write_help-end.result c.write_help-end.ensures
    (record { input = refl; reads = refl }) in
    let mode = rw c.in-Err-Help.field-0-is at c.in-Err-Help.ensures in
    record {
      replay = λ words. let short = mode.replay words in cc;
      check = λ words. let short = mode.check words in cc;
      help = λ _. ends;
      version = λ _. ends;
      none = λ words. elim (mode.none words) [ inl never ↦ absurd never | inr short ↦ cc ];
      wrong = λ _. inl ends;
    }
