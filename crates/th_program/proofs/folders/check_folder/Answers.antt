use Rattle.std.proofs.Common.{sym, subst}
use Rattle.th_program.specs.declared.end.End.{End}
use Rattle.th_program.specs.Files.{EndsFolder, wanted_of}
use Rattle.th_program.proofs.Telling.{folder_more}
use Rattle.th_program.proofs.folders.check_folder.Goals as goal

pub loop-at-preserved : goal.loop-at-preserved
loop-at-preserved g c =
    let holds = g.O.Opens.holds c.args.files.now in
    let before = g.W.Write.contents c.args.output.now.device in
    let mid = g.W.Write.contents c.loop-at.output.device in
    let wants = wanted_of c.args.wanted in
    let after = g.W.Write.contents c.check_joined-one.new.output.device in
    subst (λ (e : End). EndsFolder holds wants before after e) (sym c.worse-end.ensures)
    (folder_more holds wants _ c.loop-at.end c.check_joined-one.result before mid after c.loop-at.invariant
    c.check_joined-one.ensures)
