use Rattle.std.specs.List.{each_same}
use Rattle.th_model.proofs.handles.copy_numbers.Goals as goal

pub returns-in-Ok : goal.returns-in-Ok
returns-in-Ok c = each_same _ _ c.in-Ok.ensures.cases
