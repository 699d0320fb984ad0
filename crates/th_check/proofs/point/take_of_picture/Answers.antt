use Rattle.th_check.proofs.Holding.{goes_on}
use Rattle.th_check.proofs.point.take_of_picture.Goals as goal

pub returns-in-Ok-None : goal.returns-in-Ok-None
returns-in-Ok-None c =
    goes_on c.args.draft.now c.read_picture.new.draft c.in-Ok-None.field-0 c.args.line.now c.in-Ok-None.field-0-is
    c.in-Ok-None.ensures.exact
