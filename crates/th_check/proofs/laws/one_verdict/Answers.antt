use Rattle.th_lines.specs.Lines.{lines_of}
use Rattle.th_check.proofs.Deciding.{one_verdict}
use Rattle.th_check.proofs.laws.one_verdict.Goals as goal

pub returns : goal.returns
returns c = λ text. one_verdict _ c.are_exact.ensures.replies _ c.are_exact-2.ensures.replies (lines_of text)
