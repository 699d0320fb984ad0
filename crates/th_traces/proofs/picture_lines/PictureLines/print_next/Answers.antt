use Rattle.std.proofs.Common.{rules, sym}
use Rattle.th_traces.specs.Spelled.{kept_line, sender_line, receiver_line}
use Rattle.th_traces.proofs.Coming.{kept-next, sender-next, receiver-next}
use Rattle.th_traces.proofs.picture_lines.PictureLines.print_next.Goals as goal

pub returns-in-Some-clause-printed : goal.returns-in-Some-clause-printed
returns-in-Some-clause-printed g c =
    (kept_line c.in-Some.value.now, kept-next _ _ _ _ _ _ _ _ _ _ _ _ (sym c.self.view_is) c.in-Body.is c.in-Some.ensures, search rules)

pub returns-in-Some-next-clause-printed : goal.returns-in-Some-next-clause-printed
returns-in-Some-next-clause-printed g c = (
  sender_line c.in-Some-next.tx.now,
  sender-next _ _ _ _ _ _ _ _ _ _ _ _ _ (sym c.self.view_is) c.in-Body.is (search rules) (search rules) (search rules),
  search rules,
)

pub returns-in-Some-next-2-clause-printed : goal.returns-in-Some-next-2-clause-printed
returns-in-Some-next-2-clause-printed g c = (
  receiver_line (c.in-Some-next-2.rx.now, g.X.Standing.spelled c.in-Some-next-2.standing.now),
  receiver-next _ _ _ _ _ _ _ _ _ _ _ _ _ _
      (sym c.self.view_is) c.in-Body.is (search rules) (search rules) (search rules) (search rules) (search rules),
  search rules,
)
