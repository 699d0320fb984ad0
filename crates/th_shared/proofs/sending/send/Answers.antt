use Rattle.std.proofs.Common.{refl}
use Rattle.th_shared.specs.Numbers.{known_of, rolls_of}
use Rattle.th_shared.proofs.sending.send.Goals as goal

pub returns-in-Err-clause-does : goal.returns-in-Err-clause-does
returns-in-Err-clause-does g c = record {
  says = c.unsent.ensures.may c.args.topic.0;
  kind = c.unsent.ensures.kind;
  full = c.unsent.ensures.full (rolls_of c.args.sender.now) (known_of c.args.sender.now);
  number = refl;
  rolls = refl;
  knows = refl;
}
