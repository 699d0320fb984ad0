use Rattle.th_glance.proofs.Prefix.{word-parts}
use Rattle.th_glance.proofs.glance.Glance.of_word.Goals as goal

pub returns : goal.returns
returns c g e = word-parts c.args.word g e
