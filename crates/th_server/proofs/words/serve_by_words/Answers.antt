use Rattle.std.proofs.Common.{subst}
use Rattle.std.specs.Prelude.{IsSome}
use Rattle.th_server.proofs.words.serve_by_words.Goals as goal

pub returns-in-Ok-None-clause-rightly : goal.returns-in-Ok-None-clause-rightly
returns-in-Ok-None-clause-rightly g c =
    λ asks n serve. subst (λ found. IsSome found) c.in-Ok-None.field-0-is (c.in-Ok-None.ensures.rightly n serve)
