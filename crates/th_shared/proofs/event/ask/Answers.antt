use Rattle.th_shared.proofs.Tables.{by-table}
use Rattle.th_shared.proofs.event.ask.Goals as goal

pub event-requires-clause-own : goal.event-requires-clause-own
event-requires-clause-own g c = by-table g.O.Kind.sender_of (λ n. g.O.Kind.asked c.args.question (record { 0 = n }))
    (λ n. g.met.O.Kind.asked_ok c.args.question (record { 0 = n })) _ _ _ c.number.ensures c.asked-call.ensures
