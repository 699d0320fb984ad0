use Rattle.th_shared.proofs.Tables.{by-table}
use Rattle.th_shared.proofs.event.receive.Goals as goal

pub event-requires-clause-own : goal.event-requires-clause-own
event-requires-clause-own g c = by-table g.O.Kind.receiver_of (λ n. g.O.Kind.by_receiver c.args.verb (record { 0 = n }))
    (λ n. g.met.O.Kind.by_receiver_ok c.args.verb (record { 0 = n })) _ _ _ c.number.ensures c.by_receiver-call.ensures
