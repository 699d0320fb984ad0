use Rattle.th_registry.proofs.Keeping.{says-by}
use Rattle.th_registry.proofs.event.event.Goals as goal

pub returns : goal.returns
returns g c =
    says-by g.K.Object.machine g.K.Kind.has_sender g.K.Kind.has_receiver g.K.Kind.waits c.args.channel.now c.args.by_hub c.args.call
    c.in-Ok.call c.record.new.self c.record.result c.in-Ok.ensures.0 c.in-Ok.ensures.2 c.record.ensures.event c.record.ensures.receipt
    c.record.ensures.room c.record.ensures.refused
