use Rattle.std.proofs.Common.{Err, inl, refl}
use Rattle.th_registry.proofs.Keeping.{keeps-by}
use Rattle.th_registry.proofs.event.keep.Goals as goal

pub returns-in-Err : goal.returns-in-Err
returns-in-Err g c = (Err c.in-Err.why, (inl c.in-Err.ensures, tt), refl)

pub returns : goal.returns
returns g c =
    keeps-by g.K.Object.machine g.K.Kind.has_sender g.K.Kind.has_receiver g.K.Kind.waits c.args.channel.now c.args.call c.in-Ok.call
    c.keep.new.self c.keep.result c.in-Ok.ensures.0 c.in-Ok.ensures.2 c.keep.ensures.event c.keep.ensures.room c.keep.ensures.refused
