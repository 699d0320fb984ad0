use Rattle.std.proofs.Common.{◌∙◌}
use Rattle.th_c.proofs.LetGo.{let-go-found}
use Rattle.th_c.proofs.Telling.{tells_of}
use Rattle.th_c.proofs.broadcast.RingBroadcastTells.told.Goals as goal

-- src/broadcast.rt
pub returns : goal.returns
returns g c before call sound is_note answered =
    let reply = c.args.reply.now in
    let after = c.args.self.now in
    let said = c.status_and_number-status.ensures in
    let lost = c.let_go.ensures ∙ let-go-found before after call reply c.args.note sound is_note answered in
    (λ i. record { status = (said i).0; let_go = lost i; number = (said i).1 }) ∙ tells_of g.T.Payload.number before after call reply answered
