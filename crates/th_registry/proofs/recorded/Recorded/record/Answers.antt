use Rattle.std.proofs.Common.{sym, ◌∙◌}
use Rattle.th_registry.proofs.Noting.{same-key, same-place}
use Rattle.th_registry.proofs.recorded.Recorded.record.Goals as goal

pub returns-in-Ok-clause-receipt : goal.returns-in-Ok-clause-receipt
returns-in-Ok-clause-receipt g c =
    let told = c.in-Ok.ensures.receipt in
    let place = told.0 ∙ sym c.len-entries.ensures.kept.counted ∙ same-place c.self.view_is in
    let key = told.2 ∙ sym c.key-number.ensures.key ∙ c.key-number.ensures.segment ∙ same-key c.self.view_is in
    λ i. record { place = place i; call = told.1 i; reply = c.in-Ok.receipt.reply; key = key i }
