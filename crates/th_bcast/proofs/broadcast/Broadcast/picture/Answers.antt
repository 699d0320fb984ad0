use Rattle.std.proofs.Common.{ℕ, List, ap, ◌∙◌}
use Rattle.th_model.specs.Window.{Window}
use Rattle.th_model.specs.BroadcastPicture.{picture_of}
use Rattle.th_bcast.proofs.broadcast.Broadcast.picture.Goals as goal

pub invariant_of-result : goal.invariant_of-result
invariant_of-result g c = rw (c.in-Ok.ensures, c.in-Ok-copy_numbers.ensures) c.self.invariant

pub returns : goal.returns
returns g c = ap (λ (w : Window g.row.T.Denot). picture_of w c.in-Ok-copy_numbers.senders.keys c.self.inside.next) c.in-Ok.ensures
    ∙ (ap (λ (ks : List ℕ). picture_of (g.S.Shelf.window c.self.inside.shelf) ks c.self.inside.next) c.in-Ok-copy_numbers.ensures
    ∙ c.self.view_is)
