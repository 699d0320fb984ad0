use Rattle.std.proofs.Common.{◌≡◌, length, sym, ◌∙◌, arith}
use Rattle.th_model.specs.Handles.{is_full}
use Rattle.th_model.proofs.HandleLemmas.{next_is_free, few_of_room, more_of_room}
use Rattle.th_model.proofs.BroadcastSoundness.{sound-joined, low-le}
use Rattle.th_bcast.proofs.broadcast.Broadcast.add_oldest_receiver.Goals as goal

pub join_oldest-requires : goal.join_oldest-requires
join_oldest-requires g c = next_is_free c.self.inside.next _ _ c.self.invariant.handles

pub invariant_of-self-2 : goal.invariant_of-self-2
invariant_of-self-2 g c =
    let full : c.has_all_receivers.result ≡ is_full (length (g.S.Shelf.window c.self.inside.shelf).places) c.self.inside.next =
    rw (← c.self.view_is) at c.has_all_receivers.ensures in
    let room = sym full ∙ c.if-has_all_receivers.false in
    let le = low-le _ c.self.invariant in
    rw c.in-Ok.ensures.ok
    (sound-joined _ c.self.invariant _ (omega arith) le (few_of_room _ c.self.inside.next room)
    (more_of_room _ c.self.inside.next room))
