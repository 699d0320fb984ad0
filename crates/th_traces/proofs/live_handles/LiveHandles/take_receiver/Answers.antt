use Rattle.std.proofs.Common.{◌≡◌, true, rules, subst, sym}
use Rattle.std.specs.Map.{keys_of}
use Rattle.th_model.specs.Handles.{AreLive}
use Rattle.th_model.specs.WatchMachine.{with_reader}
use Rattle.th_traces.specs.LiveHandles.{live, takes_receiver}
use Rattle.th_traces.proofs.Telling.{receiver-told}
use Rattle.th_traces.proofs.live_handles.LiveHandles.take_receiver.Goals as goal

pub invariant_of-self-2 : goal.invariant_of-self-2
invariant_of-self-2 g c =
    let s = c.self.inside in
    let h = live s.senders.keys s.receivers.entries s.next in
    let may : takes_receiver c.args.has_values h c.in-Some.rx ≡ true = search rules in
    let placed : c.insert.new.self.entries ≡ with_reader s.receivers.entries c.in-Some.rx c.in-Some.standing = search rules in
    subst (λ l. AreLive s.next s.senders.keys (keys_of l)) (sym placed)
    (receiver-told c.args.has_values h c.self.invariant c.in-Some.rx c.in-Some.standing may)
