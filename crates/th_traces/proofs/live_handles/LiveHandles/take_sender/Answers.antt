use Rattle.std.proofs.Common.{◌≡◌, ℕ, List, true, rules, subst, sym}
use Rattle.std.specs.Map.{keys_of}
use Rattle.th_model.specs.Handles.{AreLive, with_sender}
use Rattle.th_traces.specs.LiveHandles.{live, takes_sender}
use Rattle.th_traces.proofs.Telling.{sender-told}
use Rattle.th_traces.proofs.live_handles.LiveHandles.take_sender.Goals as goal

pub invariant_of-self-2 : goal.invariant_of-self-2
invariant_of-self-2 g c =
    let s = c.self.inside in
    let h = live s.senders.keys s.receivers.entries s.next in
    let may : takes_sender c.args.has_values h c.in-Some.tx ≡ true = search rules in
    let keys : c.insert.new.self.keys ≡ with_sender s.senders.keys c.in-Some.tx = search rules in
    subst (λ (ks : List ℕ). AreLive s.next ks (keys_of s.receivers.entries)) (sym keys)
    (sender-told c.args.has_values h c.self.invariant c.in-Some.tx may)
