use Rattle.std.proofs.Common.{◌<◌, ◌^◌, ◌-◌, length, arith}
use Rattle.th_watch.proofs.HeldLemmas.{held-joined, joined}
use Rattle.th_watch.proofs.watch.Watch.add_receiver.Goals as goal

pub invariant_of-self-2 : goal.invariant_of-self-2
invariant_of-self-2 g c =
    let w = c.self.inside in
    let few : length w.marks.entries < 65535 =
    omega (arith, c.len.ensures.len, c.if-len-ge-MOST_HANDLES.false) in
    let more : w.next < 2 ^ 64 - 1 =
    omega (arith, c.self.invariant.handles.fits, c.if-self.false) in
    rw c.in-Ok.ensures.entries
    (held-joined c.self.invariant c.mark_for-mark.result few more c.mark_for-mark.ensures.within)

pub returns-clause-step : goal.returns-clause-step
returns-clause-step g c =
    let w = c.self.inside in
    let few : length w.marks.entries < 65535 =
    omega (arith, c.len.ensures.len, c.if-len-ge-MOST_HANDLES.false) in
    let more : w.next < 2 ^ 64 - 1 =
    omega (arith, c.self.invariant.handles.fits, c.if-self.false) in
    rw (← c.self.view_is, c.in-Ok.ensures.entries)
    (joined w.version w.last w.marks.entries w.senders.keys w.next
    c.mark_for-mark.result c.args.unseen c.mark_for-mark.ensures.unseen few more)
