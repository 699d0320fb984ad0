use Rattle.std.proofs.Common.{◌≡◌, arith, length, rules}
use Rattle.th_traces.proofs.Few.{few-lines}
use Rattle.th_traces.proofs.broadcast_lines.BroadcastLines.count.Goals as goal

pub returns-clause-most : goal.returns-clause-most
returns-clause-most c =
    let senders : c.len.result ≡ length c.args.picture.now.senders = search rules in
    let places : c.len-2.result ≡ length c.args.picture.now.window.places = search rules in
    let kept : c.len-3.result ≡ length c.args.picture.now.window.kept = search rules in
    omega (arith, few-lines c.args.picture.now c.next_number-next.ensures.sound, senders, places, kept)
