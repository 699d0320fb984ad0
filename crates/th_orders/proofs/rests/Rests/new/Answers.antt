use Rattle.std.proofs.Common.{◌≡◌, ◌∙◌, ap, length, replicate}
use Rattle.th_orders.specs.Rests.{rests}
use Rattle.th_orders.proofs.Searching.{rests-all}
use Rattle.th_orders.proofs.rests.Rests.new.Goals as goal

pub returns : goal.returns
returns c =
    let count : c.len.result ≡ length c.args.sessions.items = c.len.ensures ∙ c.args.sessions.ok.0 in
    ap (λ ns. rests ns c.args.sessions.items)
    (c.in_ok-taken.ensures.items_if_clones_equal (λ y same. same) ∙ ap (λ n. replicate n 0) count) ∙ rests-all c.args.sessions.items
