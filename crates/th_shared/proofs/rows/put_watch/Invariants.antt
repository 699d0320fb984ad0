use Rattle.std.proofs.Common.{◌≡◌, ◌+◌, ◌++◌, ◌≤◌, length, map, vec_capacity, vec_len}
use Rattle.std.specs.Vec.Iter.{drain_items}
use Rattle.th_registry.specs.declared.channel.Channel.TheVariants.{Watch}
use Rattle.th_registry.specs.Rows.{on_topic}
use Rattle.th_shared.proofs.rows.put_watch.Given as goal

abbrev pub invariant-loop-receipt : goal.invariant-loop-receipt
invariant-loop-receipt l =
    (goal.iterator-loop-receipt).can_next l.receipt-iterator ×
    (goal.iterator-loop-receipt).is_finite l.receipt-iterator ×
    (l.receipts.items ++ on_topic l.topic.0 (map (λ r. Watch r) (drain_items l.receipt-iterator))
    ≡ l.fn.receipts.items ++ on_topic l.topic.0 (map (λ r. Watch r) l.fn.room.items)) ×
    (vec_len l.receipts + length (drain_items l.receipt-iterator) ≤ vec_capacity l.receipts)
