use Rattle.std.proofs.Common.{ℕ, rules}
use Rattle.th_lines.specs.Reads.{rest_of}
use Rattle.th_traces.specs.BroadcastDrafts.{Drawn, handles, parts, place_last}
use Rattle.th_traces.specs.Drafts.{TakesLine}
use Rattle.th_traces.specs.LiveHandles.{Live, receiver_fields}
use Rattle.th_traces.proofs.Telling.{receiver-within}
use Rattle.th_traces.proofs.broadcast_draft.BroadcastDraft.take_line.Goals as goal

pub invariant_of-self-then-eq-3 : goal.invariant_of-self-then-eq-3
invariant_of-self-then-eq-3 c =
    let s = c.self.inside in
    let p : Drawn = parts s.capacity s.low s.tail s.kept.items s.handles in
    let had = c.has_values-has_values.result in
    let rest = rest_of c.cut.result.1 in
    let new = c.take_receiver.new.self in
    let told : TakesLine c.take_receiver.result (handles p) new (receiver_fields (λ (h : Live ℕ). h) had (handles p) (place_last p rest)) =
    search rules in
    record {
      capacity = c.self.invariant.capacity;
      low = c.self.invariant.low;
      tail = c.self.invariant.tail;
      places = receiver-within p had rest c.take_receiver.result new c.self.invariant.places told;
    }
