use Rattle.std.proofs.Common.{◌≡◌, Some, rules}
use Rattle.th_traces.specs.BroadcastDrafts.{body}
use Rattle.th_traces.specs.Drafts.{Whole}
use Rattle.th_traces.specs.Tables.{by_table}
use Rattle.th_traces.proofs.Begun.{broadcast-whole}
use Rattle.th_traces.proofs.draft.in_broadcast.Goals as goal

pub into_parts-requires : goal.into_parts-requires
into_parts-requires c =
    let told : by_table (body c.args.picture) c.args.line.now ≡ Some Whole = search rules in
    let same : c.take_line.new.self ≡ c.args.picture = search rules in
    rw same (broadcast-whole c.args.picture c.args.line.now told)
