use Rattle.std.proofs.Common.{◌≡◌, Some, rules}
use Rattle.th_traces.specs.WatchDrafts.{body}
use Rattle.th_traces.specs.Drafts.{Whole}
use Rattle.th_traces.specs.Tables.{by_table}
use Rattle.th_traces.proofs.Begun.{watch-fault, watch-whole}
use Rattle.th_traces.proofs.draft.in_watch.Goals as goal

pub into_parts-requires : goal.into_parts-requires
into_parts-requires c =
    let told : by_table (body c.args.picture) c.args.line.now ≡ Some Whole = search rules in
    let same : c.take_line.new.self ≡ c.args.picture = search rules in
    rw same (watch-whole c.args.picture c.args.line.now told)

pub returns-in-Err : goal.returns-in-Err
returns-in-Err c = watch-fault c.in-Err.fault c.args.picture c.take_line.new.self c.args.line.now c.in-Err.ensures
