use Rattle.std.proofs.Common.{◌≡◌, ◌∙◌, None, rules, sym}
use Rattle.th_lines.specs.Fields.{number_last}
use Rattle.th_lines.specs.Reads.{rest_of}
use Rattle.th_traces.specs.WatchWords.{number_calls}
use Rattle.th_traces.proofs.Entries.{numberless}
use Rattle.th_traces.proofs.watch_call.by_number.Goals as goal

pub returns-in_err-last_number : goal.returns-in_err-last_number
returns-in_err-last_number c =
    let none : number_last (λ n. n) (rest_of c.args.rest) ≡ None = search rules in
    let same : c.from_residual.result ≡ None = search rules in
    same ∙ sym (numberless number_calls c.args.word.now (rest_of c.args.rest) none)
