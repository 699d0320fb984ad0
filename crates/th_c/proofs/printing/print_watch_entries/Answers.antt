use Rattle.std.proofs.Common.{◌≡◌, ℕ, List, [], ◌∷◌, ◌++◌, ap, arith, get_or, map, ◌∙◌}
use Rattle.std.proofs.lemmas.List.{take_all}
use Rattle.th_model.specs.declared.watch.WCall.{WCall}
use Rattle.th_model.specs.declared.watch.WReply.{WReply}
use Rattle.th_traces.specs.Grammars.{fields}
use Rattle.th_traces.specs.Spelled.{Bytes, entry_lines, text}
use Rattle.th_traces.specs.WatchWords.{grammar}
use Rattle.th_c.specs.SpelledValues.{watch_entry}
use Rattle.th_c.proofs.Printed.{told-more}
use Rattle.th_c.proofs.printing.print_watch_entries.Goals as goal

pub loop-call-preserved : goal.loop-call-preserved
loop-call-preserved g c =
    let entry : WCall g.row.T.Denot × WReply g.row.T.Denot → WCall Bytes × WReply Bytes = watch_entry g.T.Payload.spelled in
    let entries : List (WCall g.row.T.Denot × WReply g.row.T.Denot) = c.args.entries.now in
    let k : ℕ = c.loop-call.call-index in
    let last = c.loop-call-item.result in
    let out : List ℕ = c.loop-call.out.items in
    let next : List ℕ = c.print_entry.new.out.items in
    let told : WCall Bytes × WReply Bytes → List ℕ = λ e. text (entry_lines (fields grammar (e ∷ []))) in
    let call = c.in_ok-call.ensures in
    let reply = c.in_ok-reply.ensures in
    let same : (c.in_ok-call.call, c.in_ok-reply.reply) ≡ entry last = λ j. (call j, reply j) in
    let here : (c.in_ok-call.call, c.in_ok-reply.reply) ≡ entry (get_or entries k last) = same ∙ ap entry c.loop-call-item.is in
    let printed : next ≡ out ++ told (c.in_ok-call.call, c.in_ok-reply.reply) = c.in-Ok.ensures.ok in
    told-more grammar entry entries k last c.loop-call-test.true c.args.out.now.items out next c.loop-call.invariant
    (printed ∙ ap (λ e. out ++ told e) here)

pub returns : goal.returns
returns g c =
    let entry : WCall g.row.T.Denot × WReply g.row.T.Denot → WCall Bytes × WReply Bytes = watch_entry g.T.Payload.spelled in
    let entries : List (WCall g.row.T.Denot × WReply g.row.T.Denot) = c.args.entries.now in
    let all = take_all c.loop-call.call-index entries (omega (arith, c.loop-call-test.false)) in
    c.loop-call.invariant ∙ ap (λ xs. c.args.out.now.items ++ text (entry_lines (fields grammar (map entry xs)))) all
