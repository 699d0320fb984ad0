use Rattle.std.proofs.Common.{ℕ, List, ap, sym, ◌∙◌}
use Rattle.std.specs.Prelude.{is_some}
use Rattle.th_lines.specs.Fields.{Rest, by_word}
use Rattle.th_traces.specs.Grammars.{replies, reply_of}
use Rattle.th_traces.specs.Tables.{by_table}
use Rattle.th_traces.proofs.Fronts.{reply-missing, reply-there}
use Rattle.th_traces.proofs.entry.says_reply.Goals as goal

pub returns : goal.returns
unfolding reply_of
returns g c = λ call same.
    let grammar = g.C.EntryLines.grammar in
    let given = grammar.value_given call in
    c.says_word.ensures given same
    ∙ ap (λ (field : List ℕ × Rest). is_some (by_word (replies grammar given) field.0 field.1)) c.cut.ensures
    ∙ ap is_some (sym (reply-there (by_table (replies grammar given)) c.args.line.now c.in-Some.bytes.now c.in-Some.ensures))

pub returns-in_default : goal.returns-in_default
unfolding reply_of
returns-in_default g c = λ call same.
    let grammar = g.C.EntryLines.grammar in
    sym (ap is_some (reply-missing (by_table (replies grammar (grammar.value_given call))) c.args.line.now c.in_default.ensures))
