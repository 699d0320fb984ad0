use Rattle.std.proofs.Common.{◌≡◌, ◌∙◌, ℕ, List, ap, append_assoc, map, subst, sym}
use Rattle.std.specs.List.{concat}
use Rattle.th_lines.specs.Output.{Adds, AddsOrFails, Output, output}
use Rattle.th_lines.specs.Replies.{ended, head, row, rows}
use Rattle.th_lines.proofs.OutputLemmas.{adds_others, front_as, front_more}
use Rattle.th_lines.proofs.ReplyLemmas.{one-line}
use Rattle.th_lines.proofs.write_buffer.WriteBuffer.append.Goals as goal

pub returns-in-Err : goal.returns-in-Err
returns-in-Err g c =
    let reply = c.args.reply.now in
    let others : List ℕ = concat (map ended (rows reply)) in
    front_as (append_assoc c.args.self.now (ended (head reply)) others) (front_more others c.in-Err.ensures)

pub returns-in-Topics : goal.returns-in-Topics
returns-in-Topics g c =
    let contents = g.W.Write.contents in
    let reply = c.args.reply.now in
    let old : Output = output contents c.args.writer.now c.args.self.now in
    let now : Output = output contents c.append_head.new.writer c.append_head.new.self in
    let new : Output = output contents c.append_rows.new.writer c.append_rows.new.self in
    let result = c.append_rows.result in
    let listed : map row c.rows.result.now ≡ rows reply = ap (map row) c.rows.ensures ∙ sym (ap rows c.in-Topics.is) in
    let others : AddsOrFails (concat (map ended (rows reply))) now new result =
    subst (λ (l : List (List ℕ)). AddsOrFails (concat (map ended l)) now new result) listed c.append_rows.ensures in
    adds_others old now new (ended (head reply)) (concat (map ended (rows reply))) result c.in-Ok.ensures others

pub returns : goal.returns
returns g c =
    let contents = g.W.Write.contents in
    let reply = c.args.reply.now in
    let old : Output = output contents c.args.writer.now c.args.self.now in
    let now : Output = output contents c.append_head.new.writer c.append_head.new.self in
    subst (λ (l : List ℕ). Adds l old now) (sym (one-line reply c.in_default.not-Topics)) c.in-Ok.ensures
