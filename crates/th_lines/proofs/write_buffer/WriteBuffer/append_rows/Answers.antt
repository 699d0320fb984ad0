use Rattle.std.proofs.Common.{◌++◌, ◌<◌, ℕ, List, arith, length, map, subst, sym}
use Rattle.std.proofs.lemmas.List.{length-map}
use Rattle.th_lines.specs.Output.{Adds, Output, WritesFront, output}
use Rattle.th_lines.specs.Replies.{ended, row}
use Rattle.th_lines.proofs.OutputLemmas.{adds_line, front_line}
use Rattle.th_lines.proofs.ReplyLemmas.{row-at}
use Rattle.th_lines.proofs.write_buffer.WriteBuffer.append_rows.Goals as goal

pub loop-topic-preserved : goal.loop-topic-preserved
loop-topic-preserved g c =
    let contents = g.W.Write.contents in
    let topics = c.args.topics.now in
    let lines : List (List ℕ) = map ended (map row topics) in
    let k : ℕ = c.loop-topic.topic-index in
    let within : k < length lines = omega (arith, length-map (map row topics) ended, length-map topics row) in
    let is = row-at topics k c.topic-item.result (omega arith) c.topic-item.is in
    let before : Output = output contents c.loop-topic.writer c.loop-topic.self in
    let now : Output = output contents c.append_row.new.writer c.append_row.new.self in
    let added = subst (λ (l : List ℕ). Adds l before now) (sym is) c.in-Ok.ensures in
    adds_line lines k within c.loop-topic.invariant added

pub returns-in-Err : goal.returns-in-Err
returns-in-Err g c =
    let contents = g.W.Write.contents in
    let topics = c.args.topics.now in
    let lines : List (List ℕ) = map ended (map row topics) in
    let k : ℕ = c.loop-topic.topic-index in
    let within : k < length lines = omega (arith, length-map (map row topics) ended, length-map topics row) in
    let is = row-at topics k c.topic-item.result (omega arith) c.topic-item.is in
    let before : Output = output contents c.loop-topic.writer c.loop-topic.self in
    let now : Output = output contents c.append_row.new.writer c.append_row.new.self in
    let front = subst (λ (l : List ℕ). WritesFront (before.waiting ++ l) before now) (sym is) c.in-Err.ensures in
    front_line lines k within c.loop-topic.invariant front
