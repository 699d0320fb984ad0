use Rattle.std.proofs.Common.{◌++◌, ◌-◌, ◌<◌, ◌∙◌, ℕ, List, ap, arith, drop, length, map, subst, sym, take}
use Rattle.std.specs.List.{concat}
use Rattle.std.proofs.lemmas.List.{length-map}
use Rattle.th_lines.specs.Output.{Adds, Output, WritesFront, output}
use Rattle.th_lines.proofs.OutputLemmas.{adds_line, front_line}
use Rattle.th_registry.specs.Receipts.{ChannelReceipt}
use Rattle.th_registry.specs.declared.opening.TopicId.{TopicId}
use Rattle.th_session.specs.Rows.{told_by}
use Rattle.th_session.proofs.RowTaken.{all_last, text_at}
use Rattle.th_session.proofs.rows.put_row.Goals as goal

pub loop-entry-preserved : goal.loop-entry-preserved
loop-entry-preserved g c =
    let contents = g.W.Write.contents in
    let rs = c.receipts-receipts.result.now in
    let last = take (length rs - (length rs - c.args.count)) (drop (length rs - c.args.count) rs) in
    let lines : List (List ℕ) = map (λ r. told_by r.1) last in
    let k : ℕ = c.loop-entry.entry-index in
    let h : k < length last = c.loop-entry-test.true in
    let within : k < length lines = omega (arith, h, length-map last (λ r. told_by r.1)) in
    let is = text_at last k c.entry-item.result h c.entry-item.is in
    let before : Output = output contents c.loop-entry.writer c.loop-entry.replies.text in
    let now : Output = output contents c.put_told.new.writer c.put_told.new.self.text in
    let added = subst (λ (l : List ℕ). Adds l before now) (sym is) c.in-Ok.ensures.told in
    record {
      desk = c.in-Ok.ensures.desk ∙ c.loop-entry.invariant.desk;
      gate = c.in-Ok.ensures.gate ∙ c.loop-entry.invariant.gate;
      told = adds_line lines k within c.loop-entry.invariant.told added;
    }

pub returns-in-Err-clause-told : goal.returns-in-Err-clause-told
returns-in-Err-clause-told g c =
    let contents = g.W.Write.contents in
    let rs = c.receipts-receipts.result.now in
    let last = take (length rs - (length rs - c.args.count)) (drop (length rs - c.args.count) rs) in
    let lines : List (List ℕ) = map (λ r. told_by r.1) last in
    let k : ℕ = c.loop-entry.entry-index in
    let h : k < length last = c.loop-entry-test.true in
    let within : k < length lines = omega (arith, h, length-map last (λ r. told_by r.1)) in
    let is = text_at last k c.entry-item.result h c.entry-item.is in
    let before : Output = output contents c.loop-entry.writer c.loop-entry.replies.text in
    let now : Output = output contents c.put_told.new.writer c.put_told.new.self.text in
    let front = subst (λ (l : List ℕ). WritesFront (before.waiting ++ l) before now) (sym is) c.in-Err.ensures.told in
    let broken = front_line lines k within c.loop-entry.invariant.told front in
    let all = all_last rs c.args.count ∙ ap (λ (l : List (TopicId × ChannelReceipt)). drop (length l - c.args.count) l)
    c.receipts-receipts.ensures in
    subst (λ (l : List (TopicId × ChannelReceipt)). WritesFront (c.args.replies.now.text ++ concat (map (λ r. told_by r.1) l))
    (output contents c.args.writer.now c.args.replies.now.text) now) all broken
