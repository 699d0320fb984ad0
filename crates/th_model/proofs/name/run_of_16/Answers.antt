use Rattle.std.proofs.Common.{◌∙◌, ap, length, take, drop, ◌++◌, ◌-◌, List, ℕ}
use Rattle.std.specs.List.{prefix_len}
use Rattle.std.proofs.lemmas.Simd.{pick_l_whole}
use Rattle.th_model.specs.Names.{is_name_byte}
use Rattle.th_model.proofs.Fronts.{ends-are, ends-long, ends-late}
use Rattle.th_model.proofs.name.run_of_16.Goals as goal

pub returns-else-run-lt8 : goal.returns-else-run-lt8
returns-else-run-lt8 c =
    let bs : List ℕ = c.args.bytes.now in
    let both : List ℕ = take 8 bs ++ take 8 (drop (length bs - 8) bs) in
    let lanes = pick_l_whole 0 both 16 (ends-long bs 8 c.requires.0) ∙ ends-are bs 8 c.requires.0 in
    let found = c.lanes_run-run.ensures ∙ ap (prefix_len is_name_byte) lanes in
    ends-late is_name_byte bs 8 c.lanes_run-run.result c.requires.0 c.requires.1 found c.if-run-lt8.false
