use Rattle.std.proofs.Common.{refl, ◌∙◌, ◌≡◌, ◌+◌, ap, length, take, drop, replicate, ◌++◌, ◌-◌, List, ℕ}
use Rattle.std.specs.List.{prefix_len, range_with_len}
use lib.Lanes.{pick_l}
use Rattle.std.proofs.lemmas.List.{length-append}
use Rattle.std.proofs.lemmas.Simd.{pick_l_whole}
use Rattle.th_model.specs.Names.{is_name_byte}
use Rattle.th_model.proofs.Fronts.{ends-are, ends-long, ends-late, ends-before}
use Rattle.th_model.proofs.name.run_of_8.Goals as goal

pub returns-else-run-lt4 : goal.returns-else-run-lt4
returns-else-run-lt4 c =
    let bs : List ℕ = c.args.bytes.now in
    let both : List ℕ = take 4 bs ++ take 4 (drop (length bs - 4) bs) in
    let eight : length both ≡ 8 = ends-long bs 4 c.requires.0 in
    let sixteen : length (both ++ replicate 8 0) ≡ 16 = length-append both (replicate 8 0) ∙ ap (λ n. n + 8) eight in
    let ends = pick_l_whole 0 both 8 eight in
    let all = pick_l_whole 0 (both ++ replicate 8 0) 16 sixteen in
    let lanes = ap (λ (xs : List ℕ). pick_l 0 (xs ++ replicate 8 0) (range_with_len 0 16)) ends ∙ all in
    let behind = ends-before is_name_byte both 8 0 refl in
    let whole = ap (prefix_len is_name_byte) (ends-are bs 4 c.requires.0) in
    let found = c.lanes_run-run.ensures ∙ ap (prefix_len is_name_byte) lanes ∙ behind ∙ whole in
    ends-late is_name_byte bs 4 c.lanes_run-run.result c.requires.0 c.requires.1 found c.if-run-lt4.false
