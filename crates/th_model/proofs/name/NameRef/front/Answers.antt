use Rattle.std.proofs.Common.{arith, ◌≡◌, ℕ, List, take, true, Some, sym, ap, subst, ◌∙◌}
use Rattle.std.proofs.lemmas.List.Sums.{prefix_len-le-length}
use Rattle.th_model.specs.Names.{is_name, is_name_byte}
use Rattle.th_model.proofs.Fronts.{front-is-name, front-name}
use Rattle.th_model.proofs.name.NameRef.front.Goals as goal

pub split_at-requires : goal.split_at-requires
split_at-requires c = omega (arith, c.name_run-count.ensures, prefix_len-le-length is_name_byte c.args.bytes.now)

pub invariant_of-result : goal.invariant_of-result
invariant_of-result c =
    let count = c.name_run-count in
    let name = front-is-name c.args.bytes.now count.result count.ensures c.if-count-eq0.false c.if-count-gt-MOST_BYTES.false in
    subst (λ (bs : List ℕ). is_name bs ≡ true) (sym c.split_at.ensures.front) name

pub returns : goal.returns
returns c =
    let n : ℕ = c.name_run-count.result in
    ap (λ (name : List ℕ). Some (name, c.split_at.result.1.now)) c.split_at.ensures.front
    ∙ ap (λ (rest : List ℕ). Some (take n c.args.bytes.now, rest)) c.split_at.ensures.back
    ∙ sym (front-name c.args.bytes.now n c.name_run-count.ensures c.if-count-eq0.false c.if-count-gt-MOST_BYTES.false)
