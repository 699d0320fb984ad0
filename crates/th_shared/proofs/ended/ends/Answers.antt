use Rattle.std.proofs.Common.{◌≡◌, ◌∙◌, List, [], ◌∷◌, ◌++◌, ap, append_assoc, arith, length, subst, sym, vec_len}
use Rattle.std.proofs.lemmas.List.{append-nil}
use Rattle.th_shared.specs.declared.ended.Ended.{Ended}
use Rattle.th_shared.specs.Ending.{AreEnds}
use Rattle.th_shared.proofs.Ending.{in_order}
use Rattle.th_shared.proofs.ended.ends.Goals as goal

pub loop-name-init : goal.loop-name-init
loop-name-init g c =
    let all : c.into_iter-name-iterator.result ≡ c.args.topics.entries =
    c.into_iter-name-iterator.ensures.into_iter_gives.0 ∙ c.into_rows-name-items.ensures.rows in
    let none : vec_len c.args.list ≡ 0 = c.args.list.ok.0 ∙ ap length c.requires.empty in
    record {
      so_far = λ rest ends. subst (λ (items : List Ended). AreEnds c.args.topics.entries (items ++ rest)) (sym c.requires.empty)
          (subst (λ ts. AreEnds ts rest) all ends);
      room = omega (arith, none, ap length all, c.requires.room);
    }

pub loop-name-preserved : goal.loop-name-preserved
loop-name-preserved g c =
    let was = c.loop-name.invariant in
    let first = c.in-Some.ensures.steps in
    record {
      so_far = λ rest ends. subst (λ (items : List Ended). AreEnds c.args.topics.entries (items ++ rest))
          (sym c.push_reserved.ensures.items)
          (subst (AreEnds c.args.topics.entries) (sym (append_assoc c.loop-name.list.items (c.end_of.result ∷ []) rest))
          (was.so_far (c.end_of.result ∷ rest) (subst (λ ts. AreEnds ts (c.end_of.result ∷ rest)) (sym first) (c.end_of.ensures, ends))));
      room = omega (arith, ap length first, was.room, c.push_reserved.ensures.len, c.push_reserved.ensures.capacity);
    }

pub returns : goal.returns
returns g c =
    let ends : AreEnds c.args.topics.entries c.loop-name.list.items =
    subst (AreEnds c.args.topics.entries) (append-nil c.loop-name.list.items)
    (c.loop-name.invariant.so_far [] (subst (λ ts. AreEnds ts []) (sym c.in-None.ensures.steps.0) tt)) in
    record {
      ends = ends;
      order = in_order 1 c.args.topics.entries c.loop-name.list.items c.into_rows-name-items.ensures.keys ends;
    }
