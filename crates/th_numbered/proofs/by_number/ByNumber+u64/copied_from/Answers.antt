use Rattle.std.proofs.Common.{◌≡◌, length, refl, sym, ap, subst, ◌∙◌, rules}
use Rattle.std.specs.Ordering.{nat_cmp}
use Rattle.std.specs.List.Sorted.{IsStrictlySortedBy}
use Rattle.th_numbered.specs.Slots.{present}
use Rattle.th_numbered.proofs.Lemmas.{keys-slots, present-slots, slots_of}
use Rattle.th_numbered.proofs.by_number.ByNumber+u64.copied_from.Goals as goal

pub invariant_of-result : goal.invariant_of-result
invariant_of-result c =
    let es = c.args.map.now.entries in
    let all : c.loop-n.list.items ≡ slots_of es = search rules in
    rw all (
      subst (IsStrictlySortedBy nat_cmp) (sym (keys-slots es)) c.len.ensures.ordered,
      c.len-2.ensures.len
          ∙ sym (ap length (present-slots es)),
      refl,
    )

pub returns : goal.returns
returns c =
    let es = c.args.map.now.entries in
    let all : c.loop-n.list.items ≡ slots_of es = search rules in
    ap present all ∙ present-slots es
