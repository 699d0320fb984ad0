use Rattle.std.proofs.Common.{◌≡◌, ◌+◌, ◌<◌, None, length, suc, drop, sym, ap, subst, ◌∙◌, arith}
use Rattle.th_numbered.specs.Slots.{StartsWithGaps, present, slot_at, with_slot}
use Rattle.th_numbered.proofs.Lemmas.{drop-item, gaps-next, slot_is}
use Rattle.th_numbered.proofs.by_number.entry_from.Goals as goal

pub loop-k-preserved : goal.loop-k-preserved
loop-k-preserved g c =
    let ss = c.args.list.now.items in
    let item = c.index.result.now in
    let here : c.loop-k.k < length ss = omega (arith, c.loop-k-test.true, c.len.ensures) in
    let empty : slot_at ss c.loop-k.k ≡ None = sym (slot_is ss c.loop-k.k c.index.result.now here c.index.ensures) ∙ c.in_default.is in
    let more : c.loop-k.k + 1 ≡ suc c.loop-k.k = omega arith in
    record {
      rest = sym (drop-item ss c.loop-k.k item here c.index.ensures
          ∙ ap (λ o. with_slot item.0 o (present (drop (c.loop-k.k + 1) ss))) c.in_default.is) ∙ c.loop-k.invariant.rest;
      gaps = λ h. subst (λ k. StartsWithGaps k ss) (sym more) (gaps-next ss c.loop-k.k (c.loop-k.invariant.gaps h) empty);
    }

pub returns-in-Some-clause-slot : goal.returns-in-Some-clause-slot
returns-in-Some-clause-slot g c =
    let ss = c.args.list.now.items in
    sym (slot_is ss c.loop-k.k c.index.result.now (omega (arith, c.loop-k-test.true, c.len.ensures)) c.index.ensures) ∙ c.in-Some.is

pub returns-in-Some-clause-gaps : goal.returns-in-Some-clause-gaps
returns-in-Some-clause-gaps g c = c.loop-k.invariant.gaps
