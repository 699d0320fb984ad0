use Rattle.std.proofs.Common.{◌+◌, drop, refl, subst, sym, take}
use Rattle.std.specs.List.{AllByRecursion}
use Rattle.th_schedule.specs.Schedule.{IsEntry}
use Rattle.th_schedule.proofs.LoopLemmas.{all-snoc, events-next, split-item, take-item}
use Rattle.th_schedule.proofs.receipts.events.Goals as goal

pub returns-then-not-is_entry : goal.returns-then-not-is_entry
returns-then-not-is_entry c =
    let i = c.loop-told.told-index in
    record {
      before = take i c.args.session.now;
      stranger = c.told-item.result;
      after = drop (i + 1) c.args.session.now;
      here = split-item c.args.session.now i c.told-item.result c.loop-told-test.true c.told-item.is;
      event_is = sym c.event-topic.ensures;
      good = c.loop-told.invariant.entries;
      bad = λ h. (let q = c.if-not-is_entry.ensures.1 h in cc);
    }

pub loop-told-preserved : goal.loop-told-preserved
loop-told-preserved c =
    let i = c.loop-told.told-index in
    let x = c.told-item.result in
    let s = c.args.session.now in
    let next = take-item s i x c.loop-told-test.true c.told-item.is in
    record {
      events = events-next s i x c.loop-told.events.items c.push.new.self.items c.event.result next c.loop-told.invariant.events
          c.event.ensures c.in-Ok.ensures.items;
      entries = subst (λ l. AllByRecursion (IsEntry c.args.segments.now) l) (sym next)
          (all-snoc (IsEntry c.args.segments.now) (take i s) x c.loop-told.invariant.entries (c.if-not-is_entry.ensures.0 refl));
    }
