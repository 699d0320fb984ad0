use Rattle.std.proofs.Common.{◌≡◌, ◌++◌, ℕ, map, ap, subst, ◌∙◌}
use Rattle.std.specs.Prelude.{Bool}
use Rattle.std.specs.Ordering.{nat_cmp}
use Rattle.std.specs.BTreeMap.{insert_entry}
use Rattle.th_model.specs.WatchMachine.{Kept}
use Rattle.th_model.specs.WatchPicture.{mark_at}
use Rattle.th_watch.proofs.Rebuilt.{inserted-mark}
use Rattle.th_watch.proofs.watch.picture.marks_of.Goals as goal

pub loop-rx-preserved : goal.loop-rx-preserved
loop-rx-preserved c =
    let v = c.args.version in
    let all = c.args.readers.now.entries in
    let front = c.loop-rx.marks.entries in
    let rest = c.next.new.self in
    let now = subst (λ (rs : Kept Bool). front ++ map (mark_at v) rs ≡ map (mark_at v) all) c.in-Some.ensures.steps c.loop-rx.invariant in
    let entry = c.mark_for.ensures.mark c.in-Some.rx.now in
    ap (λ (es : Kept ℕ). es ++ map (mark_at v) rest)
    (c.in_ok-insert.ensures.entries ∙ ap (λ (e : ℕ × ℕ). insert_entry nat_cmp front e.0 e.1) entry)
    ∙ inserted-mark v front (c.in-Some.rx.now, c.in-Some.unseen.now) rest all c.requires.rising now
