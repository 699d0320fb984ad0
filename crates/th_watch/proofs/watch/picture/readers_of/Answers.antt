use Rattle.std.proofs.Common.{◌≡◌, ◌++◌, ℕ, map, ap, subst, ◌∙◌}
use Rattle.th_model.specs.WatchMachine.{Kept}
use Rattle.std.specs.Prelude.{Bool}
use Rattle.th_model.specs.WatchPicture.{shown}
use Rattle.th_watch.proofs.Rebuilt.{inserted-reader}
use Rattle.th_watch.proofs.watch.picture.readers_of.Goals as goal

pub loop-rx-preserved : goal.loop-rx-preserved
loop-rx-preserved c =
    let v = c.args.version in
    let all = c.args.marks.now.entries in
    let front = c.loop-rx.readers.entries in
    let rest = c.next.new.self in
    let now = subst (λ (ms : Kept ℕ). front ++ map (shown v) ms ≡ map (shown v) all) c.in-Some.ensures.steps c.loop-rx.invariant in
    ap (λ (es : Kept Bool). es ++ map (shown v) rest) c.in_ok-insert.ensures.entries
    ∙ inserted-reader v front (c.in-Some.rx.now, c.in-Some.mark.now) rest all c.requires now
