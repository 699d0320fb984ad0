use Rattle.std.proofs.Common.{◌≡◌, ◌∙◌, ◌+◌, ◌≤◌, [], List, ap, arith, false, refl, subst, sym, true, ℕ}
use Rattle.std.specs.Prelude.{Option, Result}
use Rattle.th_lines.specs.Device.{kept_count}
use Rattle.th_lines.specs.Feeding.{Stands}
use Rattle.th_lines.specs.Output.{Output, output}
use Rattle.th_lines.specs.Tally.{Tally}
use Rattle.th_lines.proofs.AnsweringLemmas.{answers_none}
use Rattle.th_replay.specs.Outcome.{Comes, Devices, devices}
use Rattle.th_replay.specs.Progress.{Progress, IsBroken, Took, beginning, end_by, may_wait}
use Rattle.th_replay.specs.Schedule.{answers, seen_start}
use Rattle.th_replay.specs.declared.fault.ReplayFault.{ReplayFault}
use Rattle.th_replay.specs.declared.fault.ReplayFault.TheVariants.{Write}
use Rattle.th_replay.proofs.Endings.{comes_at_once, comes_broken, comes_written}
use Rattle.th_replay.proofs.runner.Runner.run.Goals.{in-Ok, in-Err}
use Rattle.th_replay.proofs.runner.Runner.run.Goals as goal

pub returns-then-not-may_wait-clause-comes : goal.returns-then-not-may_wait-clause-comes
returns-then-not-may_wait-clause-comes g c =
    let contents = g.W.Write.contents in
    let r : Option (List ℕ) = g.R.Read.remaining c.args.reader.now.device in
    let r' : Option (List ℕ) = g.R.Read.remaining c.feed-fed.new.reader.device in
    let old : Devices = devices g.R.Read.remaining c.args.reader.now contents c.args.writer.now in
    let new : Devices = devices g.R.Read.remaining c.feed-fed.new.reader contents c.feed-fed.new.writer in
    let f = c.feed-fed.new.self in
    let few : f.taken ≤ f.limit = omega (arith, c.taken.ensures.taken, c.taken.ensures.within) in
    let unit : Unit {0} = tt in
    let now : Progress × Unit {0} × Tally g.row.W.Denot = (c.feed-fed.new.taker, unit, c.feed-fed.new.writer) in
    let s = subst (λ (k : Progress). Took contents (k, unit, c.args.writer.now) [] (k, unit, c.args.writer.now)
    → Stands (Took contents) (IsBroken contents) r r' (k, unit, c.args.writer.now) (λ p. p.0.waiting ≡ [])
    (kept_count c.feed-fed.new.reader.calls ≡ kept_count (c.args.reader.now.calls + c.args.reads))
    c.args.reads c.feed-fed.result f now) c.requires.run c.feed-fed.ensures.fed (answers_none _) in
    let e : end_by c.feed-fed.result f.taken ≡ c.end_by-end.result =
    ap (λ (n : ℕ). end_by c.feed-fed.result n) (sym c.taken.ensures.taken) ∙ sym c.end_by-end.ensures.end in
    subst (λ (n : ℕ). Comes answers seen_start n c.args.reads old new c.end_by-end.result) c.feed-fed.ensures.limit
    (subst (λ (x : Result ℕ ReplayFault). Comes answers seen_start f.limit c.args.reads old new x) e
    (comes_at_once contents old new c.args.writer.now unit refl f now few c.args.reads c.feed-fed.result s refl
    (ap may_wait e ∙ sym c.may_wait.ensures ∙ c.if-not-may_wait.true)))

pub returns-clause-comes : goal.returns-clause-comes
returns-clause-comes g c =
    let contents = g.W.Write.contents in
    let r : Option (List ℕ) = g.R.Read.remaining c.args.reader.now.device in
    let r' : Option (List ℕ) = g.R.Read.remaining c.feed-fed.new.reader.device in
    let old : Devices = devices g.R.Read.remaining c.args.reader.now contents c.args.writer.now in
    let new : Devices = devices g.R.Read.remaining c.feed-fed.new.reader contents c.flush.new.writer in
    let f = c.feed-fed.new.self in
    let few : f.taken ≤ f.limit = omega (arith, c.taken.ensures.taken, c.taken.ensures.within) in
    let unit : Unit {0} = tt in
    let at : Progress = record { hub = c.self.inside.hub; waiting = c.self.inside.out } in
    let now : Progress × Unit {0} × Tally g.row.W.Denot = (at, unit, c.feed-fed.new.writer) in
    let spent = kept_count c.feed-fed.new.reader.calls ≡ kept_count (c.args.reader.now.calls + c.args.reads) in
    let fed = subst (λ (k : Progress). Took contents (k, unit, c.args.writer.now) [] (k, unit, c.args.writer.now)
    → Stands (Took contents) (IsBroken contents) r r' (k, unit, c.args.writer.now) (λ p. p.0.waiting ≡ []) spent
    c.args.reads c.feed-fed.result f (c.feed-fed.new.taker, unit, c.feed-fed.new.writer)) c.requires.run c.feed-fed.ensures.fed
    (answers_none _) in
    let s = subst (λ (k : Progress). Stands (Took contents) (IsBroken contents) r r' (beginning, unit, c.args.writer.now)
    (λ p. p.0.waiting ≡ []) spent
    c.args.reads c.feed-fed.result f (k, unit, c.feed-fed.new.writer)) (sym c.self.view_is) fed in
    let e : end_by c.feed-fed.result f.taken ≡ c.end_by-end.result =
    ap (λ (n : ℕ). end_by c.feed-fed.result n) (sym c.taken.ensures.taken) ∙ sym c.end_by-end.ensures.end in
    let wait : may_wait (end_by c.feed-fed.result f.taken) ≡ true = ap may_wait e ∙ sym c.may_wait.ensures ∙ c.if-not-may_wait.false in
    let after : Output = output contents c.flush.new.writer c.flush.new.self in
    let P : Result ℕ ReplayFault → Type 0 = λ x. Comes answers seen_start f.limit c.args.reads old new x in
    subst (λ (n : ℕ). Comes answers seen_start n c.args.reads old new c.match-flush.result) c.feed-fed.ensures.limit
    (elim c.match-flush.branch [
      | in-Ok w ↦ subst P (e ∙ sym w.result-is) (comes_written contents old new c.args.writer.now unit refl f now few c.args.reads
          after refl c.feed-fed.result s w.in-Ok.ensures.0 wait)
      | in-Err w ↦ subst P (sym w.result-is) (comes_broken contents old new c.args.writer.now unit refl f now few c.args.reads after refl
          c.feed-fed.result s w.in-Err.ensures wait)
    ])
