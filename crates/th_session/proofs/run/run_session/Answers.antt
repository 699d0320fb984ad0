use Rattle.std.proofs.Common.{◌≡◌, ◌∙◌, [], ap, subst, ℕ}
use Rattle.th_lines.specs.Feeding.{Feeding}
use Rattle.th_lines.specs.declared.reply.Reply.TheVariants.{Bye}
use Rattle.th_session.specs.declared.keeping.Keeping.{Keeping}
use Rattle.th_session.specs.Ending.{Devices, devices}
use Rattle.th_session.specs.Kept.{Kept}
use Rattle.th_session.specs.Run.{Progress, Ran, Strictness, strictness}
use Rattle.th_session.specs.Script.{Plays, Replied, spend_all}
use Rattle.th_session.proofs.Running.{served_short}
use Rattle.th_session.proofs.run.run_session.Goals as goal

pub returns-in_default-clause-served : goal.returns-in_default-clause-served
returns-in_default-clause-served g c =
    served_short c.args.keeping g.D.Desk.says
    (strictness g.G.Gate.holds_back g.G.Gate.lets g.G.Gate.gives_up (c.args.gate.now, c.args.number)) c.args.bounds.lines
    c.args.bounds.reads _ _ _ c.new-in_default.ensures

pub returns-in_default-new-clause-served : goal.returns-in_default-new-clause-served
returns-in_default-new-clause-served g c =
    served_short c.args.keeping g.D.Desk.says
    (strictness g.G.Gate.holds_back g.G.Gate.lets g.G.Gate.gives_up (c.args.gate.now, c.args.number)) c.args.bounds.lines
    c.args.bounds.reads _ _ _ c.new-in_default-new.ensures

pub returns-clause-served : goal.returns-clause-served
returns-clause-served g c =
    let says = g.D.Desk.says in
    let old : Devices = devices g.R.Read.remaining c.args.reader.now g.W.Write.contents c.args.writer.now in
    let new : Devices = devices g.R.Read.remaining c.go-fault.new.reader g.W.Write.contents c.go-fault.new.writer in
    let last : Kept × g.row.D.Denot = (c.go-fault.new.self.kept, c.go-fault.new.desk) in
    let kept = c.into_parts-session.ensures in
    let end = c.spend_all.ensures in
    let Gated : Type 0 = g.row.G.Denot × ℕ in
    let strict : Gated → Strictness = strictness g.G.Gate.holds_back g.G.Gate.lets g.G.Gate.gives_up in
    let same : c.in-Ok-new.run'.keeping ≡ c.args.keeping = ap (λ (k : Progress g.row.G.Denot). k.keeping) c.in-Ok-new.ensures in
    let gate : c.in-Ok-new.run'.gate ≡ (c.args.gate.now, c.args.number) = ap (λ (k : Progress g.row.G.Denot). k.gate) c.in-Ok-new.ensures in
    let limit : c.in-Ok.feeder.limit ≡ c.args.bounds.lines = ap (λ (f : Feeding). f.limit) c.in-Ok.ensures in
    let ran : Keeping → Gated → ℕ → Type 0 =
    λ k s n. Ran k says (strict s) n c.args.bounds.reads old new c.args.desk.now last c.go-fault.result in
    rw c.wake.ensures.desk (record {
      last = last;
      ran = subst (λ (n : ℕ). ran c.args.keeping (c.args.gate.now, c.args.number) n) limit
          (subst (λ (s : Gated). ran c.args.keeping s c.in-Ok.feeder.limit) gate
          (subst (λ (k : Keeping). ran k c.in-Ok-new.run'.gate c.in-Ok.feeder.limit) same c.go-fault.ensures.ran.0));
      spent = subst (λ (k : Kept). Plays says (spend_all k.handles) c.go-fault.new.desk (Replied Bye) [] c.spend_all.new.desk) kept
          end.spent;
      kept = end.none ∙ ap (λ (k : Kept). record k { handles = [] }) kept;
    })
