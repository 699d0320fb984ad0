use Rattle.std.proofs.Common.{◌≡◌, ◌∙◌, ◌+◌, ◌≤◌, [], Some, ap, arith, refl, subst, sym, true, ℕ}
use Rattle.std.specs.Prelude.{Option}
use Rattle.th_lines.specs.Device.{kept_count}
use Rattle.th_lines.specs.Feeding.{Stands}
use Rattle.th_lines.specs.Output.{Output, output}
use Rattle.th_lines.specs.Tally.{Tally}
use Rattle.th_lines.proofs.AnsweringLemmas.{answers_none}
use Rattle.th_session.specs.declared.fault.SessionFault.{SessionFault}
use Rattle.th_session.specs.declared.fault.SessionFault.TheVariants.{Write}
use Rattle.th_session.specs.Ending.{Devices, devices}
use Rattle.th_session.specs.Run.{Progress, IsOver, IsSettled, Ran, Took, beginning, fault_by, may_wait, strictness, writer_failures}
use Rattle.th_session.proofs.Letting.{none_let}
use Rattle.th_session.proofs.Running.{ends_at_once, ends_broken, ends_written}
use Rattle.th_session.proofs.run.Run.go.Goals.{in-Ok, in-Err}
use Rattle.th_session.proofs.run.Run.go.Goals as goal

pub returns-then-not-may_wait-clause-ran : goal.returns-then-not-may_wait-clause-ran
returns-then-not-may_wait-clause-ran g c =
    let says = g.D.Desk.says in
    let contents = g.W.Write.contents in
    let keeping = c.args.self.now.keeping in
    let gate = c.args.self.now.gate in
    let strict = strictness g.G.Gate.holds_back g.G.Gate.lets g.G.Gate.gives_up in
    let Run : Type 0 = Progress g.row.G.Denot in
    let Standing : Type 0 = Run × g.row.D.Denot × Tally g.row.W.Denot in
    let stood : Run → Standing = λ k. (k, c.args.desk.now, c.args.writer.now) in
    let took = Took says strict contents in
    let over = IsOver says strict contents in
    let old : Devices = devices g.R.Read.remaining c.args.reader.now contents c.args.writer.now in
    let new : Devices = devices g.R.Read.remaining c.feed-fed.new.reader contents c.feed-fed.new.writer in
    let f = c.feed-fed.new.self in
    let now : Standing = (c.feed-fed.new.taker, c.feed-fed.new.desk, c.feed-fed.new.writer) in
    let few : f.taken ≤ f.limit = omega (arith, c.taken-taken.ensures.taken, c.taken-taken.ensures.within) in
    let spent = kept_count c.feed-fed.new.reader.calls ≡ kept_count (c.args.reader.now.calls + c.args.reads) in
    let s = subst (λ (k : Run). took (stood k) [] (stood k) → Stands took over old.remaining new.remaining (stood k)
    IsSettled spent c.args.reads c.feed-fed.result f now) c.requires.run c.feed-fed.ensures.fed
    (refl, refl, none_let (strict gate) 0, answers_none _) in
    let e : fault_by c.feed-fed.result ≡ c.fault_by-fault.result = sym c.fault_by-fault.ensures.fault in
    let P : ℕ → Option SessionFault → Type 0 = λ n fault.
    Ran keeping says (strict gate) n c.args.reads old new c.args.desk.now (c.feed-fed.new.taker.kept, c.feed-fed.new.desk) fault
    × (c.feed-fed.new.writer.failures ≡ writer_failures c.args.writer.now.failures fault) in
    subst (λ (n : ℕ). P n c.fault_by-fault.result) c.feed-fed.ensures.limit
    (subst (λ (fault : Option SessionFault). P f.limit fault) e
    (ends_at_once keeping says strict gate contents old new c.args.desk.now c.args.writer.now refl f now few c.args.reads
    c.feed-fed.result s refl (ap may_wait e ∙ sym c.may_wait.ensures ∙ c.if-not-may_wait.true)))

pub returns-clause-ran : goal.returns-clause-ran
returns-clause-ran g c =
    let says = g.D.Desk.says in
    let contents = g.W.Write.contents in
    let keeping = c.args.self.now.keeping in
    let gate = c.args.self.now.gate in
    let strict = strictness g.G.Gate.holds_back g.G.Gate.lets g.G.Gate.gives_up in
    let Run : Type 0 = Progress g.row.G.Denot in
    let Standing : Type 0 = Run × g.row.D.Denot × Tally g.row.W.Denot in
    let stood : Run → Standing = λ k. (k, c.args.desk.now, c.args.writer.now) in
    let took = Took says strict contents in
    let over = IsOver says strict contents in
    let old : Devices = devices g.R.Read.remaining c.args.reader.now contents c.args.writer.now in
    let new : Devices = devices g.R.Read.remaining c.feed-fed.new.reader contents c.settle.new.writer in
    let f = c.feed-fed.new.self in
    let i = c.self.inside in
    let at : Run = record {
      kept = i.session;
      waiting = i.replies.text;
      gate = i.replies.gate;
      keeping = i.keeping;
      owes = g.D.Desk.owes i.owed;
    } in
    let now : Standing = (at, c.feed-fed.new.desk, c.feed-fed.new.writer) in
    let few : f.taken ≤ f.limit = omega (arith, c.taken-taken.ensures.taken, c.taken-taken.ensures.within) in
    let spent = kept_count c.feed-fed.new.reader.calls ≡ kept_count (c.args.reader.now.calls + c.args.reads) in
    let fed = subst (λ (k : Run). took (stood k) [] (stood k) → Stands took over old.remaining new.remaining (stood k)
    IsSettled spent c.args.reads c.feed-fed.result f (c.feed-fed.new.taker, c.feed-fed.new.desk, c.feed-fed.new.writer))
    c.requires.run c.feed-fed.ensures.fed (refl, refl, none_let (strict gate) 0, answers_none _) in
    let s = subst (λ (k : Run). Stands took over old.remaining new.remaining (stood (beginning keeping gate))
    IsSettled spent c.args.reads c.feed-fed.result f (k, c.feed-fed.new.desk, c.feed-fed.new.writer)) (sym c.self.view_is) fed in
    let e : fault_by c.feed-fed.result ≡ c.fault_by-fault.result = sym c.fault_by-fault.ensures.fault in
    let wait : may_wait (fault_by c.feed-fed.result) ≡ true = ap may_wait e ∙ sym c.may_wait.ensures ∙ c.if-not-may_wait.false in
    let after : Output = output contents c.settle.new.writer c.settle.new.self.text in
    let P : ℕ → g.row.D.Denot → Option SessionFault → Type 0 = λ n d fault.
    Ran keeping says (strict gate) n c.args.reads old new c.args.desk.now (i.session, d) fault
    × (c.settle.new.writer.failures ≡ writer_failures c.args.writer.now.failures fault) in
    subst (λ (n : ℕ). P n c.settle.new.desk c.match-settle.result) c.feed-fed.ensures.limit
    (elim c.match-settle.branch [
      | in-Ok w ↦ subst (λ (fault : Option SessionFault). P f.limit c.settle.new.desk fault) (e ∙ sym w.result-is)
          (subst (λ (d : g.row.D.Denot). P f.limit d (fault_by c.feed-fed.result)) (sym w.in-Ok.ensures.desk)
          (ends_written keeping says strict gate contents old new c.args.desk.now c.args.writer.now refl f now few c.args.reads after refl
          c.feed-fed.result s w.in-Ok.ensures.wrote.0 wait))
      | in-Err w ↦ subst (λ (fault : Option SessionFault). P f.limit c.settle.new.desk fault) (sym w.result-is)
          (subst (λ (d : g.row.D.Denot). P f.limit d (Some Write)) (sym w.in-Err.ensures.desk)
          (ends_broken keeping says strict gate contents old new c.args.desk.now c.args.writer.now refl f now few c.args.reads after refl
          c.feed-fed.result s w.in-Err.ensures.wrote wait))
    ])
