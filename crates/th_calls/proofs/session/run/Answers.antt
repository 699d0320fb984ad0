use Rattle.std.proofs.Common.{◌≡◌, ◌∙◌, ◌∷◌, [], ℕ, List, Some, false, length, refl, subst, sym, true}
use Rattle.std.specs.Prelude.{Bool, Option}
use Rattle.std.proofs.lemmas.Bool.{false≢true}
use Rattle.th_lines.specs.Lines.{Line}
use Rattle.th_registry.specs.Hub.{Query, Said}
use Rattle.th_session.specs.declared.fault.SessionFault.{SessionFault}
use Rattle.th_session.specs.declared.fault.SessionFault.TheVariants.{Gate, Gone}
use Rattle.th_session.specs.declared.keeping.Keeping.{Keeping}
use Rattle.th_session.specs.Ending.{Devices}
use Rattle.th_session.specs.Kept.{Kept}
use Rattle.th_session.specs.Run.{IsFirst, MayGiveUp, MayHold, Ran, Served, Strictness}
use Rattle.th_calls.proofs.session.run.Goals as goal

-- a gate that never says no ends no run
module _ {D : Type 0} {keeping : Keeping} {says : D → (q : Query) → Said q → D → Type 0} {gate : Strictness} {lines reads : ℕ}
    {old new : Devices} {d d' : D} {left : Kept} {fault : Option SessionFault}
    (s : Served keeping says gate lines reads old new d d' left fault) where
  ran_so : (end : Option SessionFault) → fault ≡ end → Ran keeping says gate lines reads old new d s.last end
  ran_so end e = subst (λ (f : Option SessionFault). Ran keeping says gate lines reads old new d s.last f) e s.ran

  never_held : ((n : ℕ) → gate.holds_back n ≡ false) → fault ≡ Some Gate → ⊥
  never_held lets e = let ran = ran_so (Some Gate) e in none_held (length ran.0.first) ran.0.later ran.1
    where
      none_held : (n : ℕ) (later : List Line) → IsFirst (MayHold gate n) later → ⊥
      none_held n [] never = never
      none_held n (line ∷ later) is = false≢true (sym (lets _) ∙ is)

  never_gone : gate.gives_up ≡ false → fault ≡ Some Gone → ⊥
  never_gone waits e = let ran = ran_so (Some Gone) e in none_gone (length ran.0.first) ran.0.later ran.1
    where
      none_gone : (n : ℕ) (later : List Line) → IsFirst (MayGiveUp gate n) later → ⊥
      none_gone n [] never = never
      none_gone n (line ∷ later) is = false≢true (sym waits ∙ is.0)

pub returns-clause-gate : goal.returns-clause-gate
returns-clause-gate g c = λ e. never_held c.run_session.ensures.served (λ n. refl) e

pub returns-clause-gone : goal.returns-clause-gone
returns-clause-gone g c = λ e. never_gone c.run_session.ensures.served refl e
