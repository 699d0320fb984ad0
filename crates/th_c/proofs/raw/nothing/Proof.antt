-- `nothing` makes a handle of a null pointer, which owns nothing.
use Rattle.std.proofs.Common.{List, [], ◌∷◌, ◌++◌, refl, sym, subst}
use mir.Val.{Val}
use base.Logic.{SProp, ent, emp, id⊢}
use base.Fml.{ftrue, fsep}
use prog.Wp.{WpFn}
use contract.Running.{tables}
use types.Kit.{‵, raw, ◌⊛◌, ◌$◌, ◌∵◌, !, qed, move, drop, join, split, fsplit, fjoin, suffices, done}
use types.Part.{agg}
use types.Run.{lit, no_more, and_then, returns, enter}
use types.ByLocal.{alloc_all, pass_all, free_all, look_at, get, sets}
use denote.Exit.{yes}
use denote.RawPtr.{null_ptr}
use denote.Signature.{plain}
use denote.Steps.{nothing}
use denote.Triple.Walked.{Stays, stay_dropped, walk_of, ends_at, says, Goes-dropped}
use Rattle.std.specs.Prelude.{None}
use Rattle.std.proofs.alloc.Calls.{handle_tells}
use Rattle.std.proofs.raw_atomic.Walks.{proved_at}
use Rattle.std_alloc.proofs.BoxSteps.Form.{P}
use Rattle.std_heap.specs.contracts.Global as Heap
use Rattle.th_c.proofs.Boxes.{E, HandleRow, null_in, null_typed, null_word}
use Rattle.th_c.specs.contracts.raw.nothing.{ended, clauses}
use Rattle.th_c.specs.contracts.raw.nothing.Key.{name as #nothing}
use Rattle.th_c.proofs.raw.nothing.Statement.{statement}
use Rattle.th_c.proofs.raw.nothing.Code as code

abbrev stays : Stays ended.signature.params ended.kept
stays = (stay_dropped (plain (λ _. Heap.the_row)) yes, tt)

pub nothing_spec : {M : Type 1} → statement M
nothing_spec 𝓤 𝓛 𝓜 𝓡 wired =
    let c = clauses 𝓛 𝓜.mem 𝓡.returns in
    let 𝓣 = tables 𝓤 𝓛.H 𝓜 𝓡 𝓡.env in
    proved_at 𝓛 ended stays c 𝓜 𝓡 (Goes-dropped 𝓛 0 (plain (λ _. Heap.the_row)) yes (λ κs x f. refl), tt)
    #nothing code.function (code.unfolded 𝓤 𝓛.H 𝓜 𝓡 wired) (λ z are.
    let alloc = z.0.3.0 in
    let Post : Val → SProp 𝓤 = (walk_of 𝓛 ended stays c).post z in
    let Runs : List Val → SProp 𝓤 = λ ws. WpFn 𝓤 𝓛.H 𝓣.C 𝓣.Λ code.function ws Post in
    let made : HandleRow.Denot = record { at = null_ptr; alloc = alloc; value = None } in
    qed 𝓛 ((‵ ftrue ⊛ ‵ (fsep ((P E).own_val alloc z.0.4.0) ftrue)) ∷ raw (emp 𝓤) ∷ []) ∵
    split ! $ drop ! $ fsplit ! $
    handle_tells E.al ! alloc z.0.4.0 (λ h is fits.
    let typed = null_typed h fits in
    move ! (1 ∷ 2 ∷ []) $ drop ! $ drop ! $
    suffices ! (Runs (h ∷ []))
    (subst (λ (us : List Val). ent 𝓤 (Runs (h ∷ [])) (Runs us)) (sym (λ i. is i ++ [])) (id⊢ 𝓤 (Runs (h ∷ [])))) $
    enter ! 𝓣.C 𝓣.Λ code.function (h ∷ []) Post $ alloc_all ! (λ l. pass_all ! refl (fits, tt) $
    sets ! (agg ! (and_then ! (lit ! tt) (and_then ! (get ! refl) (no_more !)))) refl typed $
    returns ! (look_at ! 0 refl) $ free_all ! refl $
    null_in ! alloc h $
    suffices ! _ (ends_at 𝓛 ended stays c z (null_word h) made (tt, tt) (tt, tt)) $ says ! refl $
    nothing ! $ nothing ! $ fjoin ! $ join ! $ nothing ! $ join ! $ done !)))
