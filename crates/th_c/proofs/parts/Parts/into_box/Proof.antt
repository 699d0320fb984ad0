-- `into_box` calls `from_raw`, and the box owns what the parts owned.
use Rattle.std.proofs.Common.{◌≡◌, List, [], ◌∷◌, ◌++◌, refl, sym, ap, subst}
use lib.Dec.{T}
use mir.Syntax.{Args, Body, a_type, assign, copy, dcons, dnil, place, return, rv_opd, seq}
use mir.MapTy.{inst_fn}
use mir.Val.{Val, WT, has_ty, vptr}
use base.Logic.{SProp, ent, id⊢}
use base.Fml.{ftrue, fsep, flft}
use prog.Wp.{WpFn}
use contract.BorrowLft.{◌⊑◌}
use contract.Monad.{fact}
use contract.Running.{tables}
use types.Kit.{Item, ‵, raw, ◌⊛◌, some, later, at_ret, ◌$◌, ◌∵◌, !, qed, move, drop, use1, join, split, split3, pick, rewrite, fsplit, fjoin, feq_i, suffices, await, done}
use types.Part.{whole, sub}
use types.Run.{stop, fld, no_more, and_then, of_opd, first, blocks, exec, returns, enter}
use types.ByLocal.{alloc_all, pass_all, free_all, look_at, get, get_in, sets, lands_last, env}
use denote.Exit.{no}
use denote.Param.{bounded}
use denote.RattleType.{RattleType}
use denote.RawPtr.{block_ptr}
use denote.Signature.{plain}
use denote.Steps.{heard, nothing, only}
use denote.Triple.Call.{calls_at_last}
use denote.Triple.Spec.{triple_of}
use denote.Triple.Table.{framed}
use denote.Triple.Walked.{Stays, stay_dropped, walk_of, ends_at, says}
use Rattle.std.proofs.alloc.Calls.{Goes-blank}
use Rattle.std.proofs.raw_atomic.Walks.{proved_at}
use Rattle.std_alloc.specs.contracts.boxed.Box.from_raw as boxing
use Rattle.std_alloc.proofs.boxed.Box.from_raw.Met.{met}
use Rattle.std_alloc.proofs.BoxSteps.Form.{Bx, D, B, P, R, box_ty, word, box_typed}
use Rattle.std_alloc.proofs.BoxSteps.Steps.{box_in, box_out}
use Rattle.th_c.specs.contracts.parts.Parts as parts
use Rattle.th_c.specs.contracts.parts.Parts.into_box.{ended, clauses}
use Rattle.th_c.specs.contracts.parts.Parts.into_box.Key.{name as #into_box}
use Rattle.th_c.proofs.parts.Parts.into_box.Statement.{statement}
use Rattle.th_c.proofs.parts.Parts.into_box.Code as code

-- what is left of the body once the box is made
abbrev rest : Body
rest = seq (assign (place 0 []) (rv_opd (copy (place 4 [])))) return

pub into_box_spec : {M : Type 1} → statement M
into_box_spec 𝓤 𝓛 𝓜 𝓡 wired X Z LX LZ g d dd allocator dropped =
    let E : Bx = record { row = X; laws = LX; al = record { row = Z; laws = LZ; g = g; d = d; drops = dd } } in
    let En = ended X Z g d dd in
    let c = clauses X Z g d dd 𝓛 𝓜.mem 𝓡.returns in
    let From : RattleType = parts.the_row (R E) (P E) g in
    let stays : Stays En.signature.params En.kept = (stay_dropped (plain (λ _. From)) no, tt) in
    let at_types : Args = bounded (a_type ∷ a_type ∷ []) (X, (Z, tt)) (dcons d (dcons dd dnil)) in
    let fn = inst_fn at_types code.function in
    let 𝓣 = tables 𝓤 𝓛.H 𝓜 𝓡 𝓡.env in
    proved_at 𝓛 En stays c 𝓜 𝓡 (Goes-blank 𝓛 2 (plain (λ _. From)) no (λ κs x f. tt), tt)
    (#into_box at_types) fn (code.unfolded 𝓤 𝓛.H 𝓜 𝓡 wired (X, (Z, tt)) d dd) (λ z are.
    let κs = z.0.0 in let qs = z.0.1 in let given = z.0.3.0 in let alloc = given.alloc in
    let Post : Val → SProp 𝓤 = (walk_of 𝓛 En stays c).post z in
    let Runs : List Val → SProp 𝓤 = λ ws. WpFn 𝓤 𝓛.H 𝓣.C 𝓣.Λ fn ws Post in
    let as_box : D E = record { ptr = given.at; alloc = alloc; value = given.value } in
    let tokens : Item 𝓤 = ‵ (flft κs.0 qs.0) ⊛ ‵ (flft κs.1.0 qs.1.0) ⊛ ‵ ftrue in
    let of_value : Item 𝓤 = raw (fact 𝓤 (κs.0 ⊑ X.lives)) in
    let of_alloc : Item 𝓤 = raw (fact 𝓤 (κs.1.0 ⊑ Z.lives)) in
    let Call = triple_of 𝓛 (boxing.signature X Z g d dd) (boxing.spec X Z g d dd 𝓛 𝓜.mem 𝓡.returns) in
    qed 𝓛 ((tokens ⊛ ‵ (fsep ((B E).own_val as_box z.0.4.0) ftrue)) ∷ (of_value ⊛ of_alloc ⊛ ‵ ftrue) ∷ []) ∵
    split ! $ move ! (1 ∷ []) $ fsplit ! $
    box_out E ! as_box z.0.4.0 (λ b o h e ws fits. fjoin ! $
    let w : Val = word E h b o in
    let typed = box_typed E h b o fits in
    let y : Call.Ghost = ((κs, qs, tt, (alloc, (block_ptr b o, tt)), (h ∷ [], (vptr b o ∷ [], tt))), given.value) in
    suffices ! (Runs (w ∷ []))
    (subst (λ (us : List Val). ent 𝓤 (Runs (w ∷ [])) (Runs us)) (sym (λ i. ws i ++ [])) (id⊢ 𝓤 (Runs (w ∷ [])))) $
    enter ! 𝓣.C 𝓣.Λ fn (w ∷ []) Post $ alloc_all ! (λ l. pass_all ! refl (typed, tt) $
    sets ! (of_opd ! (get_in ! (fld ! refl (stop !)) (sub ! 0 refl (whole !)))) refl (tt, tt) $
    sets ! (of_opd ! (get_in ! (fld ! refl (stop !)) (sub ! 1 refl (whole !)))) refl fits $
    first ! $ blocks ! $ sets ! (of_opd ! (get ! refl)) refl fits $
    -- [what is owned at the pointer; the allocator; nothing; the tokens; what lives long enough]
    move ! (4 ∷ []) $ split3 ! $ move ! (2 ∷ []) $ drop ! $ move ! (1 ∷ 2 ∷ []) $ join ! $ move ! (1 ∷ 0 ∷ []) $ join ! $
    move ! (2 ∷ []) $ feq_i ! (List Val) (vptr b o ∷ []) (vptr b o ∷ []) refl $ fjoin ! $
    move ! (2 ∷ 0 ∷ []) $ fjoin ! $ move ! (2 ∷ 0 ∷ []) $ join ! $ join ! $ use1 𝓛 (raw (Call.pre y)) (id⊢ 𝓤 _) $
    calls_at_last ! (framed 𝓤 𝓛.H 𝓜 𝓣) Call
    (met 𝓤 𝓛 𝓜 𝓡 (code.calls-std_alloc::boxed::Box::from_raw 𝓡.env wired) X Z LX LZ g d dd allocator dropped)
    y (and_then ! (get ! refl) (and_then ! (get ! refl) (no_more !))) (λ u.
    -- what comes back: the tokens with the box, nothing of the parts, and that the box has their value and allocator
    let back : D E → Item 𝓤 = λ r.
    (tokens ⊛ ‵ ((B E).own_val r (u ∷ [])))
    ⊛ some (λ (_ : Unit {0} × (Unit {0} × Unit {0})). ‵ (fsep ftrue (fsep ftrue ftrue))
    ⊛ (raw (fact 𝓤 (r.value ≡ given.value)) ⊛ raw (fact 𝓤 (r.alloc ≡ alloc)))) in
    use1 𝓛 (later (some back)) (id⊢ 𝓤 _) $
    await ! tt $ pick ! (λ r. split ! $ move ! (1 ∷ []) $ pick ! (λ _. split3 ! $ drop ! $ heard ! (r.value ≡ given.value) (λ same.
    drop ! $ split ! $ move ! (1 ∷ []) $
    box_out E ! r (u ∷ []) (λ b' o' h' e' us fits'. box_in E ! r b' o' r.value e' refl $
    rewrite ! 0 (λ (vs : List Val). ‵ ((B E).own_val r vs)) (sym us) refl $
    let good : T (has_ty (box_ty E) u) × WT u =
    subst (λ (v : Val). T (has_ty (box_ty E) v) × WT v) (sym (ap only us)) (box_typed E h' b' o' fits') in
    lands_last ! refl good $ exec ! 𝓣.C 𝓣.Λ (env fn.locals l) rest (at_ret (env fn.locals l) Post) $
    sets ! (of_opd ! (get ! refl)) refl good $ returns ! (look_at ! 0 refl) $ free_all ! refl $
    suffices ! _ (ends_at 𝓛 En stays c z u r ((tt, (tt, tt)), tt) (tt, tt)) $ says ! same $
    nothing ! $ nothing ! $ fjoin ! $ join ! $ move ! (1 ∷ 0 ∷ []) $ join ! $ done !))))))))
