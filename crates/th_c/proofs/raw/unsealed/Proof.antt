-- `unsealed` compares the pointer with null, and moves what a handle owns.
use Rattle.std.proofs.Common.{List, [], ◌∷◌, ◌++◌, refl, sym, subst, lit<}
use lib.Dec.{T}
use mir.Val.{Val, WT, has_ty, vcons, vnil}
use base.Logic.{SProp, ent, emp, id⊢}
use base.Fml.{ftrue, fsep}
use prog.Wp.{WpFn}
use contract.Running.{tables}
use types.Kit.{‵, raw, ◌⊛◌, at_ret, ◌$◌, ◌∵◌, !, qed, move, drop, use0, use1, join, split, fsplit, fjoin, suffices, done}
use types.Match.{live}
use types.Part.{whole, sub, agg}
use types.Run.{stop, fld, lit, bin, no_more, and_then, of_opd, first, branches, exec, returns, enter}
use types.ByLocal.{alloc_all, pass_all, free_all, look_at, get, get_in, sets, sets_last, env}
use denote.Exit.{yes}
use denote.Param.{layout}
use denote.RattleType.{RattleType}
use denote.RawPtr.{block_ptr, tests_null}
use denote.Signature.{type_at}
use denote.Steps.{nothing}
use denote.Triple.Walked.{Stays, stay_dropped, walk_of, ends_at, says, Goes-dropped}
use Rattle.std.specs.Prelude.{Some, None}
use Rattle.std.proofs.option.Made.{Some-of, none_of}
use Rattle.std.proofs.alloc.Shapes.{after}
use Rattle.std.proofs.raw_atomic.Walks.{proved_at}
use Rattle.std_alloc.proofs.ResultValues.{and_tt}
use Rattle.std_alloc.proofs.BoxSteps.Form.{D, word, box_typed}
use Rattle.std_alloc.proofs.BoxSteps.Steps.{box_in}
use Rattle.th_c.proofs.Boxes.{E, FromHandle, HandleRow, PartsRow, handle_out, null_typed, null_word, tested}
use Rattle.th_c.specs.contracts.raw.unsealed.{ended, clauses}
use Rattle.th_c.specs.contracts.raw.unsealed.Key.{name as #unsealed}
use Rattle.th_c.proofs.raw.unsealed.Statement.{statement}
use Rattle.th_c.proofs.raw.unsealed.Code as code

abbrev stays : Stays ended.signature.params ended.kept
stays = (stay_dropped FromHandle yes, tt)

pub unsealed_spec : {M : Type 1} → statement M
unsealed_spec 𝓤 𝓛 𝓜 𝓡 wired =
    let c = clauses 𝓛 𝓜.mem 𝓡.returns in
    let 𝓣 = tables 𝓤 𝓛.H 𝓜 𝓡 𝓡.env in
    let Out : RattleType = type_at ended.signature.result tt in
    proved_at 𝓛 ended stays c 𝓜 𝓡 (Goes-dropped 𝓛 0 FromHandle yes (λ κs x f. refl), tt)
    #unsealed code.function (code.unfolded 𝓤 𝓛.H 𝓜 𝓡 wired) (λ z are.
    let given = z.0.3.0 in
    let Post : Val → SProp 𝓤 = (walk_of 𝓛 ended stays c).post z in
    let Runs : List Val → SProp 𝓤 = λ ws. WpFn 𝓤 𝓛.H 𝓣.C 𝓣.Λ code.function ws Post in
    qed 𝓛 ((‵ ftrue ⊛ ‵ (fsep (HandleRow.own_val given z.0.4.0) ftrue)) ∷ raw (emp 𝓤) ∷ []) ∵
    split ! $ drop ! $ fsplit ! $
    handle_out ! given.at given.alloc given.value z.0.4.0
    -- [the allocator; nothing; nothing]
    (λ h absent is ws fits. drop ! $ drop ! $ drop ! $
    let w : Val = null_word h in
    suffices ! (Runs (w ∷ []))
    (subst (λ (us : List Val). ent 𝓤 (Runs (w ∷ [])) (Runs us)) (sym (λ i. ws i ++ [])) (id⊢ 𝓤 (Runs (w ∷ [])))) $
    enter ! 𝓣.C 𝓣.Λ code.function (w ∷ []) Post $ alloc_all ! (λ l. pass_all ! refl (null_typed h fits, tt) $
    let Ev = env code.function.locals l in
    sets ! (of_opd ! (get_in ! (fld ! refl (stop !)) (sub ! 0 refl (whole !)))) refl (tt, record { fits = lit< tt }) $
    sets ! (of_opd ! (get_in ! (fld ! refl (stop !)) (sub ! 1 refl (whole !)))) refl fits $
    sets ! (bin ! (get ! refl) (lit ! tt) tt) refl (tt, tt) $
    first ! $ branches ! (get ! refl)
    (λ _. sets_last ! (agg ! (and_then ! (lit ! tt) (no_more !))) refl (tt, (record { fits = lit< tt }, tt)) $
    exec ! 𝓣.C 𝓣.Λ Ev (after 4 code.function.body) (at_ret Ev Post) $
    sets ! (of_opd ! (get ! refl)) refl (tt, (record { fits = lit< tt }, tt)) $
    returns ! (look_at ! 0 refl) $ free_all ! refl $
    use0 𝓛 (‵ (Out.own_val None (live 0 vnil ∷ []))) (none_of 𝓛 PartsRow) $
    suffices ! _ (ends_at 𝓛 ended stays c z (live 0 vnil) None (tt, tt) (tt, tt)) $ says ! (sym absent) $
    nothing ! $ nothing ! $ fjoin ! $ join ! $ nothing ! $ join ! $ done !)
    (λ wrong. absurd wrong)))
    -- [the content; the right to free its block; the allocator; nothing; nothing]
    (λ b o h x present is ws fits. move ! (1 ∷ []) $ tested ! given.alloc b o (λ t. move ! (1 ∷ 0 ∷ []) $
    let w : Val = word E h b o in
    let typed = box_typed E h b o fits in
    let as_box : D E = record { ptr = block_ptr b o; alloc = given.alloc; value = x } in
    let made : PartsRow.Denot = record { at = block_ptr b o; alloc = given.alloc; value = x } in
    let v : Val = live 1 (vcons w vnil) in
    let good : T (has_ty (layout Out) v) × WT v = (and_tt _ typed.0, (record { fits = lit< tt }, (typed.1, tt))) in
    box_in E ! as_box b o x refl refl $ use1 𝓛 (‵ (PartsRow.own_val made (w ∷ []))) (id⊢ 𝓤 _) $
    move ! (1 ∷ 2 ∷ []) $ drop ! $ drop ! $
    suffices ! (Runs (w ∷ []))
    (subst (λ (us : List Val). ent 𝓤 (Runs (w ∷ [])) (Runs us)) (sym (λ i. ws i ++ [])) (id⊢ 𝓤 (Runs (w ∷ [])))) $
    enter ! 𝓣.C 𝓣.Λ code.function (w ∷ []) Post $ alloc_all ! (λ l. pass_all ! refl (typed, tt) $
    let Ev = env code.function.locals l in
    sets ! (of_opd ! (get_in ! (fld ! refl (stop !)) (sub ! 0 refl (whole !)))) refl (tt, tt) $
    sets ! (of_opd ! (get_in ! (fld ! refl (stop !)) (sub ! 1 refl (whole !)))) refl fits $
    sets ! (bin ! (get ! refl) (lit ! tt) (tests_null (block_ptr b o) t)) refl (tt, tt) $
    first ! $ branches ! (get ! refl) (λ wrong. absurd wrong)
    (λ _. sets ! (of_opd ! (get ! refl)) refl (tt, tt) $
    sets ! (agg ! (and_then ! (get ! refl) (and_then ! (get ! refl) (no_more !)))) refl typed $
    sets_last ! (agg ! (and_then ! (lit ! tt) (and_then ! (get ! refl) (no_more !)))) refl good $
    exec ! 𝓣.C 𝓣.Λ Ev (after 4 code.function.body) (at_ret Ev Post) $
    sets ! (of_opd ! (get ! refl)) refl good $
    returns ! (look_at ! 0 refl) $ free_all ! refl $
    use1 𝓛 (‵ (Out.own_val (Some made) (v ∷ []))) (Some-of 𝓛 PartsRow made w) $
    suffices ! _ (ends_at 𝓛 ended stays c z v (Some made) (tt, tt) (tt, tt)) $ says ! (sym present) $
    nothing ! $ nothing ! $ fjoin ! $ join ! $ nothing ! $ join ! $ done !)))))
