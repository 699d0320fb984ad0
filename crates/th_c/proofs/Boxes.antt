-- What a handle owns is what a box of its content owns, or nothing.
use mathlib.Core.Path.{◌≡◌, refl, subst}
use mathlib.Core.List.{List, [], ◌∷◌, ◌++◌}
use base.Fraction.{full_share}
use lib.Dec.{T, lit<}
use Prim.Native.Nat.{ℕ}
use seplogic.Ra.Ura.{Ura}
use mir.Syntax.{impl, tnil, dnil}
use mir.Raw.{raw as bare}
use mir.Val.{Val, WT, has_ty, vnull, vstruct, vcons, vnil, of_list}
use base.Logic.{guard_i}
use contract.Monad.{fact_use}
use types.Logic.{Logic, sem}
use types.Kit.{Item, Goal, Seq, Step, step, ‵, given, learn, use1, ◌$◌, move, drop, fsplit, fjoin, fpick, fpack, feq_i, feq_l}
use denote.RattleType.{RattleType, Valss}
use denote.Memory.{part_at}
use denote.RawPtr.{Ptr, Testable, block_ptr, null_ptr, ptr_val}
use denote.Signature.{Slot, plain}
use denote.Steps.{nothing}
use denote.Struct.Owning.{fields, shape, to}
use denote.Struct.Struct.{within}
use Rattle.std.specs.Prelude.{Option, Some, None}
use Rattle.std.proofs.alloc.Calls.{α, Fits, handle_tells, token}
use Rattle.std_alloc.proofs.BoxSteps.Form.{Bx, R, τ, box_ty, word, handle as allocator}
use Rattle.std_alloc.proofs.BoxSteps.Steps.{box_out}
use Rattle.std_alloc.proofs.ResultValues.{and_tt}
use Rattle.std_heap.proofs.GlobalToken.{dealloc_token-Testable}
use Rattle.std_heap.specs.contracts.Global as Heap
use Rattle.std_heap.specs.contracts.GlobalAllocator.TheImpl.{ghosts, dict}
use Rattle.std_heap.proofs.Global.TheLaws as heap
use Rattle.th_c.specs.contracts.content.Content as Content
use Rattle.th_c.proofs.content.Content.TheLaws as content
use Rattle.th_c.specs.contracts.handle.Handle as Handle
use Rattle.th_c.specs.contracts.parts.Parts as Parts

-- a box of content
abbrev pub E : Bx
E = record {
  row = Content.the_row;
  laws = content.the_row_laws;
  al = record { row = Heap.the_row; laws = heap.the_row_laws; g = ghosts; d = dict; drops = impl [] tnil dnil };
}

-- a handle, and a box's parts, as types
abbrev pub HandleRow : RattleType
HandleRow = Handle.the_row

abbrev pub PartsRow : RattleType
PartsRow = Parts.the_row Content.the_row Heap.the_row ghosts

abbrev pub FromHandle : Slot 0
FromHandle = plain (λ _. HandleRow)

abbrev pub FromParts : Slot 0
FromParts = plain (λ _. PartsRow)

-- the machine value of a handle whose pointer is null, where the allocator's is this
abbrev pub null_word : Val → Val
null_word h = vstruct (vcons vnull (vcons h vnil))

pub null_typed : (h : Val) → Fits E.al h → T (has_ty (box_ty E) (null_word h)) × WT (null_word h)
null_typed h fits = (and_tt (has_ty (α E.al) h) fits.0, (record { fits = lit< tt }, (fits.1, tt)))

module _ {M : Type 1} {𝓤 : Ura M} {𝓛 : Logic 𝓤} {K : Type 0} {Γ : List (Item 𝓤)} {G : Goal 𝓤 𝓛.H} where
  -- what is owned of a handle: of one that stands for nothing the allocator, and of any other what a box of its content owns
  pub handle_out : K → (at : Ptr) (alloc : (Heap.the_row).Denot) (value : Option (Content.the_row).Denot) (vs : List Val)
      → ((h : Val) → value ≡ None → at ≡ null_ptr → vs ≡ null_word h ∷ [] → Fits E.al h → Seq K 𝓛 (‵ (allocator E alloc h) ∷ Γ) G)
      → ((b o : ℕ) (h : Val) (x : (Content.the_row).Denot) → value ≡ Some x → at ≡ block_ptr b o → vs ≡ word E h b o ∷ [] → Fits E.al h
      → Seq K 𝓛 (‵ (part_at (R E) full_share x b o) ∷ ‵ (token E.al alloc (bare (τ E)) (block_ptr b o)) ∷ ‵ (allocator E alloc h) ∷ Γ) G)
      → Seq K 𝓛 (‵ (HandleRow.own_val (record { at = at; alloc = alloc; value = value }) vs) ∷ Γ) G
  handle_out t at alloc None vs none some =
      fsplit t $ fpick t (λ words. fsplit t $ feq_l t (λ whole. fsplit t $ feq_l t (λ first. fsplit t $
      handle_tells E.al t alloc words.1.0 (λ h second fits.
      move t (1 ∷ []) $ drop t $ move t (1 ∷ []) $ feq_l t (λ is_null. none h refl is_null
      (subst (λ (p : Ptr). vs ≡ vstruct (of_list (ptr_val p ∷ h ∷ [])) ∷ []) is_null
      (subst (λ (ws : List Val). vs ≡ vstruct (of_list (ptr_val at ∷ (ws ++ []))) ∷ []) second
      (subst (λ (ws : List Val). vs ≡ vstruct (of_list (ws ++ (words.1.0 ++ []))) ∷ []) first whole))) fits)))))
  handle_out t at alloc (Some x) vs none some =
      box_out E t (record { ptr = at; alloc = alloc; value = x }) vs (λ b o h is ws fits. some b o h x refl is ws fits)

  -- and the other way round
  pub null_in : K → (alloc : (Heap.the_row).Denot) (h : Val)
      → Step K 𝓛 (‵ (HandleRow.own_val (record { at = null_ptr; alloc = alloc; value = None }) (null_word h ∷ [])) ∷ Γ) G
      (‵ (allocator E alloc h) ∷ Γ) G
  null_in t alloc h = step (λ s. let w : Val = null_word h in
      feq_i t Ptr null_ptr null_ptr refl $ nothing t $ move t (2 ∷ 0 ∷ []) $ fjoin t $
      feq_i t (List Val) (vnull ∷ []) (vnull ∷ []) refl $ fjoin t $ feq_i t (List Val) (w ∷ []) (w ∷ []) refl $ fjoin t $
      let made : HandleRow.Denot = record { at = null_ptr; alloc = alloc; value = None } in
      fpack t (Valss (fields Handle.the_type)) (within (shape Handle.the_type) (to Handle.the_type made) (w ∷ []))
      (vnull ∷ [], (h ∷ [], tt)) $ fjoin t $ s)

  -- where a block may be freed, a pointer to it may be compared with null
  pub tested : K → (alloc : (Heap.the_row).Denot) (b o : ℕ)
      → (Testable (block_ptr b o) → Seq K 𝓛 (‵ (token E.al alloc (bare (τ E)) (block_ptr b o)) ∷ Γ) G)
      → Seq K 𝓛 (‵ (token E.al alloc (bare (τ E)) (block_ptr b o)) ∷ Γ) G
  tested t alloc b o k =
      let p = block_ptr b o in
      let held = sem 𝓛 (token E.al alloc (bare (τ E)) p) in
      use1 𝓛 (given (Testable p) (‵ (token E.al alloc (bare (τ E)) p)))
      (fact_use 𝓤 (Testable p) (dealloc_token-Testable 𝓛 alloc (bare (τ E)) p) (guard_i 𝓤 (Testable p) held)) $ learn t k
