-- What an `Inside` owns, taken apart and put together. Assumes `Logic`.
use Rattle.std.proofs.Common.{◌≡◌, ℕ, List, [], ◌∷◌, ◌++◌, refl, subst, sym, true≢false}
use seplogic.Ra.Ura.{Ura}
use mir.Syntax.{impl, tnil, dnil}
use mir.Raw.{raw as bare}
use mir.Val.{Val, vptr, vstruct, of_list}
use base.Logic.{never, fst∗}
use types.Logic.{Logic, sem}
use types.Kit.{Goal, Seq, Step, Item, step, ‵, ◌$◌, move, drop, fsplit, fjoin, fpick, fpack, rewrite, feq_i, feq_l}
use denote.RattleType.{Valss}
use denote.Builtin.{RawPtr}
use denote.Memory.{lone}
use denote.RawPtr.{block_ptr, null_ptr, ptr_val, Ptr, in_a_block}
use denote.Param.{layout}
use denote.Steps.{nothing}
use Rattle.core.proofs.alloc.Calls.{Al, handle_tells}
use Rattle.core.proofs.cell.Inside.{Good}
use Rattle.std.specs.Prelude.{Option, Some, None, true}
use Rattle.std_alloc.specs.Box.Ownership.{box_owns}
use Rattle.std_heap.specs.declared.Global.{Global}
use Rattle.std_heap.specs.contracts.Global.{the_row as GR}
use Rattle.std_heap.specs.contracts.GlobalAllocator.TheImpl.{ghosts}
use Rattle.std_heap.proofs.Global.TheLaws.{the_row_laws as GL}
use Rattle.liq_c.specs.Held.{holds, is_full}
use Rattle.liq_market.specs.contracts.market.Market.{the_row as CR}
use Rattle.liq_c.specs.contracts.inside.Inside.{the_row as IR}
use Rattle.liq_c.specs.declared.inside.Inside.{Inside}
use Rattle.liq_c.proofs.Values.{both}

abbrev pub al : Al
al = record { row = GR; laws = GL; g = ghosts; d = impl [] tnil dnil; drops = impl [] tnil dnil }

abbrev pub held : Ptr → Global → CR.Denot → Inside
held p a x = record { at = p; alloc = a; held = Some x }

abbrev pub bare_of : Global → Inside
bare_of a = record { at = null_ptr; alloc = a; held = None }

pub full_some : {A : Type 0} (m : Option A) → is_full m ≡ true → (x : A) × (m ≡ Some x)
full_some None e = absurd (true≢false (sym e))
full_some (Some x) e = (x, refl)

module _ {M : Type 1} {𝓤 : Ura M} {𝓛 : Logic 𝓤} {K : Type 0} {Γ : List (Item 𝓤)} {G : Goal 𝓤 𝓛.H} where
  pub inside_in : K → (b o : ℕ) (h : Val) (a : Global) (x : CR.Denot)
      → Step K 𝓛 (‵ (IR.own_val (held (block_ptr b o) a x) (both (vptr b o) h ∷ []))
      ∷ Γ) G (‵ (box_owns (ghosts.dealloc_token a) CR (block_ptr b o) x) ∷ ‵ (GR.own_val a (h ∷ [])) ∷ Γ) G
  inside_in t b o h a x = step (λ s. let v : Val = both (vptr b o) h in
      nothing t $ move t (2 ∷ 0 ∷ []) $ fjoin t $ feq_i t (List Val) (vptr b o ∷ []) (vptr b o ∷ []) refl $ fjoin t $
      feq_i t (List Val) (v ∷ []) (v ∷ []) refl $ fjoin t $
      fpack t (Valss (RawPtr ∷ GR ∷ [])) _ (vptr b o ∷ [], (h ∷ [], tt)) $ fjoin t $ s)

  pub inside_bare : K → (h : Val) (a : Global)
      → Step K 𝓛 (‵ (IR.own_val (bare_of a) (both (ptr_val null_ptr) h ∷ [])) ∷ Γ) G (‵ (GR.own_val a (h ∷ [])) ∷ Γ) G
  inside_bare t h a = step (λ s. let v : Val = both (ptr_val null_ptr) h in
      nothing t $ nothing t $ move t (2 ∷ 0 ∷ []) $ fjoin t $
      feq_i t (List Val) (ptr_val null_ptr ∷ []) (ptr_val null_ptr ∷ []) refl $ fjoin t $
      feq_i t (List Val) (v ∷ []) (v ∷ []) refl $ fjoin t $
      fpack t (Valss (RawPtr ∷ GR ∷ [])) _ (ptr_val null_ptr ∷ [], (h ∷ [], tt)) $ fjoin t $ s)

  pub inside_out : K → (d : Inside) (x : CR.Denot) (vs : List Val) → d.held ≡ Some x
      → ((b o : ℕ) (h : Val) → d.at ≡ block_ptr b o → vs ≡ both (vptr b o) h ∷ [] → Good (layout GR) h
      → Seq K 𝓛 (‵ (box_owns (ghosts.dealloc_token d.alloc) CR (block_ptr b o) x) ∷ ‵ (GR.own_val d.alloc (h ∷ []))
      ∷ Γ) G)
      → Seq K 𝓛 (‵ (IR.own_val d vs) ∷ Γ) G
  inside_out t d x vs eh k =
      fsplit t $ fpick t (λ vss. fsplit t $
      feq_l t (λ ev. fsplit t $
      feq_l t (λ ep. fsplit t $ handle_tells al t d.alloc vss.1.0 (λ h ea fits. move t (1 ∷ []) $ drop t $
      move t (1 ∷ []) $
      rewrite t 0 (λ (m : Option CR.Denot). ‵ (holds (ghosts.dealloc_token d.alloc) CR d.at m)) eh refl $
      in_a_block t d.at (λ p. box_owns (ghosts.dealloc_token d.alloc) CR p x)
      (fst∗ 𝓤 (never 𝓤) (sem 𝓛 (ghosts.dealloc_token d.alloc (bare (lone CR.mir)) null_ptr))) (λ b o e. k b o h e
      (subst (λ (p : Ptr). vs ≡ vstruct (of_list (ptr_val p ∷ h ∷ [])) ∷ []) e
      (subst (λ (ws : List Val). vs ≡ vstruct (of_list (ptr_val d.at ∷ (ws ++ [])))
      ∷ []) ea (subst (λ (ps : List Val). vs ≡ vstruct (of_list (ps ++ (vss.1.0 ++ []))) ∷ []) ep ev))) fits)))))
