-- Steps that walks by hand share: the way in with one argument, and a field of a local. Assumes `Logic`.
use Rattle.std.proofs.Common.{◌≡◌, ℕ, List, [], ◌∷◌, ◌++◌, sym, subst}
use Prim.Native.Nat.{zero}
use mathlib.Core.Option.{some}
use seplogic.Ra.Ura.{Ura}
use mir.Syntax.{Fn, Sym, Ty, Tys, ty_struct, place, copy, field, rv_opd}
use mir.Val.{Val, Vals, vstruct}
use mir.Fields.{get_v}
use base.Logic.{SProp}
use base.Fml.{Share, fat}
use prog.Memory.{field_at, field_of}
use prog.Wp.{Calls, Env, Loops, WpFn, spot_of}
use types.Logic.{Logic}
use types.Kit.{Item, Seq, Step, step, ‵, ◌$◌, allocs, params', runs, at_ret, prop}
use types.Run.{Rv, enter, fld, of_opd, stop}
use types.ByLocal.{at, get_in}
use types.Part.{Part, sub, whole}

module _ {M : Type 1} {𝓤 : Ura M} {𝓛 : Logic 𝓤} {K : Type 0} {Γ : List (Item 𝓤)} where
  open 𝓛 use {H}

  -- into a function whose one argument is known to be one machine value
  pub enter_with : K → (f : Fn) {C : Calls 𝓤 H} {Λ : Loops 𝓤 H} {Post : Val → SProp 𝓤} (w : Val) (ws : List Val)
      → ws ≡ w ∷ [] → Step K 𝓛 Γ (allocs f.locals (λ E. params' E (w ∷ []) (runs C Λ E f.body (at_ret E Post))))
      Γ (prop (WpFn 𝓤 H C Λ f (ws ++ []) Post))
  enter_with t f {C} {Λ} {Post} w ws is = step (λ s.
      subst (λ (us : List Val). Seq K 𝓛 Γ (prop (WpFn 𝓤 H C Λ f (us ++ []) Post))) (sym is) (enter t C Λ f (w ∷ []) Post
      $ s))

  -- field k of the struct in a local
  pub field_in : K → {E : Env 𝓤 H} {i : ℕ} (k : ℕ) {q : Share} {ν : Sym} {τs : Tys} {vs : Vals} {τ : Ty} {d : ℕ}
      → at 𝓛 i Γ ≡ ‵ (fat q (ty_struct ν τs) (spot_of 𝓤 H E i).1 zero (vstruct vs))
      → field_of (spot_of 𝓤 H E i).0 k ≡ some (τ, d) → field_at zero τs k ≡ some (τ, d)
      → Rv K 𝓛 Γ E (rv_opd (copy (place i (field k ∷ [])))) (get_v vs k)
  field_in t {E} {i} k {q} {ν} {τs} {vs} is there laid =
      let b = (spot_of 𝓤 H E i).1 in
      let cell : Val → Item 𝓤 = λ v. ‵ (fat q (ty_struct ν τs) b zero v) in
      let part : Part K 𝓛 (at 𝓛 i Γ) q (ty_struct ν τs) b zero (vstruct vs) cell =
      subst (λ (e : Item 𝓤). Part K 𝓛 e q (ty_struct ν τs) b zero (vstruct vs) cell) (sym is) (whole t) in
      of_opd t (get_in t (fld t there (stop t)) (sub t k laid part))
