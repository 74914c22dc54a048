-- `into_loose` takes it back.
use Rattle.std.proofs.Common.{◌≡◌, [], ◌∷◌, refl}
use mir.Val.{Val, vptr}
use base.Logic.{emp}
use types.Kit.{‵, raw, ◌⊛◌, ◌$◌, ◌∵◌, !, qed, by, move, keep, split, fsplit, fjoin, use0}
use types.Run.{of_opd, no_more, and_then, returns}
use types.ByLocal.{alloc_all, pass_all, free_all, look_at, get, sets}
use types.Part.{agg}
use contract.Monad.{fact, fact_i}
use denote.RattleType.{owns}
use denote.RawPtr.{block_ptr}
use denote.Signature.{types_at, plain}
use denote.Steps.{nothing, heard}
use denote.Triple.Entry.{alive}
use denote.Triple.Walked.{Stays, stay_dropped}
use Rattle.core.proofs.alloc.Calls.{Goes-blank}
use Rattle.std.specs.Prelude.{Some, true}
use Rattle.liq_c.specs.Held.{is_full}
use Rattle.std.proofs.raw_atomic.Walks.{proved_at, leaves}
use Rattle.std_heap.specs.contracts.Global.{the_row as GR}
use Rattle.std_heap.specs.contracts.GlobalAllocator.TheImpl.{ghosts}
use Rattle.std_heap.proofs.Global.TheLaws.{the_row_laws as GL}
use Rattle.liq_market.specs.contracts.market.Market.{the_row as CR}
use Rattle.liq_c.specs.contracts.inside.Inside.{the_row as IR}
use Rattle.liq_c.proofs.Values.{both, loose_good, loose_in}
use Rattle.liq_c.proofs.Insides.{full_some, inside_out}
use Rattle.liq_c.proofs.Walks.{enter_with, field_in}
use Rattle.liq_c.specs.contracts.inside.Inside.into_loose.{ended, clauses}
use Rattle.liq_c.specs.contracts.inside.Inside.into_loose.Key.{name as #self}
use Rattle.liq_c.proofs.inside.Inside.into_loose.Statement.{statement}
use Rattle.liq_c.proofs.inside.Inside.into_loose.Code as code

pub into_loose_spec : {M : Type 1} → statement M
into_loose_spec 𝓤 𝓛 𝓜 𝓡 wired =
    let H = 𝓛.H in let En = ended in let c = clauses 𝓛 𝓜.mem 𝓡.returns in
    let fn = code.function in
    let hs : Stays En.signature.params En.kept = (stay_dropped (plain (λ _. IR)) En.kept.0, tt) in
    proved_at 𝓛 En hs c 𝓜 𝓡 (Goes-blank 𝓛 0 (plain (λ _. IR)) En.kept.0 (λ κs x f. tt), tt) #self fn
    (code.unfolded 𝓤 H 𝓜 𝓡 wired) (λ z are.
    let v = z.0.3.0 in let a = v.alloc in
    qed 𝓛 ((raw (alive 𝓛 En.signature z.0.0 z.0.1) ⊛ ‵ (owns (types_at En.signature.params z.0.0) z.0.3 z.0.4))
    ∷ raw (fact 𝓤 (is_full v.held ≡ true)) ∷ []) ∵ move ! (1 ∷ []) $
    heard ! (is_full v.held ≡ true) (λ full. let x = (full_some v.held full).0 in
    let is : v.held ≡ Some x = (full_some v.held full).1 in split ! $ move ! (1 ∷ []) $ fsplit ! $
    inside_out ! v x z.0.4.0 is (λ b o h e ws fits.
    let w : Val = both (vptr b o) h in let typed = loose_good CR GR GL ghosts b o h fits in
    enter_with ! fn w z.0.4.0 ws $ alloc_all ! (λ l. pass_all ! refl (typed, tt) $
    sets ! (field_in ! 0 refl refl refl) refl (tt, tt) $ sets ! (field_in ! 1 refl refl refl) refl fits $
    sets ! (of_opd ! (get ! refl)) refl (tt, tt) $
    sets ! (agg ! (and_then ! (get ! refl) (and_then ! (get ! refl) (no_more !)))) refl typed $
    loose_in CR GR GL ghosts ! b o h a x $
    use0 𝓛 (raw (fact 𝓤 (v.held ≡ Some x))) (fact_i 𝓤 (v.held ≡ Some x) (emp 𝓤) is) $ nothing ! $ nothing ! $ fjoin ! $
    returns ! (look_at ! 0 refl) $ free_all ! refl $ keep ! (4 ∷ 0 ∷ 2 ∷ 1 ∷ []) $
    by ! (leaves 𝓛 En hs c z w (record { at = block_ptr b o; alloc = a; value = x }) (tt, tt) (tt, tt))))))
