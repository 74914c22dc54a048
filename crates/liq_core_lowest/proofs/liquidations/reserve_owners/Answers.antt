use Rattle.std.proofs.Common.{ℕ, ◌<◌, zero, suc, List, [], ◌∷◌, take, get_or, length, sym, ◌∙◌, subst, arith, add-one}
use Rattle.std.specs.List.{AllByRecursion}
use Rattle.liq_tables.specs.WithRoom.{WithRoom, HasRoom, KeepsRoom}
use Rattle.liq_liquidation.specs.declared.one.Victim.{Victim}
use Rattle.liq_core_lowest.proofs.Striking.{no_victim}
use Rattle.liq_core_lowest.proofs.liquidations.reserve_owners.Goals as goal

abbrev HasOwner : WithRoom ℕ → Victim → Type 0
HasOwner table v = HasRoom table v.account

room_kept : (old new : WithRoom ℕ) → KeepsRoom old new → (vs : List Victim) → AllByRecursion (HasOwner old) vs
    → AllByRecursion (HasOwner new) vs
room_kept old new kept [] h = tt
room_kept old new kept (v ∷ vs) h = (kept v.account h.0, room_kept old new kept vs h.1)

one_more : (P : Victim → Type 0) (vs : List Victim) (i : ℕ) → i < length vs → AllByRecursion P (take i vs)
    → P (get_or vs i no_victim) → AllByRecursion P (take (suc i) vs)
one_more P [] i within h here = tt
one_more P (v ∷ vs) zero within h here = (here, tt)
one_more P (v ∷ vs) (suc i) within h here = (h.0, one_more P vs i (omega (arith, within)) h.1 here)

pub loop-victim-preserved : goal.loop-victim-preserved
loop-victim-preserved c =
    let vs = c.args.victims.now in
    let i = c.loop-victim.victim-index in
    let new = c.reserve_owner.new.surplus in
    record {
      rows = c.reserve_owner.ensures.rows ∙ c.loop-victim.invariant.rows;
      kept = λ key had. c.reserve_owner.ensures.kept key (c.loop-victim.invariant.kept key had);
      room =
          subst (λ k. AllByRecursion (HasOwner new) (take k vs)) (sym (add-one i))
          (one_more (HasOwner new) vs i c.loop-victim-test.true
          (room_kept c.loop-victim.surplus new c.reserve_owner.ensures.kept (take i vs) c.loop-victim.invariant.room)
          c.in_ok-reserve_owner.ensures.room);
    }
