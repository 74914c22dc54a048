use Rattle.std.proofs.Common.{ℕ, ◌<◌, zero, suc, false, List, [], ◌∷◌, take, get_or, length, sym, ◌∙◌, subst, arith, add-one}
use Rattle.std.specs.List.{AllByRecursion}
use Rattle.std.proofs.lemmas.Result.{err_from_is_err_and}
use Rattle.liq_tables.specs.WithRoom.{WithRoom, KeepsRoom}
use Rattle.liq_redemption.specs.declared.cut.Cut.{Cut}
use Rattle.liq_redemption.specs.Given.{HasRoomToClose}
use Rattle.liq_redemption.proofs.applying.reserve.Goals as goal

abbrev no_cut : Cut
no_cut = record { account = 0; lot = 0; draw = 0; full = false }

room_kept : (old new : WithRoom ℕ) → KeepsRoom old new → (cuts : List Cut) → AllByRecursion (HasRoomToClose old) cuts
    → AllByRecursion (HasRoomToClose new) cuts
room_kept old new kept [] h = tt
room_kept old new kept (cut ∷ cuts) h = (λ full. kept cut.account (h.0 full), room_kept old new kept cuts h.1)

one_more : (P : Cut → Type 0) (cuts : List Cut) (i : ℕ) → i < length cuts → AllByRecursion P (take i cuts)
    → P (get_or cuts i no_cut) → AllByRecursion P (take (suc i) cuts)
one_more P [] i within h here = tt
one_more P (cut ∷ cuts) zero within h here = (here, tt)
one_more P (cut ∷ cuts) (suc i) within h here = (h.0, one_more P cuts i (omega (arith, within)) h.1 here)

each : (P : Cut → Type 0) (cuts : List Cut) (i : ℕ) → i < length cuts → AllByRecursion P cuts → P (get_or cuts i no_cut)
each P [] i within h = absurd (omega (arith, within))
each P (cut ∷ cuts) zero within h = h.0
each P (cut ∷ cuts) (suc i) within h = each P cuts i (omega (arith, within)) h.1

pub loop-cut-preserved : goal.loop-cut-preserved
loop-cut-preserved c =
    let items = c.as_slice-cut-items.result.now in
    let i = c.loop-cut.cut-index in
    let new = c.reserve_claim.new.surplus in
    record {
      rows = c.reserve_claim.ensures.rows ∙ c.loop-cut.invariant.rows;
      kept = λ key had. c.reserve_claim.ensures.kept key (c.loop-cut.invariant.kept key had);
      room =
          subst (λ k. AllByRecursion (HasRoomToClose new) (take k items)) (sym (add-one i))
          (one_more (HasRoomToClose new) items i c.loop-cut-test.true
          (room_kept c.loop-cut.surplus new c.reserve_claim.ensures.kept (take i items) c.loop-cut.invariant.room)
          c.in_ok-reserve_claim.ensures.room);
    }

pub returns-in_err-reserve_claim-clause-room : goal.returns-in_err-reserve_claim-clause-room
returns-in_err-reserve_claim-clause-room c =
    let p = err_from_is_err_and c.from_residual-in_err-reserve_claim.result
    c.from_residual-in_err-reserve_claim.ensures.1 in rw p.1 tt

pub returns-in_err-reserve_claim-clause-claims_kept : goal.returns-in_err-reserve_claim-clause-claims_kept
returns-in_err-reserve_claim-clause-claims_kept c key had =
    c.reserve_claim.ensures.kept key (c.loop-cut.invariant.kept key had)

pub returns-in_err-reserve_claim-clause-had : goal.returns-in_err-reserve_claim-clause-had
returns-in_err-reserve_claim-clause-had c had =
    let items = c.as_slice-cut-items.result.now in
    let i = c.loop-cut.cut-index in
    let claims = subst (λ (l : List Cut). AllByRecursion (HasRoomToClose c.args.surplus.now) l)
    (sym c.as_slice-cut-items.ensures) had.1 in
    let claim = each (HasRoomToClose c.args.surplus.now) items i c.loop-cut-test.true claims in
    let p = err_from_is_err_and c.from_residual-in_err-reserve_claim.result
    c.from_residual-in_err-reserve_claim.ensures.1 in
    rw p.1 (c.in_err-reserve_claim.ensures.had (λ full. c.loop-cut.invariant.kept (get_or items i no_cut).account
    (claim full)))
