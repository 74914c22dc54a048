use Rattle.std.proofs.Common.{◌≡◌, ℕ, ◌+◌, ◌≤◌, ◌<◌, false, cond, List, ◌∷◌, drop, fold, get_or, length, refl, sym, ap, ◌∙◌, subst, arith, add-one, drop-cons}
use Rattle.std.specs.Prelude.{count_by}
use Rattle.std.specs.List.{AllByRecursion, Contains}
use Rattle.std.proofs.lemmas.List.{drop_all}
use Rattle.std.proofs.lemmas.List.Sums.{sum_by-cons}
use Rattle.liq_types.specs.declared.figures.Wallet.{Wallet}
use Rattle.liq_types.specs.State.{wallet_in}
use Rattle.liq_types.specs.Tables.{Table}
use Rattle.liq_redemption.specs.declared.cut.Cut.{Cut}
use Rattle.liq_redemption.specs.Parts.{Parts, parts_of, cut_parts}
use Rattle.liq_redemption.specs.Given.{HasRoomToClose}
use Rattle.liq_redemption.proofs.Cutting.{CutsFit, planned_covered}
use Rattle.liq_redemption.proofs.Stepping.{CloseButLast, Spent, close_next, planned_close, spent_none, spent_more}
use Rattle.liq_redemption.proofs.Paying.{charges, charged_less}
use Rattle.liq_redemption.proofs.applying.apply.Goals as goal

pub loop-cut-init : goal.loop-cut-init
loop-cut-init g c =
    let p = parts_of c.args.pools.now c.args.surplus.now c.args.troves.now c.args.order.now in
    let wallet = wallet_in c.args.wallets.now.rows c.args.account in
    let covered = planned_covered p wallet c.args.plan.now c.requires.sound c.requires.planned in
    let same = c.as_slice-cut-items.ensures in
    record {
      parts = ap (λ (l : List Cut). fold cut_parts p l) same;
      fit = subst (λ (l : List Cut). CutsFit p l) (sym same) covered.cuts.fit;
      claims = subst (λ (l : List Cut). AllByRecursion (HasRoomToClose c.args.surplus.now) l)
          (sym same) c.requires.room.1;
      surplus_room = refl;
      trove_room = refl;
      order_room = ap (λ (l : List Cut). c.args.order.now.room + count_by (λ (cut : Cut). cut.full) l) same;
      close = subst (λ (l : List Cut). CloseButLast l) (sym same) (planned_close p wallet c.args.plan.now
          c.requires.planned);
      spent = subst (λ (l : List Cut). Spent c.args.plan.now.cuts l c.args.hint.now (length c.args.order.now.entries)
          c.args.order.now.entries c.args.steps.now c.args.steps.now) (sym same)
          (spent_none c.args.plan.now.cuts c.args.hint.now c.args.order.now.entries c.args.steps.now);
    }

-- the cut that is next, and those behind it
abbrev no_cut : Cut
no_cut = record { account = 0; lot = 0; draw = 0; full = false }

next_cut : (list : List Cut) (i : ℕ) → i < length list → drop i list ≡ get_or list i no_cut ∷ drop (i + 1) list
next_cut list i h = drop-cons list i no_cut h ∙ ap (λ k. get_or list i no_cut ∷ drop k list) (sym (add-one i))

pub take_down-requires-clause-fits : goal.take_down-requires-clause-fits
take_down-requires-clause-fits g c =
    let now = parts_of c.loop-cut.pools c.loop-cut.surplus c.loop-cut.troves c.loop-cut.order in
    let fit = subst (λ (l : List Cut). CutsFit now l) (next_cut c.as_slice-cut-items.result.now c.loop-cut.cut-index
    c.loop-cut-test.true) c.loop-cut.invariant.fit in
    fit.0

pub take_down-requires-clause-room : goal.take_down-requires-clause-room
take_down-requires-clause-room g c full =
    let cut = get_or c.as_slice-cut-items.result.now c.loop-cut.cut-index no_cut in
    let claims = subst (λ (l : List Cut). AllByRecursion (HasRoomToClose c.args.surplus.now) l)
    (next_cut c.as_slice-cut-items.result.now c.loop-cut.cut-index c.loop-cut-test.true) c.loop-cut.invariant.claims
    in
    subst (λ (room : List ℕ). Contains room cut.account) (sym c.loop-cut.invariant.surplus_room) (claims.0 full)

pub loop-cut-preserved : goal.loop-cut-preserved
loop-cut-preserved g c =
    let items = c.as_slice-cut-items.result.now in
    let i = c.loop-cut.cut-index in
    let cut = get_or items i no_cut in
    let now = parts_of c.loop-cut.pools c.loop-cut.surplus c.loop-cut.troves c.loop-cut.order in
    let next = next_cut items i c.loop-cut-test.true in
    let made = c.take_down.ensures.parts in
    let fit = subst (λ (l : List Cut). CutsFit now l) next c.loop-cut.invariant.fit in
    let claims = subst (λ (l : List Cut). AllByRecursion (HasRoomToClose c.args.surplus.now) l) next
    c.loop-cut.invariant.claims in
    let room = sum_by-cons (λ (x : Cut). cond x.full 1 0) cut (drop (i + 1) items) in
    let rooms = ap (λ (l : List Cut). count_by (λ (x : Cut). x.full) l) next in
    let close = subst (λ (l : List Cut). CloseButLast l) next c.loop-cut.invariant.close in
    let spent = subst (λ (l : List Cut). Spent c.args.plan.now.cuts l c.args.hint.now (length c.args.order.now.entries)
    c.loop-cut.order.entries c.args.steps.now c.loop-cut.steps) next c.loop-cut.invariant.spent in
    record {
      parts =
          ap (λ (q : Parts). fold cut_parts q (drop (i + 1) items)) made
          ∙ sym (ap (λ (l : List Cut). fold cut_parts now l) next)
          ∙ c.loop-cut.invariant.parts;
      fit = subst (λ (q : Parts). CutsFit q (drop (i + 1) items)) (sym made) fit.1;
      claims = claims.1;
      surplus_room = c.take_down.ensures.surplus_room ∙ c.loop-cut.invariant.surplus_room;
      trove_room = c.take_down.ensures.trove_room ∙ c.loop-cut.invariant.trove_room;
      order_room = omega (arith, c.take_down.ensures.order_room, room, rooms, c.loop-cut.invariant.order_room);
      close = close_next cut (drop (i + 1) items) close;
      spent = spent_more c.args.plan.now.cuts cut (drop (i + 1) items) c.args.hint.now (length c.args.order.now.entries)
          c.loop-cut.order.entries c.take_down.new.order.entries c.args.steps.now c.loop-cut.steps c.take_down.new.steps
          close spent c.take_down.ensures.takes;
    }

-- ---- what is left to do

-- the parts of now, where no cut is left
all_cut : (now start : Parts) (items cuts : List Cut) (i : ℕ) → length items ≤ i → fold cut_parts now (drop i items)
    ≡ fold cut_parts start cuts → now ≡ fold cut_parts start cuts
all_cut now start items cuts i h e = sym (ap (λ (l : List Cut). fold cut_parts now l) (drop_all i items h)) ∙ e

pub overflow_add-pools : goal.overflow_add-pools
overflow_add-pools g c =
    let p = parts_of c.args.pools.now c.args.surplus.now c.args.troves.now c.args.order.now in
    let wallet = wallet_in c.args.wallets.now.rows c.args.account in
    let covered = planned_covered p wallet c.args.plan.now c.requires.sound c.requires.planned in
    let now = parts_of c.loop-cut.pools c.loop-cut.surplus c.loop-cut.troves c.loop-cut.order in
    let done = all_cut now p c.as_slice-cut-items.result.now c.args.plan.now.cuts c.loop-cut.cut-index
    c.loop-cut-test.false c.loop-cut.invariant.parts in
    let fees = ap (λ (q : Parts). q.pools.fee_coll) done ∙ covered.cuts.fees in
    let drawn = covered.cuts.coll in
    record { fits = omega (arith, fees, covered.drawn, covered.fee, drawn, c.requires.sound.coll) }

pub overflow_sub-plan : goal.overflow_sub-plan
overflow_sub-plan g c =
    let p = parts_of c.args.pools.now c.args.surplus.now c.args.troves.now c.args.order.now in
    let wallet = wallet_in c.args.wallets.now.rows c.args.account in
    (planned_covered p wallet c.args.plan.now c.requires.sound c.requires.planned).fee

pub unreachable-requires : goal.unreachable-requires
unreachable-requires g c =
    let p = parts_of c.args.pools.now c.args.surplus.now c.args.troves.now c.args.order.now in
    let wallet = wallet_in c.args.wallets.now.rows c.args.account in
    let covered = planned_covered p wallet c.args.plan.now c.requires.sound c.requires.planned in
    let goes = charges wallet c.args.plan.now.redeemed covered.redeemed in
    let refused = c.charge.ensures.refused ∙ goes in
    let is = c.in-Err.is in
    cc

pub pay-requires-clause-coll : goal.pay-requires-clause-coll
pay-requires-clause-coll g c =
    let p = parts_of c.args.pools.now c.args.surplus.now c.args.troves.now c.args.order.now in
    let wallet = wallet_in c.args.wallets.now.rows c.args.account in
    let covered = planned_covered p wallet c.args.plan.now c.requires.sound c.requires.planned in
    let less = charged_less c.args.wallets.now.rows c.args.account c.args.plan.now.redeemed c.requires.ascend in
    let same = ap (λ (t : Table Wallet). (wallet_in t c.args.account).coll) c.in-Ok.ensures.moved in
    omega (arith, less.coll, same, covered.drawn, covered.cuts.coll, c.requires.sound.coll)

pub pay-requires-clause-lusd : goal.pay-requires-clause-lusd
pay-requires-clause-lusd g c =
    let less = charged_less c.args.wallets.now.rows c.args.account c.args.plan.now.redeemed c.requires.ascend in
    let same = ap (λ (t : Table Wallet). (wallet_in t c.args.account).lusd) c.in-Ok.ensures.moved in
    let market = c.requires.planned.sound in
    omega (arith, less.lusd, same, market.supply, market.debt)

pub returns-clause-parts : goal.returns-clause-parts
returns-clause-parts g c =
    let p = parts_of c.args.pools.now c.args.surplus.now c.args.troves.now c.args.order.now in
    let now = parts_of c.loop-cut.pools c.loop-cut.surplus c.loop-cut.troves c.loop-cut.order in
    ap (λ (q : Parts). record q { pools = record q.pools { fee_coll = q.pools.fee_coll + c.args.plan.now.fee } })
    (all_cut now p c.as_slice-cut-items.result.now c.args.plan.now.cuts c.loop-cut.cut-index c.loop-cut-test.false
    c.loop-cut.invariant.parts)

pub returns-clause-order_room : goal.returns-clause-order_room
returns-clause-order_room g c =
    let none = ap (λ (l : List Cut). count_by (λ (x : Cut). x.full) l)
    (drop_all c.loop-cut.cut-index c.as_slice-cut-items.result.now c.loop-cut-test.false) in
    omega (arith, none, c.loop-cut.invariant.order_room)

-- ---- the steps

pub returns-clause-few : goal.returns-clause-few
returns-clause-few g c =
    let none = drop_all c.loop-cut.cut-index c.as_slice-cut-items.result.now c.loop-cut-test.false in
    (subst (λ (l : List Cut). Spent c.args.plan.now.cuts l c.args.hint.now (length c.args.order.now.entries)
    c.loop-cut.order.entries c.args.steps.now c.loop-cut.steps) none c.loop-cut.invariant.spent).0

pub returns-clause-any : goal.returns-clause-any
returns-clause-any g c =
    let none = drop_all c.loop-cut.cut-index c.as_slice-cut-items.result.now c.loop-cut-test.false in
    (subst (λ (l : List Cut). Spent c.args.plan.now.cuts l c.args.hint.now (length c.args.order.now.entries)
    c.loop-cut.order.entries c.args.steps.now c.loop-cut.steps) none c.loop-cut.invariant.spent).1
