-- The products that bodies divide, in every sound state.
use Rattle.std.proofs.Common.{◌≡◌, ℕ, zero, suc, ◌-◌, ◌*◌, ◌^◌, ◌≤◌, ◌<◌, List, [], ◌∷◌, refl, subst, arith, Some, None, Option}
use Rattle.std.specs.Prelude.{min, Ok}
use Rattle.std.proofs.Math.Nat.{mul-le-mul_left, mul-le-mul_right}
use Rattle.liq_num.specs.Power.{power_of}
use Rattle.liq_num.specs.declared.ratio.TheConstants.{GWEI_PER_ETH}
use Rattle.liq_num.proofs.Digits.{power_of-le}
use Rattle.liq_types.specs.declared.amounts.TheConstants.{LIM, ONE, RESERVE, OFFSET_MOST, P_OPENING, DECAY}
use Rattle.liq_types.specs.declared.figures.Wallet.{Wallet}
use Rattle.liq_types.specs.declared.requests.Request.{Request}
use Rattle.liq_types.specs.Image.{IsLimit}
use Rattle.liq_types.specs.State.{State, TroveEntry, opening_with, wallet_of}
use Rattle.liq_types.specs.Tables.{Table, at}
use Rattle.liq_types.specs.Totals.{pool_total}
use Rattle.liq_rate.specs.Rate.{borrow_rate, redeem_rate}
use Rattle.liq_troves.specs.StakeSums.{entire_of}
use Rattle.liq_stability.specs.Position.{words_of}
use Rattle.liq_liquidation.specs.declared.one.One.{One}
use Rattle.liq_liquidation.specs.declared.one.Victim.{Victim}
use Rattle.liq_liquidation.specs.One.{one, gas_of, struck, liquidated}
use Rattle.liq_liquidation.specs.Lowest.{lowest, next_victim}
use Rattle.liq_order.specs.Order.{last_trove}
use Rattle.liq_redemption.specs.Redemption.{cuts_in, redeemed}
use Rattle.liq_rule_sound.specs.SoundState.{IsSoundState, OneFits, OwnFits, StruckFit}
use Rattle.liq_rule_step.specs.Step.{run}
use Rattle.liq_rule_sound.proofs.SoundBorrow.{has_trove}
use Rattle.liq_rule_sound.proofs.SoundBounds.{amounts_within, words_within, trove_covered, wallet_covered, reached_snapshot}
use Rattle.liq_rule_sound.proofs.SoundFacts.{Finds, finds_after}
use Rattle.liq_rule_sound.proofs.SoundLiquidate.{Strikes, strikes, victim_leaves, found, with_pay, struck_paid, lowest_paid, lowest_by}
use Rattle.liq_rule_sound.proofs.SoundRedeem.{cuts_within}
use Rattle.liq_rule_sound.proofs.SoundStart.{opening_sound}
use Rattle.liq_rule_sound.proofs.SoundStep.{finds, run_sound}
use Rattle.liq_rule_sound.proofs.SoundTests.{sound_facts}

-- factors at most these make a product at most theirs
both_within : (a b x y : ℕ) → a ≤ x → b ≤ y → a * b ≤ x * y
both_within a b x y m n =
    let first : a * b ≤ x * b = mul-le-mul_right b m in
    let second : x * b ≤ x * y = mul-le-mul_left x n in
    omega (arith, first, second)

-- ---- offsets and liquidations

pub offset_fits : (s : State) → IsSoundState s → (debt coll : ℕ) → debt ≤ pool_total s → coll ≤ OFFSET_MOST * debt
    → coll * (words_of s).p ≤ OFFSET_MOST * P_OPENING * LIM
offset_fits s h debt coll within worth =
    let total = (amounts_within s h).pool_total in
    let both = both_within coll (words_of s).p (OFFSET_MOST * LIM) P_OPENING (omega (arith, within, worth, total))
    (words_within s h).product.most in
    omega (arith, both)

-- all parts of a trove are within the limit
one_fits : (s : State) → Finds s → (account : ℕ) (made : One) → Strikes s account made → OneFits s made
one_fits s f account made x =
    let b = f.balanced in
    let w = x.has.within in
    let p = x.parts in
    let coll : x.coll ≤ LIM = omega (arith, x.has.coll_is, w.coll, w.pending_coll, b.homes.coll, b.coll_limit) in
    let debt : x.debt ≤ LIM = omega (arith, x.has.debt_is, w.debt, w.pending_debt, b.debt_limit) in
    let offset = both_within made.offset_coll (words_of s).p LIM P_OPENING (omega (
      arith,
      p.coll_is,
      coll,
    )) f.stands.pool.highest in
    record {
      offset = omega (arith, offset);
      spread_coll = omega (arith, p.coll_is, coll);
      spread_debt = omega (arith, p.debt_is, debt);
    }

pub liquidate_fits : (s : State) → IsSoundState s → (account : ℕ) (made : One) → one s account ≡ Ok made
    → OneFits s made
liquidate_fits s h account made e = let f = finds s (sound_facts s h)
    in one_fits s f account made (strikes s f account made e)

own_within : (s : State) → Finds s → (account : ℕ) (own : ℕ × ℕ) → entire_of s account ≡ Some own → (own.0 ≤ LIM)
    × (own.1 ≤ LIM)
own_within s f account own there =
    let has = has_trove s account own f.stands there in
    let w = has.within in
    let b = f.balanced in (
      omega (arith, has.coll_is, w.coll, w.pending_coll, b.homes.coll, b.coll_limit),
      omega (
        arith,
        has.debt_is,
        w.debt,
        w.pending_debt,
        b.debt_limit,
      ),
    )

own_fits : (s : State) → Finds s → (account : ℕ) (own : ℕ × ℕ) → entire_of s account ≡ Some own → OwnFits s own
own_fits s f account own there =
    let within = own_within s f account own there in
    let less : own.0 - gas_of own.0 ≤ LIM = omega (arith, within.0) in
    record {
      cap = omega (arith, within.1);
      share = both_within (own.0 - gas_of own.0) (min own.1 (pool_total s)) LIM LIM less (omega (arith, within.1));
    }

pub own_sound_fits : (s : State) → IsSoundState s → (account : ℕ) (own : ℕ × ℕ) → entire_of s account ≡ Some own
    → OwnFits s own
own_sound_fits s h account own there = own_fits s (finds s (sound_facts s h)) account own there

-- ---- several troves, one after the other

struck_fit_paid : (vs : List Victim) (s : State) (wallets : Table Wallet) (reserve : ℕ)
    → StruckFit (with_pay s wallets reserve) vs → StruckFit s vs
struck_fit_paid [] s wallets reserve h = tt
struck_fit_paid (v ∷ vs) s wallets reserve h =
    let later = subst (λ (t : State). StruckFit t vs) (struck_paid s v wallets reserve) h.3 in
    let one = h.2 in (
      h.0,
      λ own there. let fits = h.1 own there in record { cap = fits.cap; share = fits.share },
      record { offset = one.offset; spread_coll = one.spread_coll; spread_debt = one.spread_debt },
      struck_fit_paid vs (struck s v) wallets reserve later,
    )

lowest_fit : (n : ℕ) (s : State) → Finds s → StruckFit s (lowest s n)
lowest_fit zero s f = tt
lowest_fit (suc n) s f = by (next_victim s) (found s (last_trove s)) (λ v h. lowest_fit n (liquidated s 0 v) h) where
  by : (next : Option Victim) → ((v : Victim) → next ≡ Some v → one s v.account ≡ Ok v.one)
      → ((v : Victim) → Finds (liquidated s 0 v) → StruckFit (liquidated s 0 v) (lowest (liquidated s 0 v) n))
      → StruckFit s (lowest_by n s next)
  by None known later = tt
  by (Some v) known later =
      let next = liquidated s 0 v in
      let strike = strikes s f v.account v.one (known v refl) in
      let first = victim_leaves s f 0 (omega arith) v.account v.one strike in
      let rest = later v (finds_after s next first) in
      let same : lowest next n ≡ lowest (struck s v) n = lowest_paid n (struck s v) next.wallets ((struck s v).reserve
      - RESERVE) in
      let told = subst (λ (vs : List Victim). StruckFit next vs) same rest in
      let total : pool_total s ≤ LIM = let l = f.balanced.homes.lusd in let limit = f.balanced.debt_limit
      in omega (arith, l, limit) in (
        total,
        λ own there. own_fits s f v.account own there,
        one_fits s f v.account v.one strike,
        struck_fit_paid (lowest (struck s v) n) (struck s v) next.wallets ((struck s v).reserve - RESERVE) told,
      )

pub lowest_sound_fit : (s : State) → IsSoundState s → (count : ℕ) → StruckFit s (lowest s count)
lowest_sound_fit s h count = lowest_fit count s (finds s (sound_facts s h))

-- ---- troves

pub key_fits : (s : State) → IsSoundState s → (account : ℕ) (t : TroveEntry) → at s.troves account ≡ Some t
    → t.debt * ONE ≤ ONE * LIM
key_fits s h account t there =
    let own = trove_covered s h account t there in
    let a = amounts_within s h in
    omega (arith, own.debt, a.active_debt)

pub draw_fits : (s : State) → IsSoundState s → (account : ℕ) (own : ℕ × ℕ) → entire_of s account ≡ Some own → (lot : ℕ)
    → lot ≤ own.1 → lot * GWEI_PER_ETH ≤ GWEI_PER_ETH * LIM
draw_fits s h account own there lot less = let within = own_within s (finds s (sound_facts s h)) account own there
    in omega (arith, within.1, less)

pub redeem_fits : (s : State) → IsSoundState s → (account amount : ℕ) → amount ≤ (wallet_of s account).lusd
    → redeemed (cuts_in s amount) * ONE ≤ ONE * LIM
redeem_fits s h account amount less =
    let together = cuts_within s (finds s (sound_facts s h)) amount in
    let wallet = (wallet_covered s h account).1 in
    omega (arith, together, wallet, less)

-- ---- rates

pub decay_fits : (s : State) → IsSoundState s → (minutes : ℕ) → s.base * power_of DECAY minutes ≤ ONE * ONE
decay_fits s h minutes = both_within s.base (power_of DECAY minutes) ONE ONE (sound_facts s h).ranges.base
    (power_of-le DECAY minutes (omega arith))

pub rate_fits : (rate amount : ℕ) → rate ≤ ONE → amount < 2 ^ 64 → rate * amount < ONE * 2 ^ 64
rate_fits rate amount part small =
    let both : rate * amount ≤ ONE * amount = mul-le-mul_right amount part in
    omega (arith, both, small)

pub fees_fit : (left base amount : ℕ) → amount < 2 ^ 64 → (borrow_rate left * amount < ONE * 2 ^ 64)
    × (redeem_rate base * amount < ONE * 2 ^ 64)
fees_fit left base amount small = (
  rate_fits (borrow_rate left) amount (omega arith) small,
  rate_fits (redeem_rate base) amount (omega arith) small,
)

-- ---- stakes

pub stake_fits : (s : State) → IsSoundState s → s.snap_stakes < 2 ^ 64 → (coll : ℕ) → coll ≤ s.brought
    → coll * s.snap_stakes < 2 ^ 64 * LIM
stake_fits s h small coll inside =
    let a = amounts_within s h in
    let both : coll * s.snap_stakes ≤ LIM * s.snap_stakes = mul-le-mul_right s.snap_stakes (omega (
      arith,
      inside,
      a.brought,
    )) in
    omega (arith, both, small)

pub stake_reached_fits : (limit : ℕ) → IsLimit limit → (requests : List Request) (coll : ℕ)
    → coll ≤ (run (opening_with limit) requests).0.brought → coll * (run (opening_with limit) requests).0.snap_stakes
    ≤ LIM * LIM
stake_reached_fits limit known requests coll inside =
    let s = (run (opening_with limit) requests).0 in
    let a = amounts_within s (run_sound requests (opening_with limit) (opening_sound limit known)) in
    both_within coll s.snap_stakes LIM LIM (omega (arith, inside, a.brought))
    (reached_snapshot limit known requests).stakes
