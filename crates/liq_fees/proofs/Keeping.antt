-- What is kept stands for the same list after a fee and after a change, and its numbers are small.
use Rattle.std.proofs.Common.{◌≡◌, ℕ, ◌+◌, ◌-◌, ◌*◌, ◌<◌, ◌≤◌, Bool, true, false, cond, eqb, leb, ltb, List, [], ◌∷◌, Option, Some, None, refl, ap, sym, subst, ◌∙◌, arith}
use Rattle.std.specs.Prelude.{unwrap_or, not}
use denote.Struct.Props.{props}
use Rattle.std.proofs.Math.Logic.{∥∥₁_elim}
use Rattle.std.proofs.lemmas.Bool.{eqb-true, eq-eqb, ltb-false, leb-false}
use Rattle.liq_num.specs.Quotient.{floor_of}
use Rattle.liq_num.specs.declared.power.TheConstants.{ONE}
use Rattle.liq_types.specs.declared.amounts.TheConstants.{ACCOUNTS, LIM}
use Rattle.liq_types.specs.PlainLedger.{over_accounts}
use Rattle.liq_types.specs.Tables.{Table, put, without}
use Rattle.liq_types.proofs.Accounts.{over-term}
use Rattle.liq_types.proofs.Lookups.{at-put_same, at-put_other}
use Rattle.liq_tables.specs.WithRoom.{written}
use Rattle.liq_fees.specs.Happened.{Happened, Put, Out, Fee, Asset, of_coll, of_lusd, stake_of, staked_of, fees_of, unshared_of, changes_of, changes_in, fees_in, shares_of, AreCovered, AreStakedUpTo, AreOwnedBelow, IsLawful}
use Rattle.liq_fees.specs.Exact.{weight_of}
use Rattle.liq_fees.specs.Gains.{sum_of, mark_of, got_of, gain_of}
use Rattle.liq_fees.specs.Kept.{Kept, no_staker, is_used_staker, staker_in, weight_at, pot_after, staker_after, row_by, row_of, IsPotOf, IsGainOf, IsStakerOf, IsKeptOf, CanGain, CanBeRead, change_by, refusal_of}
use Rattle.liq_fees.specs.declared.changes.TheConstants.{STAKED_MOST, CHANGES_MOST, FEES_MOST}
use Rattle.liq_fees.specs.declared.changes.StakeRefusal.TheVariants.{AccountRange, AmountZero, AmountLimit, ShortStake}
use Rattle.liq_fees.specs.declared.gains.Gain.{Gain}
use Rattle.liq_fees.specs.declared.gains.Pot.{Pot}
use Rattle.liq_fees.specs.declared.gains.Staker.{Staker}
use Rattle.liq_fees.proofs.Steps.{more_held}
use Rattle.liq_fees.proofs.Conserving.{marked, all_staked, all_gained, one_held, sum_most}

-- ---- small numbers

owned_more : (n m : ℕ) → n ≤ m → (past : List Happened) → AreOwnedBelow n past → AreOwnedBelow m past
owned_more n m h [] k = tt
owned_more n m h (Put owner amount ∷ past) k = (omega (arith, k.0), owned_more n m h past k.1)
owned_more n m h (Out owner amount ∷ past) k = (omega (arith, k.0), owned_more n m h past k.1)
owned_more n m h (Fee coll lusd ∷ past) k = owned_more n m h past k

staked_least : (most : ℕ) (past : List Happened) → AreStakedUpTo most past → staked_of past ≤ most
staked_least most [] h = omega arith
staked_least most (e ∷ past) h = h.0

one_staked : (n account : ℕ) → account < n → (past : List Happened) → AreOwnedBelow n past → AreCovered past
    → stake_of account past ≤ staked_of past
one_staked n account low past owned covered =
    let one = over-term n (λ a. stake_of a past) account low in
    omega (arith, one, all_staked n past owned covered)

weight_fee : (weight stake most fees : ℕ) (b : Bool) → stake ≤ most → weight ≤ fees * most
    → cond b weight (weight + stake) ≤ (fees + 1) * most
weight_fee weight stake most fees true less h = omega (arith, h)
weight_fee weight stake most fees false less h = omega (arith, h, less)

weight_most : (n account most : ℕ) → account < n → (past : List Happened) → AreOwnedBelow n past → AreCovered past
    → AreStakedUpTo most past → weight_of account past ≤ fees_in past * most
weight_most n account most low [] owned covered staked = omega arith
weight_most n account most low (Put owner amount ∷ past) owned covered staked =
    weight_most n account most low past owned.1 covered staked.1
weight_most n account most low (Out owner amount ∷ past) owned covered staked =
    weight_most n account most low past owned.1 covered.1 staked.1
weight_most n account most low (Fee coll lusd ∷ past) owned covered staked =
    let one = one_staked n account low past owned covered in
    weight_fee (weight_of account past) (stake_of account past) most (fees_in past) (eqb (staked_of past) 0)
    (omega (arith, one, staked.0)) (weight_most n account most low past owned covered staked.1)

one_more : (n m : ℕ) (b : Bool) → n ≤ m → cond b (n + 1) n ≤ m + 1
one_more n m true h = omega (arith, h)
one_more n m false h = omega (arith, h)

one_less : (n m : ℕ) (b : Bool) → n ≤ m → cond b n (n + 1) ≤ m + 1
one_less n m true h = omega (arith, h)
one_less n m false h = omega (arith, h)

changes_most : (account : ℕ) (past : List Happened) → changes_of account past ≤ changes_in past
changes_most account [] = omega arith
changes_most account (Put owner amount ∷ past) = one_more (changes_of account past) (changes_in past)
    (eqb owner account) (changes_most account past)
changes_most account (Out owner amount ∷ past) = one_more (changes_of account past) (changes_in past)
    (eqb owner account) (changes_most account past)
changes_most account (Fee coll lusd ∷ past) = changes_most account past

shares_most : (past : List Happened) → shares_of past ≤ fees_in past
shares_most [] = omega arith
shares_most (Put owner amount ∷ past) = shares_most past
shares_most (Out owner amount ∷ past) = shares_most past
shares_most (Fee coll lusd ∷ past) = one_less (shares_of past) (fees_in past) (eqb (staked_of past) 0)
    (shares_most past)

gain_can : (asset : Asset) (account stake : ℕ) (gain : Gain) (sum : ℕ) (past : List Happened)
    → AreOwnedBelow ACCOUNTS past → AreCovered past → fees_of asset past ≤ LIM
    → stake ≡ stake_of account past → IsGainOf asset account gain past → sum ≡ sum_of asset past
    → CanGain stake gain sum
gain_can asset account stake gain sum past owned covered limit same h total =
    let n = ACCOUNTS + account + 1 in
    let most = one_held asset n past account (omega arith) (owned_more ACCOUNTS n (omega arith) past owned) covered in
    record {
      later = rw (h.mark, total) (marked asset past account);
      within = rw (h.mark, h.got, total, same) (omega (arith, most, limit));
    }

-- ---- what is kept

module _ (k : Kept) (past : List Happened) (h : IsKeptOf k past) where
  pub can_be_read : (account : ℕ) → CanBeRead (staker_in k.stakers account) k.coll k.lusd k.shares
  can_be_read account =
      let s = staker_in k.stakers account in
      let r = h.stakers account in
      let n = ACCOUNTS + account + 1 in
      let weight = weight_most n account STAKED_MOST (omega arith) past (owned_more ACCOUNTS n
      (omega arith) past h.lawful.owners) h.lawful.covered h.lawful.staked in
      record {
        gains_coll = gain_can of_coll account s.stake s.coll k.coll.sum past h.lawful.owners h.lawful.covered
            h.lawful.coll r.stake r.coll h.coll.sum;
        gains_lusd = gain_can of_lusd account s.stake s.lusd k.lusd.sum past h.lawful.owners h.lawful.covered
            h.lawful.lusd r.stake r.lusd h.lusd.sum;
        later = omega (arith, r.shares, h.shares);
        weight = rw (h.shares, r.weight) (omega (arith, weight, h.lawful.fees));
        changes = let most = changes_most account past in omega (arith, most, r.changes, h.lawful.changes);
      }

  pub few_shares : k.shares ≤ FEES_MOST
  few_shares = let most = shares_most past in omega (arith, most, h.shares, h.lawful.fees)

  pub small_stake : (account : ℕ) → (staker_in k.stakers account).stake ≤ k.staked
  small_stake account =
      let n = ACCOUNTS + account + 1 in
      let one = one_staked n account (omega arith) past (owned_more ACCOUNTS n (omega arith) past h.lawful.owners)
      h.lawful.covered in
      omega (arith, one, h.staked, (h.stakers account).stake)

  pub small_pots : (k.coll.sum ≤ LIM * ONE) × (k.lusd.sum ≤ LIM * ONE)
  small_pots =
      let coll = sum_most of_coll past in
      let lusd = sum_most of_lusd past in
      (omega (arith, coll, h.coll.sum, h.lawful.coll), omega (arith, lusd, h.lusd.sum, h.lawful.lusd))

pub covers_all : (asset : Asset) (past : List Happened) (unshared : ℕ) → IsLawful past
    → unshared ≡ unshared_of asset past
    → over_accounts ACCOUNTS (λ account. gain_of asset account past) + unshared ≤ fees_of asset past
covers_all asset past unshared h e = rw e (all_gained asset ACCOUNTS past h.owners h.covered)

pub unshared_fits : (k : Kept) (past : List Happened) (coll lusd : ℕ) → IsKeptOf k past
    → IsLawful (Fee coll lusd ∷ past)
    → (k.coll.unshared + coll ≤ LIM) × (k.lusd.unshared + lusd ≤ LIM)
unshared_fits k past coll lusd h lawful =
    let first = sum_most of_coll past in
    let second = sum_most of_lusd past in
    (omega (arith, first, h.coll.unshared, lawful.coll), omega (arith, second, h.lusd.unshared, lawful.lusd))

row_same : (account : ℕ) (s : Staker) (coll lusd : Pot) (shares : ℕ) (past : List Happened) → IsStakerOf account s past
    → IsPotOf of_coll coll past → IsPotOf of_lusd lusd past → shares ≡ shares_of past
    → row_by account s coll lusd shares ≡ row_of account past
row_same account s coll lusd shares past h c l e = rw (
  e,
  h.weight,
  h.stake,
  h.coll.mark,
  h.coll.got,
  h.lusd.mark,
  h.lusd.got,
  h.changes,
  c.sum,
  l.sum,
) refl

pub row_is : (k : Kept) (past : List Happened) → IsKeptOf k past → (account : ℕ)
    → row_by account (staker_in k.stakers account) k.coll k.lusd k.shares ≡ row_of account past
row_is k past h account = row_same account (staker_in k.stakers account) k.coll k.lusd k.shares past
    (h.stakers account) h.coll h.lusd h.shares

-- as much of it as can be said where the list is not known
pub reads : (k : Kept) → ∥ ((past : List Happened) × IsKeptOf k past) ∥₁ → (account : ℕ)
    → CanBeRead (staker_in k.stakers account) k.coll k.lusd k.shares
reads k some account = record {
  gains_coll = record {
    later = ∥∥₁_elim some (search props) (λ p. (can_be_read k p.0 p.1 account).gains_coll.later);
    within = ∥∥₁_elim some (search props) (λ p. (can_be_read k p.0 p.1 account).gains_coll.within);
  };
  gains_lusd = record {
    later = ∥∥₁_elim some (search props) (λ p. (can_be_read k p.0 p.1 account).gains_lusd.later);
    within = ∥∥₁_elim some (search props) (λ p. (can_be_read k p.0 p.1 account).gains_lusd.within);
  };
  later = ∥∥₁_elim some (search props) (λ p. (can_be_read k p.0 p.1 account).later);
  weight = ∥∥₁_elim some (search props) (λ p. (can_be_read k p.0 p.1 account).weight);
  changes = ∥∥₁_elim some (search props) (λ p. (can_be_read k p.0 p.1 account).changes);
}

-- ---- a fee

pot_sum : (pot : Pot) (fee staked sum : ℕ) (b : Bool) → pot.sum ≡ sum
    → (cond b (record pot { unshared = pot.unshared + fee })
    (record pot { sum = pot.sum + floor_of fee ONE staked })).sum ≡ cond b sum (sum + floor_of fee ONE staked)
pot_sum pot fee staked sum true h = h
pot_sum pot fee staked sum false h = ap (λ n. n + floor_of fee ONE staked) h

pot_unshared : (pot : Pot) (fee staked unshared : ℕ) (b : Bool) → pot.unshared ≡ unshared
    → (cond b (record pot { unshared = pot.unshared + fee })
    (record pot { sum = pot.sum + floor_of fee ONE staked })).unshared ≡ cond b (unshared + fee) unshared
pot_unshared pot fee staked unshared true h = ap (λ n. n + fee) h
pot_unshared pot fee staked unshared false h = h

pot_kept : (asset : Asset) (pot : Pot) (coll lusd staked : ℕ) (past : List Happened) → staked ≡ staked_of past
    → IsPotOf asset pot past → IsPotOf asset (pot_after pot (asset coll lusd) staked) (Fee coll lusd ∷ past)
pot_kept asset pot coll lusd staked past same h = rw same (record {
  sum = pot_sum pot (asset coll lusd) (staked_of past) (sum_of asset past) (eqb (staked_of past) 0) h.sum;
  unshared = pot_unshared pot (asset coll lusd) (staked_of past) (unshared_of asset past) (eqb (staked_of past) 0)
      h.unshared;
})

later_shares : (shares then : ℕ) (b : Bool) → then ≤ shares → then ≤ cond b shares (shares + 1)
later_shares shares then true h = h
later_shares shares then false h = omega (arith, h)

later_weight : (weight stake shares then now : ℕ) (b : Bool) → then ≤ shares → weight + stake * (shares - then) ≡ now
    → weight + stake * (cond b shares (shares + 1) - then) ≡ cond b now (now + stake)
later_weight weight stake shares then now true less h = h
later_weight weight stake shares then now false less h = let more = more_held stake shares 1 then less
    in omega (arith, more, h)

staker_kept : (account : ℕ) (s : Staker) (coll lusd : ℕ) (past : List Happened) → IsStakerOf account s past
    → IsStakerOf account s (Fee coll lusd ∷ past)
staker_kept account s coll lusd past h = record {
  stake = h.stake;
  coll = record { mark = h.coll.mark; got = h.coll.got };
  lusd = record { mark = h.lusd.mark; got = h.lusd.got };
  changes = h.changes;
  shares = later_shares (shares_of past) s.shares (eqb (staked_of past) 0) h.shares;
  weight = subst (λ m. s.weight + s.stake * (cond (eqb (staked_of past) 0) (shares_of past) (shares_of past + 1)
      - s.shares) ≡ cond (eqb (staked_of past) 0) (weight_of account past) (weight_of account past + m)) h.stake
      (later_weight s.weight s.stake (shares_of past) s.shares (weight_of account past) (eqb (staked_of past) 0)
      h.shares h.weight);
}

pub fee_kept : (k : Kept) (past : List Happened) (coll lusd shares : ℕ) (coll_pot lusd_pot : Pot) → IsKeptOf k past
    → IsLawful (Fee coll lusd ∷ past)
    → coll_pot ≡ pot_after k.coll coll k.staked → lusd_pot ≡ pot_after k.lusd lusd k.staked
    → shares ≡ cond (eqb k.staked 0) k.shares (k.shares + 1)
    → IsKeptOf (record { staked = k.staked; shares = shares; coll = coll_pot; lusd = lusd_pot; stakers = k.stakers })
    (Fee coll lusd ∷ past)
fee_kept k past coll lusd shares coll_pot lusd_pot h lawful first second counted = record {
  lawful = lawful;
  staked = h.staked;
  shares = counted ∙ rw (h.staked, h.shares) refl;
  coll = rw first (pot_kept of_coll k.coll coll lusd k.staked past h.staked h.coll);
  lusd = rw second (pot_kept of_lusd k.lusd coll lusd k.staked past h.staked h.lusd);
  stakers = λ account. staker_kept account (staker_in k.stakers account) coll lusd past (h.stakers account);
}

-- ---- a change

-- why it is not refused
pub record IsAllowed (account amount : ℕ) (out : Bool) (staked stake : ℕ) : Type 0 where
  pub owner : account < ACCOUNTS
  pub room : out ≡ false → staked + amount ≤ STAKED_MOST
  pub enough : out ≡ true → amount ≤ stake

pub is_allowed : (account amount : ℕ) (out : Bool) (staked stake : ℕ) → refusal_of account amount out staked stake
    ≡ None → IsAllowed account amount out staked stake
is_allowed account amount out staked stake e = by (leb ACCOUNTS account) (eqb amount 0) out (ltb stake amount)
    (ltb STAKED_MOST (staked + amount)) refl refl refl e where
      by : (far none out short over : Bool) → leb ACCOUNTS account ≡ far → ltb stake amount ≡ short
          → ltb STAKED_MOST (staked + amount) ≡ over
          → cond far (Some (AccountRange account)) (cond none (Some AmountZero)
          (cond out (cond short (Some (ShortStake amount stake)) None)
          (cond over (Some (AmountLimit (staked + amount) STAKED_MOST)) None))) ≡ None
          → IsAllowed account amount out staked stake
      by true none out short over f s o e = absurd cc
      by false true out short over f s o e = absurd cc
      by false false true true over f s o e = absurd cc
      by false false true false over f s o e = record {
        owner = leb-false ACCOUNTS account f;
        room = λ no. absurd cc;
        enough = λ yes. ltb-false stake amount s;
      }
      by false false false short true f s o e = absurd cc
      by false false false short false f s o e = record {
        owner = leb-false ACCOUNTS account f;
        room = λ no. ltb-false STAKED_MOST (staked + amount) o;
        enough = λ yes. absurd cc;
      }

-- the same, of what is kept
pub refusal_is : (k : Kept) (past : List Happened) → IsKeptOf k past → (account amount : ℕ) (out : Bool)
    → refusal_of account amount out k.staked (staker_in k.stakers account).stake
    ≡ refusal_of account amount out (staked_of past) (stake_of account past)
refusal_is k past h account amount out =
    ap (λ n. refusal_of account amount out n (staker_in k.stakers account).stake) h.staked
    ∙ ap (λ n. refusal_of account amount out (staked_of past) n) (h.stakers account).stake

-- an account that changes
own_kept : (account next : ℕ) (s : Staker) (coll lusd : Pot) (shares : ℕ) (past after : List Happened)
    → IsStakerOf account s past → IsPotOf of_coll coll past → IsPotOf of_lusd lusd past → shares ≡ shares_of past
    → next ≡ stake_of account after
    → ((asset : Asset) → mark_of asset account after ≡ sum_of asset past)
    → ((asset : Asset) → got_of asset account after ≡ gain_of asset account past)
    → changes_of account after ≡ changes_of account past + 1 → shares_of after ≡ shares_of past
    → weight_of account after ≡ weight_of account past
    → IsStakerOf account (staker_after s next coll lusd shares) after
own_kept account next s coll lusd shares past after h c l e stake marks gots changes same weight = record {
  stake = stake;
  coll = record {
    mark = c.sum ∙ sym (marks of_coll);
    got = rw (h.coll.got, h.stake, c.sum, h.coll.mark)
        (sym (gots of_coll));
  };
  lusd = record {
    mark = l.sum ∙ sym (marks of_lusd);
    got = rw (h.lusd.got, h.stake, l.sum, h.lusd.mark)
        (sym (gots of_lusd));
  };
  changes = ap (λ n. n + 1) h.changes ∙ sym changes;
  shares = omega (arith, e, same);
  weight = by;
} where
  none : next * (shares_of after - shares) ≡ 0
  none =
      let zero : shares_of after - shares ≡ 0 = omega (arith, e, same) in
      let times : next * (shares_of after - shares) ≡ next * 0 = ap (λ n. next * n) zero in
      omega (arith, times)

  then : weight_at s shares ≡ weight_of account past
  then = rw e h.weight

  by : weight_at s shares + next * (shares_of after - shares) ≡ weight_of account after
  by = omega (arith, none, then, weight)

-- the rows of the accounts that do not change
others_kept : (account : ℕ) (s : Staker) (past after : List Happened) → IsStakerOf account s past
    → stake_of account after ≡ stake_of account past
    → ((asset : Asset) → mark_of asset account after ≡ mark_of asset account past)
    → ((asset : Asset) → got_of asset account after ≡ got_of asset account past)
    → changes_of account after ≡ changes_of account past → shares_of after ≡ shares_of past → weight_of account after
    ≡ weight_of account past
    → IsStakerOf account s after
others_kept account s past after h stake marks gots changes same weight = record {
  stake = h.stake ∙ sym stake;
  coll = record { mark = h.coll.mark ∙ sym (marks of_coll); got = h.coll.got ∙ sym (gots of_coll) };
  lusd = record { mark = h.lusd.mark ∙ sym (marks of_lusd); got = h.lusd.got ∙ sym (gots of_lusd) };
  changes = h.changes ∙ sym changes;
  shares = omega (arith, h.shares, same);
  weight = rw (same, weight) h.weight;
}

-- the table, where each account's row is as it was but for the owner's
rows_kept : (stakers : Table Staker) (owner : ℕ) (row : Staker) (after : List Happened) → IsStakerOf owner row after
    → ((account : ℕ) → eqb owner account ≡ false → IsStakerOf account (staker_in stakers account) after)
    → (account : ℕ) → IsStakerOf account (staker_in (put stakers owner row) account) after
rows_kept stakers owner row after own others account = by (eqb owner account) refl where
  by : (b : Bool) → eqb owner account ≡ b → IsStakerOf account (staker_in (put stakers owner row) account) after
  by true e =
      subst (λ a. IsStakerOf a (staker_in (put stakers owner row) a) after) (eqb-true owner account e)
      (subst (λ (found : Option Staker). IsStakerOf owner (unwrap_or found no_staker) after)
      (sym (at-put_same stakers owner row)) own)
  by false e = subst (λ (found : Option Staker). IsStakerOf account (unwrap_or found no_staker) after)
      (sym (at-put_other stakers owner row account e)) (others account e)

row_written : (stakers : Table Staker) (account next : ℕ) (s : Staker) (coll lusd : Pot) (shares : ℕ)
    → written is_used_staker stakers account (staker_after s next coll lusd shares)
    ≡ put stakers account (staker_after s next coll lusd shares)
row_written stakers account next s coll lusd shares = by (eqb (s.changes + 1) 0) refl where
  by : (b : Bool) → eqb (s.changes + 1) 0 ≡ b
      → cond (not b) (put stakers account (staker_after s next coll lusd shares)) (without stakers account)
      ≡ put stakers account (staker_after s next coll lusd shares)
  by true e = let none : s.changes + 1 ≡ 0 = eqb-true (s.changes + 1) 0 e in absurd (omega (arith, none))
  by false e = refl

module _ (k : Kept) (past : List Happened) (h : IsKeptOf k past) (account amount : ℕ) (few : changes_in past
    < CHANGES_MOST) where
  abbrev s : Staker
  s = staker_in k.stakers account

  same : eqb account account ≡ true
  same = eq-eqb account account refl

  abbrev pub kept_with : (staked next : ℕ) → Kept
  kept_with staked next = record {
    staked = staked;
    shares = k.shares;
    coll = k.coll;
    lusd = k.lusd;
    stakers = put k.stakers account (staker_after s next k.coll k.lusd k.shares);
  }

  put_kept : IsAllowed account amount false k.staked s.stake
      → IsKeptOf (kept_with (k.staked + amount) (s.stake + amount)) (Put account amount ∷ past)
  put_kept a = record {
    lawful = record {
      covered = h.lawful.covered;
      staked = (let room = a.room refl in omega (arith, room, h.staked), h.lawful.staked);
      owners = (a.owner, h.lawful.owners);
      coll = h.lawful.coll;
      lusd = h.lawful.lusd;
      changes = omega (arith, few);
      fees = h.lawful.fees;
    };
    staked = ap (λ n. n + amount) h.staked;
    shares = h.shares;
    coll = record { sum = h.coll.sum; unshared = h.coll.unshared };
    lusd = record { sum = h.lusd.sum; unshared = h.lusd.unshared };
    stakers = rows_kept k.stakers account (staker_after s (s.stake + amount) k.coll k.lusd k.shares)
        (Put account amount ∷ past)
        (own_kept account (s.stake + amount) s k.coll k.lusd k.shares past (Put account amount ∷ past)
        (h.stakers account) h.coll h.lusd h.shares
        (rw (same, (h.stakers account).stake) refl) (λ asset. rw same refl) (λ asset. rw same refl)
        (rw same refl) refl refl)
        (λ q e. others_kept q (staker_in k.stakers q) past (Put account amount ∷ past) (h.stakers q) (rw e refl)
        (λ asset. rw e refl) (λ asset. rw e refl) (rw e refl) refl refl);
  }

  out_kept : IsAllowed account amount true k.staked s.stake
      → IsKeptOf (kept_with (k.staked - amount) (s.stake - amount)) (Out account amount ∷ past)
  out_kept a = record {
    lawful = record {
      covered = (let enough = a.enough refl in omega (arith, enough, (h.stakers account).stake), h.lawful.covered);
      staked = (let most = staked_least STAKED_MOST past h.lawful.staked in omega (arith, most), h.lawful.staked);
      owners = (a.owner, h.lawful.owners);
      coll = h.lawful.coll;
      lusd = h.lawful.lusd;
      changes = omega (arith, few);
      fees = h.lawful.fees;
    };
    staked = ap (λ n. n - amount) h.staked;
    shares = h.shares;
    coll = record { sum = h.coll.sum; unshared = h.coll.unshared };
    lusd = record { sum = h.lusd.sum; unshared = h.lusd.unshared };
    stakers = rows_kept k.stakers account (staker_after s (s.stake - amount) k.coll k.lusd k.shares)
        (Out account amount ∷ past)
        (own_kept account (s.stake - amount) s k.coll k.lusd k.shares past (Out account amount ∷ past)
        (h.stakers account) h.coll h.lusd h.shares
        (rw (same, (h.stakers account).stake) refl) (λ asset. rw same refl) (λ asset. rw same refl)
        (rw same refl) refl refl)
        (λ q e. others_kept q (staker_in k.stakers q) past (Out account amount ∷ past) (h.stakers q) (rw e refl)
        (λ asset. rw e refl) (λ asset. rw e refl) (rw e refl) refl refl);
  }

  pub change_kept : (out : Bool) → refusal_of account amount out k.staked s.stake ≡ None
      → IsKeptOf (kept_with (cond out (k.staked - amount) (k.staked + amount)) (cond out (s.stake - amount)
      (s.stake + amount))) (change_by account amount out ∷ past)
  change_kept true e = out_kept (is_allowed account amount true k.staked s.stake e)
  change_kept false e = put_kept (is_allowed account amount false k.staked s.stake e)

-- the same, of numbers that are what a change makes of them
pub change_done : (k : Kept) (past : List Happened) → IsKeptOf k past → (account amount : ℕ) (out : Bool)
    → changes_in past < CHANGES_MOST → (staked next : ℕ) (s row : Staker) (before rows : Table Staker)
    → s ≡ staker_in k.stakers account → refusal_of account amount out k.staked s.stake ≡ None
    → staked ≡ cond out (k.staked - amount) (k.staked + amount) → next ≡ cond out (s.stake - amount) (s.stake + amount)
    → row ≡ staker_after s next k.coll k.lusd k.shares → before ≡ k.stakers
    → rows ≡ written is_used_staker before account row
    → IsKeptOf (record { staked = staked; shares = k.shares; coll = k.coll; lusd = k.lusd; stakers = rows })
    (change_by account amount out ∷ past)
change_done k past h account amount out few staked next s row before rows own none all mine is same after =
    let own_stake : s.stake ≡ (staker_in k.stakers account).stake = ap (λ (s : Staker). s.stake) own in
    let allowed : refusal_of account amount out k.staked (staker_in k.stakers account).stake ≡ None =
    subst (λ n. refusal_of account amount out k.staked n ≡ None) own_stake none in
    let left : next ≡ cond out ((staker_in k.stakers account).stake - amount) ((staker_in k.stakers account).stake
    + amount) = subst (λ n. next ≡ cond out (n - amount) (n + amount)) own_stake mine in
    let changed : row ≡ staker_after (staker_in k.stakers account) (cond out ((staker_in k.stakers account).stake
    - amount) ((staker_in k.stakers account).stake + amount)) k.coll k.lusd k.shares =
    is ∙ ap (λ (s : Staker). staker_after s next k.coll k.lusd k.shares) own
    ∙ ap (λ n. staker_after (staker_in k.stakers account) n k.coll k.lusd k.shares) left in
    let table : rows ≡ put k.stakers account (staker_after (staker_in k.stakers account)
    (cond out ((staker_in k.stakers account).stake - amount) ((staker_in k.stakers account).stake + amount)) k.coll
    k.lusd k.shares) =
    after ∙ ap (λ (t : Table Staker). written is_used_staker t account row) same
    ∙ ap (λ (r : Staker). written is_used_staker k.stakers account r) changed
    ∙ row_written k.stakers account (cond out ((staker_in k.stakers account).stake - amount)
    ((staker_in k.stakers account).stake + amount)) (staker_in k.stakers account) k.coll k.lusd k.shares in
    subst (λ n. IsKeptOf (record { staked = n; shares = k.shares; coll = k.coll; lusd = k.lusd; stakers = rows })
    (change_by account amount out ∷ past)) (sym all)
    (subst (λ (t : Table Staker). IsKeptOf (record {
      staked = cond out (k.staked - amount) (k.staked + amount);
      shares = k.shares;
      coll = k.coll;
      lusd = k.lusd;
      stakers = t;
    }) (change_by account amount out ∷ past)) (sym table)
    (change_kept k past h account amount few out allowed))
