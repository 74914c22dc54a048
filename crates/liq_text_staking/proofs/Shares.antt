-- What is told at the end stands for a list that can happen, and its fees are those of all records.
use Rattle.std.proofs.Common.{◌≡◌, ℕ, ◌+◌, ◌<◌, ◌≤◌, Bool, true, false, cond, ltb, leb, eqb, List, [], ◌∷◌, ◌++◌, length, Option, Some, None, refl, subst, arith}
use Rattle.std.specs.Prelude.{◌||◌, fold}
use Rattle.std.proofs.lemmas.Bool.{ltb-false, leb-false}
use Rattle.std.proofs.Math.Seq.{drop-length}
use Rattle.liq_types.specs.declared.amounts.TheConstants.{ACCOUNTS}
use Rattle.liq_types.specs.PlainLedger.{over_accounts}
use Rattle.liq_fees.specs.Exact.{IsWithinAllowance, allowance_of}
use Rattle.liq_fees.specs.Gains.{gain_of}
use Rattle.liq_fees.specs.Happened.{Happened, Put, Out, Asset, of_coll, of_lusd, stake_of, staked_of, fees_of, unshared_of, changes_in, IsLawful}
use Rattle.liq_fees.specs.Kept.{change_by, refusal_of}
use Rattle.liq_fees.specs.declared.changes.StakeRefusal.{StakeRefusal}
use Rattle.liq_fees.specs.declared.changes.StakeRefusal.TheVariants.{AccountRange, AmountZero, AmountLimit, ShortStake}
use Rattle.liq_fees.specs.declared.changes.TheConstants.{STAKED_MOST, CHANGES_MOST}
use Rattle.liq_fees.specs.declared.lines.StakeLine.{StakeLine}
use Rattle.liq_text_staking.specs.Paid.{Fees, coll_in, lusd_in}
use Rattle.liq_text_staking.specs.Asked.{Asked, nothing_asked, shared_up_to, refused, changed, in_place, answered, answered_all}
use Rattle.liq_text_staking.specs.Answering.{CanBeShared, IsOnTheWay}
use Rattle.liq_text_staking.specs.Shares.{HaveShares}
use Rattle.liq_text_staking.proofs.Sharing.{staked_least}
use Rattle.liq_text_staking.proofs.Ways.{begun, shared_way, shared_count, shared_happens, goes_on}

-- ---- a change that is not refused

module _ (past : List Happened) (h : IsLawful past) (account amount : ℕ) (few : changes_in past < CHANGES_MOST) where
  put_lawful : account < ACCOUNTS → staked_of past + amount ≤ STAKED_MOST → IsLawful (Put account amount ∷ past)
  put_lawful owner room = record {
    covered = h.covered;
    staked = (room, h.staked);
    owners = (owner, h.owners);
    coll = h.coll;
    lusd = h.lusd;
    changes = omega (arith, few);
    fees = h.fees;
  }

  out_lawful : account < ACCOUNTS → amount ≤ stake_of account past → IsLawful (Out account amount ∷ past)
  out_lawful owner enough = record {
    covered = (enough, h.covered);
    staked = (let most = staked_least past h.staked in omega (arith, most), h.staked);
    owners = (owner, h.owners);
    coll = h.coll;
    lusd = h.lusd;
    changes = omega (arith, few);
    fees = h.fees;
  }

  change_lawful : (out : Bool) → refusal_of account amount out (staked_of past) (stake_of account past) ≡ None
      → IsLawful (change_by account amount out ∷ past)
  change_lawful out e = by (leb ACCOUNTS account) (eqb amount 0) out (ltb (stake_of account past) amount)
      (ltb STAKED_MOST (staked_of past + amount)) refl refl refl e where
        by : (far none out short over : Bool) → leb ACCOUNTS account ≡ far → ltb (stake_of account past) amount ≡ short
            → ltb STAKED_MOST (staked_of past + amount) ≡ over
            → cond far (Some (AccountRange account)) (cond none (Some AmountZero)
            (cond out (cond short (Some (ShortStake amount (stake_of account past))) None)
            (cond over (Some (AmountLimit (staked_of past + amount) STAKED_MOST)) None))) ≡ None
            → IsLawful (change_by account amount out ∷ past)
        by true none out short over f s o e = absurd cc
        by false true out short over f s o e = absurd cc
        by false false true true over f s o e = absurd cc
        by false false true false over f s o e = out_lawful (leb-false ACCOUNTS account f)
            (ltb-false (stake_of account past) amount s)
        by false false false short true f s o e = absurd cc
        by false false false short false f s o e = put_lawful (leb-false ACCOUNTS account f) (ltb-false STAKED_MOST
            (staked_of past + amount) o)

-- ---- a line

changed_lawful : (a : Asked) (l : StakeLine) (o : Option StakeRefusal)
    → refusal_of l.account l.amount l.out (staked_of a.past) (stake_of l.account a.past) ≡ o
    → changes_in a.past < CHANGES_MOST → IsLawful a.past → IsLawful (changed a l o).past
changed_lawful a l (Some refusal) is few h = h
changed_lawful a l None is few h = change_lawful a.past h l.account l.amount few l.out is

-- what was asked so far: the fees up to the last line in place, and what can happen
record CanHappen (fees : List Fees) (a : Asked) : Type 0 where
  pub way : IsOnTheWay fees a
  pub lawful : IsLawful a.past

module _ (fees : List Fees) (all : CanBeShared fees) where
  answered_lawful : (a : Asked) (l : StakeLine) → CanHappen fees a → changes_in a.past < CHANGES_MOST
      → IsLawful (answered fees a l).past
  answered_lawful a l h few = by (ltb l.at a.least) (ltb (length fees) l.at) refl refl where
    by : (early late : Bool) → ltb l.at a.least ≡ early → ltb (length fees) l.at ≡ late
        → IsLawful (cond (early || late) (record a {
          replies = a.replies ++ refused (44 ∷ l.at ∷ a.least ∷ length fees
              ∷ []) ∷ [];
        }) (in_place fees a l)).past
    by true late e g = h.lawful
    by false true e g = h.lawful
    by false false e g =
        let low = ltb-false l.at a.least e in
        let high = ltb-false (length fees) l.at g in
        let count = shared_count fees a h.way l.at low high in
        changed_lawful (record a { past = shared_up_to fees a.past a.least l.at; least = l.at }) l _ refl (omega (
          arith,
          few,
          count,
        ))
        (shared_happens fees a h.way l.at low high h.lawful all)

  all_happen : (lines : List StakeLine) (a : Asked) (n : ℕ) → CanHappen fees a → changes_in a.past ≤ n
      → n + length lines ≤ CHANGES_MOST → CanHappen fees (fold (answered fees) a lines)
  all_happen [] a n h count few = h
  all_happen (l ∷ ls) a n h count few =
      let goes = goes_on fees a l h.way in
      all_happen ls (answered fees a l) (n + 1)
      (record { way = goes.way; lawful = answered_lawful a l h (omega (arith, count, few)) })
      (omega (arith, goes.count, count)) (omega (arith, few))

  -- ---- the end

  module _ (lines : List StakeLine) (few : length lines ≤ CHANGES_MOST) where
    abbrev asked : Asked
    asked = answered_all fees lines

    abbrev end : List Happened
    end = shared_up_to fees asked.past asked.least (length fees)

    happens : CanHappen fees asked
    happens = all_happen lines nothing_asked 0
        (record {
          way = begun fees;
          lawful = record {
            covered = tt;
            staked = tt;
            owners = tt;
            coll = omega arith;
            lusd = omega arith;
            changes = omega arith;
            fees = omega arith;
          };
        })
        (omega arith) (omega (arith, few))

    pub end_lawful : IsLawful end
    end_lawful = shared_happens fees asked happens.way (length fees) happens.way.least (omega arith) happens.lawful all

    end_way : IsOnTheWay fees (record asked { past = end; least = length fees })
    end_way = shared_way fees asked happens.way (length fees) happens.way.least (omega arith)

    pub end_coll : fees_of of_coll end ≡ coll_in fees
    end_coll =
        let way : fees_of of_coll end + coll_in [] ≡ coll_in fees =
        subst (λ (left : List Fees). fees_of of_coll end + coll_in left ≡ coll_in fees) (drop-length fees)
        end_way.coll in
        omega (arith, way)

    pub end_lusd : fees_of of_lusd end ≡ lusd_in fees
    end_lusd =
        let way : fees_of of_lusd end + lusd_in [] ≡ lusd_in fees =
        subst (λ (left : List Fees). fees_of of_lusd end + lusd_in left ≡ lusd_in fees) (drop-length fees)
        end_way.lusd in
        omega (arith, way)

-- ---- of one asset

pub have_shares : (asset : Asset) (past : List Happened) (pool : ℕ) → fees_of asset past ≡ pool
    → over_accounts ACCOUNTS (λ account. gain_of asset account past) + unshared_of asset past ≤ fees_of asset past
    → ((account : ℕ) → IsWithinAllowance asset account past (gain_of asset account past) (allowance_of account past))
    → HaveShares asset past pool
have_shares asset past pool fees covered shares = record {
  fees = fees;
  covered = omega (arith, fees, covered);
  shares = shares;
}
