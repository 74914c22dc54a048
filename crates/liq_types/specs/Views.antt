-- What others see of a state: its ordered list, and the words from which keys are made.
use Rattle.std.specs.Prelude.{ℕ, ℤ, pos, ◌+◌, ◌-ℤ◌, ◌==◌, max, List, fold, if◌then◌else◌}
use Rattle.liq_num.specs.Quotient.{floor_of}
use Rattle.liq_types.specs.declared.amounts.TheConstants.{ONE, RESERVE, FLOOR_RATE}
use Rattle.liq_types.specs.declared.events.ListChange.{ListChange}
use Rattle.liq_types.specs.declared.events.ListChange.TheVariants.{Put, Gone, Words}
use Rattle.liq_types.specs.Ranked.{Ranked, with_ranked, without_ranked}

pub record View : Type 0 where
  pub list : List Ranked
  pub snap_stakes : ℕ
  pub snap_coll : ℕ
  pub sum_debt : ℕ

-- ---- following

-- what a change makes of a view
abbrev pub followed : View → ListChange → View
followed v (Put key account) = record v {
  list = with_ranked (without_ranked v.list account) (
    key,
    account,
  );
}
followed v (Gone account) = record v { list = without_ranked v.list account }
followed v (Words snap_stakes snap_coll sum_debt) =
    record { list = v.list; snap_stakes = snap_stakes; snap_coll = snap_coll; sum_debt = sum_debt }

abbrev pub all_followed : View → List ListChange → View
all_followed v changes = fold followed v changes

-- ---- where a trove would open

-- the stake that a trove of this collateral would have, by the view's words; at least 1 also before
-- any snapshot
abbrev pub stake_seen : View → ℕ → ℕ
stake_seen v coll = max 1 (if v.snap_coll == 0 then coll
    else floor_of coll v.snap_stakes v.snap_coll)

-- what would be owed: the borrowing, the fee on it at the least rate, and the reserve
abbrev pub debt_seen : ℕ → ℕ
debt_seen borrow = borrow + floor_of borrow FLOOR_RATE ONE + RESERVE

-- the key under which the trove would stand
abbrev pub key_seen : View → ℕ → ℕ → ℤ
key_seen v coll borrow = pos (floor_of (debt_seen borrow) ONE (stake_seen v coll)) -ℤ pos v.sum_debt
