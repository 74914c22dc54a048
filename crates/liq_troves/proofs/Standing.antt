-- What stands of the troves is kept by each change.
use Rattle.std.proofs.Common.{◌≡◌, ℕ, ◌+◌, ◌-◌, ◌*◌, ◌≤◌, ◌<◌, Bool, true, false, [], ◌∷◌, refl, ap, arith, Some, None, Option, cond, max}
use Rattle.std.specs.Prelude.{length, sum_by, ◌==◌}
use Rattle.std.specs.List.{AllByRecursion}
use Rattle.std.specs.Map.{values_of}
use Rattle.std.proofs.Math.Nat.{mul-le-mul_left, div-le_of_le-mul, div-mul-le_self}
use Rattle.std.proofs.lemmas.Bool.Decides.{nat_tests}
use Rattle.std.proofs.lemmas.List.Sums.{sum_by-cons}
use Rattle.liq_num.specs.Quotient.{floor_of}
use Rattle.liq_types.specs.declared.amounts.TheConstants.{ONE, SUM_MOST, RESERVE, MIN_NET}
use Rattle.liq_types.specs.declared.figures.Trove.{Trove}
use Rattle.liq_types.specs.Tables.{Table, at, without}
use Rattle.liq_types.specs.WellFormed.{Ascends}
use Rattle.liq_types.proofs.Ascending.{put-ascends, without-ascends}
use Rattle.liq_types.proofs.Lookups.{all-at}
use Rattle.liq_types.proofs.MapRows.{all-put, all-without, all-weaken}
use Rattle.liq_troves.specs.Rows.{pending, entire_by, stake_by, stakes_in, beside, set_row, set_in, growth, sum_after}
use Rattle.liq_troves.specs.Standing.{Books, TroveStands, TrovesStand, added_up, coll_due, debt_due, lifted_row, lift, place, spread, snap}
use Rattle.liq_troves.proofs.Added.{sum_taken, sum_put, sums_within, one_within, due_risen, pending_within, pendings_within}

-- ---- other rows

-- rows that change beside the same sums and snapshot, with pools that hold what they add up to
other_rows : (b : Books) (troves : Table Trove) (active_coll active_debt default_coll default_debt : ℕ) → TrovesStand b
    → Ascends troves → AllByRecursion (λ (row : ℕ × Trove). TroveStands b.sums.coll b.sums.debt row.1) troves
    → active_coll ≡ added_up (λ t. t.coll) troves → active_debt ≡ added_up (λ t. t.debt) troves
    → added_up (coll_due b.sums.coll) troves ≤ default_coll * ONE → added_up (debt_due b.sums.debt) troves
    ≤ default_debt * ONE → TrovesStand (record {
      sums = beside b.sums troves;
      troves = troves;
      active_coll = active_coll;
      active_debt = active_debt;
      default_coll = default_coll;
      default_debt = default_debt;
    })
other_rows b troves active_coll active_debt default_coll default_debt h ascend each colls debts dues owed =
    record {
      ascend = ascend;
      each = each;
      sum_coll = h.sum_coll;
      sum_debt = h.sum_debt;
      stakes = refl;
      active_coll = colls;
      active_debt = debts;
      snap = h.snap;
      snap_none = h.snap_none;
      due_coll = dues;
      due_debt = owed;
    }

-- ---- a trove leaves

-- what a trove's own amounts are beside the pools
pub record IsWithinBooks (b : Books) (t : Trove) : Type 0 where
  pub stands : TroveStands b.sums.coll b.sums.debt t
  pub coll : t.coll ≤ b.active_coll
  pub debt : t.debt ≤ b.active_debt
  pub pending_coll : pending t.stake b.sums.coll t.mark_coll ≤ b.default_coll
  pub pending_debt : pending t.stake b.sums.debt t.mark_debt ≤ b.default_debt

pub trove_within : (b : Books) (account : ℕ) (t : Trove) → at b.troves account ≡ Some t → TrovesStand b
    → IsWithinBooks b t
trove_within b account t there h =
    let colls = one_within (λ (x : Trove). x.coll) b.troves account t there in
    let debts = one_within (λ (x : Trove). x.debt) b.troves account t there in
    let dues = one_within (coll_due b.sums.coll) b.troves account t there in
    let owed = one_within (debt_due b.sums.debt) b.troves account t there in
    let coll_part = pending_within t.stake b.sums.coll t.mark_coll in
    let debt_part = pending_within t.stake b.sums.debt t.mark_debt in
    record {
      stands = all-at (TroveStands b.sums.coll b.sums.debt) b.troves account t h.each there;
      coll = omega (arith, colls, h.active_coll);
      debt = omega (arith, debts, h.active_debt);
      pending_coll = omega (arith, dues, coll_part, h.due_coll);
      pending_debt = omega (arith, owed, debt_part, h.due_debt);
    }

lift_row : (b : Books) (account : ℕ) (o : Option Trove) → at b.troves account ≡ o → TrovesStand b
    → TrovesStand (lifted_row b account o)
lift_row b account None there h = h
lift_row b account (Some t) there h =
    let colls = sum_taken (λ (x : Trove). x.coll) b.troves account t there in
    let debts = sum_taken (λ (x : Trove). x.debt) b.troves account t there in
    let dues = sum_taken (coll_due b.sums.coll) b.troves account t there in
    let owed = sum_taken (debt_due b.sums.debt) b.troves account t there in
    let coll_part = pending_within t.stake b.sums.coll t.mark_coll in
    let debt_part = pending_within t.stake b.sums.debt t.mark_debt in
    let ascend = without-ascends b.troves account h.ascend in
    let each = all-without (TroveStands b.sums.coll b.sums.debt) b.troves account h.each in
    other_rows b (without b.troves account) (b.active_coll - t.coll) (b.active_debt - t.debt) (b.default_coll
    - pending t.stake b.sums.coll t.mark_coll) (b.default_debt - pending t.stake b.sums.debt t.mark_debt) h
    ascend each
    (omega (arith, colls, h.active_coll)) (omega (arith, debts, h.active_debt)) (omega (
      arith,
      dues,
      coll_part,
      h.due_coll,
    )) (omega (arith, owed, debt_part, h.due_debt))

pub lift_stands : (b : Books) (account : ℕ) → TrovesStand b → TrovesStand (lift b account)
lift_stands b account h = lift_row b account (at b.troves account) refl h

-- ---- a stake

pub record IsStakeFor (coll stake : ℕ) : Type 0 where
  pub some : 1 ≤ stake
  pub within : stake ≤ coll

pub stake_within : (snap_stakes snap_coll coll : ℕ) → snap_stakes ≤ snap_coll → 1 ≤ coll
    → IsStakeFor coll (stake_by snap_stakes snap_coll coll)
stake_within snap_stakes snap_coll coll less some = by (snap_coll == 0) refl where
  pos : (snap_coll == 0) ≡ false → 0 < snap_coll
  pos e = grind (arith, nat_tests, e)

  by : (b : Bool) → (snap_coll == 0) ≡ b → IsStakeFor coll (cond b coll (max 1 (floor_of coll snap_stakes snap_coll)))
  by true e = record { some = some; within = omega arith }
  by false e =
      let part : coll * snap_stakes ≤ coll * snap_coll = mul-le-mul_left coll less in
      let within : floor_of coll snap_stakes snap_coll ≤ coll = div-le_of_le-mul snap_coll (omega (arith, part)) in
      record { some = omega arith; within = omega (arith, within, some) }

-- ---- a trove comes

pub place_stands : (b : Books) (account coll debt : ℕ) → at b.troves account ≡ None → 1 ≤ coll
    → RESERVE + MIN_NET ≤ debt → TrovesStand b → TrovesStand (place b account coll debt)
place_stands b account coll debt none some enough h =
    let row = set_row b.sums coll debt in
    let stake = stake_within b.sums.snap_stakes b.sums.snap_coll coll h.snap some in
    let stands : TroveStands b.sums.coll b.sums.debt row = record {
      some = stake.some;
      within = stake.within;
      debt = enough;
      mark_coll = omega arith;
      mark_debt = omega arith;
    } in
    let colls = sum_put (λ (x : Trove). x.coll) b.troves account row h.ascend none in
    let debts = sum_put (λ (x : Trove). x.debt) b.troves account row h.ascend none in
    let dues = sum_put (coll_due b.sums.coll) b.troves account row h.ascend none in
    let owed = sum_put (debt_due b.sums.debt) b.troves account row h.ascend none in
    let no_coll = nothing_due row.stake b.sums.coll in
    let no_debt = nothing_due row.stake b.sums.debt in
    let ascend = put-ascends b.troves account row h.ascend in
    let each = all-put (TroveStands b.sums.coll b.sums.debt) b.troves account row stands h.each in
    other_rows b (set_in b.sums b.troves account coll debt) (b.active_coll + coll) (b.active_debt + debt) b.default_coll
    b.default_debt h ascend each
    (omega (arith, colls, h.active_coll)) (omega (arith, debts, h.active_debt)) (omega (
      arith,
      dues,
      no_coll,
      h.due_coll,
    )) (omega (arith, owed, no_debt, h.due_debt))
  where
    nothing_due : (stake sum : ℕ) → stake * (sum - sum) ≡ 0
    nothing_due stake sum =
        let none : sum - sum ≡ 0 = omega arith in
        let law : stake * (sum - sum) ≡ stake * 0 = ap (λ k. stake * k) none in
        omega (arith, law)

-- ---- all troves take over

pub growth_within : (amount stakes : ℕ) → growth amount stakes * stakes ≤ amount * ONE
growth_within amount stakes = div-mul-le_self (amount * ONE) stakes

spread_due : (mark : Trove → ℕ) (sum amount stakes held : ℕ) (troves : Table Trove) → stakes ≡ stakes_in troves
    → AllByRecursion (λ (row : ℕ × Trove). mark row.1 ≤ sum) troves
    → sum_by (λ (t : Trove). t.stake * (sum - mark t)) (values_of troves) ≤ held * ONE
    → sum_by (λ (t : Trove). t.stake * (sum_after sum amount stakes - mark t)) (values_of troves)
    ≤ (held + amount) * ONE
spread_due mark sum amount stakes held troves same marks h =
    let law = due_risen mark sum (growth amount stakes) troves marks in
    let low = growth_within amount stakes in
    let alike : growth amount stakes * stakes ≡ growth amount stakes * stakes_in troves =
    ap (λ k. growth amount stakes * k) same in
    omega (arith, law, low, alike, h)

pub spread_stands : (b : Books) (coll debt : ℕ) → sum_after b.sums.coll coll b.sums.stakes ≤ SUM_MOST
    → sum_after b.sums.debt debt b.sums.stakes ≤ SUM_MOST → TrovesStand b → TrovesStand (spread b coll debt)
spread_stands b coll debt coll_fits debt_fits h =
    let rows = all-weaken (TroveStands b.sums.coll b.sums.debt) in
    record {
      ascend = h.ascend;
      each = rows (TroveStands (sum_after b.sums.coll coll b.sums.stakes) (sum_after b.sums.debt debt b.sums.stakes))
          (λ t s. record {
            some = s.some;
            within = s.within;
            debt = s.debt;
            mark_coll = omega (arith, s.mark_coll);
            mark_debt = omega (arith, s.mark_debt);
          }) b.troves h.each;
      sum_coll = coll_fits;
      sum_debt = debt_fits;
      stakes = h.stakes;
      active_coll = h.active_coll;
      active_debt = h.active_debt;
      snap = h.snap;
      snap_none = h.snap_none;
      due_coll = spread_due (λ t. t.mark_coll) b.sums.coll coll b.sums.stakes b.default_coll b.troves h.stakes
          (rows (λ t. t.mark_coll ≤ b.sums.coll) (λ t s. s.mark_coll) b.troves h.each) h.due_coll;
      due_debt = spread_due (λ t. t.mark_debt) b.sums.debt debt b.sums.stakes b.default_debt b.troves h.stakes
          (rows (λ t. t.mark_debt ≤ b.sums.debt) (λ t s. s.mark_debt) b.troves h.each) h.due_debt;
    }

-- ---- a snapshot

pub stakes_within : (b : Books) → TrovesStand b → b.sums.stakes ≤ b.active_coll
stakes_within b h =
    let less = sums_within (λ (t : Trove). t.stake) (λ (t : Trove). t.coll) (TroveStands b.sums.coll b.sums.debt)
    (λ t s. s.within) b.troves h.each in
    omega (arith, less, h.stakes, h.active_coll)

pub snap_stands : (b : Books) → 1 ≤ b.sums.stakes → TrovesStand b → TrovesStand (snap b)
snap_stands b some h =
    let less = stakes_within b h in
    record {
      ascend = h.ascend;
      each = h.each;
      sum_coll = h.sum_coll;
      sum_debt = h.sum_debt;
      stakes = h.stakes;
      active_coll = h.active_coll;
      active_debt = h.active_debt;
      snap = omega (arith, less);
      snap_none = λ none. omega (arith, some, none);
      due_coll = h.due_coll;
      due_debt = h.due_debt;
    }

-- ---- stakes, and entire amounts

some_in : (coll debt : ℕ) (troves : Table Trove)
    → AllByRecursion (λ (row : ℕ × Trove). TroveStands coll debt row.1) troves → 1 ≤ length troves
    → 1 ≤ stakes_in troves
some_in coll debt [] h many = absurd (omega (arith, many))
some_in coll debt (e ∷ es) h many =
    let law = sum_by-cons (λ (t : Trove). t.stake) e.1 (values_of es) in
    omega (arith, law, h.0.some)

-- where there is a trove there is a stake
pub some_stake : (b : Books) → 1 ≤ length b.troves → TrovesStand b → 1 ≤ b.sums.stakes
some_stake b many h =
    let some = some_in b.sums.coll b.sums.debt b.troves h.each many in
    omega (arith, some, h.stakes)

-- entire amounts of a trove are within the totals, and at least what is recorded
pub record IsEntire (b : Books) (own : ℕ × ℕ) : Type 0 where
  pub some : 1 ≤ own.0
  pub least : RESERVE + MIN_NET ≤ own.1
  pub coll : own.0 ≤ b.active_coll + b.default_coll
  pub debt : own.1 ≤ b.active_debt + b.default_debt

pub entire_within : (b : Books) (account : ℕ) (t : Trove) → at b.troves account ≡ Some t → TrovesStand b
    → IsEntire b (entire_by b.sums t)
entire_within b account t there h =
    let w = trove_within b account t there h in
    let s = w.stands in
    record {
      some = omega (arith, s.some, s.within);
      least = omega (arith, s.debt);
      coll = omega (arith, w.coll, w.pending_coll);
      debt = omega (arith, w.debt, w.pending_debt);
    }

-- ---- dust

-- what is pending for all troves is in the default pool
pub pending_covered : (b : Books) → TrovesStand b → (added_up (λ t. pending t.stake b.sums.coll t.mark_coll) b.troves
    ≤ b.default_coll) × (added_up (λ t. pending t.stake b.sums.debt t.mark_debt) b.troves ≤ b.default_debt)
pending_covered b h =
    let coll = pendings_within (λ t. t.mark_coll) b.sums.coll b.troves in
    let debt = pendings_within (λ t. t.mark_debt) b.sums.debt b.troves in
    (omega (arith, coll, h.due_coll), omega (arith, debt, h.due_debt))
