-- What holds of the troves at all times: kept where one is set or taken out, where sums rise and where stakes are
-- snapped.
use Rattle.std.proofs.Common.{◌≡◌, ℕ, ◌+◌, ◌≤◌, Bool, true, false, [], ◌∷◌, refl, sym, ap, ◌∙◌, arith, Some, None, Option, length}
use Rattle.std.specs.Prelude.{sum_by, option_map, unwrap_or, IfSome, nat_le, ◌&&◌}
use denote.Ref.{Bor}
use Rattle.std.specs.Prelude.{option_copied, if◌then◌else◌}
use Rattle.std.specs.BTreeMap.{is_at}
use Rattle.std.specs.Cmp.{nat_cmp_total}
use Rattle.std.specs.List.{AllByRecursion}
use Rattle.std.specs.Map.{values_of}
use Rattle.std.specs.Ordering.{nat_cmp}
use Rattle.std.proofs.lemmas.Bool.Decides.{nat_tests}
use Rattle.std.proofs.lemmas.List.Sums.{sum_by-cons}
use Rattle.std.proofs.lemmas.Map.Entries.{sum_by-remove_entry, sum_by-insert_entry}
use Rattle.liq_types.specs.declared.amounts.TheConstants.{LIM, SUM_MOST, RESERVE, MIN_NET}
use Rattle.liq_types.specs.declared.figures.Trove.{Trove}
use Rattle.liq_types.specs.Soundness.{is_sound_trove}
use Rattle.liq_types.specs.Tables.{Table, at, put, without, rows}
use Rattle.liq_types.specs.WellFormed.{Ascends}
use Rattle.liq_types.proofs.Ascending.{put-ascends, without-ascends}
use Rattle.liq_types.proofs.Lookups.{all-at}
use Rattle.liq_tables.specs.Rows.{is_used_trove}
use Rattle.liq_tables.specs.WithRoom.{written}
use Rattle.liq_types.proofs.MapRows.{all-put, all-without, all-weaken}
use Rattle.liq_troves.specs.declared.sums.Sums.{Sums}
use Rattle.liq_troves.specs.Kept.{IsKept, AreKept, AreSoundRows, coll_in}
use Rattle.liq_troves.specs.Rows.{stakes_in, set_row, set_in, beside, sums_snapped}
use Rattle.liq_troves.proofs.Added.{sum_taken, sums_within}
use Rattle.liq_troves.proofs.Standing.{stake_within}
use Rattle.liq_tables.proofs.Filling.{rows_all}

-- ---- counts and sums

counted : {X : Type 0} (table : Table X) → sum_by (λ (x : X). 1) (values_of table) ≡ length table
counted [] = refl
counted {X} (e ∷ es) =
    let law = sum_by-cons (λ (x : X). 1) e.1 (values_of es) in
    let more = counted es in
    omega (arith, law, more)

-- a row put in, beside the other rows
pub sum_beside : {X : Type 0} (f : X → ℕ) (table : Table X) (key : ℕ) (x : X) → Ascends table
    → sum_by f (values_of (put table key x)) ≡ sum_by f (values_of (without table key)) + f x
sum_beside f table key x s =
    let with = sum_by-insert_entry f nat_cmp_total table key x s in
    let out = sum_by-remove_entry f (is_at (nat_cmp key)) table in
    omega (arith, with, out)

pub count_beside : {X : Type 0} (table : Table X) (key : ℕ) (x : X) → Ascends table → length (put table key x)
    ≡ length (without table key) + 1
count_beside {X} table key x s =
    let law = sum_beside (λ (y : X). 1) table key x s in
    omega (arith, law, counted (put table key x), counted (without table key))

pub stakes_taken : (troves : Table Trove) (sums : Sums) (count account : ℕ) (t : Trove) → AreKept troves sums count
    → at troves account ≡ Some t → stakes_in (without troves account) + t.stake ≡ sums.stakes
stakes_taken troves sums count account t h there =
    let law = sum_taken (λ (x : Trove). x.stake) troves account t there in
    omega (arith, law, h.stakes)

-- an account without a trove has none to take out
pub sum_none : {X : Type 0} (f : X → ℕ) (table : Table X) (key : ℕ) → at table key ≡ None
    → sum_by f (values_of (without table key)) ≡ sum_by f (values_of table)
sum_none {X} f table key h =
    let law = sum_by-remove_entry f (is_at (nat_cmp key)) table in
    let none : unwrap_or (option_map f (at table key)) 0 ≡ 0 = ap (λ (o : Option X). unwrap_or (option_map f o) 0) h in
    omega (arith, law, none)

pub count_none : {X : Type 0} (table : Table X) (key : ℕ) → at table key ≡ None → length (without table key)
    ≡ length table
count_none {X} table key h =
    let law = sum_none (λ (y : X). 1) table key h in
    omega (arith, law, counted table, counted (without table key))

-- ---- bounds

pub stakes_least : (coll debt : ℕ) (troves : Table Trove)
    → AllByRecursion (λ (row : ℕ × Trove). IsKept coll debt row.1) troves → length troves ≤ stakes_in troves
stakes_least coll debt troves h =
    let less = sums_within (λ (t : Trove). 1) (λ (t : Trove). t.stake) (IsKept coll debt) (λ t k. k.some) troves h in
    omega (arith, less, counted troves)

pub stakes_most : (coll debt : ℕ) (troves : Table Trove)
    → AllByRecursion (λ (row : ℕ × Trove). IsKept coll debt row.1) troves → stakes_in troves ≤ coll_in troves
stakes_most coll debt troves h = sums_within (λ (t : Trove). t.stake) (λ (t : Trove). t.coll) (IsKept coll debt)
    (λ t k. k.within) troves h

-- ---- rows that are found and written

pub found_kept : (coll debt : ℕ) (troves : Table Trove) (account : ℕ) (o : Option (Bor Trove))
    → option_copied o ≡ at troves account → AllByRecursion (λ (row : ℕ × Trove). IsKept coll debt row.1) troves
    → IfSome o (λ t. IsKept coll debt t.now)
found_kept coll debt troves account None is h = tt
found_kept coll debt troves account (Some t) is h = all-at (IsKept coll debt) troves account t.now h (sym is)

pub used_row : (t : Trove) → 1 ≤ t.stake → is_used_trove t ≡ true
used_row t h = grind (arith, nat_tests)

pub written_row : (troves : Table Trove) (account : ℕ) (t : Trove) → 1 ≤ t.stake
    → written is_used_trove troves account t ≡ put troves account t
written_row troves account t h = ap (λ b. if b then put troves account t else without troves account) (used_row t h)

-- ---- kept

pub set_kept : (troves : Table Trove) (sums : Sums) (count account coll debt : ℕ) → AreKept troves sums count → 1 ≤ coll
    → coll_in (set_in sums troves account coll debt) ≤ LIM
    → AreKept (set_in sums troves account coll debt) (beside sums (set_in sums troves account coll debt))
    (length (set_in sums troves account coll debt))
set_kept troves sums count account coll debt h some limit =
    let stake = stake_within sums.snap_stakes sums.snap_coll coll h.snap some in
    let row : IsKept sums.coll sums.debt (set_row sums coll debt) = record {
      some = stake.some;
      within = stake.within;
      mark_coll = omega arith;
      mark_debt = omega arith;
    } in
    record {
      ascend = put-ascends troves account (set_row sums coll debt) h.ascend;
      each = all-put (IsKept sums.coll sums.debt) troves account (set_row sums coll debt) row h.each;
      sum_coll = h.sum_coll;
      sum_debt = h.sum_debt;
      stakes = refl;
      snap = h.snap;
      limit = limit;
      counted = refl;
    }

-- what a trove that is set makes of the number and the stakes of the others
pub record IsSetBeside (troves : Table Trove) (sums : Sums) (account coll debt others stakes : ℕ) : Type 0 where
  pub kept : AreKept (set_in sums troves account coll debt) (beside sums (set_in sums troves account coll debt))
      (length (set_in sums troves account coll debt))
  pub count_is : others + 1 ≡ length (set_in sums troves account coll debt)
  pub stakes_are : stakes + (set_row sums coll debt).stake ≡ stakes_in (set_in sums troves account coll debt)
  pub count_fits : others + 1 ≤ LIM
  pub stakes_fit : stakes + (set_row sums coll debt).stake ≤ LIM
  pub some : 1 ≤ (set_row sums coll debt).stake

pub set_beside : (troves : Table Trove) (sums : Sums) (count account coll debt others stakes : ℕ)
    → AreKept troves sums count → 1 ≤ coll → coll_in (set_in sums troves account coll debt) ≤ LIM
    → others ≡ length (without troves account) → stakes ≡ stakes_in (without troves account)
    → IsSetBeside troves sums account coll debt others stakes
set_beside troves sums count account coll debt others stakes h some limit others_are stakes_are =
    let kept = set_kept troves sums count account coll debt h some limit in
    let row = set_row sums coll debt in
    let many = count_beside troves account row h.ascend in
    let all = sum_beside (λ (t : Trove). t.stake) troves account row h.ascend in
    let least = stakes_least sums.coll sums.debt (set_in sums troves account coll debt) kept.each in
    let most = stakes_most sums.coll sums.debt (set_in sums troves account coll debt) kept.each in
    record {
      kept = kept;
      count_is = omega (arith, many, others_are);
      stakes_are = omega (arith, all, stakes_are);
      count_fits = omega (arith, many, others_are, least, most, limit);
      stakes_fit = omega (arith, all, stakes_are, most, limit);
      some = (stake_within sums.snap_stakes sums.snap_coll coll h.snap some).some;
    }

pub without_kept : (troves : Table Trove) (sums : Sums) (count account : ℕ) → AreKept troves sums count
    → AreKept (without troves account) (beside sums (without troves account)) (length (without troves account))
without_kept troves sums count account h =
    let out = sum_by-remove_entry (λ (t : Trove). t.coll) (is_at (nat_cmp account)) troves in
    record {
      ascend = without-ascends troves account h.ascend;
      each = all-without (IsKept sums.coll sums.debt) troves account h.each;
      sum_coll = h.sum_coll;
      sum_debt = h.sum_debt;
      stakes = refl;
      snap = h.snap;
      limit = omega (arith, out, h.limit);
      counted = refl;
    }

-- the same rows under other sums or another snapshot
kept_under : (troves : Table Trove) (sums made : Sums) (count : ℕ) → AreKept troves sums count
    → made.stakes ≡ sums.stakes → AllByRecursion (λ (row : ℕ × Trove). IsKept made.coll made.debt row.1) troves
    → made.coll ≤ SUM_MOST → made.debt ≤ SUM_MOST → made.snap_stakes ≤ made.snap_coll → AreKept troves made count
kept_under troves sums made count h same each coll_fits debt_fits snap =
    record {
      ascend = h.ascend;
      each = each;
      sum_coll = coll_fits;
      sum_debt = debt_fits;
      stakes = same
          ∙ h.stakes;
      snap = snap;
      limit = h.limit;
      counted = h.counted;
    }

pub snapped_kept : (troves : Table Trove) (sums : Sums) (count total : ℕ) → AreKept troves sums count
    → coll_in troves ≤ total → AreKept troves (sums_snapped sums total) count
snapped_kept troves sums count total h enough =
    let less = stakes_most sums.coll sums.debt troves h.each in
    kept_under troves sums (sums_snapped sums total) count h refl h.each h.sum_coll h.sum_debt (omega (
      arith,
      less,
      h.stakes,
      enough,
    ))

-- ---- made of rows

kept_from_sound : (coll debt : ℕ) (t : Trove) → is_sound_trove coll debt t ≡ true → IsKept coll debt t
kept_from_sound coll debt t h = record {
  some = both.0;
  within = both.1;
  mark_coll = both.2;
  mark_debt = both.3;
} where
  split : (a b : Bool) → (a && b) ≡ true → (a ≡ true) × (b ≡ true)
  split true true h = (refl, refl)
  split true false h = cc
  split false b h = cc

  le : (m n : ℕ) → nat_le m n ≡ true → m ≤ n
  le m n e = grind (arith, nat_tests)

  both : (1 ≤ t.stake) × (t.stake ≤ t.coll) × (t.mark_coll ≤ coll) × (t.mark_debt ≤ debt)
  both =
      let a = split (nat_le 1 t.stake && nat_le t.stake t.coll && nat_le (RESERVE + MIN_NET) t.debt && nat_le
      t.mark_coll coll) (nat_le t.mark_debt debt) h in
      let b = split (nat_le 1 t.stake && nat_le t.stake t.coll && nat_le (RESERVE + MIN_NET) t.debt)
      (nat_le t.mark_coll coll) a.0 in
      let c = split (nat_le 1 t.stake && nat_le t.stake t.coll) (nat_le (RESERVE + MIN_NET) t.debt) b.0 in
      let d = split (nat_le 1 t.stake) (nat_le t.stake t.coll) c.0 in
      (le 1 t.stake d.0, le t.stake t.coll d.1, le t.mark_coll coll b.1, le t.mark_debt debt a.1)

pub each_from_sound : (troves : Table Trove) (sums : Sums) → AreSoundRows troves sums
    → AllByRecursion (λ (row : ℕ × Trove). IsKept sums.coll sums.debt row.1) troves
each_from_sound troves sums h = all-weaken (λ t. is_sound_trove sums.coll sums.debt t
    ≡ true) (IsKept sums.coll sums.debt) (kept_from_sound sums.coll sums.debt) troves h.each

pub kept_from_rows : (troves : Table Trove) (sums : Sums) (count : ℕ) → count ≡ length troves → AreSoundRows troves sums
    → AreKept troves sums count
kept_from_rows troves sums count counts h = record {
  ascend = h.ascend;
  each = each_from_sound troves sums h;
  sum_coll = h.sum_coll;
  sum_debt = h.sum_debt;
  stakes = h.stakes;
  snap = h.snap;
  limit = h.limit;
  counted = counts;
}

-- each of them is used
rows_used : (troves : Table Trove) (coll debt : ℕ) → AllByRecursion (λ (row : ℕ × Trove). IsKept coll debt row.1) troves
    → AllByRecursion (λ (row : ℕ × Trove). is_used_trove row.1 ≡ true) troves
rows_used [] coll debt h = tt
rows_used (e ∷ es) coll debt h = (used_row e.1 h.0.some, rows_used es coll debt h.1)

pub rows_seen : (troves : Table Trove) (sums : Sums) → AreSoundRows troves sums → rows is_used_trove troves ≡ troves
rows_seen troves sums h = rows_all is_used_trove troves (rows_used troves sums.coll sums.debt
    (each_from_sound troves sums h))
