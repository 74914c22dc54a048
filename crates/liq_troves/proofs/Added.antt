-- Sums over the rows of a table: what a row taken out or put in does to them, and what is due and pending.
use Rattle.std.proofs.Common.{◌≡◌, ℕ, ◌+◌, ◌-◌, ◌*◌, ◌≤◌, [], ◌∷◌, ap, arith, Some, None, Option}
use Rattle.std.specs.Prelude.{unwrap_or, option_map, sum_by}
use Rattle.std.specs.BTreeMap.{is_at}
use Rattle.std.specs.Cmp.{nat_cmp_total}
use Rattle.std.specs.List.{AllByRecursion}
use Rattle.std.specs.Map.{values_of}
use Rattle.std.specs.Ordering.{nat_cmp}
use Rattle.std.proofs.Math.Nat.{mul-add, div-mul-le_self}
use Rattle.std.proofs.lemmas.List.Sums.{sum_by-cons}
use Rattle.std.proofs.lemmas.Map.Entries.{sum_by-remove_entry, sum_by-insert_entry}
use Rattle.liq_types.specs.declared.amounts.TheConstants.{ONE}
use Rattle.liq_types.specs.declared.figures.Trove.{Trove}
use Rattle.liq_types.specs.Tables.{Table, at, put, without}
use Rattle.liq_types.specs.WellFormed.{Ascends}
use Rattle.liq_troves.specs.Rows.{pending, stakes_in}

module _ {X : Type 0} (f : X → ℕ) where
  pub sum_taken : (table : Table X) (key : ℕ) (x : X) → at table key ≡ Some x
      → sum_by f (values_of (without table key)) + f x ≡ sum_by f (values_of table)
  sum_taken table key x h =
      let law = sum_by-remove_entry f (is_at (nat_cmp key)) table in
      let there : unwrap_or (option_map f (at table key)) 0 ≡ f x =
      ap (λ (o : Option X). unwrap_or (option_map f o) 0) h in
      omega (arith, law, there)

  pub sum_put : (table : Table X) (key : ℕ) (x : X) → Ascends table → at table key ≡ None
      → sum_by f (values_of (put table key x)) ≡ sum_by f (values_of table) + f x
  sum_put table key x s h =
      let law = sum_by-insert_entry f nat_cmp_total table key x s in
      let none : unwrap_or (option_map f (at table key)) 0 ≡ 0 =
      ap (λ (o : Option X). unwrap_or (option_map f o) 0) h in
      omega (arith, law, none)

-- ---- sums of one kind beside sums of another

-- where each row's first number is at most its second, so is the sum
pub sums_within : {X : Type 0} (f g : X → ℕ) (P : X → Type 0) → ((x : X) → P x → f x ≤ g x) → (table : Table X)
    → AllByRecursion (λ (row : ℕ × X). P row.1) table → sum_by f (values_of table) ≤ sum_by g (values_of table)
sums_within f g P less [] h = omega arith
sums_within f g P less (e ∷ es) h =
    let first = sum_by-cons f e.1 (values_of es) in
    let second = sum_by-cons g e.1 (values_of es) in
    let here = less e.1 h.0 in
    let later = sums_within f g P less es h.1 in
    omega (arith, first, second, here, later)

-- one row's number is within the sum
pub one_within : {X : Type 0} (f : X → ℕ) (table : Table X) (key : ℕ) (x : X) → at table key ≡ Some x
    → f x ≤ sum_by f (values_of table)
one_within f table key x h = let law = sum_taken f table key x h in omega (arith, law)

-- ---- stakes and what is due to them

more_due : (stake sum mark rise : ℕ) → mark ≤ sum → stake * (sum + rise - mark) ≡ stake * (sum - mark) + stake * rise
more_due stake sum mark rise h =
    let split : sum + rise - mark ≡ (sum - mark) + rise = omega arith in
    let law : stake * (sum + rise - mark) ≡ stake * ((sum - mark) + rise) = ap (λ k. stake * k) split in
    let parts = mul-add stake (sum - mark) rise in
    omega (arith, law, parts)

-- a rise of the sum is due to every stake
pub due_risen : (mark : Trove → ℕ) (sum rise : ℕ) (troves : Table Trove)
    → AllByRecursion (λ (row : ℕ × Trove). mark row.1 ≤ sum) troves
    → sum_by (λ (t : Trove). t.stake * (sum + rise - mark t)) (values_of troves)
    ≡ sum_by (λ (t : Trove). t.stake * (sum - mark t)) (values_of troves) + stakes_in troves * rise
due_risen mark sum rise [] h = omega arith
due_risen mark sum rise (e ∷ es) h =
    let after = sum_by-cons (λ (t : Trove). t.stake * (sum + rise - mark t)) e.1 (values_of es) in
    let before = sum_by-cons (λ (t : Trove). t.stake * (sum - mark t)) e.1 (values_of es) in
    let stakes = sum_by-cons (λ (t : Trove). t.stake) e.1 (values_of es) in
    let here = more_due e.1.stake sum (mark e.1) rise h.0 in
    let later = due_risen mark sum rise es h.1 in
    let all : stakes_in (e ∷ es) * rise ≡ (e.1.stake + stakes_in es) * rise = ap (λ k. k * rise) stakes in
    omega (arith, after, before, here, later, all)

-- ---- what is pending

pub pending_within : (stake now mark : ℕ) → pending stake now mark * ONE ≤ stake * (now - mark)
pending_within stake now mark = div-mul-le_self (stake * (now - mark)) ONE

pub pendings_within : (mark : Trove → ℕ) (sum : ℕ) (troves : Table Trove)
    → sum_by (λ (t : Trove). pending t.stake sum (mark t)) (values_of troves) * ONE
    ≤ sum_by (λ (t : Trove). t.stake * (sum - mark t)) (values_of troves)
pendings_within mark sum [] = omega arith
pendings_within mark sum (e ∷ es) =
    let first = sum_by-cons (λ (t : Trove). pending t.stake sum (mark t)) e.1 (values_of es) in
    let second = sum_by-cons (λ (t : Trove). t.stake * (sum - mark t)) e.1 (values_of es) in
    let here = pending_within e.1.stake sum (mark e.1) in
    let later = pendings_within mark sum es in
    omega (arith, first, second, here, later)
