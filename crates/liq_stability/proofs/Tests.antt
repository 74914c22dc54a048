-- What the tests of words, finished sums and deposits say.
use Rattle.std.proofs.Common.{◌≡◌, ℕ, ◌-◌, ◌*◌, ◌≤◌, Bool, true, false, refl, arith, nat_le, nat_lt, inl, inr}
use Rattle.std.specs.Prelude.{◌&&◌, ◌||◌, ◌==◌, not, IsTrue}
use Rattle.std.proofs.lemmas.Bool.Decides.{nat_tests}
use Rattle.liq_types.specs.declared.amounts.TheConstants.{P_LEAST, P_OPENING, OFFSET_MOST}
use Rattle.liq_types.specs.declared.figures.Deposit.{Deposit}
use Rattle.liq_types.specs.Tables.{EpochScale}
use Rattle.liq_types.specs.Soundness.{is_product, is_sum_beside, is_before, is_sound_deposit}
use Rattle.liq_types.specs.WellFormed.{IsBefore}
use Rattle.liq_types.proofs.Places.{IsUpTo}
use Rattle.liq_stability.specs.Kept.{is_sound_sum}
use Rattle.std.proofs.lemmas.Bool.{and_parts, and_from, leb-true, le-leb}

-- ---- the product and its sum

pub record IsInRange (p : ℕ) : Type 0 where
  pub least : P_LEAST ≤ p
  pub most : p ≤ P_OPENING

pub product_in : (p : ℕ) → IsTrue (is_product p) → IsInRange p
product_in p h =
    let parts = and_parts (nat_le P_LEAST p) (nat_le p P_OPENING) h in
    record { least = leb-true P_LEAST p parts.0; most = leb-true p P_OPENING parts.1 }

pub product_tested : (p : ℕ) → IsInRange p → IsTrue (is_product p)
product_tested p h = and_from (nat_le P_LEAST p) (nat_le p P_OPENING) (le-leb P_LEAST p h.least)
    (le-leb p P_OPENING h.most)

pub sum_beside : (sum p : ℕ) → IsTrue (is_sum_beside sum p) → sum ≤ OFFSET_MOST * (P_OPENING - p)
sum_beside sum p h = leb-true sum (OFFSET_MOST * (P_OPENING - p)) h

pub beside_tested : (sum p : ℕ) → sum ≤ OFFSET_MOST * (P_OPENING - p) → IsTrue (is_sum_beside sum p)
beside_tested sum p h = le-leb sum (OFFSET_MOST * (P_OPENING - p)) h

-- ---- places

pub before_in : (a b : EpochScale) → is_before a b ≡ true → IsBefore a b
before_in a b h = by (nat_lt a.0 b.0) refl h where
  by : (c : Bool) → nat_lt a.0 b.0 ≡ c → (c || (a.0 == b.0 && nat_lt a.1 b.1)) ≡ true → IsBefore a b
  by true e k = inl (grind (arith, nat_tests, e))
  by false e k =
      let parts = and_parts (a.0 == b.0) (nat_lt a.1 b.1) k in
      inr (grind (arith, nat_tests, parts.0), grind (arith, nat_tests, parts.1))

pub before_tested : (a b : EpochScale) → IsBefore a b → is_before a b ≡ true
before_tested a b (inl h) = grind (arith, nat_tests, h)
before_tested a b (inr h) = grind (arith, nat_tests, h.0, h.1)

pub up_to_in : (now place : EpochScale) → not (is_before now place) ≡ true → IsUpTo place now
up_to_in now place h = by (nat_lt now.0 place.0) refl h where
  by : (c : Bool) → nat_lt now.0 place.0 ≡ c → not (c || (now.0 == place.0 && nat_lt now.1 place.1)) ≡ true
      → IsUpTo place now
  by true e k = cc
  by false e k = same (now.0 == place.0) refl k where
    same : (d : Bool) → (now.0 == place.0) ≡ d → not (d && nat_lt now.1 place.1) ≡ true → IsUpTo place now
    same true f m = inr (grind (arith, nat_tests, f), least (nat_lt now.1 place.1) refl m) where
      least : (x : Bool) → nat_lt now.1 place.1 ≡ x → not x ≡ true → place.1 ≤ now.1
      least true g n = cc
      least false g n = grind (arith, nat_tests, g)
    same false f m = inl (grind (arith, nat_tests, e, f))

pub up_to_tested : (now place : EpochScale) → IsUpTo place now → not (is_before now place) ≡ true
up_to_tested now place (inl h) = grind (arith, nat_tests, h)
up_to_tested now place (inr h) = grind (arith, nat_tests, h.0, h.1)

-- ---- a finished sum, and a deposit

pub record IsFinished (now : EpochScale) (row : EpochScale × ℕ) : Type 0 where
  pub most : row.1 ≤ OFFSET_MOST * P_OPENING
  pub before : IsBefore row.0 now

pub finished_in : (now : EpochScale) (row : EpochScale × ℕ) → IsTrue (is_sound_sum now row) → IsFinished now row
finished_in now row h =
    let parts = and_parts (nat_le row.1 (OFFSET_MOST * P_OPENING)) (is_before row.0 now) h in
    record { most = leb-true row.1 (OFFSET_MOST * P_OPENING) parts.0; before = before_in row.0 now parts.1 }

pub finished_tested : (now : EpochScale) (row : EpochScale × ℕ) → IsFinished now row → IsTrue (is_sound_sum now row)
finished_tested now row h =
    and_from (nat_le row.1 (OFFSET_MOST * P_OPENING)) (is_before row.0 now) (le-leb row.1 (OFFSET_MOST * P_OPENING)
    h.most) (before_tested row.0 now h.before)

pub record IsMarked (now : EpochScale) (sum : ℕ) (d : Deposit) : Type 0 where
  pub product : IsInRange d.p
  pub place : IsUpTo (d.epoch, d.scale) now
  pub within : d.sum ≤ sum

pub deposit_in : (now : EpochScale) (sum : ℕ) (d : Deposit) → IsTrue (is_sound_deposit now sum d) → IsMarked now sum d
deposit_in now sum d h =
    let first = and_parts (is_product d.p && not (is_before now (d.epoch, d.scale))) (nat_le d.sum sum) h in
    let parts = and_parts (is_product d.p) (not (is_before now (d.epoch, d.scale))) first.0 in
    record {
      product = product_in d.p parts.0;
      place = up_to_in now (d.epoch, d.scale) parts.1;
      within = leb-true d.sum sum first.1;
    }

pub deposit_tested : (now : EpochScale) (sum : ℕ) (d : Deposit) → IsMarked now sum d → IsTrue
    (is_sound_deposit now sum d)
deposit_tested now sum d h =
    and_from (is_product d.p && not (is_before now (d.epoch, d.scale))) (nat_le d.sum sum)
    (and_from (is_product d.p) (not (is_before now (d.epoch, d.scale))) (product_tested d.p h.product)
    (up_to_tested now (d.epoch, d.scale) h.place))
    (le-leb d.sum sum h.within)
