-- The rules of an opening, a change, a closing and a moved gain, read once by their places: what each tells where none
-- refuses.
use Rattle.std.proofs.Common.{◌≡◌, ℕ, ◌≤◌, ◌<◌, Bool, true, false, refl, nat_lt, None, Option, arith}
use Rattle.std.specs.Prelude.{◌&&◌, ◌||◌, ◌==◌}
use Rattle.std.proofs.lemmas.Bool.{ltb-false, leb-false}
use Rattle.std.proofs.lemmas.Bool.Decides.{nat_tests}
use Rattle.liq_types.specs.declared.amounts.TheConstants.{ONE}
use Rattle.liq_types.specs.declared.figures.Market.{Market}
use Rattle.liq_types.specs.declared.figures.Wallet.{Wallet}
use Rattle.liq_types.specs.Rules.{first_refusal}
use Rattle.liq_types.proofs.Tests.{all_false}
use Rattle.liq_borrow.specs.declared.change.Change.{Change}
use Rattle.liq_borrow.specs.Allowed.{IsBound, OpenPasses, ChangePasses, ClosePasses, GainPasses}
use Rattle.liq_borrow.specs.Borrowing.{least_bound, open_rules, adjust_rules, close_rules, gain_rules}

-- a test that is made only where a condition holds
where_so : (condition test : Bool) → (condition && test) ≡ false → condition ≡ true → test ≡ false
where_so true test h is = h
where_so false test h is = cc

within_where : (condition : Bool) (least most : ℕ) → (condition && nat_lt most least) ≡ false → condition ≡ true
    → least ≤ most
within_where condition least most h is = ltb-false most least (where_so condition (nat_lt most least) h is)

positive : (n : ℕ) → 0 < n → nat_lt 0 n ≡ true
positive n h = grind (arith, nat_tests, h)

either : (a b : Bool) → (a || b) ≡ false → (a ≡ false) × (b ≡ false)
either true b h = cc
either false b h = (refl, h)

bound_is : (m : Market) (bound : ℕ) → (nat_lt ONE bound || nat_lt bound (least_bound m)) ≡ false → IsBound m bound
bound_is m bound h =
    let both = either (nat_lt ONE bound) (nat_lt bound (least_bound m)) h in
    record { least = ltb-false bound (least_bound m) both.1; most = ltb-false ONE bound both.0 }

pub open_passes : (m : Market) (wallet : Wallet) (exists : Bool) (account coll borrow bound : ℕ)
    → first_refusal (open_rules m wallet exists account coll borrow bound) ≡ None
    → OpenPasses m wallet exists coll borrow bound
open_passes m wallet exists account coll borrow bound h =
    let rules = all_false (open_rules m wallet exists account coll borrow bound) h in
    record {
      absent = rules.0;
      bound_in = bound_is m bound rules.1.0;
      fee = ltb-false _ _ rules.1.1.0;
      net = ltb-false _ _ rules.1.1.1.0;
      limit = ltb-false _ _ rules.1.1.1.1.0;
      enough = ltb-false _ _ rules.1.1.1.1.1.0;
      ratio = ltb-false _ _ rules.1.1.1.1.1.1.0;
      totals = within_where _ _ _ rules.1.1.1.1.1.1.1.0;
    }

pub change_passes : (m : Market) (wallet : Wallet) (entire : Option (ℕ × ℕ)) (change : Change) (account bound : ℕ)
    → first_refusal (adjust_rules m wallet entire account change bound) ≡ None
    → ChangePasses m wallet entire change bound
change_passes m wallet entire change account bound h =
    let rules = all_false (adjust_rules m wallet entire account change bound) h in
    record {
      there = rules.0;
      bound_in = λ some. bound_is m bound (where_so (nat_lt 0 change.borrow) _ rules.1.0 (positive change.borrow some));
      one_way_coll = rules.1.1.0;
      one_way_lusd = rules.1.1.1.0;
      some = rules.1.1.1.1.0;
      normal = λ some. where_so (nat_lt 0 change.coll_out) _ rules.1.1.1.1.1.0 (positive change.coll_out some);
      fee = ltb-false _ _ rules.1.1.1.1.1.1.0;
      coll_in = ltb-false _ _ rules.1.1.1.1.1.1.1.0;
      coll_out = ltb-false _ _ rules.1.1.1.1.1.1.1.1.0;
      repay = ltb-false _ _ rules.1.1.1.1.1.1.1.1.1.0;
      net = λ some. within_where (nat_lt 0 change.repay) _ _ rules.1.1.1.1.1.1.1.1.1.1.0 (positive change.repay some);
      limit = ltb-false _ _ rules.1.1.1.1.1.1.1.1.1.1.1.0;
      ratio = within_where _ _ _ rules.1.1.1.1.1.1.1.1.1.1.1.1.0;
      rises = within_where _ _ _ rules.1.1.1.1.1.1.1.1.1.1.1.1.1.0;
      totals = within_where _ _ _ rules.1.1.1.1.1.1.1.1.1.1.1.1.1.1.0;
    }

pub close_passes : (m : Market) (wallet : Wallet) (entire : Option (ℕ × ℕ)) (account : ℕ)
    → first_refusal (close_rules m wallet entire account) ≡ None → ClosePasses m wallet entire
close_passes m wallet entire account h =
    let rules = all_false (close_rules m wallet entire account) h in
    record {
      there = rules.0;
      several = leb-false _ _ rules.1.0;
      normal = rules.1.1.0;
      repaid = ltb-false _ _ rules.1.1.1.0;
      totals = within_where _ _ _ rules.1.1.1.1.0;
    }

pub gain_passes : (m : Market) (entire : Option (ℕ × ℕ)) (account gain : ℕ)
    → first_refusal (gain_rules m entire account gain) ≡ None → GainPasses m entire gain
gain_passes m entire account gain h =
    let rules = all_false (gain_rules m entire account gain) h in
    record {
      there = rules.0;
      some = some_gain gain rules.1.0;
      ratio = within_where _ _ _ rules.1.1.0;
    }
  where
    some_gain : (n : ℕ) → (n == 0) ≡ false → 1 ≤ n
    some_gain n e = grind (arith, nat_tests, e)
