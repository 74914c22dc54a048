-- What is known, by name, of an opening, a change, a closing and a moved gain that no rule refuses.
use Rattle.std.specs.Prelude.{◌≡◌, ℕ, ◌+◌, ◌-◌, ◌*◌, ◌≤◌, ◌<◌, ◌&&◌, ◌||◌, Bool, true, false, nat_lt, is_none, Option}
use Rattle.liq_types.specs.declared.amounts.TheConstants.{CCR, MCR, MIN_NET, ONE, RESERVE}
use Rattle.liq_types.specs.declared.figures.Market.{Market}
use Rattle.liq_types.specs.declared.figures.Wallet.{Wallet}
use Rattle.liq_types.specs.Totals.{worth, asked, is_recovery, is_normal, limit_of, or_nothing}
use Rattle.liq_borrow.specs.declared.change.Change.{Change}
use Rattle.liq_borrow.specs.Borrowing.{fee_now, least_bound, least_ratio, open_debt, is_no_change}
use Rattle.liq_borrow.specs.Borrowing.{adjusted_coll, adjusted_debt}

-- the bound of a fee lies from the least rate to the whole
pub record IsBound (m : Market) (bound : ℕ) : Type 0 where
  pub least : least_bound m ≤ bound
  pub most : bound ≤ ONE

pub record OpenPasses (m : Market) (wallet : Wallet) (exists : Bool) (coll borrow bound : ℕ) :
    Type 0 where
  pub absent : exists ≡ false
  pub bound_in : IsBound m bound
  pub fee : fee_now m borrow * ONE ≤ bound * borrow
  pub net : MIN_NET ≤ borrow + fee_now m borrow
  pub limit : m.total_debt + open_debt m borrow ≤ limit_of m
  pub enough : coll ≤ wallet.coll
  pub ratio : asked (least_ratio m) (open_debt m borrow) ≤ worth coll m.price
  pub totals : is_normal m ≡ true → asked CCR (m.total_debt + open_debt m borrow)
      ≤ worth (m.total_coll + coll) m.price

-- a change passes on a trove that has these entire amounts, or on none
pub record ChangePasses (m : Market) (w : Wallet) (entire : Option (ℕ × ℕ)) (change : Change)
    (bound : ℕ) : Type 0 where
  pub there : is_none entire ≡ false
  pub bound_in : 0 < change.borrow → IsBound m bound
  pub one_way_coll : (nat_lt 0 change.coll_in && nat_lt 0 change.coll_out) ≡ false
  pub one_way_lusd : (nat_lt 0 change.borrow && nat_lt 0 change.repay) ≡ false
  pub some : is_no_change change ≡ false
  pub normal : 0 < change.coll_out → is_recovery m ≡ false
  pub fee : fee_now m change.borrow * ONE ≤ bound * change.borrow
  pub coll_in : change.coll_in ≤ w.coll
  pub coll_out : change.coll_out ≤ (or_nothing entire).0
  pub repay : change.repay ≤ w.lusd
  pub net : 0 < change.repay → MIN_NET ≤ (or_nothing entire).1 - RESERVE - change.repay
  pub limit : m.total_debt + change.borrow + fee_now m change.borrow ≤ limit_of m
  pub ratio : (is_normal m || nat_lt 0 change.borrow) ≡ true
      → asked (least_ratio m) (adjusted_debt m (or_nothing entire).1 change)
      ≤ worth (adjusted_coll (or_nothing entire).0 change) m.price
  pub rises : (is_recovery m && nat_lt 0 change.borrow) ≡ true
      → (or_nothing entire).0 * adjusted_debt m (or_nothing entire).1 change
      ≤ adjusted_coll (or_nothing entire).0 change * (or_nothing entire).1
  pub totals : is_normal m ≡ true
      → asked CCR (m.total_debt + change.borrow + fee_now m change.borrow - change.repay)
      ≤ worth (m.total_coll + change.coll_in - change.coll_out) m.price

pub record ClosePasses (m : Market) (wallet : Wallet) (entire : Option (ℕ × ℕ)) : Type 0 where
  pub there : is_none entire ≡ false
  pub several : 1 < m.troves
  pub normal : is_recovery m ≡ false
  pub repaid : (or_nothing entire).1 - RESERVE ≤ wallet.lusd
  pub totals : is_normal m ≡ true
      → asked CCR (m.total_debt - (or_nothing entire).1)
      ≤ worth (m.total_coll - (or_nothing entire).0) m.price

pub record GainPasses (m : Market) (entire : Option (ℕ × ℕ)) (gain : ℕ) : Type 0 where
  pub there : is_none entire ≡ false
  pub some : 1 ≤ gain
  pub ratio : is_normal m ≡ true → asked MCR (or_nothing entire).1
      ≤ worth ((or_nothing entire).0 + gain) m.price
