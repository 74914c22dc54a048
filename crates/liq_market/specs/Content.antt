-- What a market holds.
use Rattle.std.specs.Prelude.{◌≡◌, ℕ, List}
use Rattle.liq_core.specs.Core.{Core, SameContent}

-- what a market holds: its protocol, and whom the last command touched of those that it accepted
pub record Content : Type 0 where
  pub core : Core
  pub touched : List ℕ

-- two markets that differ at most in what there is room for
pub record IsSame (old new : Content) : Type 0 where
  pub core : SameContent old.core new.core
  pub touched : new.touched ≡ old.touched
