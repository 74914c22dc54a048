-- The steps of a redemption. The trove that is cut last alone may stay in the list, and moves
-- there.
use Rattle.std.specs.Prelude.{◌≡◌, ℕ, ◌+◌, ◌≤◌, true, List, [], ◌∷◌, length, Option, None}
use Rattle.liq_types.specs.declared.hints.Hint.{Hint}
use Rattle.liq_types.specs.Ranked.{Ranked}
use Rattle.liq_trove_moves.specs.Steps.{entry_in, TakesFew}
use Rattle.liq_redemption.specs.declared.cut.Cut.{Cut}

-- the entry of the last one in a list
abbrev pub last_entry : List Ranked → List Cut → Option Ranked
last_entry list [] = None
last_entry list (cut ∷ []) = entry_in list cut.account
last_entry list (cut ∷ next ∷ more) = last_entry list (next ∷ more)

-- what a single cut takes
pub record CutTakes (cut : Cut) (hint : Hint) (list next : List Ranked) (old new : ℕ) : Type 0 where
  pub few : TakesFew next hint (entry_in next cut.account) old new
  pub none : cut.full ≡ true → new ≡ old
  pub shorter : cut.full ≡ true → length next ≤ length list
  pub any : new ≤ old + (length list + 4)
