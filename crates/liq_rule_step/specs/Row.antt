-- The row of a verb: all that the rules say of it, beside its place in the list and the accounts
-- that it names.
use Rattle.std.specs.Prelude.{ℕ, ◌==◌, List}
use Rattle.liq_types.specs.declared.events.ListChange.{ListChange}
use Rattle.liq_types.specs.declared.events.PoolEvent.{PoolEvent}
use Rattle.liq_types.specs.declared.replies.Refusal.TheVariants.{AmountZero}
use Rattle.liq_types.specs.Rules.{Rule}
use Rattle.liq_types.specs.State.{State}

pub record Row : Type 0 where
  -- what is refused beside the range of the accounts, in order
  pub rules : List Rule
  -- the state that it leaves, where it is allowed
  pub effect : State
  -- what the reply shows
  pub values : List ℕ
  -- what it does to the Stability Pool, as others follow it
  pub events : List PoolEvent
  -- what it does to the ordered list, as others follow it
  pub changes : List ListChange

-- several verbs refuse an amount of nothing
abbrev pub not_zero : ℕ → Rule
not_zero amount = (amount == 0, AmountZero)
