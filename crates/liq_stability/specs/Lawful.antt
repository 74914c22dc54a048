-- Lawful lists of events: each event says what the pool's rules give at its moment.
use Rattle.std.specs.Prelude.{◌≡◌, ◌≤◌, ℕ, ◌*◌, List, [], ◌∷◌}
use Rattle.liq_types.specs.declared.amounts.TheConstants.{LIM, OFFSET_MOST}
use Rattle.liq_types.specs.declared.events.PoolEvent.{PoolEvent}
use Rattle.liq_types.specs.declared.events.PoolEvent.TheVariants as event
use Rattle.liq_types.specs.Product.{rise_of}
use Rattle.liq_types.specs.State.{State}
use Rattle.liq_types.specs.Totals.{pool_total, pool_coll}
use Rattle.liq_stability.specs.Own.{after_event, amount_after}
use Rattle.liq_stability.specs.Position.{words_of, balance_of, gain_of}

pub record IsLawfulOwn (s : State) (account put_in paid_out gain amount : ℕ) : Type 0 where
  pub gain_is : gain ≡ gain_of s account
  pub paid_is : paid_out ≤ balance_of s account
  pub amount_is : amount ≡ amount_after s account put_in paid_out

pub record IsLawfulOffset (s : State) (debt coll total rise : ℕ) : Type 0 where
  pub some : 1 ≤ debt
  pub within : debt ≤ total
  pub total_is : total ≡ pool_total s
  -- what is liquidated for the pool is worth at most 110 percent of its debt, at the least price
  pub coll_is : coll ≤ OFFSET_MOST * debt
  pub rise_is : rise ≡ rise_of (words_of s).p (record { debt = debt; coll = coll; total = total })

abbrev pub IsLawfulEvent : State → PoolEvent → Type 0
IsLawfulEvent s (event.Own account put_in paid_out gain amount) =
    IsLawfulOwn s account put_in paid_out gain amount
IsLawfulEvent s (event.Offset debt coll total rise) = IsLawfulOffset s debt coll total rise

-- the pool holds no more than so much
pub record IsWithinLimit (most : ℕ) (s : State) : Type 0 where
  pub total : pool_total s ≤ most
  pub coll : pool_coll s ≤ most

abbrev pub IsLawfulUpTo : ℕ → State → List PoolEvent → Type 0
IsLawfulUpTo most s [] = IsWithinLimit most s
IsLawfulUpTo most s (e ∷ es) = IsWithinLimit most s × IsLawfulEvent s e
    × IsLawfulUpTo most (after_event s e) es

abbrev pub IsLawful : State → List PoolEvent → Type 0
IsLawful s events = IsLawfulUpTo LIM s events
