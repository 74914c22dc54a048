-- What the plans of the calls that get several parts of a state are told.
use Rattle.std.specs.Prelude.{List}
use Rattle.liq_types.specs.declared.figures.Market.{Market}
use Rattle.liq_types.specs.declared.figures.Trove.{Trove}
use Rattle.liq_types.specs.State.{State}
use Rattle.liq_types.specs.Tables.{Table}
use Rattle.liq_troves.specs.declared.sums.Sums.{Sums}
use Rattle.liq_order.specs.Order.{Ranked}
use Rattle.liq_stability.specs.declared.words.PoolWords.{PoolWords}
use Rattle.liq_liquidation.specs.Lowest.{AreParts}
use Rattle.liq_rule_sound.specs.SoundState.{IsSoundState}

-- market, sums, troves, list and pool are those of one sound state
pub record ArePartsOfSound
    (s : State) (m : Market) (sums : Sums) (troves : Table Trove) (order : List Ranked)
    (words : PoolWords)
    : Type 0 where
  pub sound : IsSoundState s
  pub parts : AreParts s m sums troves order words
