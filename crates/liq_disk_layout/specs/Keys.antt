-- Which key may stand behind the one before it.
use Rattle.std.specs.Prelude.{ℕ, Bool, true, Option, Some, None, nat_lt, nat_le}
use Rattle.liq_types.specs.Tables.{EpochScale}
use Rattle.liq_types.specs.Soundness.{is_before}

-- a key is above the one before it
abbrev pub follows : Option ℕ → ℕ → Bool
follows None key = true
follows (Some last) key = nat_lt last key

-- a place comes behind the one before it; its epoch is told where that is below the last one
-- already
abbrev pub epoch_follows : Option EpochScale → ℕ → Bool
epoch_follows None epoch = true
epoch_follows (Some last) epoch = nat_le last.0 epoch

abbrev pub place_follows : Option EpochScale → EpochScale → Bool
place_follows None place = true
place_follows (Some last) place = is_before last place
