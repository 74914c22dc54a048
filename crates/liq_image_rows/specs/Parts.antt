-- What the rules of the Stability Pool say of one row.
use Rattle.std.specs.Prelude.{ℕ, ◌*◌, Bool, ◌&&◌, nat_le}
use Rattle.liq_types.specs.declared.amounts.TheConstants.{LIM, OFFSET_MOST, P_OPENING}
use Rattle.liq_types.specs.declared.figures.Deposit.{Deposit}
use Rattle.liq_types.specs.Tables.{EpochScale}
use Rattle.liq_types.specs.declared.image.Image.{Image}
use Rattle.liq_types.specs.Product.{start_sum}
use Rattle.liq_types.specs.Soundness.{is_before, is_sound_deposit}

abbrev pub is_sound_sum : EpochScale → EpochScale × ℕ → Bool
is_sound_sum now row = nat_le row.1 (OFFSET_MOST * P_OPENING) && is_before row.0 now

abbrev pub is_deposit_of : Image → Deposit → Bool
is_deposit_of i d = nat_le d.amount LIM && is_sound_deposit (i.epoch, i.scale)
    (start_sum i (d.epoch, d.scale)) d
