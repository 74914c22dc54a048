-- The base rate, and the fees of borrowing and redeeming. Rates are over ONE.
use Rattle.std.specs.Prelude.{ℕ, ◌+◌, ◌-◌, ◌/◌, min}
use Rattle.liq_num.specs.Power.{power_of}
use Rattle.liq_num.specs.Quotient.{floor_of}
use Rattle.liq_rate.specs.declared.rate.Rate.{Rate}
use Rattle.liq_types.specs.declared.figures.Market.{Market}
use Rattle.liq_types.specs.declared.amounts.TheConstants.{ONE, DECAY, FLOOR_RATE, MAX_BORROW_RATE}

-- what is left at a minute of a base rate as of an earlier minute
abbrev pub decayed : ℕ → ℕ → ℕ → ℕ
decayed base fee_minute minute = floor_of base (power_of DECAY (minute - fee_minute)) ONE

-- A redemption raises what is left by half of the part of the supply that it redeems.
abbrev pub risen : ℕ → ℕ → ℕ → ℕ
risen left redeemed supply = min ONE (left + floor_of redeemed ONE supply / 2)

abbrev pub borrow_rate : ℕ → ℕ
borrow_rate left = min (left + FLOOR_RATE) MAX_BORROW_RATE

abbrev pub redeem_rate : ℕ → ℕ
redeem_rate base = min (base + FLOOR_RATE) ONE

abbrev pub borrow_fee : ℕ → ℕ → ℕ
borrow_fee left amount = floor_of (borrow_rate left) amount ONE

-- the fee of a redemption, in gwei, of the collateral that is drawn; the base is that after the
-- redemption
abbrev pub redeem_fee : ℕ → ℕ → ℕ
redeem_fee base drawn = floor_of (redeem_rate base) drawn ONE

-- ---- of a market

-- the rate as it was left at the last fee
abbrev pub rate_kept : Market → Rate
rate_kept m = record { base = m.base; minute = m.fee_minute }

-- what is left of the base rate now
abbrev pub rate_left : Market → ℕ
rate_left m = decayed m.base m.fee_minute m.minute

abbrev pub rate_at : Market → ℕ → Rate
rate_at m base = record { base = base; minute = m.minute }
