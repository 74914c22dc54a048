-- What accounts gain, in whole units: a sum for each unit of stake grows with each fee, and an
-- account gains as the sum has grown since its last change. Each division is rounded down.
use Rattle.std.specs.Prelude.{ℕ, ◌+◌, ◌-◌, ◌==◌, List, [], ◌∷◌, if◌then◌else◌}
use Rattle.liq_num.specs.Quotient.{floor_of}
use Rattle.liq_num.specs.declared.power.TheConstants.{ONE}
use Rattle.liq_fees.specs.Happened.{Happened, Put, Out, Fee, Asset, stake_of, staked_of}

-- the sum: what a unit of stake was given of an asset, in 10^18ths; a fee is shared where anybody
-- has a stake
abbrev pub sum_of : Asset → List Happened → ℕ
sum_of asset [] = 0
sum_of asset (Put owner amount ∷ past) = sum_of asset past
sum_of asset (Out owner amount ∷ past) = sum_of asset past
sum_of asset (Fee coll lusd ∷ past) =
    if staked_of past == 0 then sum_of asset past
    else sum_of asset past + floor_of (asset coll lusd) ONE (staked_of past)

-- the sum at the account's last change
abbrev pub mark_of : Asset → ℕ → List Happened → ℕ
mark_of asset account [] = 0
mark_of asset account (Put owner amount ∷ past) =
    if owner == account then sum_of asset past else mark_of asset account past
mark_of asset account (Out owner amount ∷ past) =
    if owner == account then sum_of asset past else mark_of asset account past
mark_of asset account (Fee coll lusd ∷ past) = mark_of asset account past

-- what was got before, and what a stake gains by a rise of the sum
abbrev pub gained : ℕ → ℕ → ℕ → ℕ
gained got stake rise = got + floor_of stake rise ONE

-- what the account had gained at its last change
abbrev pub got_of : Asset → ℕ → List Happened → ℕ
got_of asset account [] = 0
got_of asset account (Put owner amount ∷ past) =
    if owner == account
    then gained (got_of asset account past) (stake_of account past) (sum_of asset past
    - mark_of asset account past)
    else got_of asset account past
got_of asset account (Out owner amount ∷ past) =
    if owner == account
    then gained (got_of asset account past) (stake_of account past) (sum_of asset past
    - mark_of asset account past)
    else got_of asset account past
got_of asset account (Fee coll lusd ∷ past) = got_of asset account past

-- all that the account has gained of an asset
abbrev pub gain_of : Asset → ℕ → List Happened → ℕ
gain_of asset account past =
    gained (got_of asset account past) (stake_of account past) (sum_of asset past
    - mark_of asset account past)
