-- The exact shares: what each account would have gained if nothing were rounded, as fractions with
-- one denominator.
use Rattle.std.specs.Prelude.{ℕ, ◌+◌, ◌*◌, ◌≤◌, ◌==◌, List, [], ◌∷◌, if◌then◌else◌}
use Rattle.liq_num.specs.Quotient.{ceiling_of}
use Rattle.liq_num.specs.declared.power.TheConstants.{ONE}
use Rattle.liq_fees.specs.Happened.{Happened, Put, Out, Fee, Asset, stake_of, staked_of, changes_of}

-- the denominator of all shares: a fee that is shared multiplies it by all stakes
abbrev pub den_of : List Happened → ℕ
den_of [] = 1
den_of (Put owner amount ∷ past) = den_of past
den_of (Out owner amount ∷ past) = den_of past
den_of (Fee coll lusd ∷ past) = if staked_of past == 0 then den_of past
    else den_of past * staked_of past

-- Over it, what the account would have gained of an asset: of each fee the part that its stake is
-- of all stakes.
abbrev pub share_of : Asset → ℕ → List Happened → ℕ
share_of asset account [] = 0
share_of asset account (Put owner amount ∷ past) = share_of asset account past
share_of asset account (Out owner amount ∷ past) = share_of asset account past
share_of asset account (Fee coll lusd ∷ past) =
    if staked_of past == 0 then share_of asset account past
    else share_of asset account past * staked_of past + asset coll lusd * stake_of account past
    * den_of past

-- ---- by how much a gain may fall short of it

-- the account's stake, added up over the fees that were shared
abbrev pub weight_of : ℕ → List Happened → ℕ
weight_of account [] = 0
weight_of account (Put owner amount ∷ past) = weight_of account past
weight_of account (Out owner amount ∷ past) = weight_of account past
weight_of account (Fee coll lusd ∷ past) =
    if staked_of past == 0 then weight_of account past
    else weight_of account past + stake_of account past

-- what the sums may have cost the account, and one for each of its changes
abbrev pub allowance_of : ℕ → List Happened → ℕ
allowance_of account past = ceiling_of (weight_of account past) 1 ONE + changes_of account past

-- a gain is at most the exact share, and falls short of it by at most the allowance
pub record IsWithinAllowance (asset : Asset) (account : ℕ) (past : List Happened)
    (gain allowance : ℕ) : Type 0 where
  pub at_most : gain * den_of past ≤ share_of asset account past
  pub at_least : share_of asset account past ≤ (gain + allowance) * den_of past
