-- What happens to a fee pool that stakers share. A list of it has the latest first: what stands
-- behind an item is what happened before it.
use Rattle.std.specs.Prelude.{ℕ, ◌+◌, ◌-◌, ◌<◌, ◌≤◌, ◌==◌, List, [], ◌∷◌, if◌then◌else◌}
use Rattle.liq_types.specs.declared.amounts.TheConstants.{ACCOUNTS, LIM}
use Rattle.liq_fees.specs.declared.changes.TheConstants.{STAKED_MOST, CHANGES_MOST, FEES_MOST}

-- an account puts an amount in or takes one out, or a fee comes, of collateral (gwei) and LUSD
-- (micro-LUSD)
pub data Happened : Type 0 where
  Put : (account amount : ℕ) → Happened
  Out : (account amount : ℕ) → Happened
  Fee : (coll lusd : ℕ) → Happened

-- one of a fee's two amounts; what follows is said of either
abbrev pub Asset : Type 0
Asset = (coll lusd : ℕ) → ℕ

abbrev pub of_coll : Asset
of_coll coll lusd = coll

abbrev pub of_lusd : Asset
of_lusd coll lusd = lusd

-- an account's stake
abbrev pub stake_of : ℕ → List Happened → ℕ
stake_of account [] = 0
stake_of account (Put owner amount ∷ past) =
    if owner == account then stake_of account past + amount else stake_of account past
stake_of account (Out owner amount ∷ past) =
    if owner == account then stake_of account past - amount else stake_of account past
stake_of account (Fee coll lusd ∷ past) = stake_of account past

-- all stakes
abbrev pub staked_of : List Happened → ℕ
staked_of [] = 0
staked_of (Put owner amount ∷ past) = staked_of past + amount
staked_of (Out owner amount ∷ past) = staked_of past - amount
staked_of (Fee coll lusd ∷ past) = staked_of past

-- all fees
abbrev pub fees_of : Asset → List Happened → ℕ
fees_of asset [] = 0
fees_of asset (Put owner amount ∷ past) = fees_of asset past
fees_of asset (Out owner amount ∷ past) = fees_of asset past
fees_of asset (Fee coll lusd ∷ past) = fees_of asset past + asset coll lusd

-- the fees that came while nobody had a stake
abbrev pub unshared_of : Asset → List Happened → ℕ
unshared_of asset [] = 0
unshared_of asset (Put owner amount ∷ past) = unshared_of asset past
unshared_of asset (Out owner amount ∷ past) = unshared_of asset past
unshared_of asset (Fee coll lusd ∷ past) =
    if staked_of past == 0 then unshared_of asset past + asset coll lusd else unshared_of asset past

-- ---- how often

-- how often an account puts in or takes out
abbrev pub changes_of : ℕ → List Happened → ℕ
changes_of account [] = 0
changes_of account (Put owner amount ∷ past) =
    if owner == account then changes_of account past + 1 else changes_of account past
changes_of account (Out owner amount ∷ past) =
    if owner == account then changes_of account past + 1 else changes_of account past
changes_of account (Fee coll lusd ∷ past) = changes_of account past

-- how many changes and how many fees there are
abbrev pub changes_in : List Happened → ℕ
changes_in [] = 0
changes_in (Put owner amount ∷ past) = changes_in past + 1
changes_in (Out owner amount ∷ past) = changes_in past + 1
changes_in (Fee coll lusd ∷ past) = changes_in past

abbrev pub fees_in : List Happened → ℕ
fees_in [] = 0
fees_in (Put owner amount ∷ past) = fees_in past
fees_in (Out owner amount ∷ past) = fees_in past
fees_in (Fee coll lusd ∷ past) = fees_in past + 1

-- how many fees were shared
abbrev pub shares_of : List Happened → ℕ
shares_of [] = 0
shares_of (Put owner amount ∷ past) = shares_of past
shares_of (Out owner amount ∷ past) = shares_of past
shares_of (Fee coll lusd ∷ past) = if staked_of past == 0 then shares_of past
    else shares_of past + 1

-- ---- what can happen

-- nobody takes out more than its stake
abbrev pub AreCovered : List Happened → Type 0
AreCovered [] = Unit {0}
AreCovered (Put owner amount ∷ past) = AreCovered past
AreCovered (Out owner amount ∷ past) = (amount ≤ stake_of owner past) × AreCovered past
AreCovered (Fee coll lusd ∷ past) = AreCovered past

-- all stakes together never pass a limit
abbrev pub AreStakedUpTo : ℕ → List Happened → Type 0
AreStakedUpTo most [] = Unit {0}
AreStakedUpTo most (e ∷ past) = (staked_of (e ∷ past) ≤ most) × AreStakedUpTo most past

-- all accounts are below n
abbrev pub AreOwnedBelow : ℕ → List Happened → Type 0
AreOwnedBelow n [] = Unit {0}
AreOwnedBelow n (Put owner amount ∷ past) = (owner < n) × AreOwnedBelow n past
AreOwnedBelow n (Out owner amount ∷ past) = (owner < n) × AreOwnedBelow n past
AreOwnedBelow n (Fee coll lusd ∷ past) = AreOwnedBelow n past

pub record IsLawful (past : List Happened) : Type 0 where
  pub covered : AreCovered past
  pub staked : AreStakedUpTo STAKED_MOST past
  pub owners : AreOwnedBelow ACCOUNTS past
  pub coll : fees_of of_coll past ≤ LIM
  pub lusd : fees_of of_lusd past ≤ LIM
  pub changes : changes_in past ≤ CHANGES_MOST
  pub fees : fees_in past ≤ FEES_MOST
