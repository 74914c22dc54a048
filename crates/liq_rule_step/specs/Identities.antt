-- What is conserved: every gwei and every micro-LUSD has one home.
use Rattle.std.specs.Prelude.{◌≡◌, ℕ, Bool, true, false, ◌+◌, ◌*◌, length, sum, sum_by}
use Rattle.std.specs.Map.{values_of}
use Rattle.liq_types.specs.declared.amounts.TheConstants.{RESERVE}
use Rattle.liq_types.specs.declared.figures.Wallet.{Wallet}
use Rattle.liq_types.specs.WellFormed.{Ascends}
use Rattle.liq_types.specs.declared.requests.Call.{Call}
use Rattle.liq_types.specs.declared.requests.Call.TheVariants.{Price, Advance, Fund, Take, Send, Provide, Withdraw, Claim, Rotate}
use Rattle.liq_types.specs.declared.figures.Trove.{Trove}
use Rattle.liq_types.specs.declared.image.Image.{Image}
use Rattle.liq_types.specs.Soundness.{coll_homes, lusd_homes}
use Rattle.liq_types.specs.State.{State}
use Rattle.liq_rule_step.specs.Image.{image}

abbrev pub wallets_coll : State → ℕ
wallets_coll s = sum_by (λ (w : Wallet). w.coll) (values_of s.wallets)

abbrev pub wallets_lusd : State → ℕ
wallets_lusd s = sum_by (λ (w : Wallet). w.lusd) (values_of s.wallets)

-- the table of wallets has each account once, in order
abbrev pub WalletsAscend : State → Type 0
WalletsAscend s = Ascends s.wallets

-- of an image: the homes of collateral and of LUSD, the reserves of the troves, and what the pools
-- record of them
pub record IsAtHome (i : Image) : Type 0 where
  pub coll : i.brought ≡ coll_homes i
  pub lusd : i.active_debt + i.default_debt ≡ lusd_homes i
  pub reserve : i.reserve ≡ RESERVE * length i.troves
  pub active_coll : i.active_coll ≡ sum_by (λ (t : Trove). t.coll) (values_of i.troves)
  pub active_debt : i.active_debt ≡ sum_by (λ (t : Trove). t.debt) (values_of i.troves)
  pub surplus : i.surplus ≡ sum (values_of i.surplus_rows)

abbrev pub IsConserved : State → Type 0
IsConserved s = IsAtHome (image s)

-- the verbs that neither read nor write a trove but to refuse
abbrev pub touches_no_trove : Call → Bool
touches_no_trove (Price price) = true
touches_no_trove (Advance minutes) = true
touches_no_trove (Fund account coll) = true
touches_no_trove (Take account coll) = true
touches_no_trove (Send from to lusd) = true
touches_no_trove (Provide account lusd) = true
touches_no_trove (Withdraw account lusd) = true
touches_no_trove (Claim account) = true
touches_no_trove Rotate = true
touches_no_trove _ = false
