-- What planning a redemption answers.
use Rattle.std.specs.Prelude.{◌≡◌, ℕ, List, Result, Ok, Err, None}
use Rattle.liq_types.specs.declared.figures.Market.{Market}
use Rattle.liq_types.specs.declared.figures.Wallet.{Wallet}
use Rattle.liq_types.specs.Rules.{first_refusal}
use Rattle.liq_redemption.specs.declared.fault.RedeemFault.{RedeemFault}
use Rattle.liq_redemption.specs.declared.fault.RedeemFault.TheVariants.{No, NoMemory}
use Rattle.liq_redemption.specs.declared.planning.RedeemPlan.{RedeemPlan}
use Rattle.liq_redemption.specs.Redemption.{Visit, redeem_plan, asking_rules}

-- The plan or the first refusal. There may be no memory only where troves are visited, which says
-- nothing of the rest.
abbrev pub Answers : Market → Wallet → List Visit → ℕ → ℕ → Result RedeemPlan RedeemFault → Type 0
Answers m wallet visits amount bound (Ok plan) = redeem_plan m wallet visits amount bound ≡ Ok plan
Answers m wallet visits amount bound (Err (No refusal)) = redeem_plan m wallet visits amount bound
    ≡ Err refusal
Answers m wallet visits amount bound (Err NoMemory) =
    first_refusal (asking_rules m wallet amount bound) ≡ None
