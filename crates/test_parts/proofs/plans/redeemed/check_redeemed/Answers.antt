use Rattle.std.proofs.Common.{ap, sym, ◌∙◌, subst, arith}
use Rattle.liq_types.specs.declared.figures.Wallet.{Wallet}
use Rattle.liq_types.specs.State.{wallet_in}
use Rattle.liq_types.specs.Tables.{Table}
use Rattle.liq_redemption.specs.Given.{IsPlannedOn}
use Rattle.liq_redemption.specs.Parts.{parts_of}
use Rattle.test_parts.specs.declared.plans.redeemed.TheConstants.{MARKET}
use Rattle.test_parts.specs.declared.plans.world.TheConstants.{BEFORE}
use Rattle.test_parts.proofs.plans.redeemed.check_redeemed.Goals as goal

pub apply-requires-clause-planned : goal.apply-requires-clause-planned
apply-requires-clause-planned g c =
    let same = c.read-wallet.ensures.wallet
    ∙ sym (ap (λ (t : Table Wallet). wallet_in t c.args.account) c.in-Ok-reserve.ensures.wallets) in
    let had = ap (λ (w : Wallet). w.lusd) (c.read-wallet.ensures.wallet ∙ c.in-Ok-funded.ensures.had) in
    subst (λ (w : Wallet). IsPlannedOn (parts_of BEFORE c.reserve.new.surplus c.in-Ok.troves c.in-Ok.order) w
    c.in-Ok-plan.plan) same (record {
      market = MARKET;
      amount = 5000000000;
      bound = 1000000000000000000;
      sound = record {
        price_least = omega arith;
        price_most = omega arith;
        base = omega arith;
        past_fee = omega arith;
        debt = omega arith;
        supply = omega (arith, had);
      };
      planned = c.in-Ok-plan.ensures;
    })
