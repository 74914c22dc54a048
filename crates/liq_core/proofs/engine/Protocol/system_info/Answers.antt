use Rattle.std.proofs.Common.{◌≡◌, Bool, true, false, refl, ap, subst, ◌∙◌}
use Rattle.std.specs.Prelude.{if◌then◌else◌}
use Rattle.liq_types.specs.Soundness.{IsSoundImage}
use Rattle.liq_troves.specs.declared.sums.Sums.{Sums}
use Rattle.liq_core.specs.Core.{Core}
use Rattle.liq_core.proofs.Telling.{system_told}
use Rattle.liq_core.proofs.engine.Protocol.system_info.Goals as goal
use mir.Val.{bool_byte}

as_number : (b : Bool) → bool_byte b ≡ (if b then 1 else 0)
as_number true = refl
as_number false = refl

shown : (a b : Bool) → a ≡ b → bool_byte a ≡ (if b then 1 else 0)
shown a b e = ap bool_byte e ∙ as_number b

pub returns : goal.returns
returns c =
    let sound = subst (λ (core : Core). IsSoundImage core.image core.records) c.self.view_is c.self.invariant.image in
    let staked = ap (λ (k : Sums). k.stakes) c.sums.ensures.sums
    ∙ ap (λ (core : Core). core.image.stakes) c.self.view_is in
    let counted = ap (λ (core : Core). core.records) c.self.view_is in
    let mode = c.from.ensures ∙ shown c.is_recovery.result _ c.is_recovery.ensures in
    system_told c.args.self.now sound c.market-market.result _ _ _ c.market-market.ensures.market mode staked counted
