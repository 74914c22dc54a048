use Rattle.std.proofs.Common.{subst, sym, ◌∙◌, arith}
use Rattle.std.specs.Prelude.{◌≤◌}
use Rattle.liq_types.specs.State.{wallet_in}
use Rattle.liq_core.specs.Core.{Core}
use Rattle.liq_core.specs.Sound.{core_of}
use Rattle.liq_core.proofs.Answered.{is_value, on_value}
use Rattle.liq_core.proofs.Paying.{charge_passes, taken, taken_sound}
use Rattle.liq_core.proofs.SoundCores.{wallet_coll}
use Rattle.liq_core.proofs.engine.Protocol.apply_take.Goals as goal

pub overflow_sub-self : goal.overflow_sub-self
overflow_sub-self c =
    let had = wallet_coll (core_of c.self.inside) c.self.invariant.image c.args.account in
    let enough = subst (λ (core : Core). c.args.coll ≤ (wallet_in core.image.wallets c.args.account).coll)
    (sym c.self.view_is) c.requires.enough in
    omega (arith, had, enough)

pub invariant_of-self : goal.invariant_of-self
invariant_of-self c =
    taken_sound c.self.inside c.args.self.now c.self.view_is c.self.invariant c.args.account c.args.coll _
    c.requires.range c.requires.allowed (on_value _ c.take.result c.unwrap.result c.unwrap.ensures c.take.ensures.moved)

pub returns : goal.returns
returns c = taken c.self.inside c.args.self.now c.self.view_is c.self.invariant c.args.account c.args.coll _
    (on_value _ c.take.result c.unwrap.result c.unwrap.ensures c.take.ensures.moved)

pub unwrap-requires : goal.unwrap-requires
unwrap-requires c =
    let enough = subst (λ (core : Core). c.args.coll ≤ (wallet_in core.image.wallets c.args.account).coll)
    (sym c.self.view_is) c.requires.enough in
    let passes = charge_passes (wallet_in c.self.inside.wallets.rows c.args.account) c.args.coll 0 enough
    (omega arith) in
    is_value c.take.result tt (c.take.ensures.refused ∙ passes)
