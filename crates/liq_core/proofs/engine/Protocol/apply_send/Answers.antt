use Rattle.std.proofs.Common.{subst, sym, ◌∙◌, arith}
use Rattle.std.specs.Prelude.{◌≤◌}
use Rattle.liq_types.specs.State.{wallet_in}
use Rattle.liq_core.specs.Core.{Core}
use Rattle.liq_core.specs.Sound.{core_of}
use Rattle.liq_core.proofs.Answered.{is_value, on_value}
use Rattle.liq_core.proofs.Paying.{charge_passes, sent, sent_sound}
use Rattle.liq_core.proofs.SoundCores.{sent_within}
use Rattle.liq_core.proofs.engine.Protocol.apply_send.Goals as goal

pub send-requires-clause-limit : goal.send-requires-clause-limit
send-requires-clause-limit c enough = sent_within (core_of c.self.inside) c.self.invariant.image c.args.from c.args.to
    c.args.lusd enough

pub invariant_of-self : goal.invariant_of-self
invariant_of-self c =
    sent_sound c.self.inside c.args.self.now c.self.view_is c.self.invariant c.args.from c.args.to c.args.lusd _
    c.requires.from c.requires.to c.requires.allowed
    (on_value _ c.send.result c.unwrap.result c.unwrap.ensures c.send.ensures.moved)

pub returns : goal.returns
returns c = sent c.self.inside c.args.self.now c.self.view_is c.self.invariant c.args.from c.args.to c.args.lusd _
    (on_value _ c.send.result c.unwrap.result c.unwrap.ensures c.send.ensures.moved)

pub unwrap-requires : goal.unwrap-requires
unwrap-requires c =
    let enough = subst (λ (core : Core). c.args.lusd ≤ (wallet_in core.image.wallets c.args.from).lusd)
    (sym c.self.view_is) c.requires.enough in
    let passes = charge_passes (wallet_in c.self.inside.wallets.rows c.args.from) 0 c.args.lusd (omega arith) enough in
    is_value c.send.result tt (c.send.ensures.refused ∙ passes)
