use Rattle.std.proofs.Common.{ap, arith}
use Rattle.liq_core.specs.Core.{Core}
use Rattle.liq_core.specs.Sound.{core_of}
use Rattle.liq_core.proofs.Paying.{funded, funded_sound}
use Rattle.liq_core.proofs.SoundCores.{limit_within, wallet_coll, wallet_lusd}
use Rattle.liq_core.proofs.engine.Protocol.apply_fund.Goals as goal

pub pay-requires-clause-coll : goal.pay-requires-clause-coll
pay-requires-clause-coll c =
    let had = wallet_coll (core_of c.self.inside) c.self.invariant.image c.args.account in
    let limit = c.requires.limit in
    let most = limit_within (core_of c.self.inside) c.self.invariant.image in
    let same = ap (λ (core : Core). core.image.brought) c.self.view_is in
    let same_limit = ap (λ (core : Core). core.image.limit) c.self.view_is in
    omega (arith, had, limit, most, same, same_limit)

pub pay-requires-clause-lusd : goal.pay-requires-clause-lusd
pay-requires-clause-lusd c =
    let had = wallet_lusd (core_of c.self.inside) c.self.invariant.image c.args.account in
    omega (arith, had)

pub invariant_of-self : goal.invariant_of-self
invariant_of-self c =
    funded_sound c.self.inside c.args.self.now c.self.view_is c.self.invariant c.args.account c.args.coll _
    c.requires.range c.requires.allowed c.pay.ensures.moved

pub returns : goal.returns
returns c = funded c.self.inside c.args.self.now c.self.view_is c.self.invariant c.args.account c.args.coll _
    c.pay.ensures.moved
