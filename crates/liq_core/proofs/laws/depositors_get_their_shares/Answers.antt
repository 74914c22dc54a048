use Rattle.std.proofs.Common.{sym, ◌∙◌}
use Rattle.liq_core.specs.Core.{state_of}
use Rattle.liq_rule_sound.proofs.SoundPromises.{same_shares}
use Rattle.liq_core.proofs.laws.depositors_get_their_shares.Goals as goal

pub returns-clause-same : goal.returns-clause-same
returns-clause-same c limit known requests same account =
    same_shares limit known requests (state_of c.args.protocol.now) c.protocols_stand.ensures.formed same.image account

pub returns-clause-stands : goal.returns-clause-stands
returns-clause-stands c limit known requests stands account =
    let itself = c.protocols_stand.ensures in
    same_shares limit known requests (state_of c.args.protocol.now) itself.formed (sym itself.image
    ∙ stands.image) account
