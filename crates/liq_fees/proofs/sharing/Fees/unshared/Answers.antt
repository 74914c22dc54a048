use Rattle.std.proofs.Common.{ap, ◌∙◌}
use Rattle.liq_fees.specs.Kept.{Kept}
use Rattle.liq_fees.specs.Happened.{of_coll, of_lusd}
use Rattle.liq_fees.proofs.Keeping.{covers_all}
use Rattle.liq_fees.proofs.sharing.Fees.unshared.Goals as goal

pub returns-clause-coll : goal.returns-clause-coll
returns-clause-coll c past h = covers_all of_coll past _ h.lawful (ap (λ (k : Kept). k.coll.unshared) c.self.view_is
    ∙ h.coll.unshared)

pub returns-clause-lusd : goal.returns-clause-lusd
returns-clause-lusd c past h = covers_all of_lusd past _ h.lawful (ap (λ (k : Kept). k.lusd.unshared) c.self.view_is
    ∙ h.lusd.unshared)
