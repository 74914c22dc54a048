use Rattle.std.proofs.Common.{◌∙◌, sym}
use Rattle.liq_follower.proofs.Tests.{tested_by, undigested}
use Rattle.liq_follower.proofs.record.test_record.Goals as goal

pub returns-then-not-has_digest-clause-tested : goal.returns-then-not-has_digest-clause-tested
returns-then-not-has_digest-clause-tested c = undigested c.args.index c.args.raw.now (sym c.has_digest.ensures
    ∙ c.if-not-has_digest.true)

pub returns-clause-tested : goal.returns-clause-tested
returns-clause-tested c = tested_by c.args.index c.args.raw.now c.decode_record.result c.decode_record.ensures.spelled
    (sym c.has_digest.ensures ∙ c.if-not-has_digest.false)
