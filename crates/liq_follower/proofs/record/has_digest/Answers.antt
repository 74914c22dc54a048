use Rattle.std.proofs.Common.{◌∙◌, ap, drop, rules}
use Rattle.std.specs.Str.{bytes_eq}
use Rattle.liq_disk_header.specs.RecordDigest.{record_digest}
use Rattle.liq_follower.proofs.Tests.{stored}
use Rattle.liq_follower.proofs.record.has_digest.Goals as goal

pub returns : goal.returns
returns c =
    c.eq.ensures ∙ stored c.args.raw.now c.as_slice.result.now (search rules)
    ∙ ap (bytes_eq (drop 96 c.args.raw.now)) (c.as_slice.ensures ∙ c.record_digest.ensures
    ∙ ap (record_digest 1 c.args.index) c.body_of.ensures)
