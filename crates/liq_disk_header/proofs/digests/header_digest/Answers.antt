use Rattle.std.proofs.Common.{◌≡◌, ◌++◌, ◌∙◌, []}
use Rattle.sha2.specs.Sha256.{sha256}
use Rattle.liq_disk_header.proofs.Hashed.{header_digest_is}
use Rattle.liq_disk_header.proofs.digests.header_digest.Goals as goal

pub returns : goal.returns
returns c =
    let whole : c.finalize.result ≡ sha256 (c.args.fields.now ++ c.args.checkpoint.now) =
    c.finalize.ensures _ (c.update-2.ensures _ (c.update.ensures [] c.new-hasher.ensures)) in
    whole ∙ header_digest_is c.args.fields.now c.args.checkpoint.now
