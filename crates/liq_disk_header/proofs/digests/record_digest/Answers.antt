use Rattle.std.proofs.Common.{◌≡◌, ◌++◌, ◌∙◌, [], List, ℕ, ap}
use Rattle.byteorder.specs.Endian.{big_bytes}
use Rattle.sha2.specs.Sha256.{sha256}
use Rattle.liq_disk_header.proofs.Hashed.{record_digest_is}
use Rattle.liq_disk_header.proofs.digests.record_digest.Goals as goal

pub returns : goal.returns
returns c =
    let whole : c.finalize.result ≡ sha256 (c.number.result ++ c.number-2.result ++ c.args.body.now) =
    c.finalize.ensures _ (c.update-3.ensures _ (c.update-2.ensures _ (c.update.ensures [] c.new-hasher.ensures))) in
    whole ∙ ap (λ (l : List ℕ). sha256 (l ++ c.number-2.result ++ c.args.body.now)) c.number.ensures
    ∙ ap (λ (l : List ℕ). sha256 (big_bytes 8 c.args.generation ++ l ++ c.args.body.now)) c.number-2.ensures
    ∙ record_digest_is c.args.generation c.args.index c.args.body.now
