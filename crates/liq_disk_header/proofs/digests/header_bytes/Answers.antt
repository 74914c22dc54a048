use Rattle.std.proofs.Common.{◌≡◌, ◌∙◌, ap, List, ℕ, ◌+◌, ◌++◌, length, take, drop, rules}
use Rattle.liq_disk_header.specs.Layout.{fields_of, header_digest, version_2}
use Rattle.liq_disk_header.proofs.Hashed.{header_is}
use Rattle.liq_disk_header.proofs.digests.header_bytes.Goals as goal

pub returns : goal.returns
returns c =
    let fields : c.header_fields-fields.result ≡ fields_of version_2 c.args.generation (length c.args.checkpoint.now) =
    c.header_fields-fields.ensures in
    c.put-2.ensures ∙ ap (λ (l : List ℕ). take 32 l ++ c.header_digest.result
    ++ drop (32 + length c.header_digest.result) l) c.put.ensures
    ∙ header_is c.header_fields-fields.result c.header_digest.result (search rules) (search rules)
    ∙ ap (λ (d : List ℕ). c.header_fields-fields.result ++ d) c.header_digest.ensures
    ∙ ap (λ (l : List ℕ). l ++ header_digest l c.args.checkpoint.now) fields
