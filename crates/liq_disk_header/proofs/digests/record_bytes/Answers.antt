use Rattle.std.proofs.Common.{◌∙◌, ap, List, ℕ, ◌+◌, ◌++◌, ◌∷◌, [], length, take, drop, rules}
use Rattle.liq_disk_header.proofs.Hashed.{record_is}
use Rattle.liq_disk_header.proofs.digests.record_bytes.Goals as goal

pub returns : goal.returns
returns c =
    c.put-2.ensures ∙ ap (λ (l : List ℕ). take 96 l ++ c.record_digest.result
    ++ drop (96 + length c.record_digest.result) l) c.put.ensures
    ∙ record_is c.args.body.now c.record_digest.result (search rules) (search rules)
    ∙ ap (λ (d : List ℕ). (c.args.body.now ++ d) ++ 0 ∷ []) c.record_digest.ensures
