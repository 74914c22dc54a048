use Rattle.std.proofs.Common.{◌≡◌, ◌++◌, List, ℕ, subst, ◌∙◌}
use Rattle.liq_checkpoint.specs.Spelling.{Puts, contents, name}
use Rattle.liq_checkpoint.proofs.Putting.{Puts-then}
use Rattle.liq_checkpoint.proofs.encoding.write_image.Goals as goal

pub returns : goal.returns
returns c =
    let start : c.extend_from_slice.new.self.items ≡ name c.args.image.now.limit =
    c.in_ok-extend_from_slice.ensures.items ∙ (λ i. c.in_ok-out.ensures.items i ++ c.name.ensures i) in
    subst (λ (bytes : List ℕ). Puts bytes c.put_tables.new.out.items (contents c.args.image.now)) start
    (Puts-then c.in_ok-put_words.ensures c.in_ok-put_tables.ensures)
