use Rattle.std.proofs.Common.{List, ℕ, ◌++◌, Ok, ap, ◌∙◌, append-nil, arith}
use Rattle.byteorder.specs.Endian.{big_bytes}
use Rattle.liq_checkpoint.proofs.Images.{is_found}
use Rattle.liq_market.specs.Saving.{digest, name}
use Rattle.liq_market.proofs.Loading.{save_is}
use Rattle.liq_market.proofs.Opening.{told_put}
use Rattle.liq_market.proofs.saving.save_of.Goals as goal

pub returns : goal.returns
returns c = λ i read.
    let records = c.args.records in
    let checkpoint = c.args.checkpoint.now in
    let one = c.in_ok-extend_from_slice.ensures.items ∙ ap (λ (l : List ℕ). l ++ name) c.new-bytes.ensures.items in
    let number = c.write_u64.ensures ∙ append-nil (big_bytes 8 records) in
    let two = c.in_ok-extend_from_slice-2.ensures.items ∙ (λ k. one k ++ number k) in
    let three = c.in_ok-extend_from_slice-3.ensures.items ∙ ap (λ (l : List ℕ). l ++ checkpoint) two in
    let told = three ∙ told_put records checkpoint in
    let sum = c.digest_of-digest.ensures ∙ ap digest (c.deref.ensures.value ∙ told) in
    let found = is_found checkpoint (Ok i) (λ k. omega (arith, c.type_inv.checkpoint k)) read in
    save_is _ records checkpoint i found.0 (omega (arith, c.well_formed))
    (c.in_ok-extend_from_slice-4.ensures.items ∙ (λ k. told k ++ sum k)) found.1
