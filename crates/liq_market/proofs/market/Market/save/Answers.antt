use Rattle.std.proofs.Common.{◌≡◌, ℕ, length, ap, subst, ◌∙◌}
use Rattle.liq_types.specs.declared.image.Image.{Image}
use Rattle.liq_checkpoint.specs.Reading.{image_at}
use Rattle.liq_core.specs.Core.{Core}
use Rattle.liq_market.specs.Content.{Content}
use Rattle.liq_market.specs.Saving.{IsSave}
use Rattle.liq_market.proofs.Loading.{if_ok}
use Rattle.liq_market.proofs.market.Market.save.Goals as goal

pub returns : goal.returns
returns c =
    let core = c.args.self.now.core in
    let is : c.protocol-protocol.result.now ≡ core =
    c.protocol-protocol.ensures ∙ ap (λ (m : Content). m.core) c.self.view_is in
    let image : c.in_ok-image.image ≡ core.image =
    c.in_ok-image.ensures.image ∙ ap (λ (k : Core). k.image) is in
    let records : c.records.result ≡ core.records = c.records.ensures ∙ ap (λ (k : Core). k.records) is in
    let same = c.deref.ensures.value in
    let read = (λ k. image_at (length (same k)) (same k)) ∙ c.in_ok-checkpoint.ensures.read in
    if_ok c.save_of.result
    (λ bytes saves.
    subst (λ (n : ℕ). IsSave bytes.items core.image n) records
    (subst (λ (i : Image). IsSave bytes.items i c.records.result) image (saves c.in_ok-image.image read)))
    c.save_of.ensures
