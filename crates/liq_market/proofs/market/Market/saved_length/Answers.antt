use Rattle.std.proofs.Common.{◌≡◌, ap, subst, ◌∙◌, arith}
use Rattle.std.proofs.lemmas.List.{length-append}
use Rattle.liq_types.specs.Length.{checkpoint_length}
use Rattle.liq_types.specs.Soundness.{HasTables}
use Rattle.liq_checkpoint.specs.Spelling.{spelling}
use Rattle.liq_checkpoint.proofs.Lengths.{spelling_is_long}
use Rattle.liq_core.specs.Core.{Core}
use Rattle.liq_market.specs.Content.{Content}
use Rattle.liq_market.specs.Saving.{digest, told_with}
use Rattle.liq_market.proofs.Opening.{length-digest, length-told}
use Rattle.liq_market.proofs.market.Market.saved_length.Goals as goal

pub returns : goal.returns
returns c =
    let core = c.args.self.now.core in
    let told = told_with core.records (spelling core.image) in
    let is : c.protocol-protocol.result.now ≡ core =
    c.protocol-protocol.ensures ∙ ap (λ (m : Content). m.core) c.self.view_is in
    let tables = subst (λ (k : Core). HasTables k.image) is c.protocols_are_sound.ensures.tables in
    let all = length-append told (digest told) in
    let sum = length-digest told in
    let front = length-told core.records (spelling core.image) in
    let long = spelling_is_long core.image tables in
    let same = c.checkpoint_length.ensures.length ∙ ap (λ (k : Core). checkpoint_length k.image) is in
    omega (arith, all, sum, front, long, same)
