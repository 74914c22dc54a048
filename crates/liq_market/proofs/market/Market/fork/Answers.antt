use Rattle.std.proofs.Common.{◌≡◌, ℕ, Some, None, Err, ap, sym, subst, ◌∙◌}
use Rattle.liq_types.specs.Soundness.{first_unsound}
use Rattle.liq_core.specs.Core.{Core, SameContent}
use Rattle.liq_market.specs.Content.{Content}
use Rattle.liq_market.proofs.Forking.{same_content}
use Rattle.liq_market.proofs.market.Market.fork.Goals as goal

pub returns-in-Ok-clause-same : goal.returns-in-Ok-clause-same
returns-in-Ok-clause-same c =
    let old = c.protocol-protocol.result.now in
    let new = c.protocol.result.now in
    let old_is : old ≡ c.args.self.now.core =
    c.protocol-protocol.ensures ∙ ap (λ (m : Content). m.core) c.self.view_is in
    let new_is : new ≡ c.in-Ok.fork.core = c.protocol.ensures ∙ ap (λ (m : Content). m.core) c.fork.view_is in
    let image : new.image ≡ old.image =
    ap (λ (k : Core). k.image) new_is ∙ c.in-Ok.ensures.image ∙ c.in_ok-image.ensures.image in
    let records : new.records ≡ old.records =
    ap (λ (k : Core). k.records) new_is ∙ c.in-Ok.ensures.records ∙ c.records.ensures in
    let same = same_content old new image records c.protocols_stand.ensures
    c.lists_stand.ensures c.lists_stand-in-Ok.ensures in
    subst (λ (k : Core). SameContent k c.in-Ok.fork.core) old_is (subst (λ (k : Core). SameContent old k) new_is same)

clash : {rule : ℕ} → Some rule ≡ None → ⊥
clash e = cc

pub unreachable-requires : goal.unreachable-requires
unreachable-requires c =
    let broken = (c.in-Err-Unsound.ensures.unsound c.in-Err-Unsound.field-0-0).0
    (λ k. Err (c.in-Err-Unsound.field-0-is k)) in
    let sound = (λ k. first_unsound (c.in_ok-image.ensures.image k) (c.records.ensures k))
    ∙ c.protocols_are_sound.ensures.rules in
    clash (sym broken ∙ sound)
