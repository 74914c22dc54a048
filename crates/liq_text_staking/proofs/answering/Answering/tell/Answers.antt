use Rattle.std.proofs.Common.{ℕ, ap, ◌∙◌}
use Rattle.std.proofs.Math.Logic.{∥∥₁_map}
use Rattle.liq_text_staking.proofs.Answered.{can_share_last, last_past, told_last}
use Rattle.liq_text_staking.proofs.Sharing.{part_lawful, part_shared}
use Rattle.liq_text_staking.proofs.answering.Answering.tell.Goals as goal

pub share_all-requires : goal.share_all-requires
share_all-requires c = ∥∥₁_map c.requires.way (λ k. (
  k.0.past,
  k.1.fees,
  part_lawful k.0.past _ _ c.fees_between.ensures
      (can_share_last c.args.fees.now c.args.self k.0 k.1 k.2 c.requires.fees),
))

pub returns : goal.returns
returns c a h way =
    let fees = c.args.fees.now in
    let past = last_past fees c.args.self a h in
    let kept = part_shared c.share_all.new.kept a.past _ _ c.fees_between.ensures
    (can_share_last fees c.args.self a h way c.requires.fees) (c.share_all.ensures a.past h.fees) in
    let pots = c.unshared-coll.ensures.unshared past kept in
    told_last fees c.args.self a h c.put_rows.new.text.items c.append_line.new.text.items c.from.result c.from-2.result
    (c.in_ok-put_rows.ensures past kept) c.in_ok-append_line.ensures (c.from.ensures ∙ ap (λ (p : ℕ × ℕ). p.0) pots)
    (c.from-2.ensures ∙ ap (λ (p : ℕ × ℕ). p.1) pots)
