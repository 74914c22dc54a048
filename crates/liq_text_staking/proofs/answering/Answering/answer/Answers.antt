use Rattle.std.proofs.Common.{◌<◌, List, Result, Ok, Err, sym, subst}
use Rattle.std.specs.Prelude.{OnOk}
use Rattle.std.proofs.Math.Logic.{∥∥₁_map}
use Rattle.liq_fees.specs.Happened.{Happened}
use Rattle.liq_fees.specs.declared.changes.TheConstants.{CHANGES_MOST}
use Rattle.liq_text_staking.specs.Answering.{IsAsked}
use Rattle.liq_text_staking.specs.Asked.{Asked}
use Rattle.liq_text_staking.proofs.Answered.{answered_in, can_share, keys_now, now_past, same_count}
use Rattle.liq_text_staking.proofs.Sharing.{part_lawful, part_shared}
use Rattle.liq_text_staking.proofs.answering.Answering.answer.Goals as goal

pub share_all-requires : goal.share_all-requires
share_all-requires c =
    ∥∥₁_map c.requires.few (λ k. (
      k.0.past,
      k.1.fees,
      part_lawful k.0.past _ _ c.fees_between.ensures (can_share c.args.fees.now c.args.self.now k.0 c.args.line.now k.1
          c.if-line-self.false c.if-most-line.false k.2 c.requires.fees),
    ))

pub change-requires : goal.change-requires
change-requires c = record {
  few = ∥∥₁_map c.requires.few (λ k. (
    now_past c.args.fees.now c.args.self.now k.0 c.args.line.now k.1,
    part_shared c.share_all.new.kept k.0.past _ _ c.fees_between.ensures (can_share c.args.fees.now c.args.self.now k.0
        c.args.line.now k.1 c.if-line-self.false c.if-most-line.false k.2 c.requires.fees)
        (c.share_all.ensures k.0.past k.1.fees),
    subst (λ n. n < CHANGES_MOST) (sym (same_count c.args.fees.now c.args.self.now k.0 c.args.line.now k.1)) k.3,
  ));
}

pub returns : goal.returns
returns c =
    by c.change.result
    (λ changed a h way few.
    let lawful = can_share c.args.fees.now c.args.self.now a c.args.line.now h c.if-line-self.false c.if-most-line.false
    way c.requires.fees in
    let past : List Happened = now_past c.args.fees.now c.args.self.now a c.args.line.now h in
    let next : Asked = record a { past = past } in
    subst (IsAsked c.change.new.self) (answered_in c.args.fees.now c.args.self.now a c.args.line.now h
    c.if-line-self.false c.if-most-line.false)
    (changed next (record {
      fees = part_shared c.share_all.new.kept a.past _ _ c.fees_between.ensures lawful
          (c.share_all.ensures a.past h.fees);
      stakers = keys_now c.args.fees.now c.args.self.now a c.args.line.now h;
      least = h.least;
      text = h.text;
    })
    (subst (λ n. n < CHANGES_MOST) (sym (same_count c.args.fees.now c.args.self.now a c.args.line.now h)) few)))
    c.change.ensures.asked where
      by : {T E : Type 0} {P Q : Type 0} (r : Result T E) → (P → Q) → OnOk r P → OnOk r Q
      by (Ok x) f h = f h
      by (Err e) f h = h
