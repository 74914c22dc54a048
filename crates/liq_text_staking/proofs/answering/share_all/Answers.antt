use Rattle.std.proofs.Common.{sym, subst, take}
use Rattle.std.specs.Prelude.{fold}
use Rattle.std.proofs.lemmas.List.Sums.{fold_more}
use Rattle.std.proofs.Math.Logic.{∥∥₁_map}
use Rattle.liq_fees.specs.Kept.{IsKeptOf}
use Rattle.liq_text_staking.specs.Asked.{shared}
use Rattle.liq_text_staking.proofs.Sharing.{one_more_lawful}
use Rattle.liq_text_staking.proofs.answering.share_all.Goals as goal

pub share-requires : goal.share-requires
share-requires c =
    let fees = c.args.fees.now in
    let i = c.loop-fee.fee-index in
    ∥∥₁_map c.requires (λ k. (
      fold shared k.0 (take i fees),
      c.loop-fee.invariant k.0 k.1 k.2,
      one_more_lawful fees k.0 i _ c.loop-fee-test.true k.2,
    ))

pub loop-fee-preserved : goal.loop-fee-preserved
loop-fee-preserved c past h lawful =
    let fees = c.args.fees.now in
    let i = c.loop-fee.fee-index in
    let more = one_more_lawful fees past i _ c.loop-fee-test.true lawful in
    subst (IsKeptOf c.share.new.kept) (sym (fold_more shared past fees i _ c.loop-fee-test.true))
    (c.share.ensures (fold shared past (take i fees)) (c.loop-fee.invariant past h lawful) more)
