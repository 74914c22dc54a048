use Rattle.std.proofs.Common.{◌+◌, ◌≤◌, List, arith, sym, subst}
use Rattle.std.proofs.Math.Logic.{∥∥₁_map}
use Rattle.liq_fees.specs.Happened.{Happened, IsLawful}
use Rattle.liq_fees.specs.Kept.{IsKeptOf}
use Rattle.liq_text_staking.proofs.Sharing.{some_shared}
use Rattle.liq_text_staking.proofs.answering.share.Goals as goal

pub share-requires-clause-lawful : goal.share-requires-clause-lawful
share-requires-clause-lawful c =
    let some : 1 ≤ c.args.fee.0 + c.args.fee.1 = omega arith in
    ∥∥₁_map c.requires (λ k. (k.0, k.1, subst IsLawful (some_shared k.0 c.args.fee some) k.2))

pub returns : goal.returns
returns c past h lawful =
    let some : 1 ≤ c.args.fee.0 + c.args.fee.1 = omega arith in
    let same = some_shared past c.args.fee some in
    subst (λ (p : List Happened). IsKeptOf c.share.new.self p) (sym same) (c.share.ensures past h
    (subst IsLawful same lawful))
