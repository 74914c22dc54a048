use Rattle.std.proofs.Common.{[], ◌∷◌, arith}
use Rattle.liq_fees.specs.Happened.{Put, Fee}
use Rattle.liq_fees.specs.Kept.{IsKeptOf}
use Rattle.test_rewards.proofs.Begun.{on_ok, first_fee}
use Rattle.test_rewards.proofs.fees.a_fee_is_shared.Goals as goal

pub share-requires-clause-lawful : goal.share-requires-clause-lawful
share-requires-clause-lawful c g =
    let one : IsKeptOf g.change.new.self (Put 1 3 ∷ []) =
    on_ok _ _ g.taken.ensures g.change.ensures.changed [] g.new-fees.ensures (omega arith) in
    let both : IsKeptOf g.change-2.new.self (Put 2 4 ∷ Put 1 3 ∷ []) =
    on_ok _ _ g.taken-2.ensures g.change-2.ensures.changed (Put 1 3 ∷ []) one (omega arith) in
    ∣ (Put 2 4 ∷ Put 1 3 ∷ [], both, first_fee) ∣₁

pub change-refused-requires : goal.change-refused-requires
change-refused-requires c g =
    let one : IsKeptOf g.change.new.self (Put 1 3 ∷ []) =
    on_ok _ _ g.taken.ensures g.change.ensures.changed [] g.new-fees.ensures (omega arith) in
    let both : IsKeptOf g.change-2.new.self (Put 2 4 ∷ Put 1 3 ∷ []) =
    on_ok _ _ g.taken-2.ensures g.change-2.ensures.changed (Put 1 3 ∷ []) one (omega arith) in
    record {
      few = ∣ (
        Fee 0 20000000 ∷ Put 2 4 ∷ Put 1 3 ∷ [],
        g.share.ensures (Put 2 4 ∷ Put 1 3 ∷ []) both first_fee,
        omega arith,
      ) ∣₁;
    }
