use Rattle.std.proofs.Common.{[], ◌∷◌, arith}
use Rattle.liq_fees.specs.Happened.{Put, Out, Fee, IsLawful}
use Rattle.liq_fees.specs.Kept.{IsKeptOf}
use Rattle.test_rewards.proofs.Begun.{on_ok, first_fee}
use Rattle.test_rewards.proofs.fees.a_stake_is_taken_out.Goals as goal

second_fee : IsLawful (Fee 0 4000000 ∷ Out 1 3 ∷ Fee 0 20000000 ∷ Put 2 4 ∷ Put 1 3 ∷ [])
second_fee = record {
  covered = (omega arith, tt);
  staked = (omega arith, (omega arith, (omega arith, (omega arith, (omega arith, tt)))));
  owners = (omega arith, (omega arith, (omega arith, tt)));
  coll = omega arith;
  lusd = omega arith;
  changes = omega arith;
  fees = omega arith;
}

pub share-requires-clause-lawful : goal.share-requires-clause-lawful
share-requires-clause-lawful g c =
    let one : IsKeptOf c.change.new.self (Put 1 3 ∷ []) =
    on_ok _ _ c.taken.ensures c.change.ensures.changed [] c.new-fees.ensures (omega arith) in
    let both : IsKeptOf c.change-2.new.self (Put 2 4 ∷ Put 1 3 ∷ []) =
    on_ok _ _ c.taken-2.ensures c.change-2.ensures.changed (Put 1 3 ∷ []) one (omega arith) in
    ∣ (Put 2 4 ∷ Put 1 3 ∷ [], both, first_fee) ∣₁

pub change-requires-3 : goal.change-requires-3
change-requires-3 g c =
    let one : IsKeptOf c.change.new.self (Put 1 3 ∷ []) =
    on_ok _ _ c.taken.ensures c.change.ensures.changed [] c.new-fees.ensures (omega arith) in
    let both : IsKeptOf c.change-2.new.self (Put 2 4 ∷ Put 1 3 ∷ []) =
    on_ok _ _ c.taken-2.ensures c.change-2.ensures.changed (Put 1 3 ∷ []) one (omega arith) in
    record {
      few = ∣ (
        Fee 0 20000000 ∷ Put 2 4 ∷ Put 1 3 ∷ [],
        c.share.ensures (Put 2 4 ∷ Put 1 3 ∷ []) both first_fee,
        omega arith,
      ) ∣₁;
    }

pub share-requires-2-clause-lawful : goal.share-requires-2-clause-lawful
share-requires-2-clause-lawful g c =
    let one : IsKeptOf c.change.new.self (Put 1 3 ∷ []) =
    on_ok _ _ c.taken.ensures c.change.ensures.changed [] c.new-fees.ensures (omega arith) in
    let both : IsKeptOf c.change-2.new.self (Put 2 4 ∷ Put 1 3 ∷ []) =
    on_ok _ _ c.taken-2.ensures c.change-2.ensures.changed (Put 1 3 ∷ []) one (omega arith) in
    let paid : IsKeptOf c.share.new.self (Fee 0 20000000 ∷ Put 2 4 ∷ Put 1 3 ∷ []) =
    c.share.ensures (Put 2 4 ∷ Put 1 3 ∷ []) both first_fee in
    let out : IsKeptOf c.change-3.new.self (Out 1 3 ∷ Fee 0 20000000 ∷ Put 2 4 ∷ Put 1 3 ∷ []) =
    on_ok _ _ c.taken-3.ensures c.change-3.ensures.changed _ paid (omega arith) in
    ∣ (Out 1 3 ∷ Fee 0 20000000 ∷ Put 2 4 ∷ Put 1 3 ∷ [], out, second_fee) ∣₁
