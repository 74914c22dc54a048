-- Two stakes and the first fee, with which both tests begin.
use Rattle.std.proofs.Common.{◌≡◌, [], ◌∷◌, Result, Ok, Err, arith}
use Rattle.std.specs.Prelude.{OnOk}
use Rattle.liq_fees.specs.Happened.{Put, Fee, IsLawful}

pub on_ok : {A E P : Type 0} (r : Result A E) (x : A) → r ≡ Ok x → OnOk r P → P
on_ok (Ok y) x e h = h
on_ok (Err f) x e h = absurd cc

pub first_fee : IsLawful (Fee 0 20000000 ∷ Put 2 4 ∷ Put 1 3 ∷ [])
first_fee = record {
  covered = tt;
  staked = (omega arith, (omega arith, (omega arith, tt)));
  owners = (omega arith, (omega arith, tt));
  coll = omega arith;
  lusd = omega arith;
  changes = omega arith;
  fees = omega arith;
}
