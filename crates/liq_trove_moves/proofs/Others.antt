-- What a move of a trove leaves of the other pools.
use Rattle.std.proofs.Common.{◌≡◌, ap}
use Rattle.liq_ledger.specs.declared.pools.Pools.{Pools}
use Rattle.liq_troves.specs.Standing.{Books}
use Rattle.liq_trove_moves.specs.Books.{SameOthers, pools_with}

pub others_of : (old new : Pools) (b : Books) → new ≡ pools_with old b → SameOthers old new
others_of old new b h =
    record {
      reserve = ap (λ (p : Pools). p.reserve) h;
      surplus = ap (λ (p : Pools). p.surplus) h;
      fee_coll = ap (λ (p : Pools). p.fee_coll) h;
      fee_lusd = ap (λ (p : Pools). p.fee_lusd) h;
    }
