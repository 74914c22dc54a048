-- What a deposit is worth before anything is rounded. All of it is counted in one unit from one own
-- operation to the next: a unit of the amount is the product at the mark, three scales further on.
use Rattle.std.specs.Prelude.{ℕ, ◌-◌, ◌*◌, ◌^◌, ◌==◌, ◌&&◌, nat_le, if◌then◌else◌}
use Rattle.liq_types.specs.Product.{ScaledProduct}
use Rattle.liq_types.specs.State.{PoolMark}

abbrev pub base_of : PoolMark → ℕ
base_of mark = mark.p * 10 ^ 27

-- what a number counts that stands so many scales above the mark
abbrev pub reach : ℕ → ℕ
reach j = 10 ^ (9 * (3 - j))

-- what a unit of the amount is worth now; nothing after the epoch's end and past the third scale
abbrev pub worth_of : PoolMark → ScaledProduct → ℕ
worth_of mark now =
    let rise = now.scale - mark.scale in
    if now.epoch == mark.epoch && nat_le rise 3 then now.p * reach rise else 0
