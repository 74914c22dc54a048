-- The state that begins with an image has that image.
use Rattle.std.proofs.Common.{◌≡◌, ℕ, ◌+◌, ◌-◌, cond, [], ◌∷◌, refl, ap, sym, ◌∙◌, arith}
use Rattle.std.specs.Prelude.{unwrap_or}
use Rattle.std.specs.Map.{lookup}
use Rattle.liq_types.specs.declared.figures.Trove.{Trove}
use Rattle.liq_types.specs.declared.figures.Deposit.{Deposit}
use Rattle.liq_types.specs.declared.image.Image.{Image}
use Rattle.liq_types.specs.Product.{is_place}
use Rattle.liq_types.specs.State.{started, started_trove, started_deposit}
use Rattle.liq_types.specs.Tables.{Table, map_rows}
use Rattle.liq_troves.specs.StakeSums.{trove_row}
use Rattle.liq_stability.specs.Position.{deposit_row}
use Rattle.liq_rule_step.specs.Image.{image}
use Rattle.liq_types.specs.WellFormed.{IsWellFormed, AreFinished, TrovesAreMarked, DepositsAreMarked, stakes_in}
use Rattle.liq_types.proofs.MapRows.{map-sum}
use Rattle.liq_types.proofs.Places.{is_place-itself}

troves-back : (i : Image) (table : Table Trove)
    → map_rows (trove_row (started i)) (map_rows started_trove table) ≡ table
troves-back i [] = refl
troves-back i (row ∷ rows) = ap (λ (rest : Table Trove). row ∷ rest) (troves-back i rows)

deposits-back : (i : Image) (table : Table Deposit)
    → map_rows (deposit_row (started i)) (map_rows started_deposit table) ≡ table
deposits-back i [] = refl
deposits-back i (row ∷ rows) = ap (λ (rest : Table Deposit). row ∷ rest) (deposits-back i rows)

troves-marked : (n : ℕ) (table : Table Trove) → TrovesAreMarked n (map_rows started_trove table)
troves-marked n [] = tt
troves-marked n (row ∷ rows) = (tt, troves-marked n rows)

deposits-marked : (n : ℕ) (table : Table Deposit) → DepositsAreMarked n (map_rows started_deposit table)
deposits-marked n [] = tt
deposits-marked n (row ∷ rows) = (tt, deposits-marked n rows)

pub started_formed : (i : Image) → AreFinished i → IsWellFormed (started i)
started_formed i f = (f, troves-marked 0 i.troves, deposits-marked 0 i.deposits, (omega arith, omega arith))

abbrev numbers : Image → ℕ → ℕ → ℕ → ℕ → ℕ → Image
numbers i coll debt sum total pool_coll = record i {
  sum_coll = coll;
  sum_debt = debt;
  sum = sum;
  total = total;
  pool_coll = pool_coll;
}

plus_none : (n : ℕ) → n + 0 ≡ n
plus_none n = omega arith

none_moved : (n : ℕ) → n + 0 - 0 - 0 ≡ n
none_moved n = omega arith

none_paid : (n : ℕ) → n + 0 - 0 ≡ n
none_paid n = omega arith

pub started_image : (i : Image) → i.stakes ≡ stakes_in i → image (started i) ≡ i
started_image i e =
    let made = image (started i) in
    let here = ap (λ b. cond b i.sum (unwrap_or (lookup (is_place (i.epoch, i.scale)) i.finished) 0) + 0)
    (is_place-itself (i.epoch, i.scale)) in
    ap (λ (rows : Table Trove). record made { troves = rows }) (troves-back i i.troves)
    ∙ ap (λ (rows : Table Deposit). record made { troves = i.troves; deposits = rows }) (deposits-back i i.deposits)
    ∙ ap (λ n. record made { troves = i.troves; deposits = i.deposits; stakes = n }) (map-sum started_trove
    (λ t. t.stake) i.troves ∙ sym e)
    ∙ ap (λ n. numbers i n made.sum_debt made.sum made.total made.pool_coll) (plus_none i.sum_coll)
    ∙ ap (λ n. numbers i i.sum_coll n made.sum made.total made.pool_coll) (plus_none i.sum_debt)
    ∙ ap (λ n. numbers i i.sum_coll i.sum_debt n made.total made.pool_coll) (here ∙ plus_none i.sum)
    ∙ ap (λ n. numbers i i.sum_coll i.sum_debt i.sum n made.pool_coll) (none_moved i.total)
    ∙ ap (λ n. numbers i i.sum_coll i.sum_debt i.sum i.total n) (none_paid i.pool_coll)
