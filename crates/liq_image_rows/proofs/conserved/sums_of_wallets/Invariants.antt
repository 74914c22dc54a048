use Rattle.std.proofs.Common.{◌≡◌, map, take}
use Rattle.std.specs.Prelude.{sum_by}
use Rattle.std.specs.Map.{values_of}
use Rattle.liq_types.specs.ImageRows.{wallet_row}
use Rattle.liq_types.specs.declared.figures.Wallet.{Wallet}
use Rattle.liq_image_rows.specs.Capped.{capped}
use Rattle.liq_image_rows.proofs.conserved.sums_of_wallets.Given as goal

abbrev pub invariant-loop-row : goal.invariant-loop-row
invariant-loop-row l = record {
  coll : l.coll ≡ capped (sum_by (λ (w : Wallet). w.coll) (values_of (map wallet_row (take l.row-index l.rows))));
  lusd : l.lusd ≡ capped (sum_by (λ (w : Wallet). w.lusd) (values_of (map wallet_row (take l.row-index l.rows))));
}
