use Rattle.std.proofs.Common.{◌≡◌, sym, subst, ap, ◌∙◌, ℕ}
use Rattle.std.specs.List.{AllByRecursion}
use Rattle.liq_types.specs.declared.figures.Trove.{Trove}
use Rattle.liq_types.specs.declared.image.Image.{Image}
use Rattle.liq_ledger.specs.declared.pools.Pools.{Pools}
use Rattle.liq_types.specs.Soundness.{IsSoundImage}
use Rattle.liq_types.specs.Tables.{Table}
use Rattle.liq_troves.specs.Kept.{AreSoundRows}
use Rattle.liq_order.specs.Listed.{AreDistinct}
use Rattle.liq_order.specs.Order.{order_by, ranks}
use Rattle.liq_rule_step.proofs.AlikeReads.{sums_by}
use Rattle.liq_core.specs.Parts.{HasKey}
use Rattle.liq_core.proofs.Beginning.{have_keys, pool_sound, ranks_once, rows_sound}
use Rattle.liq_core.proofs.Images.{made_again, made_of, with_pools}
use Rattle.liq_core.proofs.image.begun.Goals as goal

pub order_of-requires-clause-keys : goal.order_of-requires-clause-keys
order_of-requires-clause-keys c =
    let i = c.args.image.now in
    subst (λ (t : Table Trove). AllByRecursion (λ (row : ℕ × Trove). HasKey row.1) t) (sym (c.deref.ensures.value
    ∙ c.in_ok-rows.ensures)) (have_keys i c.args.records c.requires)

pub order_of-requires-clause-once : goal.order_of-requires-clause-once
order_of-requires-clause-once c =
    subst (λ (t : Table Trove). AreDistinct (ranks t)) (sym (c.deref.ensures.value ∙ c.in_ok-rows.ensures))
    (ranks_once c.args.image.now.troves c.requires.tables.troves)

pub from_rows-requires : goal.from_rows-requires
from_rows-requires c = subst (λ (t : Table Trove). AreSoundRows t (sums_by c.args.image.now)) (sym c.in_ok-rows.ensures)
    (rows_sound c.args.image.now c.args.records c.requires)

pub pool_of-requires-clause-pool : goal.pool_of-requires-clause-pool
pool_of-requires-clause-pool c = pool_sound c.args.image.now c.args.records c.requires

made : (c : goal.After-pools_of)
    → with_pools (made_of c.args.image.now c.in_ok-wallets.wallets.rows c.in_ok-troves.troves.table.rows
    c.in_ok-troves.troves.sums c.in_ok-pool.pool.words c.in_ok-pool.pool.finished c.in_ok-pool.pool.deposits.rows
    c.in_ok-surplus.surplus.rows c.in_ok-clients.clients.rows) c.pools_of.result ≡ c.args.image.now
made c =
    let i = c.args.image.now in
    ap (λ (p : Pools). with_pools (made_of i c.in_ok-wallets.wallets.rows c.in_ok-troves.troves.table.rows
    c.in_ok-troves.troves.sums c.in_ok-pool.pool.words c.in_ok-pool.pool.finished c.in_ok-pool.pool.deposits.rows
    c.in_ok-surplus.surplus.rows c.in_ok-clients.clients.rows) p) c.pools_of.ensures
    ∙ made_again i c.in_ok-wallets.wallets.rows c.in_ok-troves.troves.table.rows c.in_ok-troves.troves.sums
    c.in_ok-pool.pool.words c.in_ok-pool.pool.finished c.in_ok-pool.pool.deposits.rows c.in_ok-surplus.surplus.rows
    c.in_ok-clients.clients.rows
    c.in_ok-wallets.ensures
    (c.in_ok-troves.ensures.rows ∙ c.in_ok-rows.ensures)
    c.in_ok-troves.ensures.sums
    c.in_ok-pool.ensures.words
    c.in_ok-pool.ensures.finished
    c.in_ok-pool.ensures.deposits
    c.in_ok-surplus.ensures
    c.in_ok-clients.ensures

pub invariant_of-result : goal.invariant_of-result
invariant_of-result c =
    record {
      image = subst (λ (i : Image). IsSoundImage i c.args.records) (sym (made c)) c.requires;
      order = c.in_ok-order.ensures ∙ ap order_by (c.deref.ensures.value ∙ c.in_ok-rows.ensures
          ∙ sym (c.in_ok-troves.ensures.rows ∙ c.in_ok-rows.ensures));
    }

pub returns-clause-image : goal.returns-clause-image
returns-clause-image c = made c
