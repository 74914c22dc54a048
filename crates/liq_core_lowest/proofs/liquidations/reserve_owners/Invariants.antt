use Rattle.std.proofs.Common.{◌≡◌, take}
use Rattle.std.specs.List.{AllByRecursion}
use Rattle.liq_tables.specs.WithRoom.{HasRoom, KeepsRoom}
use Rattle.liq_liquidation.specs.declared.one.Victim.{Victim}
use Rattle.liq_core_lowest.proofs.liquidations.reserve_owners.Given as goal

abbrev pub invariant-loop-victim : goal.invariant-loop-victim
invariant-loop-victim l = record {
  rows : l.surplus.rows ≡ l.fn.surplus.rows;
  kept : KeepsRoom l.fn.surplus l.surplus;
  room : AllByRecursion (λ (v : Victim). HasRoom l.surplus v.account) (take l.victim-index l.victims);
}
