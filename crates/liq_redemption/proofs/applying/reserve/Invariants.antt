use Rattle.std.proofs.Common.{◌≡◌, take}
use Rattle.std.specs.List.{AllByRecursion}
use Rattle.liq_tables.specs.WithRoom.{KeepsRoom}
use Rattle.liq_redemption.specs.Given.{HasRoomToClose}
use Rattle.liq_redemption.proofs.applying.reserve.Given as goal

abbrev pub invariant-loop-cut : goal.invariant-loop-cut
invariant-loop-cut l = record {
  rows : l.surplus.rows ≡ l.fn.surplus.rows;
  kept : KeepsRoom l.fn.surplus l.surplus;
  room : AllByRecursion (HasRoomToClose l.surplus) (take l.cut-index l.cut-items);
}
