use Rattle.std.proofs.Common.{◌≡◌, ◌+◌, drop, fold, length}
use Rattle.std.specs.Prelude.{count_by}
use Rattle.std.specs.List.{AllByRecursion}
use Rattle.liq_redemption.specs.declared.cut.Cut.{Cut}
use Rattle.liq_redemption.specs.Given.{HasRoomToClose}
use Rattle.liq_redemption.specs.Parts.{parts_of, cut_parts}
use Rattle.liq_redemption.proofs.Cutting.{CutsFit}
use Rattle.liq_redemption.proofs.Stepping.{CloseButLast, Spent}
use Rattle.liq_redemption.proofs.applying.apply.Given as goal

abbrev pub invariant-loop-cut : goal.invariant-loop-cut
invariant-loop-cut g l = record {
  parts : fold cut_parts (parts_of l.pools l.surplus l.troves l.order) (drop l.cut-index l.cut-items)
      ≡ fold cut_parts (parts_of l.fn.pools l.fn.surplus l.fn.troves l.fn.order) l.fn.plan.cuts;
  fit : CutsFit (parts_of l.pools l.surplus l.troves l.order) (drop l.cut-index l.cut-items);
  claims : AllByRecursion (HasRoomToClose l.fn.surplus) (drop l.cut-index l.cut-items);
  surplus_room : l.surplus.room ≡ l.fn.surplus.room;
  trove_room : l.troves.table.room ≡ l.fn.troves.table.room;
  order_room : l.order.room + count_by (λ (cut : Cut). cut.full) (drop l.cut-index l.cut-items)
      ≡ l.fn.order.room + count_by (λ (cut : Cut). cut.full) l.fn.plan.cuts;
  close : CloseButLast (drop l.cut-index l.cut-items);
  spent : Spent l.fn.plan.cuts (drop l.cut-index l.cut-items) l.fn.hint (length l.fn.order.entries) l.order.entries
      l.fn.steps l.steps;
}
