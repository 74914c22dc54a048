-- How the cells change when a node comes into the list, and when one goes.
use Rattle.std.specs.Prelude.{◌≡◌, List, [], ◌∷◌, ◌++◌, Some}
use Rattle.liq_order.specs.declared.cells.Cells.{Cells}
use Rattle.liq_order.specs.declared.places.Node.{Node}
use Rattle.liq_order.specs.declared.places.NodeNo.{NodeNo}
use Rattle.liq_order.specs.Nodes.{Spot, IsSettled, with_next, with_previous, end_or}

-- The node comes to a place, and what is beside it points to that.
pub record IsLinked (old : Cells) (node : Node) (at : NodeNo) (new : Cells) : Type 0 where
  pub settled : List Node
  pub settles : IsSettled old.nodes.items old.free.items node at settled new.free.items
  pub joins :
      new.nodes.items
      ≡ with_previous (with_next settled node.previous (Some at)) node.next (Some at)
  pub first_is : new.first ≡ end_or node.previous old.first (Some at)
  pub last_is : new.last ≡ end_or node.next old.last (Some at)

-- What is beside the place's node points past it, and the place is free.
pub record IsUnlinked (old : Cells) (at : NodeNo) (previous next : Spot) (new : Cells) :
    Type 0 where
  pub frees : new.free.items ≡ old.free.items ++ at ∷ []
  pub joins :
      new.nodes.items ≡ with_previous (with_next old.nodes.items previous next) next previous
  pub first_is : new.first ≡ end_or previous old.first next
  pub last_is : new.last ≡ end_or next old.last previous
