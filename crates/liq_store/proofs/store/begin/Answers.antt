use Rattle.std.proofs.Common.{◌≡◌, ◌∙◌, inl, inr, IfSome, false, true, sym, ap, subst}
use Rattle.liq_outside.specs.At.{DiskAt}
use Rattle.liq_journal.specs.Opened.{IsUnshut}
use Rattle.liq_journal.specs.Written.{Absent, found_on}
use Rattle.liq_disk_pair.specs.declared.side.Side.{Side}
use Rattle.liq_disk_pair.specs.declared.side.Side.TheVariants.{Left, Right}
use Rattle.liq_disk_pair.specs.Sides.{has_odd, other}
use Rattle.liq_store.specs.declared.standing.Stood.{Stood}
use Rattle.liq_store.specs.Beginning.{IsStoodOn}
use Rattle.liq_store.specs.Judging.{disk_of}
use Rattle.liq_store.specs.Stored.{Stored, disk_beside}
use Rattle.liq_store.proofs.Beginning.{later_than}
use Rattle.liq_store.proofs.store.begin.Goals as goal

-- what is said by the side that goes on is so by the store's
shut_beside : {D : Type 0} (at : D → DiskAt) (store : Stored D) (side : Side) → store.side ≡ side
    → IfSome (at (disk_beside store)).seen (λ now. found_on (has_odd (other side)) now ≡ Absent → IsUnshut now → ⊥)
    → IfSome (at (disk_beside store)).seen (λ now. found_on (has_odd (other store.side)) now ≡ Absent
    → IsUnshut now → ⊥)
shut_beside at store side same shut =
    subst (λ (x : Side). IfSome (at (disk_beside store)).seen (λ now. found_on (has_odd (other x)) now ≡ Absent
    → IsUnshut now → ⊥)) (sym same) shut

pub go_on-requires : goal.go_on-requires
go_on-requires g c = record {
  taken = subst (λ (d : Stood g.row.D.Denot). IsStoodOn g.D.Disk.at false d) c.in-Holding-right.is c.requires.right;
  aside = subst (λ (d : Stood g.row.D.Denot). IsStoodOn g.D.Disk.at true d) c.in-Nothing.is c.requires.left;
  earlier = tt;
}

pub go_on-requires-in-Nothing-right-2 : goal.go_on-requires-in-Nothing-right-2
go_on-requires-in-Nothing-right-2 g c = record {
  taken = subst (λ (d : Stood g.row.D.Denot). IsStoodOn g.D.Disk.at true d) c.in-Holding.is c.requires.left;
  aside = subst (λ (d : Stood g.row.D.Denot). IsStoodOn g.D.Disk.at false d) c.in-Nothing-right-2.is c.requires.right;
  earlier = tt;
}

pub go_on-requires-in-Right : goal.go_on-requires-in-Right
go_on-requires-in-Right g c =
    let left = subst (λ (d : Stood g.row.D.Denot). IsStoodOn g.D.Disk.at true d) c.in-Holding.is c.requires.left in
    let right = subst (λ (d : Stood g.row.D.Denot). IsStoodOn g.D.Disk.at false d) c.in-Holding-right-2.is
    c.requires.right in
    record {
      taken = right;
      aside = left;
      earlier = later_than c.in-Holding.taken c.in-Holding-right-2.other c.in-Holding.protocol
          c.in-Holding-right-2.later Right left.counted right.counted (sym c.later_side.ensures ∙ c.in-Right.is);
    }

pub go_on-requires-in-Left : goal.go_on-requires-in-Left
go_on-requires-in-Left g c =
    let left = subst (λ (d : Stood g.row.D.Denot). IsStoodOn g.D.Disk.at true d) c.in-Holding.is c.requires.left in
    let right = subst (λ (d : Stood g.row.D.Denot). IsStoodOn g.D.Disk.at false d) c.in-Holding-right-2.is
    c.requires.right in
    record {
      taken = left;
      aside = right;
      earlier = later_than c.in-Holding.taken c.in-Holding-right-2.other c.in-Holding.protocol
          c.in-Holding-right-2.later Left left.counted right.counted (sym c.later_side.ensures ∙ c.in-Left.is);
    }

pub returns-in-Holding-right-clause-opened : goal.returns-in-Holding-right-clause-opened
returns-in-Holding-right-clause-opened g c = rw (c.in-Nothing.is, c.in-Holding-right.is) c.go_on.ensures.opened

pub returns-in-Nothing-right-2-clause-opened : goal.returns-in-Nothing-right-2-clause-opened
returns-in-Nothing-right-2-clause-opened g c =
    rw (c.in-Holding.is, c.in-Nothing-right-2.is) c.go_on-in-Nothing-right-2.ensures.opened

pub returns-in-Right-clause-opened : goal.returns-in-Right-clause-opened
returns-in-Right-clause-opened g c = rw (c.in-Holding.is, c.in-Holding-right-2.is) c.go_on-in-Right.ensures.opened

pub returns-in-Left-clause-opened : goal.returns-in-Left-clause-opened
returns-in-Left-clause-opened g c = rw (c.in-Holding.is, c.in-Holding-right-2.is) c.go_on-in-Left.ensures.opened

pub begin_anew-requires : goal.begin_anew-requires
begin_anew-requires g c =
    let left = subst (λ (d : Stood g.row.D.Denot). IsStoodOn g.D.Disk.at true d) c.in-Nothing.is c.requires.left in
    let right = subst (λ (d : Stood g.row.D.Denot). IsStoodOn g.D.Disk.at false d) c.in-Nothing-right.is
    c.requires.right in
    record { left = left.told; right = right.told; rests = right.rests }

pub returns-in-Nothing-right-clause-opened : goal.returns-in-Nothing-right-clause-opened
returns-in-Nothing-right-clause-opened g c =
    rw (c.in-Nothing.is, c.in-Nothing-right.is) c.begin_anew.ensures.opened

pub returns-in-Nothing-right-clause-left : goal.returns-in-Nothing-right-clause-left
returns-in-Nothing-right-clause-left g c =
    rw (c.in-Nothing.is, c.in-Nothing-right.is) (inr (tt, tt, c.begin_anew.ensures.left))

pub returns-in-Nothing-right-clause-right : goal.returns-in-Nothing-right-clause-right
returns-in-Nothing-right-clause-right g c =
    c.begin_anew.ensures.right ∙ ap disk_of (sym c.in-Nothing-right.is)

pub returns-in-Nothing-right-clause-cause : goal.returns-in-Nothing-right-clause-cause
returns-in-Nothing-right-clause-cause g c = rw c.in-Nothing.is c.begin_anew.ensures.cause

pub returns-in-Holding-right-clause-left : goal.returns-in-Holding-right-clause-left
returns-in-Holding-right-clause-left g c =
    inl (ap (λ (o : Stored g.row.D.Denot). o.left) c.go_on.ensures.store ∙ ap disk_of (sym c.in-Nothing.is))

pub returns-in-Holding-right-clause-right : goal.returns-in-Holding-right-clause-right
returns-in-Holding-right-clause-right g c =
    ap (λ (o : Stored g.row.D.Denot). o.right) c.go_on.ensures.store ∙ ap disk_of (sym c.in-Holding-right.is)

pub returns-in-Holding-right-clause-shut : goal.returns-in-Holding-right-clause-shut
returns-in-Holding-right-clause-shut g c =
    shut_beside g.D.Disk.at c.go_on.result Right (ap (λ (o : Stored g.row.D.Denot). o.side) c.go_on.ensures.store)
    c.go_on.ensures.shut

pub returns-in-Nothing-right-2-clause-left : goal.returns-in-Nothing-right-2-clause-left
returns-in-Nothing-right-2-clause-left g c =
    inl (ap (λ (o : Stored g.row.D.Denot). o.left) c.go_on-in-Nothing-right-2.ensures.store
    ∙ ap disk_of (sym c.in-Holding.is))

pub returns-in-Nothing-right-2-clause-right : goal.returns-in-Nothing-right-2-clause-right
returns-in-Nothing-right-2-clause-right g c =
    ap (λ (o : Stored g.row.D.Denot). o.right) c.go_on-in-Nothing-right-2.ensures.store
    ∙ ap disk_of (sym c.in-Nothing-right-2.is)

pub returns-in-Nothing-right-2-clause-shut : goal.returns-in-Nothing-right-2-clause-shut
returns-in-Nothing-right-2-clause-shut g c =
    shut_beside g.D.Disk.at c.go_on-in-Nothing-right-2.result Left (ap (λ (o : Stored g.row.D.Denot). o.side)
    c.go_on-in-Nothing-right-2.ensures.store) c.go_on-in-Nothing-right-2.ensures.shut

pub returns-in-Right-clause-left : goal.returns-in-Right-clause-left
returns-in-Right-clause-left g c =
    inl (ap (λ (o : Stored g.row.D.Denot). o.left) c.go_on-in-Right.ensures.store ∙ ap disk_of (sym c.in-Holding.is))

pub returns-in-Right-clause-right : goal.returns-in-Right-clause-right
returns-in-Right-clause-right g c =
    ap (λ (o : Stored g.row.D.Denot). o.right) c.go_on-in-Right.ensures.store ∙ ap disk_of (sym c.in-Holding-right-2.is)

pub returns-in-Right-clause-shut : goal.returns-in-Right-clause-shut
returns-in-Right-clause-shut g c =
    shut_beside g.D.Disk.at c.go_on-in-Right.result Right (ap (λ (o : Stored g.row.D.Denot). o.side)
    c.go_on-in-Right.ensures.store) c.go_on-in-Right.ensures.shut

pub returns-in-Left-clause-left : goal.returns-in-Left-clause-left
returns-in-Left-clause-left g c =
    inl (ap (λ (o : Stored g.row.D.Denot). o.left) c.go_on-in-Left.ensures.store ∙ ap disk_of (sym c.in-Holding.is))

pub returns-in-Left-clause-right : goal.returns-in-Left-clause-right
returns-in-Left-clause-right g c =
    ap (λ (o : Stored g.row.D.Denot). o.right) c.go_on-in-Left.ensures.store ∙ ap disk_of (sym c.in-Holding-right-2.is)

pub returns-in-Left-clause-shut : goal.returns-in-Left-clause-shut
returns-in-Left-clause-shut g c =
    shut_beside g.D.Disk.at c.go_on-in-Left.result Left (ap (λ (o : Stored g.row.D.Denot). o.side)
    c.go_on-in-Left.ensures.store) c.go_on-in-Left.ensures.shut
