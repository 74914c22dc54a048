-- A store whose changes were let go.
use Rattle.std.proofs.Common.{◌≡◌, [], sym, subst}
use Rattle.liq_outside.specs.At.{DiskAt}
use Rattle.liq_store.specs.Opening.{OpensOn}
use Rattle.liq_store.specs.Stored.{Stored}

-- it opens on the disks as before
pub opens_cleared : {D : Type 0} (at : D → DiskAt) (left right : D) (store now : Stored D)
    → now ≡ record store { changes = [] } → OpensOn at left right store → OpensOn at left right now
opens_cleared at left right store now cleared opened =
    subst (OpensOn at left right) (sym cleared) (record {
      state = opened.state;
      commands = opened.commands;
      going = opened.going;
      counts = opened.counts;
      stays = opened.stays;
    })
