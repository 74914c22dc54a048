use Rattle.std.proofs.Common.{◌≡◌, ◌∙◌, IfSome, sym, subst}
use Rattle.liq_types.specs.State.{State, opening}
use Rattle.liq_core.specs.Core.{StandsFor}
use Rattle.liq_core.specs.Entries.{told_whole}
use Rattle.liq_rule_step.specs.View.{all_followed, view_of}
use Rattle.liq_journal.specs.Opened.{IsUnshut}
use Rattle.liq_journal.specs.Written.{Absent, found_on}
use Rattle.liq_disk_pair.specs.Sides.{has_odd, other}
use Rattle.liq_store.specs.Beginning.{BeginsLeft}
use Rattle.liq_store.specs.Stored.{disk_beside}
use Rattle.liq_store.specs.Judging.{disk_of}
use Rattle.liq_store.proofs.Following.{by_core, listed_opened, same_disks, still_so, unlisted, unlisted_rests}
use Rattle.liq_store.proofs.store.begin_told.Goals as goal

pub returns-in-Ok-clause-opened : goal.returns-in-Ok-clause-opened
returns-in-Ok-clause-opened g c =
    listed_opened c.in-Ok.store c.with_list.result c.with_list.ensures.store c.with_list.ensures.err g.D.Disk.at
    (disk_of c.args.left) (disk_of c.args.right) c.in-Ok.ensures.opened

pub returns-in-Ok-clause-shut : goal.returns-in-Ok-clause-shut
returns-in-Ok-clause-shut g c =
    still_so c.in-Ok.store c.with_list.result c.with_list.ensures.store c.with_list.ensures.err
    (λ store. IfSome (g.D.Disk.at (disk_beside store)).seen (λ now. found_on (has_odd (other store.side)) now ≡ Absent
    → IsUnshut now → ⊥)) (λ changes. c.in-Ok.ensures.shut)

pub returns-in-Ok-clause-cause : goal.returns-in-Ok-clause-cause
returns-in-Ok-clause-cause g c =
    unlisted c.in-Ok.store c.with_list.result c.with_list.ensures.store c.with_list.ensures.err g.D.Disk.at
    (disk_of c.args.left) (disk_of c.args.right) c.in-Ok.ensures.opened

pub returns-in-Ok-clause-rests : goal.returns-in-Ok-clause-rests
returns-in-Ok-clause-rests g c =
    unlisted_rests c.in-Ok.store c.with_list.result c.with_list.ensures.store c.with_list.ensures.err g.D.Disk.at
    c.in-Ok.ensures.opened.going c.in-Ok.ensures.order

pub returns-in-Ok-clause-told : goal.returns-in-Ok-clause-told
returns-in-Ok-clause-told g c =
    by_core c.in-Ok.store c.with_list.result c.with_list.ensures.store c.with_list.ensures.err (λ core changes. changes
    ≡ told_whole core.image core.list) c.with_list.ensures.told

pub returns-in-Ok-clause-followed : goal.returns-in-Ok-clause-followed
returns-in-Ok-clause-followed g c =
    by_core c.in-Ok.store c.with_list.result c.with_list.ensures.store c.with_list.ensures.err (λ core changes.
    (s : State) → StandsFor core s → all_followed (view_of opening) changes ≡ view_of s) c.with_list.ensures.followed

pub returns-in-Ok-clause-left : goal.returns-in-Ok-clause-left
returns-in-Ok-clause-left g c =
    subst (BeginsLeft g.D.Disk.at c.args.left c.args.right)
    (sym (same_disks c.in-Ok.store c.with_list.result c.with_list.ensures.store c.with_list.ensures.err).0)
    c.in-Ok.ensures.left

pub returns-in-Ok-clause-right : goal.returns-in-Ok-clause-right
returns-in-Ok-clause-right g c =
    (same_disks c.in-Ok.store c.with_list.result c.with_list.ensures.store c.with_list.ensures.err).1
    ∙ c.in-Ok.ensures.right
