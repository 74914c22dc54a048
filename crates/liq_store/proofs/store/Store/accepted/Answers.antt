use Rattle.std.proofs.Common.{Some, ap, subst}
use Rattle.liq_disk_pair.specs.Sides.{on}
use Rattle.liq_disk_records.specs.Reading.{CountsFault}
use Rattle.liq_disk_records.specs.declared.answers.AcceptedFault.{AcceptedFault}
use Rattle.liq_store.specs.Causes.{OneRose, counts_of}
use Rattle.liq_store.specs.Stored.{Stored}
use Rattle.liq_store.proofs.Appending.{some_isnt_none}
use Rattle.liq_store.proofs.Counts.{taken_rose}
use Rattle.liq_store.proofs.Looking.{all_read, beside_looked, halted_looked, looked_from, order_looked, seen_looked, within_looked}
use Rattle.liq_store.proofs.store.Store.accepted.Goals as goal

pub invariant_of-self : goal.invariant_of-self
invariant_of-self g c = within_looked g.D.Disk.at g.met.D.Disk.seen_may_stay c.self.inside.side c.self.inside.taken
    c.read_commands.new.journal c.self.inside.beside c.self.inside.protocol c.read_commands.ensures.looked
    c.self.inside.stopped c.self.inside.stopped c.read_commands.ensures.same c.self.invariant
    (order_looked g.D.Disk.at g.met.D.Disk.seen_may_stay c.self.inside.side c.self.inside.taken
    c.read_commands.new.journal c.self.inside.beside c.self.inside.protocol c.read_commands.ensures.looked _ _
    c.self.inside.stopped c.self.invariant.order) (λ none. none)

pub invariant_of-self-in-Err-DiskFault : goal.invariant_of-self-in-Err-DiskFault
invariant_of-self-in-Err-DiskFault g c = within_looked g.D.Disk.at g.met.D.Disk.seen_may_stay c.self.inside.side
    c.self.inside.taken c.read_commands.new.journal c.self.inside.beside c.self.inside.protocol
    c.read_commands.ensures.looked c.self.inside.stopped (Some c.unwrap_or.result) c.read_commands.ensures.same
    c.self.invariant (halted_looked g.D.Disk.at g.met.D.Disk.seen_may_stay c.self.inside.side c.self.inside.taken
    c.read_commands.new.journal c.self.inside.beside c.self.inside.protocol c.read_commands.ensures.looked _
    c.self.inside.stopped c.self.invariant.order c.unwrap_or.result)
    (λ none. absurd (some_isnt_none c.unwrap_or.result none))

pub invariant_of-self-in-Err-Damaged : goal.invariant_of-self-in-Err-Damaged
invariant_of-self-in-Err-Damaged g c = within_looked g.D.Disk.at g.met.D.Disk.seen_may_stay c.self.inside.side
    c.self.inside.taken c.read_commands.new.journal c.self.inside.beside c.self.inside.protocol
    c.read_commands.ensures.looked c.self.inside.stopped c.self.inside.stopped c.read_commands.ensures.same
    c.self.invariant (order_looked g.D.Disk.at g.met.D.Disk.seen_may_stay c.self.inside.side c.self.inside.taken
    c.read_commands.new.journal c.self.inside.beside c.self.inside.protocol c.read_commands.ensures.looked _ _
    c.self.inside.stopped c.self.invariant.order) (λ none. none)

pub invariant_of-self-in-Err-NoMemory : goal.invariant_of-self-in-Err-NoMemory
invariant_of-self-in-Err-NoMemory g c = within_looked g.D.Disk.at g.met.D.Disk.seen_may_stay c.self.inside.side
    c.self.inside.taken c.read_commands.new.journal c.self.inside.beside c.self.inside.protocol
    c.read_commands.ensures.looked c.self.inside.stopped c.self.inside.stopped c.read_commands.ensures.same
    c.self.invariant (order_looked g.D.Disk.at g.met.D.Disk.seen_may_stay c.self.inside.side c.self.inside.taken
    c.read_commands.new.journal c.self.inside.beside c.self.inside.protocol c.read_commands.ensures.looked _ _
    c.self.inside.stopped c.self.invariant.order) (λ none. none)

pub returns-in-Ok-clause-order : goal.returns-in-Ok-clause-order
returns-in-Ok-clause-order g c = order_looked g.D.Disk.at g.met.D.Disk.seen_may_stay c.self.inside.side
    c.self.inside.taken c.read_commands.new.journal c.self.inside.beside c.self.inside.protocol
    c.read_commands.ensures.looked _ _ c.self.inside.stopped c.self.invariant.order

pub returns-in-Err-DiskFault-clause-order : goal.returns-in-Err-DiskFault-clause-order
returns-in-Err-DiskFault-clause-order g c = halted_looked g.D.Disk.at g.met.D.Disk.seen_may_stay c.self.inside.side
    c.self.inside.taken c.read_commands.new.journal c.self.inside.beside c.self.inside.protocol
    c.read_commands.ensures.looked _ c.self.inside.stopped c.self.invariant.order c.unwrap_or.result

pub returns-in-Err-Damaged-clause-order : goal.returns-in-Err-Damaged-clause-order
returns-in-Err-Damaged-clause-order g c = order_looked g.D.Disk.at g.met.D.Disk.seen_may_stay c.self.inside.side
    c.self.inside.taken c.read_commands.new.journal c.self.inside.beside c.self.inside.protocol
    c.read_commands.ensures.looked _ _ c.self.inside.stopped c.self.invariant.order

pub returns-in-Err-NoMemory-clause-order : goal.returns-in-Err-NoMemory-clause-order
returns-in-Err-NoMemory-clause-order g c = order_looked g.D.Disk.at g.met.D.Disk.seen_may_stay c.self.inside.side
    c.self.inside.taken c.read_commands.new.journal c.self.inside.beside c.self.inside.protocol
    c.read_commands.ensures.looked _ _ c.self.inside.stopped c.self.invariant.order

pub returns-in-Ok-clause-all : goal.returns-in-Ok-clause-all
returns-in-Ok-clause-all g c none held w told found =
    all_read g.D.Disk.at c.self.inside.side c.self.inside.taken c.self.inside.beside c.self.inside.protocol
    c.self.inside.stopped c.self.invariant c.args.self.now c.self.view_is c.in-Ok.commands.items
    c.in-Ok.ensures.commands none held w told found

pub returns-in-Err-DiskFault-clause-cause : goal.returns-in-Err-DiskFault-clause-cause
returns-in-Err-DiskFault-clause-cause g c =
    let side = c.self.inside.side in
    let counted = subst (λ (y : AcceptedFault). CountsFault y (g.D.Disk.at c.self.inside.taken.disk).faults
    (g.D.Disk.at c.read_commands.new.journal.disk).faults) c.in-Err-DiskFault.field-0-is
    c.in-Err-DiskFault.ensures.cause in
    subst (λ (o : Stored g.row.D.Denot). OneRose (counts_of g.D.Disk.at o.left o.right) (counts_of g.D.Disk.at
    (on side c.read_commands.new.journal.disk c.self.inside.beside)
    (on side c.self.inside.beside c.read_commands.new.journal.disk))) c.self.view_is
    (taken_rose g.D.Disk.at side c.self.inside.taken.disk c.read_commands.new.journal.disk c.self.inside.beside
    counted.later counted.rose)

pub returns-in-Ok-clause-looked : goal.returns-in-Ok-clause-looked
returns-in-Ok-clause-looked g c = looked_from g.D.Disk.at c.self.inside.side c.self.inside.taken.disk
    c.self.inside.beside c.read_commands.new.journal.disk c.args.self.now (ap (λ (o : Stored g.row.D.Denot). o.left)
    c.self.view_is) (ap (λ (o : Stored g.row.D.Denot). o.right) c.self.view_is) (ap (λ (o : Stored g.row.D.Denot).
    o.side) c.self.view_is) c.read_commands.ensures.looked

pub returns-in-Err-DiskFault-clause-looked : goal.returns-in-Err-DiskFault-clause-looked
returns-in-Err-DiskFault-clause-looked g c = looked_from g.D.Disk.at c.self.inside.side c.self.inside.taken.disk
    c.self.inside.beside c.read_commands.new.journal.disk c.args.self.now (ap (λ (o : Stored g.row.D.Denot). o.left)
    c.self.view_is) (ap (λ (o : Stored g.row.D.Denot). o.right) c.self.view_is) (ap (λ (o : Stored g.row.D.Denot).
    o.side) c.self.view_is) c.read_commands.ensures.looked

pub returns-in-Err-Damaged-clause-looked : goal.returns-in-Err-Damaged-clause-looked
returns-in-Err-Damaged-clause-looked g c = looked_from g.D.Disk.at c.self.inside.side c.self.inside.taken.disk
    c.self.inside.beside c.read_commands.new.journal.disk c.args.self.now (ap (λ (o : Stored g.row.D.Denot). o.left)
    c.self.view_is) (ap (λ (o : Stored g.row.D.Denot). o.right) c.self.view_is) (ap (λ (o : Stored g.row.D.Denot).
    o.side) c.self.view_is) c.read_commands.ensures.looked

pub returns-in-Err-NoMemory-clause-looked : goal.returns-in-Err-NoMemory-clause-looked
returns-in-Err-NoMemory-clause-looked g c = looked_from g.D.Disk.at c.self.inside.side c.self.inside.taken.disk
    c.self.inside.beside c.read_commands.new.journal.disk c.args.self.now (ap (λ (o : Stored g.row.D.Denot). o.left)
    c.self.view_is) (ap (λ (o : Stored g.row.D.Denot). o.right) c.self.view_is) (ap (λ (o : Stored g.row.D.Denot).
    o.side) c.self.view_is) c.read_commands.ensures.looked

pub returns-in-Ok-clause-same : goal.returns-in-Ok-clause-same
returns-in-Ok-clause-same g c = seen_looked c.self.inside.side c.self.inside.taken c.read_commands.new.journal
    c.self.inside.beside c.self.inside.protocol c.self.inside.stopped c.self.inside.stopped c.args.self.now
    c.read_commands.ensures.same c.self.view_is

pub returns-in-Ok-clause-beside : goal.returns-in-Ok-clause-beside
returns-in-Ok-clause-beside g c = beside_looked c.self.inside.side c.self.inside.taken c.self.inside.beside
    c.read_commands.new.journal.disk c.self.inside.protocol c.self.inside.stopped c.args.self.now c.self.view_is

pub returns-in-Err-DiskFault-clause-same : goal.returns-in-Err-DiskFault-clause-same
returns-in-Err-DiskFault-clause-same g c = seen_looked c.self.inside.side c.self.inside.taken
    c.read_commands.new.journal c.self.inside.beside c.self.inside.protocol c.self.inside.stopped
    (Some c.unwrap_or.result) c.args.self.now c.read_commands.ensures.same c.self.view_is

pub returns-in-Err-DiskFault-clause-beside : goal.returns-in-Err-DiskFault-clause-beside
returns-in-Err-DiskFault-clause-beside g c = beside_looked c.self.inside.side c.self.inside.taken c.self.inside.beside
    c.read_commands.new.journal.disk c.self.inside.protocol c.self.inside.stopped c.args.self.now c.self.view_is

pub returns-in-Err-Damaged-clause-same : goal.returns-in-Err-Damaged-clause-same
returns-in-Err-Damaged-clause-same g c = seen_looked c.self.inside.side c.self.inside.taken c.read_commands.new.journal
    c.self.inside.beside c.self.inside.protocol c.self.inside.stopped c.self.inside.stopped c.args.self.now
    c.read_commands.ensures.same c.self.view_is

pub returns-in-Err-Damaged-clause-beside : goal.returns-in-Err-Damaged-clause-beside
returns-in-Err-Damaged-clause-beside g c = beside_looked c.self.inside.side c.self.inside.taken c.self.inside.beside
    c.read_commands.new.journal.disk c.self.inside.protocol c.self.inside.stopped c.args.self.now c.self.view_is

pub returns-in-Err-NoMemory-clause-same : goal.returns-in-Err-NoMemory-clause-same
returns-in-Err-NoMemory-clause-same g c = seen_looked c.self.inside.side c.self.inside.taken c.read_commands.new.journal
    c.self.inside.beside c.self.inside.protocol c.self.inside.stopped c.self.inside.stopped c.args.self.now
    c.read_commands.ensures.same c.self.view_is

pub returns-in-Err-NoMemory-clause-beside : goal.returns-in-Err-NoMemory-clause-beside
returns-in-Err-NoMemory-clause-beside g c = beside_looked c.self.inside.side c.self.inside.taken c.self.inside.beside
    c.read_commands.new.journal.disk c.self.inside.protocol c.self.inside.stopped c.args.self.now c.self.view_is
