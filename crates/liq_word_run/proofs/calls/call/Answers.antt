use Rattle.std.proofs.Common.{◌⊎◌, inl, inr, ⊎_elim, rules, subst, sym, ◌∙◌}
use Rattle.liq_core.specs.Core.{state_of}
use Rattle.liq_disk_pair.specs.Kept.{IsKept}
use Rattle.liq_rule_step.specs.Step.{step}
use Rattle.liq_store.specs.Stored.{Stored}
use Rattle.liq_word_run.specs.Calls.{KeepsAround}
use Rattle.liq_word_run.proofs.Faulted.{accepted_command, failing, no_other, read_so}
use Rattle.liq_word_run.proofs.Passing.{called, replied_past, stopped_past, waiting_past}
use Rattle.liq_word_run.proofs.calls.call.Goals as goal

pub unreachable-requires : goal.unreachable-requires
unreachable-requires g c =
    let s = state_of c.args.store.now.core in
    no_other c.call-answer.result s c.args.request.now c.call-answer.new.self.core
    (c.call-answer.ensures.step c.requires.going s (search (rules, c.protocols_stand.ensures)))
    c.in_default.not-Reply c.in_default.not-NoMemory c.in_default.not-DiskFault

pub returns-in-DiskFault-clause-kept : goal.returns-in-DiskFault-clause-kept
returns-in-DiskFault-clause-kept g c fault s stands =
    let old = c.args.store.now in
    let new = c.call-answer.new.self in
    let disks = c.call-answer.ensures.disks in
    subst (λ (o : Stored g.row.D.Denot). KeepsAround g.D.Disk.at o.left o.right s c.args.request.now)
    (sym c.clear_changes.ensures.cleared)
    (read_so g.D.Disk.at old.left old.right new.left new.right
    (λ a b. IsKept a b s ⊎ IsKept a b (step s c.args.request.now).0)
    disks.left_time disks.right_time disks.left_telling disks.right_telling g.met.D.Disk.seen_may_stay
    (λ l r told_l told_r x y lx ly. ⊎_elim (λ kept. inl kept.kept) (λ kept. inr kept.kept)
    (disks.kept c.requires.going l r s told_l told_r stands x y lx ly)))

pub returns-in-DiskFault-clause-command : goal.returns-in-DiskFault-clause-command
returns-in-DiskFault-clause-command g c fault =
    let s = state_of c.args.store.now.core in
    accepted_command s c.args.request.now
    (c.in-DiskFault.ensures.step c.requires.going s (search (rules, c.protocols_stand.ensures))).1

pub returns-in-Reply-clause-past : goal.returns-in-Reply-clause-past
returns-in-Reply-clause-past g c begun requests past out =
    replied_past g.D.Disk.at g.met.D.Disk.seen_may_stay begun requests c.args.request.now c.args.store.now
    c.call-answer.new.self c.clear_changes.new.self c.clear_changes.ensures.cleared c.clear_changes.ensures.order
    (g.K.Sink.at c.args.out.now).shown past (g.K.Sink.at c.args.out.now).held _ c.in-Reply.reply
    (c.in-Reply.ensures.stops ∙ c.requires.going) c.in-Reply.ensures.order (c.in-Reply.ensures.step c.requires.going)
    c.in-Reply.ensures.disks
    out (search rules)

pub returns-in-NoMemory-clause-past : goal.returns-in-NoMemory-clause-past
returns-in-NoMemory-clause-past g c begun requests past out =
    waiting_past g.D.Disk.at g.met.D.Disk.seen_may_stay begun requests c.args.request.now c.args.store.now
    c.call-answer.new.self c.clear_changes.new.self c.clear_changes.ensures.cleared c.clear_changes.ensures.order
    (g.K.Sink.at c.args.out.now).shown past (c.in-NoMemory.ensures.stops ∙ c.requires.going)
    (c.in-NoMemory.ensures.step c.requires.going) c.in-NoMemory.ensures.disks

pub returns-in-DiskFault-clause-past : goal.returns-in-DiskFault-clause-past
returns-in-DiskFault-clause-past g c begun requests past out =
    let s = state_of c.args.store.now.core in
    let command = failing s c.args.request.now c.call-answer.new.self.core
    (c.in-DiskFault.ensures.step c.requires.going s (search (rules, c.protocols_stand.ensures))) in
    stopped_past g.D.Disk.at g.met.D.Disk.seen_may_stay begun requests c.args.request.now c.args.store.now
    c.call-answer.new.self c.clear_changes.new.self c.clear_changes.ensures.cleared c.clear_changes.ensures.order
    (g.K.Sink.at c.args.out.now).shown past command.0 command.1 (c.in-DiskFault.ensures.step c.requires.going)
    c.in-DiskFault.ensures.disks

pub returns-in-Reply-clause-time : goal.returns-in-Reply-clause-time
returns-in-Reply-clause-time g c =
    called g.D.Disk.at c.args.store.now c.call-answer.new.self c.clear_changes.new.self c.args.request.now _
    c.call-answer.ensures.disks c.clear_changes.ensures.cleared

pub returns-in-NoMemory-clause-time : goal.returns-in-NoMemory-clause-time
returns-in-NoMemory-clause-time g c =
    called g.D.Disk.at c.args.store.now c.call-answer.new.self c.clear_changes.new.self c.args.request.now _
    c.call-answer.ensures.disks c.clear_changes.ensures.cleared

pub returns-in-DiskFault-clause-time : goal.returns-in-DiskFault-clause-time
returns-in-DiskFault-clause-time g c =
    called g.D.Disk.at c.args.store.now c.call-answer.new.self c.clear_changes.new.self c.args.request.now _
    c.call-answer.ensures.disks c.clear_changes.ensures.cleared
