use Rattle.std.proofs.Common.{arith, inl, inr, ⊎_elim, ◌∙◌, ◌≡◌, ◌⊎◌, ◌<◌, ◌≤◌, length, vec_capacity, sym, ap, subst}
use Rattle.liq_outside.specs.Calls.{FailsNext, faulted}
use Rattle.liq_outside.specs.Disk.{Follows, LeftNow, Torn}
use Rattle.liq_outside.specs.DiskInMemory.{IsNoted, Roomy, after_disk_write, disk_at}
use Rattle.liq_outside.specs.Made.{steps_of}
use Rattle.liq_outside.proofs.Steps.{noting, noted, written_is, writes_noted, tries_noted, length-steps_of, failed_follows, failed_elapses, failed_keeps, write_follows, write_reaches, write_elapses, reaches_keeps, same_follows}
use Rattle.liq_outside.proofs.memory_disk.MemoryDiskDisk.write_at.Goals as goal

-- the disk after a write that was told to fail
abbrev failed : goal.After-note_try → Roomy
failed c = noting c.self.inside.bytes.items c.note_try.new.made.items c.fault.new.self
    (vec_capacity c.note_try.new.made)

-- such a write is noted, where there is room
is_noted : (c : goal.After-note_try) → IsNoted c.args.self.now c.args.place c.args.bytes.now (failed c).disk
is_noted c = subst (λ (old : Roomy). IsNoted old c.args.place c.args.bytes.now (failed c).disk) c.self.view_is
    (noted c.self.inside.bytes.items c.self.inside.bytes.items c.self.inside.made.items c.note_try.new.made.items
    c.self.inside.schedule c.fault.new.self (vec_capacity c.self.inside.made) (vec_capacity c.note_try.new.made)
    c.args.place c.args.bytes.now c.note_try.ensures (c.fault.ensures.counted ∙ ap faulted c.begin.ensures.begun)
    (length-steps_of c.self.inside.made.items))

-- the disk after a write that was done
abbrev done : goal.In-Ok → Roomy
done c = noting c.overwrite.new.held.items c.overwrite.new.made.items c.begin.new.self
    (vec_capacity c.overwrite.new.made)

-- such a write has its bytes on the disk
is_written : (c : goal.In-Ok) → (done c).disk
    ≡ after_disk_write c.args.self.now.disk c.args.place c.args.bytes.now
is_written c = subst (λ (old : Roomy). (done c).disk ≡ after_disk_write old.disk c.args.place c.args.bytes.now)
    c.self.view_is (written_is c.self.inside.bytes.items c.overwrite.new.held.items c.self.inside.made.items
    c.overwrite.new.made.items c.self.inside.schedule c.begin.new.self (vec_capacity c.self.inside.made)
    (vec_capacity c.overwrite.new.made) c.args.place c.args.bytes.now c.in-Ok.ensures.written c.in-Ok.ensures.noted
    c.begin.ensures.begun)

pub returns-then-begin-clause-crash : goal.returns-then-begin-clause-crash
returns-then-begin-clause-crash c = failed_follows c.args.self.now (failed c) c.args.place c.args.bytes.now (is_noted c)

pub returns-then-begin-clause-time : goal.returns-then-begin-clause-time
returns-then-begin-clause-time c = failed_elapses c.args.self.now (failed c) c.args.place c.args.bytes.now (is_noted c)

pub returns-then-begin-clause-tried : goal.returns-then-begin-clause-tried
returns-then-begin-clause-tried c = λ fails. is_noted c

pub returns-then-begin-clause-keeps : goal.returns-then-begin-clause-keeps
returns-then-begin-clause-keeps c = failed_keeps c.args.self.now (failed c) c.args.place c.args.bytes.now (is_noted c)

pub invariant_of-self : goal.invariant_of-self
invariant_of-self c = tries_noted c.self.inside.bytes.items c.self.inside.made.items c.note_try.new.made.items
    (vec_capacity c.self.inside.made) c.args.place c.args.bytes.now c.note_try.ensures c.self.invariant

pub invariant_of-self-in-Ok : goal.invariant_of-self-in-Ok
invariant_of-self-in-Ok c = writes_noted c.self.inside.bytes.items c.overwrite.new.held.items c.self.inside.made.items
    c.overwrite.new.made.items c.self.inside.schedule c.begin.new.self (vec_capacity c.self.inside.made)
    (vec_capacity c.overwrite.new.made) c.args.place c.args.bytes.now (subst (λ (old : Roomy). c.args.place
    ≤ length old.disk.held) (sym c.self.view_is) c.requires.inside) c.in-Ok.ensures.written c.in-Ok.ensures.noted
    c.self.invariant

pub returns-in-Ok-clause-written : goal.returns-in-Ok-clause-written
returns-in-Ok-clause-written c = is_written c

pub returns-in-Ok-clause-crash : goal.returns-in-Ok-clause-crash
returns-in-Ok-clause-crash c = write_follows c.args.self.now (done c) c.args.place c.args.bytes.now
    c.requires.inside (is_written c)

pub returns-in-Ok-clause-noted : goal.returns-in-Ok-clause-noted
returns-in-Ok-clause-noted c = write_reaches c.args.self.now (done c) c.args.place c.args.bytes.now
    c.requires.inside (is_written c)

pub returns-in-Ok-clause-keeps : goal.returns-in-Ok-clause-keeps
returns-in-Ok-clause-keeps c = reaches_keeps c.args.self.now (done c) c.args.place c.args.bytes.now
    (write_reaches c.args.self.now (done c) c.args.place c.args.bytes.now c.requires.inside (is_written c))

pub returns-in-Ok-clause-time : goal.returns-in-Ok-clause-time
returns-in-Ok-clause-time c = write_elapses c.args.self.now (done c) c.args.place c.args.bytes.now
    c.requires.inside (is_written c)

pub returns-in-Err-clause-unlisted : goal.returns-in-Err-clause-unlisted
returns-in-Err-clause-unlisted c =
    let sized = length-steps_of c.self.inside.made.items in
    subst (λ (old : Roomy). FailsNext old.disk.calls ⊎ (0 < length c.args.bytes.now)
    ⊎ (old.room ≤ length old.disk.steps)) c.self.view_is
    (inr (⊎_elim (λ (some : 0 < length c.args.bytes.now). inl some) (λ (full : vec_capacity c.self.inside.made
    ≤ length c.self.inside.made.items). inr (omega arith)) c.in-Err.ensures.full))

pub returns-in-Err-clause-crash : goal.returns-in-Err-clause-crash
returns-in-Err-clause-crash c =
    let new : Roomy = (noting c.overwrite.new.held.items c.overwrite.new.made.items c.fault-in-Err.new.self
    (vec_capacity c.overwrite.new.made)) in
    subst (λ (old : Roomy). Follows (Torn c.args.place (length c.args.bytes.now)) (LeftNow disk_at old)
    (LeftNow disk_at new)) c.self.view_is (same_follows (noting c.self.inside.bytes.items c.self.inside.made.items
    c.self.inside.schedule (vec_capacity c.self.inside.made)) new c.args.place c.args.bytes.now
    c.in-Err.ensures.not_written (ap steps_of c.in-Err.ensures.not_noted))
