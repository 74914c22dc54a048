use Rattle.std.proofs.Common.{[], ◌≡◌, ◌≤◌, ◌⊎◌, arith, inr, length, vec_capacity, subst}
use Rattle.liq_outside.specs.Calls.{FailsNext}
use Rattle.liq_outside.specs.Disk.{Elapses, LeftNow, Only, Within}
use Rattle.liq_outside.specs.DiskInMemory.{Roomy, after_sync, disk_at}
use Rattle.liq_outside.proofs.Steps.{noting, length-steps_of, synced_is, syncs_noted, sync_only, sync_within, sync_elapses}
use Rattle.liq_outside.proofs.memory_disk.MemoryDiskDisk.sync.Goals as goal

pub returns-in-Ok-clause-crash : goal.returns-in-Ok-clause-crash
returns-in-Ok-clause-crash c =
    let new : Roomy = (noting c.self.inside.bytes.items c.note.new.made.items c.begin.new.self
    (vec_capacity c.note.new.made)) in
    subst (λ (old : Roomy). Within (LeftNow disk_at new) (LeftNow disk_at old)) c.self.view_is
    (sync_within (noting c.self.inside.bytes.items c.self.inside.made.items c.self.inside.schedule
    (vec_capacity c.self.inside.made)) new 0 [] (synced_is c.self.inside.bytes.items c.self.inside.bytes.items
    c.self.inside.made.items c.note.new.made.items c.self.inside.schedule c.begin.new.self
    (vec_capacity c.self.inside.made) (vec_capacity c.note.new.made) 0 [] c.in-Ok.ensures.noted
    c.begin.ensures.begun))

pub returns-in-Ok-clause-time : goal.returns-in-Ok-clause-time
returns-in-Ok-clause-time c =
    let new : Roomy = (noting c.self.inside.bytes.items c.note.new.made.items c.begin.new.self
    (vec_capacity c.note.new.made)) in
    subst (λ (old : Roomy). Elapses disk_at old new) c.self.view_is
    (sync_elapses (noting c.self.inside.bytes.items c.self.inside.made.items c.self.inside.schedule
    (vec_capacity c.self.inside.made)) new 0 [] (synced_is c.self.inside.bytes.items c.self.inside.bytes.items
    c.self.inside.made.items c.note.new.made.items c.self.inside.schedule c.begin.new.self
    (vec_capacity c.self.inside.made) (vec_capacity c.note.new.made) 0 [] c.in-Ok.ensures.noted
    c.begin.ensures.begun))

pub invariant_of-self-in-Ok : goal.invariant_of-self-in-Ok
invariant_of-self-in-Ok c = syncs_noted c.self.inside.bytes.items c.self.inside.made.items c.note.new.made.items
    c.in-Ok.ensures.noted c.self.invariant

pub returns-in-Ok-clause-synced : goal.returns-in-Ok-clause-synced
returns-in-Ok-clause-synced c =
    let new : Roomy = (noting c.self.inside.bytes.items c.note.new.made.items c.begin.new.self
    (vec_capacity c.note.new.made)) in
    subst (λ (old : Roomy). new.disk ≡ after_sync old.disk) c.self.view_is
    (synced_is c.self.inside.bytes.items c.self.inside.bytes.items c.self.inside.made.items c.note.new.made.items
    c.self.inside.schedule c.begin.new.self (vec_capacity c.self.inside.made) (vec_capacity c.note.new.made) 0 []
    c.in-Ok.ensures.noted c.begin.ensures.begun)

pub returns-in-Ok-clause-only : goal.returns-in-Ok-clause-only
returns-in-Ok-clause-only c =
    let new : Roomy = (noting c.self.inside.bytes.items c.note.new.made.items c.begin.new.self
    (vec_capacity c.note.new.made)) in
    subst (λ (old : Roomy). Only old.disk.held (LeftNow disk_at new)) c.self.view_is
    (sync_only (noting c.self.inside.bytes.items c.self.inside.made.items c.self.inside.schedule
    (vec_capacity c.self.inside.made)) new 0 [] (synced_is c.self.inside.bytes.items c.self.inside.bytes.items
    c.self.inside.made.items c.note.new.made.items c.self.inside.schedule c.begin.new.self
    (vec_capacity c.self.inside.made) (vec_capacity c.note.new.made) 0 [] c.in-Ok.ensures.noted
    c.begin.ensures.begun))

pub returns-in-Err-clause-unlisted : goal.returns-in-Err-clause-unlisted
returns-in-Err-clause-unlisted c =
    let sized = length-steps_of c.self.inside.made.items in
    subst (λ (old : Roomy). FailsNext old.disk.calls ⊎ (old.room ≤ length old.disk.steps)) c.self.view_is
    (inr (omega (arith, c.in-Err.ensures.full)))
