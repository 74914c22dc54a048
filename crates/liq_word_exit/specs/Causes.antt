-- What a run does to the counts of its streams' and its disks' faults, and to the disks' time and
-- telling.
use Rattle.std.specs.Prelude.{ℕ, ◌≡◌, ◌≤◌, ◌↔◌, IsSome, Result, Ok, Err}
use Rattle.liq_outside.specs.At.{DiskAt, SinkAt, SourceAt}
use Rattle.liq_outside.specs.Disk.{GoesOn}
use Rattle.liq_outside.specs.Faults.{Rose}
use Rattle.liq_store.specs.Causes.{Faults, OneRose, counts_of}
use Rattle.liq_word_exit.specs.declared.halts.Halt.{Halt}
use Rattle.liq_word_exit.specs.declared.halts.Halt.TheVariants.{ReadFault, WriteFault, DiskFault}
use Rattle.liq_word_exit.specs.Outside.{Outside}
use Rattle.liq_word_exit.specs.Statuses.{End}

-- The source's count over a run, or a part of it: where it stops at a read fault the count rose,
-- and else it stays.
abbrev pub ReadCause : {T : Type 0} → Result T Halt → ℕ → ℕ → Type 0
ReadCause (Err ReadFault) before after = (before ≤ after) × Rose before after
ReadCause _ before after = after ≡ before

-- the sink's count: it rose where writing met a fault, and else it stays
abbrev pub WriteCause : {T : Type 0} → Result T Halt → ℕ → ℕ → Type 0
WriteCause (Err WriteFault) before after = (before ≤ after) × Rose before after
WriteCause _ before after = after ≡ before

-- The counts of both disks: one rose where the end is a disk's fault, and else both stay.
abbrev pub DiskCause : {T : Type 0} → Result T Halt → Faults → Faults → Type 0
DiskCause (Err DiskFault) before after = OneRose before after
DiskCause _ before after = after ≡ before

-- The sink's count over a whole run, whose last line may have met a fault too.
abbrev pub LastCause : End → ℕ → ℕ → Type 0
LastCause (Ok done) before after = after ≡ before
LastCause (Err WriteFault) before after = (before ≤ after) × Rose before after
LastCause (Err _) before after = before ≤ after

-- Two disks over a word that came to this end, whatever stands on them: one of their counts rose
-- exactly where the end is a disk's fault; for each time goes on, and what a crash may have left at
-- a past moment stays what it was; and each tells its bytes where it told them before, and there
-- alone.
module _ {D : Type 0} (at : D → DiskAt) (old_left old_right : D) where
  pub record DisksGoOn (end : End) (left right : D) : Type 0 where
    pub count : DiskCause end (counts_of at old_left old_right) (counts_of at left right)
    pub left_time : GoesOn at old_left left
    pub right_time : GoesOn at old_right right
    pub left_telling : IsSome (at left).seen ↔ IsSome (at old_left).seen
    pub right_telling : IsSome (at right).seen ↔ IsSome (at old_right).seen

-- A word's end has its cause, whatever came in and stands on the disks: the counts of the source
-- and the disks rose exactly where it tells their fault, and that of the sink where it tells its
-- one, or maybe at the last line.
module _
    {S K D : Type 0} (source_at : S → SourceAt) (sink_at : K → SinkAt) (disk_at : D → DiskAt)
    (before after : Outside S K D) where
  pub record HasCauses (end : End) : Type 0 where
    pub source : ReadCause end (source_at before.source).faults (source_at after.source).faults
    pub sink : LastCause end (sink_at before.sink).faults (sink_at after.sink).faults
    pub disks : DisksGoOn disk_at before.left before.right end after.left after.right
