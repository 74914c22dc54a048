-- What an exit status says by itself, whatever the words ask for, and to which statuses each word
-- may come. It follows from the top call's clause (`laws`).
use Rattle.std.specs.Prelude.{ℕ, ◌≡◌, ◌≢◌, ◌≤◌, ◌↔◌, List, [], ◌∷◌, IsSome}
use Rattle.liq_outside.specs.At.{DiskAt, SinkAt, SourceAt}
use Rattle.liq_outside.specs.Disk.{GoesOn}
use Rattle.liq_outside.specs.Faults.{Rose}
use Rattle.liq_store.specs.Causes.{Faults, OneRose, counts_of}
use Rattle.liq_word_line.specs.declared.words.Word.{Word}
use Rattle.liq_word_line.specs.declared.words.Word.TheVariants as word
use Rattle.liq_word_exit.specs.Outside.{Outside}

-- the exit statuses to which a word may come
abbrev pub statuses_of : Word → List ℕ
statuses_of word.Run = 0 ∷ 2 ∷ 3 ∷ 4 ∷ 5 ∷ 6 ∷ 7 ∷ 8 ∷ []
statuses_of word.Serve = 0 ∷ 2 ∷ 3 ∷ 4 ∷ 5 ∷ 6 ∷ 7 ∷ 8 ∷ []
statuses_of word.Staking = 0 ∷ 2 ∷ 3 ∷ 4 ∷ 5 ∷ 6 ∷ 7 ∷ 8 ∷ 9 ∷ []
statuses_of word.Rewards = 0 ∷ 2 ∷ 3 ∷ 4 ∷ 5 ∷ 6 ∷ 7 ∷ 8 ∷ 9 ∷ []
statuses_of word.State = 0 ∷ 4 ∷ 5 ∷ 6 ∷ 7 ∷ []
statuses_of word.Report = 0 ∷ 4 ∷ 5 ∷ 6 ∷ 7 ∷ []
statuses_of word.Audit = 0 ∷ 4 ∷ 5 ∷ 6 ∷ 7 ∷ 8 ∷ 9 ∷ []
statuses_of word.Follow = 0 ∷ 3 ∷ 4 ∷ 6 ∷ 7 ∷ 8 ∷ 9 ∷ []
statuses_of (word.Gen seed count) = 0 ∷ 4 ∷ 7 ∷ []

-- The arguments are those of `Ends`.
module _
    {S K D : Type 0} (source_at : S → SourceAt) (sink_at : K → SinkAt) (disk_at : D → DiskAt)
    (before after : Outside S K D) where
  abbrev pub disk_counts : Outside S K D → Faults
  disk_counts outside = counts_of disk_at outside.left outside.right

  pub record ByStatus (status : ℕ) : Type 0 where
    pub known : status ≤ 9
    -- a fault has its cause, and none is passed over
    pub source_fault : status ≡ 3
        → Rose (source_at before.source).faults (source_at after.source).faults
    pub source_same : status ≢ 3 → (source_at after.source).faults
        ≡ (source_at before.source).faults
    pub sink_fault : status ≡ 4 → Rose (sink_at before.sink).faults (sink_at after.sink).faults
    pub sink_same : status ≡ 0 → (sink_at after.sink).faults ≡ (sink_at before.sink).faults
    pub disk_fault : status ≡ 5 → OneRose (disk_counts before) (disk_counts after)
    pub disk_same : status ≢ 5 → disk_counts after ≡ disk_counts before
    -- a disk that told its bytes tells them afterwards, and one that told none tells none
    pub left_telling : IsSome (disk_at after.left).seen ↔ IsSome (disk_at before.left).seen
    pub right_telling : IsSome (disk_at after.right).seen ↔ IsSome (disk_at before.right).seen
    -- Whatever a disk holds, time goes on for it, and what a crash may have left at a past moment
    -- stays what it was.
    pub left_time : GoesOn disk_at before.left after.left
    pub right_time : GoesOn disk_at before.right after.right
