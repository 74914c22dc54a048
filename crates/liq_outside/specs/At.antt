-- What stands outside, each as one value: a disk, a sink and a source.
use Rattle.std.specs.Prelude.{ℕ, Option, List}
use Rattle.liq_outside.specs.declared.showing.Showing.{Showing}

-- what is told of a disk
pub record DiskAt : Type 1 where
  -- what a read gives, where it is told
  pub seen : Option (List ℕ)
  -- the moment: a u64, which each write and each sync that succeeds raises by one, and a write that
  -- fails by one at most, up to its last value
  pub moment : ℕ
  -- what a crash may have left at each moment, the present one included
  pub left_at : ℕ → List ℕ → Type 0
  -- how many faults it has met: a u64, which stays at its last value
  pub faults : ℕ

-- what is told of a sink
pub record SinkAt : Type 0 where
  -- the bytes that it holds, where they are told
  pub held : Option (List ℕ)
  -- each time that it was shown two disks, the first one first, where it tells them
  pub shown : Option (List Showing)
  -- how many faults it has met: a u64, which stays at its last value
  pub faults : ℕ

-- what is told of a source
pub record SourceAt : Type 0 where
  -- the bytes that are left, where they are told
  pub left : Option (List ℕ)
  -- how many faults it has met: a u64, which stays at its last value
  pub faults : ℕ
