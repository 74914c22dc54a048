use Rattle.std.specs.Prelude.{ℕ, Option, Some, List, ◌++◌, drop, length, min}
use Rattle.liq_outside.specs.At.{SinkAt, SourceAt}
use Rattle.liq_outside.specs.Calls.{Calls, begun, faulted}
use Rattle.liq_outside.specs.declared.showing.Showing.{Showing}

-- a source in memory
pub record SourceInMemory : Type 0 where
  -- the bytes that no read has taken yet
  pub left : List ℕ
  -- the most that one read takes
  pub chunk : ℕ
  pub calls : Calls

-- what is told of a source in memory
abbrev pub source_at : SourceInMemory → SourceAt
source_at source = record { left = Some source.left; faults = source.calls.faults }

-- how many bytes a read into a buffer of this length takes
abbrev pub count_taken : SourceInMemory → ℕ → ℕ
count_taken source room = min (min room source.chunk) (length source.left)

-- after a read of n bytes
abbrev pub after_read : SourceInMemory → ℕ → SourceInMemory
after_read source n = record source { left = drop n source.left; calls = begun source.calls }

-- after a read that failed
abbrev pub after_failed_read : SourceInMemory → SourceInMemory
after_failed_read source = record source { calls = faulted (begun source.calls) }

-- a sink in memory
pub record SinkInMemory : Type 0 where
  -- the bytes that were written
  pub held : List ℕ
  -- each time that it was shown two disks, while there was memory for that
  pub shown : Option (List Showing)
  -- how many of them it has room for, without more memory, while it tells them
  pub room : ℕ
  pub calls : Calls

-- what is told of a sink in memory
abbrev pub sink_at : SinkInMemory → SinkAt
sink_at sink = record { held = Some sink.held; shown = sink.shown; faults = sink.calls.faults }

-- after a write of all the bytes
abbrev pub after_write : SinkInMemory → List ℕ → SinkInMemory
after_write sink bytes = record sink { held = sink.held ++ bytes; calls = begun sink.calls }

-- after a write that failed
abbrev pub after_failed_write : SinkInMemory → SinkInMemory
after_failed_write sink = record sink { calls = faulted (begun sink.calls) }
