-- A journal as contracts see it.
use Rattle.std.specs.Prelude.{◌≡◌, ℕ, List, length}
use Rattle.liq_journal.specs.Written.{Written, start_of}
use Rattle.liq_journal.specs.Crash.{Stands}
use Rattle.liq_disk_header.specs.Header.{is_odd}

-- a disk, and what is known of the journal on it
pub record JournalOn (D : Type 0) : Type 0 where
  pub disk : D
  pub generation : ℕ
  pub limit : ℕ
  -- where the records begin
  pub start : ℕ
  -- how many records there are
  pub count : ℕ

-- The bytes are whole records of this generation and a 0 behind them, as many as are known of.
pub record IsSettled (generation start count : ℕ) (bytes : List ℕ) : Type 0 where
  pub written : Written
  pub stands : Stands (is_odd generation) bytes written
  pub generation_is : written.generation ≡ generation
  pub start_is : start_of written ≡ start
  pub count_is : length written.commands ≡ count
