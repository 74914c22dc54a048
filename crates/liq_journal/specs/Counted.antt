-- What the records behind a header are found to be, whatever the limit and the checkpoint.
use Rattle.std.specs.Prelude.{◌≡◌, ℕ, List, length, drop}
use Rattle.liq_types.specs.declared.requests.Command.{Command}
use Rattle.liq_journal.specs.declared.answers.LookFault.{LookFault}
use Rattle.liq_journal.specs.declared.answers.LookFault.TheVariants as fault
use Rattle.liq_journal.specs.Records.{records}
use Rattle.liq_journal.specs.Written.{Open, Damaged, found_records, most_records}

-- whole records of commands
pub record AreRecords (generation start : ℕ) (held : List ℕ) (count : ℕ) : Type 0 where
  pub commands : List Command
  pub counted : length commands ≡ count
  pub found : (limit : ℕ) → (checkpoint : List ℕ)
      → found_records generation limit checkpoint 1 start (records most_records (drop start held))
      ≡ Open (record {
        generation = generation;
        limit = limit;
        checkpoint = checkpoint;
        commands = commands;
      })

-- the first fault of the records from the start on
abbrev pub IsFaultIn : ℕ → ℕ → List ℕ → LookFault → Type 0
IsFaultIn generation start held fault.DiskFault = Unit {0}
IsFaultIn generation start held (fault.Damaged damage) =
    (limit : ℕ) → (checkpoint : List ℕ)
    → found_records generation limit checkpoint 1 start (records most_records (drop start held))
    ≡ Damaged damage
