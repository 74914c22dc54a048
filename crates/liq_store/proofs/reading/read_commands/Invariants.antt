use Rattle.std.proofs.Common.{◌≡◌, ◌≤◌, ℕ, List, length, take, Some, IfSome, false}
use Rattle.std.specs.List.{All}
use Rattle.liq_types.specs.declared.requests.Command.{Command}
use Rattle.liq_journal.specs.Bodies.{IsJournalOf}
use Rattle.liq_journal.specs.Parts.{IsPartOf}
use Rattle.liq_outside.specs.Disk.{Looked}
use Rattle.liq_types.specs.Verbs.{is_rotate}
use Rattle.liq_journal.specs.Written.{Written}
use Rattle.liq_store.proofs.reading.read_commands.Given as goal

abbrev pub invariant-loop-done : goal.invariant-loop-done
invariant-loop-done g l = record {
  looked : Looked g.D.Disk.at l.fn.journal.disk l.journal.disk;
  same : l.journal ≡ record l.fn.journal { disk = l.journal.disk };
  part : IfSome (g.D.Disk.at l.journal.disk).seen (IsPartOf l.block);
  still : (g.D.Disk.at l.journal.disk).faults ≡ (g.D.Disk.at l.fn.journal.disk).faults;
  counted : length l.commands.items ≡ l.done;
  none_rotates : All (λ (c : Command). is_rotate c.call ≡ false) l.commands.items;
  read : (held : List ℕ) (w : Written) → (g.D.Disk.at l.fn.journal.disk).seen ≡ Some held
      → IsJournalOf l.fn.journal.generation l.fn.journal.start held w → l.fn.journal.count ≤ length w.commands
      → l.commands.items ≡ take l.done w.commands;
}
