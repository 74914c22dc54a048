use Rattle.std.proofs.Common.{◌≡◌, ◌++◌, map}
use Rattle.std.specs.List.{AllByRecursion}
use Rattle.std.specs.Map.{keys_of}
use Rattle.liq_types.specs.State.{State}
use Rattle.liq_audit.specs.Auditable.{accounts_of}
use Rattle.liq_core.specs.Core.{StandsFor}
use Rattle.liq_text_audit.specs.Engine.{paid_row, Pays}
use Rattle.liq_text_audit.proofs.engine.engine_rows.Given as goal

abbrev pub invariant-loop-account : goal.invariant-loop-account
invariant-loop-account l = record {
  rows : (s : State) → StandsFor l.protocol s → l.rows.items ++ map (paid_row s) l.account-iterator
      ≡ map (paid_row s) l.paid.entries;
  accounts : accounts_of l.rows.items ++ keys_of l.account-iterator ≡ keys_of l.paid.entries;
  pays : AllByRecursion (Pays l.protocol) l.account-iterator;
}
