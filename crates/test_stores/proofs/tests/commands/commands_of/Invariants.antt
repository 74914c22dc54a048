use Rattle.std.specs.Prelude.{◌≡◌, All, false}
use Rattle.liq_types.specs.declared.requests.Command.{Command}
use Rattle.liq_types.specs.Verbs.{is_rotate}
use Rattle.test_stores.proofs.tests.commands.commands_of.Given as goal

abbrev pub invariant-loop-line : goal.invariant-loop-line
invariant-loop-line l = All (λ (c : Command). is_rotate c.call ≡ false) l.commands.items
