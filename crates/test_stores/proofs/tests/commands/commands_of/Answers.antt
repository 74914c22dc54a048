use Rattle.std.proofs.Common.{◌≡◌, List, sym, subst}
use Rattle.std.specs.Prelude.{All, false}
use Rattle.std.proofs.lemmas.List.Elements.{All-push}
use Rattle.liq_types.specs.declared.requests.Command.{Command}
use Rattle.liq_types.specs.Verbs.{is_rotate}
use Rattle.test_stores.proofs.tests.commands.commands_of.Goals as goal

IsKept : Command → Type 0
IsKept c = is_rotate c.call ≡ false

pub loop-line-preserved : goal.loop-line-preserved
unfolding IsKept
loop-line-preserved c =
    subst (λ (cs : List Command). All IsKept cs) (sym c.in_ok-push.ensures.items)
    (All-push IsKept c.loop-line.commands.items _ c.loop-line.invariant c.in_ok-command_of.ensures)
