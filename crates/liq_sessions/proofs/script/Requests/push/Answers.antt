use Rattle.std.proofs.Common.{◌≡◌, ◌++◌, ◌∷◌, [], ◌∙◌, refl}
use Rattle.liq_sessions.proofs.Joined.{among-ask, joined-ask, joined-command, more_commands}
use Rattle.liq_sessions.proofs.script.Requests.push.Goals as goal

pub invariant_of-self-in-Ask : goal.invariant_of-self-in-Ask
invariant_of-self-in-Ask c =
    rw (c.push_reserved.ensures.items, c.try_reserve.ensures.items)
    (among-ask c.self.inside.waiting.items c.in-Ask.query ∙ c.self.invariant)

-- the command stands behind the others
pushed : (c : goal.After-push_reserved-in-Do) → c.push.new.self.items
    ≡ c.self.inside.commands.items ++ c.in-Do.command ∷ []
pushed c = rw (c.push.ensures.items, c.is_err-in-Do.ensures.negation, c.if-is_err-2.false) refl

pub invariant_of-self-in-Do : goal.invariant_of-self-in-Do
invariant_of-self-in-Do c =
    rw (c.push_reserved-in-Do.ensures.items, c.try_reserve.ensures.items, pushed c)
    (more_commands c.self.inside.waiting.items c.self.inside.commands.items c.in-Do.command c.self.invariant)

pub returns-in-Ask-clause-ok : goal.returns-in-Ask-clause-ok
returns-in-Ask-clause-ok c =
    rw (c.push_reserved.ensures.items, c.try_reserve.ensures.items, ← c.self.view_is, c.in-Ask.is)
    (joined-ask c.self.inside.waiting.items c.self.inside.commands.items c.in-Ask.query c.self.invariant)

pub returns-else-is_err-2-clause-ok : goal.returns-else-is_err-2-clause-ok
returns-else-is_err-2-clause-ok c =
    rw (
      c.push_reserved-in-Do.ensures.items,
      c.try_reserve.ensures.items,
      pushed c,
      ← c.self.view_is,
      c.in-Do.is,
    )
    (joined-command c.self.inside.waiting.items c.self.inside.commands.items c.in-Do.command c.self.invariant)
