use Rattle.std.proofs.Common.{ap, sym, ◌∙◌, ◌-◌, arith, drop, List}
use Rattle.liq_types.specs.declared.requests.Call.{Call}
use Rattle.liq_sessions.specs.Generated.{to_come}
use Rattle.liq_sessions.proofs.Coming.{opens, draws}
use Rattle.liq_sessions.proofs.generator.Generator.next.Goals as goal

pub returns-then-self-lt-PREAMBLE-clause-rest : goal.returns-then-self-lt-PREAMBLE-clause-rest
returns-then-self-lt-PREAMBLE-clause-rest c =
    ap (λ (calls : List Call). drop 1 calls) (sym (opens c.self.inside.state c.self.inside.opened c.self.inside.left
    c.if-self-lt-PREAMBLE.true) ∙ c.self.view_is)

pub returns-clause-rest : goal.returns-clause-rest
returns-clause-rest c =
    ap (λ x. to_come x c.self.inside.opened (c.self.inside.left - 1)) c.draw_call.ensures.state
    ∙ ap (λ (calls : List Call). drop 1 calls) (sym (draws c.self.inside.state c.self.inside.opened c.self.inside.left
    c.if-self-lt-PREAMBLE.false (omega (arith, c.if-self-eq0.false))) ∙ c.self.view_is)
