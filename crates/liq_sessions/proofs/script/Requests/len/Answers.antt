use Rattle.std.proofs.Common.{List, length, ap, arith}
use Rattle.liq_types.specs.declared.requests.Request.{Request}
use Rattle.liq_sessions.proofs.Joined.{as_many}
use Rattle.liq_sessions.proofs.script.Requests.len.Goals as goal

pub returns : goal.returns
returns c =
    let many = as_many c.self.inside.waiting.items c.self.inside.commands.items c.self.invariant in
    let now = ap (λ (rs : List Request). length rs) c.self.view_is in
    omega (arith, c.len.ensures, c.self.inside.waiting.ok.0, many, now)
