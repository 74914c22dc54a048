use Rattle.std.proofs.Common.{inl, inr, arith}
use Rattle.liq_order.proofs.Seen.{begins, front_within, ends_or_goes}
use Rattle.liq_order.proofs.linked.Nodes.walk.Goals as goal

pub loop-further-init : goal.loop-further-init
loop-further-init g c =
    let b = begins c.args.self.now c.args.entry c.front-gap.result c.front-gap.ensures in
    (b.0, omega (arith, b.1))

pub step-requires-clause-behind : goal.step-requires-clause-behind
step-requires-clause-behind g c = c.loop-further.invariant.0

pub loop-further-smaller : goal.loop-further-smaller
loop-further-smaller g c =
    let b = c.loop-further.invariant in
    let on = c.in-Some.ensures.on b.0 in
    omega (arith, c.in-Some.ensures.step, b.1, on.1, front_within c.args.self.now c.args.entry c.in-Some.further on.0)

pub loop-further-preserved : goal.loop-further-preserved
loop-further-preserved g c =
    let b = c.loop-further.invariant in
    let on = c.in-Some.ensures.on b.0 in
    (on.0, omega (arith, c.in-Some.ensures.step, b.1, on.1))

pub returns-clause-gap : goal.returns-clause-gap
returns-clause-gap g c = (c.loop-further.invariant.0, c.in_default.ensures.stop)

pub returns-clause-steps : goal.returns-clause-steps
returns-clause-steps g c =
    let b = c.loop-further.invariant in
    let within = front_within c.args.self.now c.args.entry c.loop-further.gap b.0 in
    elim (ends_or_goes c.args.self.now c.args.entry c.loop-further.gap b.0) [
      | inl none ↦ omega (arith, c.in_default.ensures.ended none, within, b.1)
      | inr more ↦ omega (arith, c.in_default.ensures.steps, more, b.1)
    ]
