use Rattle.std.proofs.Common.{◌+◌, ap, arith}
use Rattle.liq_core.specs.Core.{Core, state_of}
use Rattle.liq_core.proofs.Rotating.{past_bytes, past_generations, within_both}
use Rattle.liq_core.proofs.engine.Protocol.no_generation.Goals as goal

pub returns-then-next-from : goal.returns-then-next-from
returns-then-next-from c =
    let same = ap (λ (core : Core). core.image.generation) c.self.view_is in
    past_generations (state_of c.args.self.now) c.args.command.now c.requires (c.from-next.result + 1) 0 (omega (
      arith,
      same,
    )) (omega arith)

pub returns-then-bytes-from : goal.returns-then-bytes-from
returns-then-bytes-from c =
    let same = ap (λ (core : Core). core.image.generation) c.self.view_is in
    past_bytes (state_of c.args.self.now) c.args.command.now c.requires (c.from-next.result
    + 1) c.checkpoint_bytes-bytes.result (omega (arith, same)) (omega arith) c.checkpoint_bytes-bytes.ensures
    (omega arith)

pub returns : goal.returns
returns c =
    let same = ap (λ (core : Core). core.image.generation) c.self.view_is in
    within_both (state_of c.args.self.now) c.args.command.now c.requires (c.from-next.result
    + 1) c.checkpoint_bytes-bytes.result (omega (arith, same)) (omega arith) c.checkpoint_bytes-bytes.ensures
    (omega arith)
