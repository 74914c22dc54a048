use Rattle.std.proofs.Common.{subst, sym}
use Rattle.liq_core.specs.Core.{Core}
use Rattle.liq_disk_replay.specs.Retold.{IsRetold}
use Rattle.liq_disk_replay.proofs.Replays.{begun, next_made, next_stops, all_made, has_come, handed_fault}
use Rattle.liq_disk_replay.proofs.replay.replay_commands_on.Goals as goal

pub loop-i-init : goal.loop-i-init
loop-i-init g c = begun g.O.Onlooker.adds c.args.limit c.args.commands.now c.with_limit-protocol.result _
    c.with_limit-protocol.ensures c.requires.fresh

pub redo-requires : goal.redo-requires
redo-requires g c anything = has_come g.O.Onlooker.adds c.args.limit c.args.commands.now c.loop-i.i c.loop-i.protocol _
    c.loop-i.invariant c.requires.limit c.requires.no_rotation

pub loop-i-preserved : goal.loop-i-preserved
loop-i-preserved g c =
    let h = c.loop-i.invariant in
    let s = h.retold.state in
    next_made g.O.Onlooker.adds c.args.limit c.args.commands.now c.loop-i.i c.loop-i.protocol _ h _ c.loop-i-test.true
    c.redo.new.protocol _ (c.in_ok-redo.ensures.replayed s h.retold.stands)
    (c.in_ok-redo.ensures.noted s h.retold.stands)

pub returns-clause-done : goal.returns-clause-done
returns-clause-done g c =
    subst (λ (core : Core). IsRetold g.O.Onlooker.adds c.args.limit c.args.commands.now core
    (g.O.Onlooker.notes c.loop-i.onlooker)) (sym c.into_protocol.ensures)
    (all_made g.O.Onlooker.adds c.args.limit c.args.commands.now c.loop-i.i c.loop-i.protocol _ c.loop-i.invariant
    c.loop-i-test.false)

pub returns-in_err-redo-clause-damaged : goal.returns-in_err-redo-clause-damaged
returns-in_err-redo-clause-damaged g c damage is =
    let h = c.loop-i.invariant in
    let why = c.in_err-redo.field-0.0 in
    next_stops g.O.Onlooker.adds c.args.limit c.args.commands.now c.loop-i.i c.loop-i.protocol _ h _ c.loop-i-test.true
    damage why (c.in_err-redo.ensures.replayed h.retold.state h.retold.stands).0
    (handed_fault c.from_residual.result why damage c.from_residual.ensures.1 is)
