use Rattle.std.proofs.Common.{Result, subst, sym}
use Rattle.liq_types.specs.declared.requests.Request.TheVariants.{Ask}
use Rattle.liq_word_exit.specs.declared.halts.Halt.{Halt}
use Rattle.liq_word_run.specs.Passing.{Passes}
use Rattle.liq_word_run.proofs.Passing.{asked_past, unshown_past}
use Rattle.liq_word_run.proofs.Residual.{cut_at}
use Rattle.liq_word_run.proofs.run.Run.answer_query.Goals as goal

pub returns-clause-past : goal.returns-clause-past
returns-clause-past g c begun requests past =
    asked_past g.D.Disk.at g.met.D.Disk.seen_may_stay begun requests c.args.query.now c.args.self.now.store _ _
    c.make_room.ensures.unshown past

pub returns-in_err-make_room-clause-past : goal.returns-in_err-make_room-clause-past
returns-in_err-make_room-clause-past g c begun requests past =
    subst (λ (end : Result (Unit {0}) Halt). Passes g.D.Disk.at begun requests (Ask c.args.query.now) end
    c.args.self.now.store (g.K.Sink.at c.make_room.new.out).shown)
    (sym (cut_at c.from_residual.result c.in_err-make_room.field-0.0 _ _ _ _ c.from_residual.ensures.1
    c.in_err-make_room.ensures.written))
    (unshown_past g.D.Disk.at g.met.D.Disk.seen_may_stay begun requests c.args.self.now.store _ _
    c.make_room.ensures.unshown past)
