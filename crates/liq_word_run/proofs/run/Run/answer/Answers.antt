use Rattle.std.proofs.Common.{Err, Result, ap, sym, subst, refl, ◌∙◌}
use Rattle.liq_types.specs.declared.replies.Reply.{Reply}
use Rattle.liq_types.specs.declared.requests.Request.{Request}
use Rattle.liq_word_exit.specs.declared.halts.Halt.{Halt}
use Rattle.liq_word_exit.specs.declared.halts.Halt.TheVariants.{ReadFault, WriteFault, DiskFault}
use Rattle.liq_word_exit.specs.Causes.{WriteCause}
use Rattle.liq_word_exit.proofs.Causes.{write_same}
use Rattle.liq_word_run.specs.Passing.{IsPastOf, IsStoppedPastOf, Passes}
use Rattle.liq_word_run.proofs.Closing.{all_written}
use Rattle.liq_word_run.proofs.Passing.{passes_as, unshown_past}
use Rattle.liq_word_run.proofs.Residual.{cut_at, handed_on, same_halt}
use Rattle.liq_word_run.proofs.run.Run.answer.Goals as goal

pub returns-in_err-reply-in-Do-clause-other : goal.returns-in_err-reply-in-Do-clause-other
returns-in_err-reply-in-Do-clause-other g c is =
    let halt = c.in_err-reply-in-Do.field-0.0 in
    let same = same_halt c.from_residual-in_err-reply-in-Do.result halt ReadFault
    (handed_on _ halt c.from_residual-in_err-reply-in-Do.ensures.1) is in
    c.in_err-reply-in-Do.ensures.no_source (ap Err same)

pub returns-in_err-reply-in-Do-clause-caught_up : goal.returns-in_err-reply-in-Do-clause-caught_up
returns-in_err-reply-in-Do-clause-caught_up g c is =
    let halt = c.in_err-reply-in-Do.field-0.0 in
    let same = same_halt c.from_residual-in_err-reply-in-Do.result halt DiskFault
    (handed_on _ halt c.from_residual-in_err-reply-in-Do.ensures.1) is in
    c.flush.ensures.empty

pub returns-in_err-reply-in-Do-clause-kept : goal.returns-in_err-reply-in-Do-clause-kept
returns-in_err-reply-in-Do-clause-kept g c is s stands =
    let halt = c.in_err-reply-in-Do.field-0.0 in
    let same = same_halt c.from_residual-in_err-reply-in-Do.result halt DiskFault
    (handed_on _ halt c.from_residual-in_err-reply-in-Do.ensures.1) is in
    c.in_err-reply-in-Do.ensures.kept (ap Err same) s stands

pub returns-in_err-reply-in-Do-clause-sink : goal.returns-in_err-reply-in-Do-clause-sink
returns-in_err-reply-in-Do-clause-sink g c =
    let halt = c.in_err-reply-in-Do.field-0.0 in
    subst (λ (end : Result (Unit {0}) Halt). WriteCause end (g.K.Sink.at c.args.out.now).faults
    (g.K.Sink.at c.call.new.out).faults)
    (sym (handed_on c.from_residual-in_err-reply-in-Do.result halt c.from_residual-in_err-reply-in-Do.ensures.1))
    (write_same {T = Unit {0}} halt _ _
    (λ e. c.in_err-reply-in-Do.ensures.no_sink
    (ap Err (let failed : Result (Unit {0}) Halt = Err halt in same_halt failed halt WriteFault refl e)))
    (c.call.ensures.sink ∙ c.in_ok-flush-in-Do.ensures.cause))

pub returns-in_err-reply-in-Do-clause-past : goal.returns-in_err-reply-in-Do-clause-past
returns-in_err-reply-in-Do-clause-past g c begun requests past written =
    let store = c.call.new.store in
    let shown = (g.K.Sink.at c.call.new.out).shown in
    let halt = c.in_err-reply-in-Do.field-0.0 in
    let out = all_written begun.start requests _ _ begun.held _ _ written c.in_ok-flush-in-Do.ensures.written
    c.flush.ensures.empty in
    subst (λ (end : Result (Unit {0}) Halt). Passes g.D.Disk.at begun requests c.args.request.now end store shown)
    (sym (handed_on c.from_residual-in_err-reply-in-Do.result halt c.from_residual-in_err-reply-in-Do.ensures.1))
    (passes_as Reply (Unit {0}) (λ rs. IsPastOf g.D.Disk.at begun rs store shown)
    (λ rs q. IsStoppedPastOf g.D.Disk.at begun rs q store shown) requests c.args.request.now halt
    (c.in_err-reply-in-Do.ensures.past begun requests
    (unshown_past g.D.Disk.at g.met.D.Disk.seen_may_stay begun requests c.args.self.now.store _ _
    c.flush.ensures.unshown past) out))

pub returns-in_ok-reply-in-Do-clause-past : goal.returns-in_ok-reply-in-Do-clause-past
returns-in_ok-reply-in-Do-clause-past g c begun requests past written =
    let out = all_written begun.start requests _ _ begun.held _ _ written c.in_ok-flush-in-Do.ensures.written
    c.flush.ensures.empty in
    c.in_ok-reply-in-Do.ensures.past begun requests
    (unshown_past g.D.Disk.at g.met.D.Disk.seen_may_stay begun requests c.args.self.now.store _ _
    c.flush.ensures.unshown past) out

pub returns-in-Ask-clause-past : goal.returns-in-Ask-clause-past
returns-in-Ask-clause-past g c begun requests past written =
    subst (λ (q : Request). Passes g.D.Disk.at begun requests q c.answer_query.result c.answer_query.new.self.store
    (g.K.Sink.at c.answer_query.new.out).shown) (sym c.in-Ask.is)
    (c.answer_query.ensures.past begun requests past)

pub returns-in_err-flush-in-Do-clause-past : goal.returns-in_err-flush-in-Do-clause-past
returns-in_err-flush-in-Do-clause-past g c begun requests past written =
    subst (λ (end : Result (Unit {0}) Halt). Passes g.D.Disk.at begun requests c.args.request.now end
    c.args.self.now.store (g.K.Sink.at c.flush.new.out).shown)
    (sym (cut_at c.from_residual.result c.in_err-flush-in-Do.field-0.0 _ _ _ _ c.from_residual.ensures.1
    c.in_err-flush-in-Do.ensures.written))
    (unshown_past g.D.Disk.at g.met.D.Disk.seen_may_stay begun requests c.args.self.now.store _ _
    c.flush.ensures.unshown past)
