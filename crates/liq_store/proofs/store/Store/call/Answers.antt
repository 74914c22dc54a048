use Rattle.std.proofs.Common.{refl, ap, subst, sym}
use Rattle.liq_types.specs.declared.replies.Answer.TheVariants as answer
use Rattle.liq_types.specs.declared.requests.Request.{Request}
use Rattle.liq_rule_step.specs.Memory.{IsAccepted}
use Rattle.liq_store.specs.Answering.{AnswersByStep}
use Rattle.liq_store.specs.Calling.{AppendsOnce, WritesOn}
use Rattle.liq_store.specs.Rotating.{is_rotation}
use Rattle.liq_store.specs.Stored.{Stored}
use Rattle.liq_store.specs.Telling.{TellsChanges}
use Rattle.liq_store.proofs.Calling.{reply_stays, stays_on}
use Rattle.liq_store.proofs.store.Store.call.Goals as goal

pub returns-in-Ask-clause-disks : goal.returns-in-Ask-clause-disks
returns-in-Ask-clause-disks g c =
    subst (λ (o : Stored g.row.D.Denot). WritesOn g.D.Disk.at c.args.self.now c.args.request.now
    (answer.Reply c.query.result) o) c.self.view_is
    (stays_on g.D.Disk.at c.self.inside.side c.self.inside.taken c.self.inside.beside c.self.inside.protocol
    c.self.inside.stopped c.self.inside.changes.items c.self.invariant c.args.self.now c.self.view_is
    c.self.inside.protocol c.self.inside.stopped c.self.inside.changes.items c.args.request.now
    (answer.Reply c.query.result)
    (λ s stands. reply_stays s c.args.request.now c.query.result c.self.inside.side c.self.inside.taken.start
    (ap (is_rotation s) c.in-Ask.is)))

pub returns-in-Some-clause-disks : goal.returns-in-Some-clause-disks
returns-in-Some-clause-disks g c =
    subst (λ (o : Stored g.row.D.Denot). WritesOn g.D.Disk.at c.args.self.now c.args.request.now
    (answer.Stopped c.in-Some.faults) o) c.self.view_is
    (stays_on g.D.Disk.at c.self.inside.side c.self.inside.taken c.self.inside.beside c.self.inside.protocol
    c.self.inside.stopped c.self.inside.changes.items c.self.invariant c.args.self.now c.self.view_is
    c.self.inside.protocol c.self.inside.stopped c.self.inside.changes.items c.args.request.now
    (answer.Stopped c.in-Some.faults)
    (λ s stands. (refl, refl)))

pub returns-in-Ask-clause-appended : goal.returns-in-Ask-clause-appended
returns-in-Ask-clause-appended g c s stands accepted none =
    absurd (subst (λ (q : Request). IsAccepted s q) c.in-Ask.is accepted)

-- ---- a command is carried out

pub returns-in-Do-clause-step : goal.returns-in-Do-clause-step
returns-in-Do-clause-step g c goes = subst (λ (q : Request). AnswersByStep c.args.self.now q c.carry_out.result
    c.carry_out.new.self) (sym c.in-Do.is) c.carry_out.ensures.step

pub returns-in-Do-clause-told : goal.returns-in-Do-clause-told
returns-in-Do-clause-told g c = subst (λ (q : Request). TellsChanges c.args.self.now q c.carry_out.result
    c.carry_out.new.self) (sym c.in-Do.is) c.carry_out.ensures.told

pub returns-in-Do-clause-disks : goal.returns-in-Do-clause-disks
returns-in-Do-clause-disks g c = subst (λ (q : Request). WritesOn g.D.Disk.at c.args.self.now q c.carry_out.result
    c.carry_out.new.self) (sym c.in-Do.is) c.carry_out.ensures.disks

pub returns-in-Do-clause-appended : goal.returns-in-Do-clause-appended
returns-in-Do-clause-appended g c = subst (λ (q : Request). AppendsOnce g.D.Disk.at c.args.self.now q
    c.carry_out.result c.carry_out.new.self) (sym c.in-Do.is) c.carry_out.ensures.appended
