use Rattle.std.proofs.Common.{◌-◌, ◌≤◌, length, Ok, subst, arith}
use Rattle.std.proofs.lemmas.Option.{slice_get_within}
use Rattle.liq_types.specs.declared.requests.Command.{Command}
use Rattle.liq_disk_replay.specs.Making.{IsDamageBy}
use Rattle.liq_disk_records.specs.Replays.{IsOutcome}
use Rattle.liq_disk_records.proofs.Replaying.{same_record, unread}
use Rattle.liq_disk_records.proofs.again.redo_record.Goals as goal

pub returns-in-Err-clause-replayed : goal.returns-in-Err-clause-replayed
returns-in-Err-clause-replayed g c held w s k told journal recorded stands =
    let room : c.args.index ≤ length w.commands = (let h = slice_get_within w.commands (c.args.index - 1) k recorded
    in omega arith) in
    unread s k c.args.index c.args.protocol.now c.in-Err.why (c.in-Err.ensures.readable held w told journal room)

pub returns-in-Ok-redo-clause-replayed : goal.returns-in-Ok-redo-clause-replayed
returns-in-Ok-redo-clause-replayed g c held w s k told journal recorded stands =
    let room : c.args.index ≤ length w.commands = (let h = slice_get_within w.commands (c.args.index - 1) k recorded
    in omega arith) in
    let same = same_record w.commands (c.args.index - 1) c.in-Ok.command k (c.in-Ok.ensures.command held w told journal
    room) recorded in
    subst (λ (d : Command). IsOutcome s d c.args.index c.redo.new.protocol (Ok tt)) same
    (c.in-Ok-redo.ensures.replayed s stands)

pub returns-in-Err-Damaged-clause-replayed : goal.returns-in-Err-Damaged-clause-replayed
returns-in-Err-Damaged-clause-replayed g c held w s k told journal recorded stands =
    let room : c.args.index ≤ length w.commands = (let h = slice_get_within w.commands (c.args.index - 1) k recorded
    in omega arith) in
    let same = same_record w.commands (c.args.index - 1) c.in-Ok.command k (c.in-Ok.ensures.command held w told journal
    room) recorded in
    subst (λ (d : Command). IsDamageBy s d c.args.index c.in-Err-Damaged.damage) same
    ((rw c.in-Err-Damaged.field-0-is at c.in-Err-Damaged.ensures.replayed) s stands).0
