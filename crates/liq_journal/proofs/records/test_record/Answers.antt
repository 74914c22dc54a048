use Rattle.std.proofs.Common.{◌∙◌, sym, ap, rules}
use Rattle.liq_journal.specs.Written.{command_from}
use Rattle.liq_journal.proofs.Testing.{differs, agrees, rotation, no_rotation}
use Rattle.liq_journal.proofs.records.test_record.Goals as goal

pub returns-then-ne : goal.returns-then-ne
returns-then-ne c = differs c.args.generation c.args.index c.args.place c.args.raw.now.body c.args.raw.now.stored
    c.record_digest-computed.result (search rules) c.record_digest-computed.ensures (sym c.ne.ensures ∙ c.if-ne.true)

pub returns-in-Rotate : goal.returns-in-Rotate
returns-in-Rotate c =
    agrees c.args.generation c.args.index c.args.place c.args.raw.now.body c.args.raw.now.stored
    c.record_digest-computed.result (search rules) c.record_digest-computed.ensures (sym c.ne.ensures ∙ c.if-ne.false)
    ∙ ap (command_from c.args.place) c.in-Ok.ensures.exact ∙ rotation c.args.place c.in-Ok.command c.in-Rotate.is

pub returns-in_default : goal.returns-in_default
returns-in_default c =
    agrees c.args.generation c.args.index c.args.place c.args.raw.now.body c.args.raw.now.stored
    c.record_digest-computed.result (search rules) c.record_digest-computed.ensures (sym c.ne.ensures ∙ c.if-ne.false)
    ∙ ap (command_from c.args.place) c.in-Ok.ensures.exact
    ∙ no_rotation c.args.place c.in-Ok.command c.in_default.not-Rotate

pub returns-in-Err : goal.returns-in-Err
returns-in-Err c =
    agrees c.args.generation c.args.index c.args.place c.args.raw.now.body c.args.raw.now.stored
    c.record_digest-computed.result (search rules) c.record_digest-computed.ensures (sym c.ne.ensures ∙ c.if-ne.false)
    ∙ ap (command_from c.args.place) c.in-Err.ensures.exact
