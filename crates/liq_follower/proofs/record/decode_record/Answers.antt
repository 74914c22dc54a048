use Rattle.liq_types.proofs.Verbs.{not_rotate}
use Rattle.liq_follower.proofs.Tests.{spells, spells_none, spells_rotation}
use Rattle.liq_follower.proofs.record.decode_record.Goals as goal

pub returns-in-Rotate-clause-spelled : goal.returns-in-Rotate-clause-spelled
returns-in-Rotate-clause-spelled c = spells_rotation c.args.raw.now c.body_of.result c.body_of.ensures c.in-Ok.command
    c.in-Ok.ensures.exact c.in-Rotate.is

pub returns-in_default : goal.returns-in_default
returns-in_default c = record {
  spelled = spells c.args.raw.now c.body_of.result c.body_of.ensures c.in-Ok.command c.in-Ok.ensures.exact
      c.in_default.not-Rotate;
  stays = not_rotate c.in-Ok.command.call c.in_default.not-Rotate;
}

pub returns-in-Err-clause-spelled : goal.returns-in-Err-clause-spelled
returns-in-Err-clause-spelled c = spells_none c.args.raw.now c.body_of.result c.body_of.ensures c.in-Err.field-0.place
    c.in-Err.ensures.exact
