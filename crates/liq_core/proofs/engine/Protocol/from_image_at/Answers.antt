use Rattle.std.proofs.Common.{sym, ◌∙◌}
use Rattle.liq_types.specs.Soundness.{IsSoundImage}
use Rattle.liq_rule_step.proofs.Started.{started_image, started_formed}
use Rattle.liq_rule_sound.proofs.SoundStart.{finished_before}
use Rattle.liq_rule_sound.proofs.SoundTests.{stakes_added}
use Rattle.liq_core.proofs.engine.Protocol.from_image_at.Goals as goal

pub returns-in-Ok-clause-stands : goal.returns-in-Ok-clause-stands
returns-in-Ok-clause-stands c =
    let i = c.args.image in
    let records = c.args.records in
    let sound : IsSoundImage i records = record {
      rules = sym c.first_unsound.ensures ∙ c.in_default.is;
      tables = c.requires.tables;
    } in
    record {
      image = c.in-Ok.ensures.image ∙ sym (started_image i (stakes_added i records sound));
      records = c.in-Ok.ensures.records;
      formed = started_formed i (finished_before i records sound);
    }
