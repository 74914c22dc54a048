use Rattle.std.proofs.Common.{◌≡◌, ◌∙◌, ◌+◌, length, Ok, sym, ap, arith}
use Rattle.liq_types.specs.declared.image.Image.{Image}
use Rattle.liq_types.specs.Length.{checkpoint_length}
use Rattle.liq_types.specs.Soundness.{first_unsound}
use Rattle.liq_core.specs.Core.{state_of}
use Rattle.liq_core.proofs.SoundCores.{core_facts}
use Rattle.liq_rule_step.specs.Image.{image}
use Rattle.liq_rule_step.specs.Step.{after}
use Rattle.liq_checkpoint.specs.Spelling.{spelling}
use Rattle.liq_disk_pair.proofs.Turning.{made_rotation}
use Rattle.liq_store.proofs.Limits.{rotation_fits, size_fits}
use Rattle.liq_store.proofs.rotating.checkpoint_after.Goals as goal

pub returns-clause-rotation : goal.returns-clause-rotation
returns-clause-rotation c s stands =
    let command = c.args.planned.now.command in
    let first = (core_facts c.args.protocol.now c.protocols_are_sound.ensures).ranges.first_generation in
    let same : s.generation ≡ c.args.protocol.now.image.generation =
    ap (λ (i : Image). i.generation) (sym stands.image) in
    let is = c.in_ok-image.ensures.image s stands in
    made_rotation s command c.in_ok-bytes.bytes.items stands.formed (omega (arith, first, same)) c.requires.rotates
    (c.requires.planned s stands).allowed
    (c.in_ok-bytes.ensures.spelled ∙ ap spelling is) (c.in_ok-bytes.ensures.read
    ∙ ap Ok is) (ap (λ (i : Image). first_unsound i 0) (sym is) ∙ c.in_ok-image.ensures.sound)

pub returns-clause-size : goal.returns-clause-size
returns-clause-size c =
    let s = state_of c.args.protocol.now in
    let stands = c.protocols_stand.ensures in
    let first = (core_facts c.args.protocol.now c.protocols_are_sound.ensures).ranges.first_generation in
    let fits = rotation_fits s c.args.planned.now.command (c.requires.planned s stands).allowed c.requires.rotates in
    let long : length c.in_ok-bytes.bytes.items ≡ checkpoint_length (image (after s c.args.planned.now.command)) =
    c.in_ok-bytes.ensures.length ∙ ap checkpoint_length (c.in_ok-image.ensures.image s stands) in
    size_fits (c.args.protocol.now.image.generation + 1) (length c.in_ok-bytes.bytes.items) (omega (arith, first))
    (omega (arith, long)) (omega (arith, long, fits.bytes))

pub returns-clause-generation : goal.returns-clause-generation
returns-clause-generation c =
    let s = state_of c.args.protocol.now in
    (rotation_fits s c.args.planned.now.command (c.requires.planned s c.protocols_stand.ensures).allowed
    c.requires.rotates).generation

pub returns-in_err-image-clause-generation : goal.returns-in_err-image-clause-generation
returns-in_err-image-clause-generation c =
    let s = state_of c.args.protocol.now in
    (rotation_fits s c.args.planned.now.command (c.requires.planned s c.protocols_stand.ensures).allowed
    c.requires.rotates).generation

pub returns-in_err-bytes-clause-generation : goal.returns-in_err-bytes-clause-generation
returns-in_err-bytes-clause-generation c =
    let s = state_of c.args.protocol.now in
    (rotation_fits s c.args.planned.now.command (c.requires.planned s c.protocols_stand.ensures).allowed
    c.requires.rotates).generation
