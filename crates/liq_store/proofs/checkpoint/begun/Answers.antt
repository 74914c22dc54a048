use Rattle.std.proofs.Common.{◌≡◌, ◌∙◌, None, Ok, Err, ap, sym, subst}
use Rattle.liq_types.specs.Soundness.{first_unsound}
use Rattle.liq_types.specs.State.{started}
use Rattle.liq_core.specs.Core.{Core, StandsFor}
use Rattle.liq_disk_pair.specs.Replay.{read_base}
use Rattle.liq_store.proofs.Basing.{begins_badly, first_same, foreign_base, own_base, tested_image, unsound_base}
use Rattle.liq_store.proofs.checkpoint.begun.Goals as goal

pub returns-in-Err-Unsound-clause-begins : goal.returns-in-Err-Unsound-clause-begins
returns-in-Err-Unsound-clause-begins c w same limit =
    let rule = c.in-Err-Unsound.field-0-0 in
    let is = (c.in-Err-Unsound.ensures.unsound rule).0 (λ i. Err (c.in-Err-Unsound.field-0-is i)) in
    begins_badly w c.args.limit 0 (read_base w (Ok c.args.image)) c.misshapen.result
    (unsound_base w rule c.args.image is) limit c.misshapen.ensures

pub returns-then-not-is_of-clause-begins : goal.returns-then-not-is_of-clause-begins
returns-then-not-is_of-clause-begins c w same limit =
    let none : first_unsound c.args.image 0 ≡ None =
    (λ i. first_unsound (sym c.in-Ok.ensures.image i) (sym c.in-Ok.ensures.stands.records i))
    ∙ c.protocols_are_sound.ensures.rules in
    let isnt = tested_image w c.args.image c.in-Ok.protocol.image c.args.generation c.args.limit same limit
    c.in-Ok.ensures.image ∙ sym c.is_of.ensures ∙ c.if-not-is_of.true in
    begins_badly w c.args.limit 0 (read_base w (Ok c.args.image)) c.misshapen-then-not-is_of.result
    (foreign_base w c.args.image none isnt)
    limit c.misshapen-then-not-is_of.ensures

pub returns-in-Ok-of-clause-begins : goal.returns-in-Ok-of-clause-begins
returns-in-Ok-of-clause-begins c w same limit =
    let none : first_unsound c.args.image 0 ≡ None =
    (λ i. first_unsound (sym c.in-Ok.ensures.image i) (sym c.in-Ok.ensures.stands.records i))
    ∙ c.protocols_are_sound.ensures.rules in
    let is = tested_image w c.args.image c.in-Ok.protocol.image c.args.generation c.args.limit same limit
    c.in-Ok.ensures.image ∙ sym c.is_of.ensures ∙ c.if-not-is_of.false in (
      started c.args.image,
      own_base w c.args.image none is,
      subst (λ (k : Core). StandsFor k (started c.args.image)) (sym c.in-Ok-of.ensures) c.in-Ok.ensures.stands,
    )

pub returns-in-Ok-of-clause-generation : goal.returns-in-Ok-of-clause-generation
returns-in-Ok-of-clause-generation c =
    ap (λ (k : Core). k.image.generation) c.in-Ok-of.ensures
    ∙ first_same c.in-Ok.protocol.image.generation c.args.generation _ (sym c.is_of.ensures ∙ c.if-not-is_of.false)
