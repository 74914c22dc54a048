use Rattle.std.proofs.Common.{◌≡◌, ap, refl, sym, subst, ◌+◌, ◌∷◌, [], ◌∙◌}
use Rattle.liq_types.specs.declared.requests.Command.{Command}
use Rattle.liq_core.specs.Core.{StandsFor, state_of}
use Rattle.liq_word_gen.specs.Carrying.{next_command}
use Rattle.liq_core.proofs.SameContents.{stands_after}
use Rattle.liq_rule_step.specs.Step.{Ruling, Refused, Repeated, after_ruling, next_number, ruling}
use Rattle.liq_word_gen.proofs.Loads.{few_more, next_carries, next_is, numbered_more, refused_adds, repeated_adds}
use Rattle.liq_word_gen.proofs.load.Load.carry_out.Goals as goal

pub returns-in_ok-reserve-in-Ok-New-clause-done : goal.returns-in_ok-reserve-in-Ok-New-clause-done
returns-in_ok-reserve-in-Ok-New-clause-done g c s h =
    let n = c.args.self.now.counts in
    let after = stands_after c.args.self.now.protocol c.reserve.new.self s c.reserve.ensures.same h in
    let planned = (rw c.in-Ok-New.field-0-is at c.in-Ok-New.ensures) s h in
    next_carries s c.args.call c.in-Ok-New.planned.command c.next_number.result c.apply.new.self c.events.result.now n _
    planned.0 (c.next_number.ensures s h) planned.1.allowed (c.events.ensures
    ∙ planned.1.events) (c.apply.ensures.state s after)
    (ap (λ o. record { accepted = n.accepted + 1; refused = n.refused; offsets = n.offsets + o }) c.offsets.ensures)

pub returns-in_ok-reserve-in-Ok-New-clause-few : goal.returns-in_ok-reserve-in-Ok-New-clause-few
returns-in_ok-reserve-in-Ok-New-clause-few g c n h =
    let s = state_of c.args.self.now.protocol in
    let r = next_command s c.args.call in
    let done = returns-in_ok-reserve-in-Ok-New-clause-done g c s c.protocols_stand.ensures in
    few_more s r c.args.self.now.counts _ n done.1 (c.commands_make_few_events.ensures.run s (r ∷ [])) refl refl h

pub returns-in_ok-reserve-in-Ok-New-clause-numbered : goal.returns-in_ok-reserve-in-Ok-New-clause-numbered
returns-in_ok-reserve-in-Ok-New-clause-numbered g c =
    let s = state_of c.args.self.now.protocol in
    let h = c.protocols_stand.ensures in
    let after = stands_after c.args.self.now.protocol c.reserve.new.self s c.reserve.ensures.same h in
    let planned = (rw c.in-Ok-New.field-0-is at c.in-Ok-New.ensures) s h in
    let n = c.args.self.now.counts in
    let number_is = c.next_number.ensures s h
    ∙ sym (next_is c.args.self.now.protocol n s c.requires.few c.requires.numbered h) in
    numbered_more s c.args.call c.in-Ok-New.planned.command c.next_number.result c.apply.new.self n
    (record { accepted = n.accepted + 1; refused = n.refused; offsets = n.offsets + c.offsets.result }) planned.0
    number_is planned.1.allowed (c.apply.ensures.state s after) refl

pub returns-in-Ok-Again-clause-done : goal.returns-in-Ok-Again-clause-done
returns-in-Ok-Again-clause-done g c s h =
    let k : Command = record { client = 1; number = next_number s 1; call = c.args.call } in
    let kept = c.in-Ok-Again.field-0-0 in
    let ruled : ruling s k ≡ Repeated kept =
    subst (λ n. ruling s (record { client = 1; number = n; call = c.args.call }) ≡ Repeated kept)
    (c.next_number.ensures s h)
    ((rw c.in-Ok-Again.field-0-is at c.in-Ok-Again.ensures) s h) in (
      subst (λ (r : Ruling). StandsFor c.args.self.now.protocol (after_ruling s k r).0) (sym ruled) h,
      repeated_adds s k kept c.args.self.now.counts ruled,
    )

pub returns-in-Err-No-clause-done : goal.returns-in-Err-No-clause-done
returns-in-Err-No-clause-done g c s h =
    let k : Command = record { client = 1; number = next_number s 1; call = c.args.call } in
    let refusal = c.in-Err-No.field-0-0 in
    let n = c.args.self.now.counts in
    let ruled : ruling s k ≡ Refused refusal =
    subst (λ n. ruling s (record { client = 1; number = n; call = c.args.call }) ≡ Refused refusal)
    (c.next_number.ensures s h)
    ((rw c.in-Err-No.field-0-is at c.in-Err-No.ensures) s h) in (
      subst (λ (r : Ruling). StandsFor c.args.self.now.protocol (after_ruling s k r).0) (sym ruled) h,
      refused_adds s k refusal n (record n { refused = n.refused + 1 }) ruled refl,
    )
