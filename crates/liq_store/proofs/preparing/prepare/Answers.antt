use Rattle.std.proofs.Common.{◌≡◌, ◌∙◌, arith, inl, subst, sym}
use Rattle.liq_core.specs.Core.{Core, StandsFor, state_of}
use Rattle.liq_rule_step.proofs.Allowed.{allowed_few}
use Rattle.liq_core_hinted.proofs.Steps.{planned_allowed}
use Rattle.liq_store.proofs.preparing.prepare.Goals as goal

stands_too : (told core : Core) → told ≡ core → StandsFor told (state_of told) → StandsFor core (state_of core)
stands_too told core is stands = subst (λ (p : Core). StandsFor p (state_of p)) is stands

pub returns-in-Ok-reserve-clause-ready : goal.returns-in-Ok-reserve-clause-ready
returns-in-Ok-reserve-clause-ready c =
    let s = state_of c.args.protocol.now in
    let is = (rw c.in-Ok-New.field-0-is at c.in-Ok-New.ensures) s (stands_too _ _ c.protocol.ensures
    c.protocols_stand.ensures) in (
      is.0 ∙ c.unhinted.ensures.same,
      c.in-Ok-reserve.ensures.room,
      λ stays.
          let allowed = sym (c.unhinted.ensures.ruling s)
          ∙ planned_allowed s c.unhinted.result c.in-Ok-New.planned is in
          let few = allowed_few s c.args.command.now allowed stays in
          omega (arith, few, c.reserve.ensures.same.records),
    )

pub returns-in_default-clause-prepared : goal.returns-in_default-clause-prepared
returns-in_default-clause-prepared c s stands =
    let is = (rw c.in-Ok-New.field-0-is at c.in-Ok-New.ensures) s stands in
    inl (sym (c.unhinted.ensures.ruling s) ∙ planned_allowed s c.unhinted.result c.in-Ok-New.planned is)

pub returns-in-Err-clause-prepared : goal.returns-in-Err-clause-prepared
returns-in-Err-clause-prepared c s stands =
    let is = (rw c.in-Ok-New.field-0-is at c.in-Ok-New.ensures) s stands in
    inl (sym (c.unhinted.ensures.ruling s) ∙ planned_allowed s c.unhinted.result c.in-Ok-New.planned is)

pub returns-in-Ok-reserve-clause-prepared : goal.returns-in-Ok-reserve-clause-prepared
returns-in-Ok-reserve-clause-prepared c s stands =
    let is = (rw c.in-Ok-New.field-0-is at c.in-Ok-New.ensures) s stands in (is.0 ∙ c.unhinted.ensures.same, is.1)

pub returns-in-Ok-reserve-clause-exact : goal.returns-in-Ok-reserve-clause-exact
returns-in-Ok-reserve-clause-exact c = c.in-Ok-reserve.ensures.exact

pub returns-in-Ok-Again-clause-stands : goal.returns-in-Ok-Again-clause-stands
returns-in-Ok-Again-clause-stands c = stands_too _ _ c.protocol.ensures c.protocols_stand.ensures

pub returns-in-Err-No-clause-stands : goal.returns-in-Err-No-clause-stands
returns-in-Err-No-clause-stands c = stands_too _ _ c.protocol.ensures c.protocols_stand.ensures

pub returns-in-Err-NoMemory-clause-stands : goal.returns-in-Err-NoMemory-clause-stands
returns-in-Err-NoMemory-clause-stands c = stands_too _ _ c.protocol.ensures c.protocols_stand.ensures

pub returns-in_default-clause-stands : goal.returns-in_default-clause-stands
returns-in_default-clause-stands c = stands_too _ _ c.protocol.ensures c.protocols_stand.ensures

pub returns-in-Ok-reserve-clause-stands : goal.returns-in-Ok-reserve-clause-stands
returns-in-Ok-reserve-clause-stands c = stands_too _ _ c.protocol.ensures c.protocols_stand.ensures

pub returns-in-Err-clause-stands : goal.returns-in-Err-clause-stands
returns-in-Err-clause-stands c = stands_too _ _ c.protocol.ensures c.protocols_stand.ensures
