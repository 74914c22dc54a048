-- From the planning of a command to the step that it makes, and to the counters that the step leaves.
use Rattle.std.proofs.Common.{◌≡◌, ◌∙◌, ◌+◌, Bool, false, cond, ap, subst, sym}
use Rattle.liq_types.specs.declared.image.Image.{Image}
use Rattle.liq_types.specs.declared.requests.Command.{Command}
use Rattle.liq_types.specs.declared.requests.Request.TheVariants.{Do}
use Rattle.liq_types.specs.State.{State}
use Rattle.liq_core.specs.Core.{Core, StandsFor}
use Rattle.liq_core.specs.Plan.{Plan, IsPlan}
use Rattle.liq_rule_step.specs.Step.{Allowed, after, after_ruling, effect, ruling, step}
use Rattle.liq_types.specs.Verbs.{is_rotate}
use Rattle.liq_rule_step.proofs.Allowed.{effect-records}
use Rattle.liq_rule_step.proofs.Generations.{effect-generation}

-- a planned command is allowed
pub planned_allowed : (s : State) (c : Command) (plan : Plan) → (plan.command ≡ c) × IsPlan s plan
    → ruling s c ≡ Allowed
planned_allowed s c plan is = subst (λ (k : Command). ruling s k ≡ Allowed) is.0 is.1.allowed

pub stepped : (done : Core) (s : State) (c : Command) (plan : Plan) → (plan.command ≡ c) × IsPlan s plan
    → StandsFor done (step s (Do plan.command)).0 → StandsFor done (after s c)
stepped done s c plan is stands =
    let here : StandsFor done (step s (Do c)).0 = subst (λ (k : Command). StandsFor done (step s (Do k)).0) is.0 stands
    in
    subst (λ r. StandsFor done (after_ruling s c r).0) (planned_allowed s c plan is) here

-- ---- what a command leaves that is no rotation: one record more, of the same generation

pub after-records : (s : State) (c : Command) → is_rotate c.call ≡ false → (after s c).records ≡ s.records + 1
after-records s c stays =
    ap (λ (b : Bool). cond b 0 ((effect s c.call).records + 1)) stays
    ∙ ap (λ n. n + 1) (effect-records s c.call)

-- the counters of a core that makes the command's step
pub counts_on : (old new : Core) (s : State) (c : Command) → is_rotate c.call ≡ false → StandsFor old s
    → StandsFor new (after s c) → new.records ≡ old.records + 1
counts_on old new s c stays before stands = stands.records ∙ after-records s c stays
    ∙ ap (λ n. n + 1) (sym before.records)

pub generation_stays : (old new : Core) (s : State) (c : Command) → is_rotate c.call ≡ false → StandsFor old s
    → StandsFor new (after s c) → new.image.generation ≡ old.image.generation
generation_stays old new s c stays before stands =
    ap (λ (i : Image). i.generation) stands.image ∙ effect-generation s c.call stays
    ∙ ap (λ (i : Image). i.generation) (sym before.image)
