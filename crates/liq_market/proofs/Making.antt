-- What becomes of a planned command.
use Rattle.std.proofs.Common.{◌≡◌, Result, Ok, Err, OnOk, inl, subst}
use Rattle.std.specs.Result.{IsErr}
use Rattle.liq_types.specs.declared.replies.Done.{Done}
use Rattle.liq_types.specs.declared.replies.NoMemory.{NoMemory}
use Rattle.liq_types.specs.declared.replies.Reply.{Reply}
use Rattle.liq_types.specs.declared.replies.Reply.TheVariants.{Said}
use Rattle.liq_types.specs.declared.requests.Command.{Command}
use Rattle.liq_types.specs.declared.requests.Request.TheVariants.{Do}
use Rattle.liq_types.specs.State.{State}
use Rattle.liq_core.specs.Core.{Core, StandsFor}
use Rattle.liq_core.specs.Plan.{IsPlan, Plan}
use Rattle.liq_rule_step.specs.Step.{Allowed, ruling, step}
use Rattle.liq_market.specs.Answering.{Answers}

-- what is said of an answer holds where there is none
pub no_answer : (P : Type 0) (r : Result Reply NoMemory) → IsErr r → OnOk r P
no_answer P (Ok reply) is = cc
no_answer P (Err none) is = tt

module _ (s : State) (c : Command) (plan : Plan) (planned : (plan.command ≡ c) × IsPlan s plan) where
  -- where there is no memory for it: all is as before
  pub answers_unmade : (r : Result Reply NoMemory) (core : Core) → IsErr r → StandsFor core s → Answers s (Do c) r core
  answers_unmade (Ok reply) core is stands = cc
  answers_unmade (Err none) core is stands =
      (stands, inl (subst (λ (k : Command). ruling s k ≡ Allowed) planned.0 planned.1.allowed))

  -- what its step leaves and tells
  pub answers_made : (core : Core) (done : Done) → StandsFor core (step s (Do plan.command)).0
      → (step s (Do plan.command)).1 ≡ Said done → Answers s (Do c) (Ok (Said done)) core
  answers_made core done stands told =
      subst (λ (k : Command). Answers s (Do k) (Ok (Said done)) core) planned.0 (stands, told)
