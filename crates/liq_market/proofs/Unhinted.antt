-- What a market answers to a command without its own hint words it answers to the command.
use Rattle.std.proofs.Common.{◌≡◌, ℕ, List, Result, Ok, Err, OnOk, inl, inr, refl, sym, ap, subst, ◌∙◌}
use Rattle.liq_types.specs.declared.replies.NoMemory.{NoMemory}
use Rattle.liq_types.specs.declared.replies.Reply.{Reply}
use Rattle.liq_types.specs.declared.requests.Call.{Call}
use Rattle.liq_types.specs.declared.requests.Call.TheVariants.{Open, Adjust, GainToTrove, Redeem}
use Rattle.liq_types.specs.declared.requests.Command.{Command}
use Rattle.liq_types.specs.declared.requests.Request.TheVariants.{Do}
use Rattle.liq_types.specs.State.{State}
use Rattle.liq_core.specs.Core.{Core, StandsFor}
use Rattle.liq_core.proofs.HintsAside.{ruling_same}
use Rattle.liq_rule_step.specs.Lists.{CallPlansList}
use Rattle.liq_rule_step.specs.Memory.{TakesMemory}
use Rattle.liq_rule_step.specs.Verbs.{unhinted, unhinted_call}
use Rattle.liq_rule_step.proofs.Runs.{hints_idle}
use Rattle.liq_market.specs.Answering.{Answers}
use Rattle.liq_market.specs.Touching.{touched_after}

list_planned : (s : State) (call : Call) → CallPlansList s (unhinted_call call) → CallPlansList s call
list_planned s (Open account coll borrow bound hint) h = h
list_planned s (Adjust account coll_in coll_out borrow repay bound hint) h = h
list_planned s (GainToTrove account hint) h = h
list_planned s (Redeem account lusd bound hint) h = h
list_planned s _ h = h

takes_memory : (s : State) (c : Command) → TakesMemory s (Do (unhinted c)) → TakesMemory s (Do c)
takes_memory s c (inl allowed) = inl (sym (ruling_same s c.client c.number c.call) ∙ allowed)
takes_memory s c (inr planned) =
    inr
    (record { client = planned.client; turn = planned.turn; call = list_planned s c.call planned.call })

answers_command : (s : State) (c : Command) (r : Result Reply NoMemory) (core : Core)
    → Answers s (Do (unhinted c)) r core → Answers s (Do c) r core
answers_command s c (Ok reply) core h = (
  subst (λ (to : State × Reply). StandsFor core to.0) (sym (hints_idle s c)) h.0,
  ap (λ (to : State × Reply). to.1) (hints_idle s c) ∙ h.1,
)
answers_command s c (Err none) core h = (h.0, takes_memory s c h.1)

pub answers_same : (s : State) (plain c : Command) (r : Result Reply NoMemory) (core : Core)
    → plain ≡ unhinted c → Answers s (Do plain) r core → Answers s (Do c) r core
answers_same s plain c r core is h =
    answers_command s c r core (subst (λ (k : Command). Answers s (Do k) r core) is h)

touched_by_call : (s : State) (client number : ℕ) (call : Call) (before : List ℕ)
    → touched_after s (Do (record { client = client; number = number; call = unhinted_call call })) before
    ≡ touched_after s (Do (record { client = client; number = number; call = call })) before
touched_by_call s client number (Open account coll borrow bound hint) before = refl
touched_by_call s client number (Adjust account coll_in coll_out borrow repay bound hint) before = refl
touched_by_call s client number (GainToTrove account hint) before = refl
touched_by_call s client number (Redeem account lusd bound hint) before = refl
touched_by_call s client number _ before = refl

pub touched_same : (s : State) (plain c : Command) (before : List ℕ) → plain ≡ unhinted c
    → touched_after s (Do plain) before ≡ touched_after s (Do c) before
touched_same s plain c before is =
    ap (λ (k : Command). touched_after s (Do k) before) is ∙ touched_by_call s c.client c.number c.call before

pub ok_after : {X E : Type 0} (r : Result X E) (all old new : List ℕ)
    → old ≡ new → OnOk r (all ≡ old) → OnOk r (all ≡ new)
ok_after (Ok x) all old new same is = is ∙ same
ok_after (Err e) all old new same is = tt
