-- What is answered is the reply of the step, and the step is made, also of a command that is planned without its own
-- hint words.
use Rattle.std.proofs.Common.{◌≡◌, ◌∙◌, List, refl, sym, ap, subst}
use Rattle.liq_types.specs.declared.replies.Done.{Done}
use Rattle.liq_types.specs.declared.replies.Reply.{Reply}
use Rattle.liq_types.specs.declared.replies.Reply.TheVariants.{Said}
use Rattle.liq_types.specs.declared.requests.Call.{Call}
use Rattle.liq_types.specs.declared.requests.Call.TheVariants.{Open, Adjust, GainToTrove, Redeem, Rotate}
use Rattle.liq_types.specs.declared.requests.Command.{Command}
use Rattle.liq_types.specs.declared.requests.Request.TheVariants.{Do}
use Rattle.liq_types.specs.State.{State}
use Rattle.liq_types.specs.Ranked.{Ranked}
use Rattle.liq_list_index.specs.Followed.{all_listed}
use Rattle.liq_core.specs.Core.{Core, SameContent, StandsFor}
use Rattle.liq_core.specs.Plan.{Plan, IsPlan}
use Rattle.liq_core.specs.Steps.{last_put, words_of}
use Rattle.liq_core.proofs.HintsAside.{after_same, ruling_same}
use Rattle.liq_core_hinted.specs.declared.hints.Hints.{Hints}
use Rattle.liq_core_hinted.specs.Hints.{IsExact}
use Rattle.liq_core_hinted.proofs.Steps.{planned_allowed, stepped}
use Rattle.liq_rule_step.specs.Rules.{call_changes}
use Rattle.liq_rule_step.specs.Step.{Allowed, Ruling, after, ruling, step}
use Rattle.liq_rule_step.specs.Verbs.{no_hint, unhinted, unhinted_call}
use Rattle.liq_rule_step.proofs.Runs.{hints_idle}
use Rattle.liq_store.specs.Telling.{told_by, told_of}

pub prepared_allowed : (s : State) (c : Command) (plan : Plan) → (plan.command ≡ unhinted c) × IsPlan s plan
    → ruling s c ≡ Allowed
prepared_allowed s c plan is = sym (ruling_same s c.client c.number c.call) ∙ planned_allowed s (unhinted c) plan is

pub prepared_steps : (done : Core) (s : State) (c : Command) (plan : Plan) → (plan.command ≡ unhinted c) × IsPlan s plan
    → StandsFor done (step s (Do plan.command)).0 → StandsFor done (after s c)
prepared_steps done s c plan is stands = subst (StandsFor done) (after_same s c.client c.number c.call)
    (stepped done s (unhinted c) plan is stands)

pub replied : (done : Core) (s : State) (c : Command) (plan : Plan) (reply : Done)
    → plan.command ≡ unhinted c → StandsFor done (step s (Do plan.command)).0 → (step s (Do plan.command)).1
    ≡ Said reply
    → StandsFor done (step s (Do c)).0 × ((step s (Do c)).1 ≡ Said reply)
replied done s c plan reply is stands said =
    subst (λ (r : State × Reply). StandsFor done r.0 × (r.1 ≡ Said reply)) (ap (λ (k : Command). step s (Do k)) is
    ∙ sym (hints_idle s c)) (stands, said)

-- what it changes in the ordered list
changes_same : (s : State) (call : Call) → call_changes s (unhinted_call call) ≡ call_changes s call
changes_same s (Open account coll borrow bound hint) = refl
changes_same s (Adjust account coll_in coll_out borrow repay bound hint) = refl
changes_same s (GainToTrove account hint) = refl
changes_same s (Redeem account lusd bound hint) = refl
changes_same s _ = refl

pub prepared_told : (s : State) (c : Command) (plan : Plan) → (plan.command ≡ unhinted c) × IsPlan s plan
    → plan.changes ≡ told_of s (Do c)
prepared_told s c plan is =
    is.1.changes ∙ ap (λ (k : Command). call_changes s k.call) is.0 ∙ changes_same s c.call
    ∙ ap (λ (r : Ruling). told_by r (call_changes s c.call)) (sym (prepared_allowed s c plan is))

-- a rotation has no hint words
pub unhinted_rotation : (c : Command) → c.call ≡ Rotate → unhinted c ≡ c
unhinted_rotation c rotates = ap (λ (call : Call). record {
  client = c.client;
  number = c.number;
  call = unhinted_call call;
}) rotates
    ∙ ap (λ (call : Call). record { client = c.client; number = c.number; call = call }) (sym rotates)

-- ---- the guide's hint

-- no hint words are left of a command's own
pub unhinted_words : (c : Command) → words_of (unhinted c).call ≡ no_hint
unhinted_words c = by c.call
  where
    by : (call : Call) → words_of (unhinted_call call) ≡ no_hint
    by (Open account coll borrow bound hint) = refl
    by (Adjust account coll_in coll_out borrow repay bound hint) = refl
    by (GainToTrove account hint) = refl
    by (Redeem account lusd bound hint) = refl
    by _ = refl

-- it says so of the list that is prepared, too
pub guided_there : (old prepared : Core) (plan : Plan) (hints : Hints) → SameContent old prepared
    → IsExact (all_listed old.list plan.changes) (last_put plan.changes) hints.exact
    → IsExact (all_listed prepared.list plan.changes) (last_put plan.changes) hints.exact
guided_there old prepared plan hints same exact =
    subst (λ (l : List Ranked). IsExact (all_listed l plan.changes) (last_put plan.changes) hints.exact)
    (sym same.list) exact
