-- What the rules say of a command without its hint.
use Rattle.std.proofs.Common.{◌≡◌, ℕ, refl}
use Rattle.liq_types.specs.declared.requests.Call.{Call}
use Rattle.liq_types.specs.declared.requests.Call.TheVariants.{Open, Adjust, GainToTrove, Redeem}
use Rattle.liq_types.specs.State.{State}
use Rattle.liq_rule_step.specs.Rules.{call_events}
use Rattle.liq_rule_step.specs.Step.{after, ruling}
use Rattle.liq_rule_step.specs.Verbs.{unhinted_call}

pub ruling_same : (s : State) (client number : ℕ) (call : Call)
    → ruling s (record { client = client; number = number; call = unhinted_call call })
    ≡ ruling s (record { client = client; number = number; call = call })
ruling_same s client number (Open account coll borrow bound hint) = refl
ruling_same s client number (Adjust account coll_in coll_out borrow repay bound hint) = refl
ruling_same s client number (GainToTrove account hint) = refl
ruling_same s client number (Redeem account lusd bound hint) = refl
ruling_same s client number _ = refl

pub after_same : (s : State) (client number : ℕ) (call : Call)
    → after s (record { client = client; number = number; call = unhinted_call call })
    ≡ after s (record { client = client; number = number; call = call })
after_same s client number (Open account coll borrow bound hint) = refl
after_same s client number (Adjust account coll_in coll_out borrow repay bound hint) = refl
after_same s client number (GainToTrove account hint) = refl
after_same s client number (Redeem account lusd bound hint) = refl
after_same s client number _ = refl

pub events_same : (s : State) (call : Call) → call_events s (unhinted_call call) ≡ call_events s call
events_same s (Open account coll borrow bound hint) = refl
events_same s (Adjust account coll_in coll_out borrow repay bound hint) = refl
events_same s (GainToTrove account hint) = refl
events_same s (Redeem account lusd bound hint) = refl
events_same s _ = refl
