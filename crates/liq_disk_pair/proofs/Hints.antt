-- A command as it is read back from a record: its hints aside it is the same, and no hint counts.
use Rattle.std.proofs.Common.{◌≡◌, ℕ, refl}
use Rattle.liq_types.specs.declared.requests.Call.{Call}
use Rattle.liq_types.specs.declared.requests.Call.TheVariants.{Open, Adjust, GainToTrove, Redeem}
use Rattle.liq_types.specs.declared.requests.Command.{Command}
use Rattle.liq_types.specs.State.{State}
use Rattle.liq_rule_step.specs.Step.{after, ruling}
use Rattle.liq_wire.specs.Fields.{heard}
use Rattle.liq_types.specs.Verbs.{is_rotate}

abbrev pub heard_command : Command → Command
heard_command c = record { client = c.client; number = c.number; call = heard c.call }

call_ruling : (s : State) (client number : ℕ) (call : Call)
    → ruling s (record { client = client; number = number; call = heard call })
    ≡ ruling s (record { client = client; number = number; call = call })
call_ruling s client number (Open account coll borrow bound hint) = refl
call_ruling s client number (Adjust account coll_in coll_out borrow repay bound hint) = refl
call_ruling s client number (GainToTrove account hint) = refl
call_ruling s client number (Redeem account lusd bound hint) = refl
call_ruling s client number _ = refl

call_after : (s : State) (client number : ℕ) (call : Call)
    → after s (record { client = client; number = number; call = heard call })
    ≡ after s (record { client = client; number = number; call = call })
call_after s client number (Open account coll borrow bound hint) = refl
call_after s client number (Adjust account coll_in coll_out borrow repay bound hint) = refl
call_after s client number (GainToTrove account hint) = refl
call_after s client number (Redeem account lusd bound hint) = refl
call_after s client number _ = refl

call_rotate : (call : Call) → is_rotate (heard call) ≡ is_rotate call
call_rotate (Open account coll borrow bound hint) = refl
call_rotate (Adjust account coll_in coll_out borrow repay bound hint) = refl
call_rotate (GainToTrove account hint) = refl
call_rotate (Redeem account lusd bound hint) = refl
call_rotate _ = refl

pub heard_ruling : (s : State) (c : Command) → ruling s (heard_command c) ≡ ruling s c
heard_ruling s c = call_ruling s c.client c.number c.call

pub heard_after : (s : State) (c : Command) → after s (heard_command c) ≡ after s c
heard_after s c = call_after s c.client c.number c.call

pub heard_rotate : (c : Command) → is_rotate (heard_command c).call ≡ is_rotate c.call
heard_rotate c = call_rotate c.call
