-- No record holds the verb that begins a new generation.
use Rattle.std.proofs.Common.{◌≡◌, ℕ, List, false, Ok, subst}
use Rattle.liq_types.specs.declared.requests.Command.{Command}
use Rattle.liq_wire.specs.Fields.{command_of}
use Rattle.liq_journal.specs.Crash.{IsBodyOf}
use Rattle.liq_types.specs.Verbs.{is_rotate}

-- a body's command is no rotation
pub body_stays : (body : List ℕ) (of read : Command) → IsBodyOf body of → command_of body ≡ Ok read
    → is_rotate read.call ≡ false
body_stays body of read is came =
    let same : of ≡ read = (let spelled = is.spelled in cc (spelled, came)) in
    subst (λ (c : Command). is_rotate c.call ≡ false) same is.no_rotation
