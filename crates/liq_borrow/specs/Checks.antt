-- What a test of one rule tells.
use Rattle.std.specs.Prelude.{◌≡◌, true, false, Result, Ok, Err}
use Rattle.liq_types.specs.declared.replies.Refusal.{Refusal}
use Rattle.liq_types.specs.Rules.{Rule}

-- the rule's refusal, exactly where its condition holds
abbrev pub Tells : Rule → Result (Unit {0}) Refusal → Type 0
Tells rule (Ok done) = rule.0 ≡ false
Tells rule (Err refusal) = (rule.0 ≡ true) × (refusal ≡ rule.1)
