use Rattle.std.proofs.Common.{◌≡◌, ◌++◌, drop}
use Rattle.liq_text_audit.proofs.Lines.{spaced}
use Rattle.liq_text_audit.proofs.shown.put_numbers.Given as goal

abbrev pub invariant-loop-number : goal.invariant-loop-number
invariant-loop-number l = l.text.items ++ spaced (drop l.number-index l.rest) ≡ l.initial.text.items ++ spaced l.rest
