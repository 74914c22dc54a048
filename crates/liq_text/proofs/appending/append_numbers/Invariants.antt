use Rattle.std.proofs.Common.{◌≡◌, ◌++◌, drop}
use Rattle.std.specs.Prelude.{decimal, map}
use Rattle.liq_text.specs.Writing.{spaced}
use Rattle.liq_text.proofs.appending.append_numbers.Given as goal

abbrev pub invariant-loop-number : goal.invariant-loop-number
invariant-loop-number l = l.text.items ++ spaced (map decimal (drop l.number-index l.numbers)) ≡ l.initial.text.items
    ++ spaced (map decimal l.numbers)
