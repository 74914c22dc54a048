use Rattle.std.proofs.Common.{◌-◌, ◌++◌, ◌∷◌, take, drop, length}
use Rattle.std.specs.Prelude.{decimal}
use Rattle.liq_text_audit.proofs.Lines.{joined, no_more, spaced}
use Rattle.liq_text_audit.proofs.shown.put_numbers.Goals as goal

pub returns : goal.returns
returns c =
    let numbers = c.args.numbers.now in
    let rest = take (length numbers - 1) (drop 1 numbers) in
    joined c.args.text.now.items c.put_number.new.text.items c.loop-number.text.items numbers c.in-len1-up.len_at_least
    c.in_ok-put_number.ensures
    (no_more (λ n. 32 ∷ decimal n) c.loop-number.text.items rest c.loop-number.number-index (c.put_number.new.text.items
    ++ spaced rest) c.loop-number-test.false c.loop-number.invariant)
