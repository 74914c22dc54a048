use Rattle.std.proofs.Common.{◌≤◌, length, get_or, arith}
use Rattle.std.specs.Prelude.{decimal}
use Rattle.liq_text.proofs.WritingLaws.{list_before, no_list, number_short}
use Rattle.liq_text.proofs.writing.write_list.Goals as goal

pub write_digits-requires : goal.write_digits-requires
write_digits-requires c =
    let digits : length (decimal (get_or c.args.numbers.now 0 0)) ≤ 20 = number_short (get_or c.args.numbers.now 0 0)
    (omega (arith, c.type_inv.numbers 0)) in (
      omega (arith, digits, c.requires.few, c.in-len1-up.len_at_least, c.write_behind-start.ensures.short),
      omega (arith, c.requires.room, c.write_behind-start.ensures.within, c.write_behind-start.auto.text),
    )

pub returns-in-len1-up-clause-text : goal.returns-in-len1-up-clause-text
returns-in-len1-up-clause-text c = list_before c.write_digits.new.buf _ c.args.numbers.now c.write_digits.result
    c.in-len1-up.len_at_least c.write_digits.ensures.written c.write_behind-start.ensures.text

pub returns-in-len1-up-clause-short : goal.returns-in-len1-up-clause-short
returns-in-len1-up-clause-short c =
    let digits : length (decimal (get_or c.args.numbers.now 0 0)) ≤ 20 = number_short (get_or c.args.numbers.now 0 0)
    (omega (arith, c.type_inv.numbers 0)) in
    omega (arith, digits, c.in-len1-up.len_at_least, c.write_behind-start.ensures.short, c.write_digits.ensures.start)

pub returns-in_default-clause-text : goal.returns-in_default-clause-text
returns-in_default-clause-text c = no_list c.args.text.now c.args.numbers.now 210 (omega (arith, c.requires.room))
    (omega (arith, c.in_default.len_below))
