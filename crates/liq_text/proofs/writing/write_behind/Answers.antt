use Rattle.std.proofs.Common.{◌+◌, ◌-◌, ◌≤◌, length, get_or, arith}
use Rattle.std.specs.Prelude.{decimal}
use Rattle.liq_text.proofs.WritingLaws.{nothing_behind, number_short, put_before}
use Rattle.liq_text.proofs.writing.write_behind.Goals as goal

pub loop-left-init : goal.loop-left-init
loop-left-init c = record {
  within = omega arith;
  text = nothing_behind c.args.text.now c.args.numbers.now 210 (length c.args.numbers.now) (omega (
    arith,
    c.requires.room,
  )) (omega arith);
  start = omega arith;
  short = omega arith;
}

pub write_digits-start-requires : goal.write_digits-start-requires
write_digits-start-requires c =
    let i = c.loop-left.left - 1 in
    let digits : length (decimal (get_or c.args.numbers.now i 0)) ≤ 20 = number_short (get_or c.args.numbers.now i 0)
    (omega (arith, c.type_inv.numbers i)) in (
      omega (arith, digits, c.requires.few, c.loop-left.invariant.short, c.loop-left-test.true),
      omega (arith, c.requires.room, c.loop-left.invariant.start, c.loop-left.auto.text),
    )

-- a number takes 20 bytes at most
few_digits : (c : goal.After-slice_known-in-loop-left-1) → c.loop-left.start ≤ c.write_digits-start.result + 20
few_digits c =
    let i = c.loop-left.left - 1 in
    let digits = number_short (get_or c.args.numbers.now i 0) (omega (arith, c.type_inv.numbers i)) in
    omega (arith, digits, c.write_digits-start.ensures.start)

-- so there is room for the space in front of it
has_room : (c : goal.After-slice_known-in-loop-left-1) → 1 ≤ c.write_digits-start.result
has_room c = omega (arith, few_digits c, c.requires.few, c.loop-left.invariant.short, c.loop-left-test.true)

pub overflow_sub-start : goal.overflow_sub-start
overflow_sub-start c = omega (arith, has_room c)

pub loop-left-preserved : goal.loop-left-preserved
loop-left-preserved c =
    record {
      within = omega (arith, c.loop-left.invariant.within);
      text = put_before c.loop-left.text c.write_digits-start.new.buf c.loop-left.start c.write_digits-start.result
          (c.write_digits-start.result - 1) c.loop-left.left (c.loop-left.left - 1) c.args.numbers.now
          (omega (arith, c.loop-left-test.true)) c.loop-left.invariant.within c.loop-left.invariant.text
          c.write_digits-start.ensures.written (omega (arith, has_room c))
          (omega (
            arith,
            has_room c,
            c.requires.room,
            c.loop-left.invariant.start,
            c.write_digits-start.ensures.start,
            c.loop-left.auto.text,
            c.write_digits-start.auto.buf,
          ));
      start = omega (arith, c.loop-left.invariant.start, c.write_digits-start.ensures.start);
      short = omega (arith, few_digits c, has_room c, c.loop-left.invariant.short, c.loop-left-test.true);
    }
