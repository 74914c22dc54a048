use Rattle.std.proofs.Common.{◌≡◌, ℕ, ◌+◌, ◌-◌, List, [], take, drop, length, refl, ap, ◌∙◌, subst, arith, inl}
use Rattle.std.proofs.Common.{sym, length-drop}
use borrow.Rule.Slice.PartMut.{same_len_mid}
use Rattle.liq_rule_step.specs.Step.{run}
use Rattle.liq_text.specs.Spelling.{Spells}
use Rattle.liq_batch.specs.declared.lines.Lines.{Lines}
use Rattle.liq_batch.specs.Texts.{AnsweredText, HasLineFault}
use Rattle.liq_batch.proofs.Lining.{rest_of, text_begun, text_more, left_at}
use Rattle.liq_batch.proofs.lines.answer_lines.Goals as goal

part : (a n : ℕ) → a + n - a ≡ n
part a n = omega arith

pub returns-in_default : goal.returns-in_default
returns-in_default c = λ s h.
    subst
    (λ (l : Lines).
    AnsweredText s c.args.text.now l c.args.market.now c.args.market.now c.args.out.now c.args.out.now)
    (sym c.stopped.ensures)
    (record {
      asked = [];
      requests = [];
      spelled = tt;
      taken = refl;
      stands = h;
      touched = refl;
      written = refl;
      count = refl;
      ends = inl refl;
    })

pub loop-size-init : goal.loop-size-init
loop-size-init c = record {
  so_far = λ s h. text_begun s c.args.text.now c.args.market.now c.args.out.now h;
  taken = omega arith;
  written = omega arith;
  room = omega (arith, c.in-Ok.ensures.exact);
}

pub returns-in-Err : goal.returns-in-Err
returns-in-Err c = λ s h.
    let so = c.loop-size.invariant.so_far s h in
    let got = c.in-Err.ensures.answered (run s so.requests).0 so.stands in
    let first = rest_of c.args.text.now c.loop-size.taken c.in-Some.size c.in-Some.ensures.first in
    let rest = drop c.loop-size.taken c.args.text.now in
    subst
    (λ (l : Lines).
    AnsweredText s c.args.text.now l c.args.market.now c.answer_line.new.market c.args.out.now c.loop-size.out)
    (sym c.stopped-in-Err.ensures)
    (record {
      asked = so.asked;
      requests = so.requests;
      spelled = so.spelled;
      taken = so.is;
      stands = got.1;
      touched = got.2 ∙ so.touched;
      written = so.filled;
      count = so.count;
      ends =
          left_at (run s so.requests).0 rest (take c.in-Some.size rest) (length c.args.out.now - c.loop-size.written)
          c.loop-size.taken c.in-Err.fault (first.1, (drop (c.in-Some.size + 1) rest, first.2))
          (subst (λ (n : ℕ). HasLineFault (run s so.requests).0 (take n rest) c.in-Err.fault)
          (part c.loop-size.taken c.in-Some.size) got.0);
    })

pub loop-size-preserved : goal.loop-size-preserved
loop-size-preserved c =
    let so = c.loop-size.invariant in
    let first = rest_of c.args.text.now c.loop-size.taken c.in-Some.size c.in-Some.ensures.first in
    let rest = drop c.loop-size.taken c.args.text.now in
    let line = c.answer_line.new.reply in
    let room = c.loop-size.written + c.len.result - c.loop-size.written in
    let same : c.copy_from_slice.new.self ≡ line.items =
    c.copy_from_slice.ensures.after ∙ c.deref.ensures.value in
    let long : length c.copy_from_slice.new.self ≡ length line.items = ap (λ (bytes : List ℕ). length bytes) same in
    let mid =
    same_len_mid c.loop-size.written room c.loop-size.out c.copy_from_slice.new.self c.copy_from_slice.ensures.len in
    record {
      so_far = λ s h.
          text_more s c.args.text.now c.loop-size.taken c.loop-size.written c.in-Some.size room c.len-written.result
          c.args.market.now c.loop-size.market c.answer_line.new.market
          c.args.out.now c.loop-size.out c.copy_from_slice.new.self first.0 first.2
          (omega (arith, c.len.ensures, line.ok, long)) (omega (arith, c.len-written.ensures, line.ok, long))
          (so.so_far s h)
          (λ t k.
          let got = c.in_default-answer_line.ensures.answered t k in
          let spelled =
          subst (λ (n : ℕ). Spells (take n rest) got.0) (part c.loop-size.taken c.in-Some.size) got.1 in
          (got.0, spelled, got.2, same ∙ got.3, got.4));
      taken = omega (arith, first.0, length-drop c.loop-size.taken c.args.text.now, so.taken);
      written =
          omega (
            arith,
            mid,
            c.if-out-written-lt-LINE_MOST.false,
            c.in_default-answer_line.ensures.short,
            c.len-written.ensures,
            line.ok,
            so.written,
          );
      room = c.in_default-answer_line.ensures.capacity;
    }
