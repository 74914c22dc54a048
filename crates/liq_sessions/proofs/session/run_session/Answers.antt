use Rattle.std.proofs.Common.{◌≡◌, ◌+◌, ◌++◌, ◌∷◌, ◌∙◌, ◌<◌, [], length, length-append, drop, ap, refl, sym, arith}
use Rattle.std.proofs.lemmas.List.{length-drop}
use Rattle.liq_sessions.proofs.Running.{begins, goes_on, ends_all, ends_at, head_at}
use Rattle.liq_sessions.proofs.session.run_session.Goals as goal

pub loop-before-init : goal.loop-before-init
loop-before-init g c = rw c.requires.room.0 (
  begins _ _ _ _ _ _ c.requires.belongs,
  refl,
  c.requires.room.1,
  c.into_asked-asked.ensures,
)

pub unreachable-requires : goal.unreachable-requires
unreachable-requires g c =
    let none : drop c.loop-before.before c.args.work.script.requests ≡ [] = sym c.loop-before.invariant.3
    ∙ c.in_default.ensures.0 in
    absurd (omega (
      arith,
      length-drop c.loop-before.before c.args.work.script.requests,
      ap length none,
      c.loop-before-test.true,
      c.len-count.ensures,
    ))

pub call-back-requires : goal.call-back-requires
call-back-requires g c = record { belongs = c.loop-before.invariant.0.belongs }

pub push_reserved-requires : goal.push_reserved-requires
push_reserved-requires g c = omega (
  arith,
  c.loop-before.invariant.1,
  c.loop-before.invariant.2,
  c.loop-before-test.true,
  c.len-count.ensures,
)

pub returns-in_default-answer : goal.returns-in_default-answer
returns-in_default-answer g c =
    let call = c.call-back.ensures in
    let so = c.loop-before.invariant in
    ends_at _ _ _ _ _ _ _ _ _ _ _ _ _ c.of.ensures refl refl so.1 (omega (
      arith,
      c.loop-before-test.true,
      c.len-count.ensures,
    )) (sym so.3 ∙ c.in-Some.ensures) call.belongs call.number call.own call.faulted call.end
    c.in_default-answer.not-Reply so.0

pub loop-before-preserved : goal.loop-before-preserved
loop-before-preserved g c =
    let call = c.call-back.ensures in
    let so = c.loop-before.invariant in
    let next = sym so.3 ∙ c.in-Some.ensures in
    let short : c.loop-before.before < length c.args.work.script.requests = omega (
      arith,
      c.loop-before-test.true,
      c.len-count.ensures,
    ) in
    let on = goes_on _ _ _ _ _ _ _ _ _ _ _ _ _ _ so.1 short next call.belongs call.number call.own call.faulted
    c.in-Reply.is so.0 in
    let n : length (c.loop-before.replies.items ++ c.in-Reply.reply ∷ []) ≡ c.loop-before.before + 1 =
    omega (arith, so.1, length-append c.loop-before.replies.items (c.in-Reply.reply ∷ [])) in
    rw (c.push_reserved.ensures.items, c.push_reserved.ensures.capacity) (
      on,
      n,
      so.2,
      sym (head_at _ _ _ _ short next).1,
    )

pub returns : goal.returns
returns g c =
    let so = c.loop-before.invariant in
    ends_all _ _ _ _ _ _ _ _ c.of-2.ensures refl refl (omega (
      arith,
      so.1,
      c.loop-before-test.false,
      c.len-count.ensures,
      c.loop-before.auto,
    )) so.0
