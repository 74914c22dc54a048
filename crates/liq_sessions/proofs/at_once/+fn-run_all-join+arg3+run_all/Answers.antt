use Rattle.std.proofs.Common.{rules, arith, ◌≤◌, vec_len, vec_capacity}
use Rattle.std.proofs.lemmas.Slice.Zip.{AllZip-long, all_zipped_more}
use Rattle.liq_sessions.proofs.Places.{ends, none_alone}
use Rattle.liq_sessions.proofs.at_once.+fn-run_all-join+arg3+run_all.Goals as goal

pub unreachable-requires : goal.unreachable-requires
unreachable-requires g t c = none_alone _ _ _ _ _ c.in-Some.ensures.items (omega (
  arith,
  c.in_default-pop.ensures.cases.0,
  c.args.replies.ok.0,
)) c.requires.ready

pub run_all-all-requires-clause-ready : goal.run_all-all-requires-clause-ready
run_all-all-requires-clause-ready g t c κs within =
    (ends _ _ _ _ _ _ _ c.in-Some.ensures.items c.in-Some-pop.ensures.items c.requires.ready).0

pub run_session-requires : goal.run_session-requires
run_session-requires g t c = (ends _ _ _ _ _ _ _ c.in-Some.ensures.items c.in-Some-pop.ensures.items c.requires.ready).1

pub push_reserved-requires : goal.push_reserved-requires
push_reserved-requires g t c =
    let n = AllZip-long _ _ _ c.run_all-all.ensures.done in
    omega (
      arith,
      n,
      c.run_all-all.ensures.room,
      c.in-Some.ensures.len,
      c.requires.room,
      c.run_all-all.result.ok.0,
      c.pop.new.self.ok.0,
    )

pub returns-then-is_empty-clause-done : goal.returns-then-is_empty-clause-done
returns-then-is_empty-clause-done g t c =
    rw (c.in-Some.ensures.items, c.push_reserved.ensures.items) (all_zipped_more _ _ _ _ _ c.run_all-all.ensures.done
    c.run_session.ensures)

pub join-one-requires-after_bounds : goal.join-one-requires-after_bounds
join-one-requires-after_bounds g t c κs within =
    let ready = ends _ _ _ _ _ _ _ c.in-Some.ensures.items c.in-Some-pop.ensures.items c.requires.ready in
    let one_less = c.in-Some.ensures.len in
    let room : vec_len c.pop.new.self ≤ vec_capacity c.args.done = omega (arith, one_less, c.requires.room) in (
      ready.1,
      (
        search rules,
        (
          (λ a here. here),
          (
            (λ a here. here),
            (
              (λ a here. here),
              (
                (λ a here. here),
                (
                  (λ a here. here),
                  (
                    ((search rules), ready.0, c.requires.fresh, room),
                    (search rules),
                  ),
                ),
              ),
            ),
          ),
        ),
      ),
    )

pub push_reserved-requires-2 : goal.push_reserved-requires-2
push_reserved-requires-2 g t c =
    let others = c.join-one.ensures.second in
    let n = AllZip-long _ _ _ others.0 in
    omega (arith, n, others.1, c.in-Some.ensures.len, c.requires.room, c.join-one.result.1.ok.0, c.pop.new.self.ok.0)

pub returns-clause-done : goal.returns-clause-done
returns-clause-done g t c =
    rw (c.in-Some.ensures.items, c.push_reserved-2.ensures.items) (all_zipped_more _ _ _ _ _ c.join-one.ensures.second.0
    c.join-one.ensures.first)
