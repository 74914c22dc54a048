use Rattle.std.proofs.Common.{rules, ◌≡◌, inr, refl, Ok, ℕ, List, [], Option, sym, subst, ap, ◌∙◌}
use Rattle.std.specs.Prelude.{◌↔◌, IsSome}
use Rattle.liq_types.specs.declared.requests.Command.{Command}
use Rattle.liq_types.specs.State.{opening_with}
use Rattle.liq_disk_pair.specs.Pair.{commands_on}
use Rattle.liq_disk_pair.specs.Replay.{replay}
use Rattle.liq_word_exit.specs.declared.ending.Ending.{Ending}
use Rattle.liq_outside.specs.Disk.{GoesOn}
use Rattle.liq_outside.proofs.Moments.{joined}
use Rattle.liq_store.specs.Keeping.{IsInOrderWith}
use Rattle.liq_store.specs.Leaving.{LeavesBoth}
use Rattle.liq_store.proofs.Past.{begins, ends_kept}
use Rattle.liq_word_exit.specs.Causes.{DisksGoOn}
use Rattle.liq_word_exit.specs.Disks.{DisksStay, IsFaultOfTelling, LeavesDamaged, LeavesOfRun}
use Rattle.liq_word_exit.proofs.Causes.{unopened_cause}
use Rattle.liq_word_exit.proofs.Damaged.{unopened_damaged}
use Rattle.liq_word_exit.proofs.Opened.{is_some_of, opened_at, opened_still}
use Rattle.liq_word_exit.proofs.Passing.{looked_past, unopened_past}
use Rattle.liq_word_state.specs.Told.{WritesSome, WritesTold}
use Rattle.liq_word_state.proofs.Audited.{stand_too, taken_tells, tells_still}
use Rattle.liq_word_state.proofs.Generations.{opened_from_one}
use Rattle.liq_word_state.proofs.SomeTold.{unopened_none}
use Rattle.liq_word_state.proofs.Standing.{not_told, disks_stay}
use Rattle.liq_word_state.proofs.telling.tell.Goals as goal

pub returns-in-Err-clause-told : goal.returns-in-Err-clause-told
returns-in-Err-clause-told g c l r told_l told_r start is =
    let held = (g.K.Sink.at c.args.out.now).held in
    let disk_at = g.D.Disk.at in
    let fault = c.in-Err.fault in
    let commands = commands_on l r in
    let found = not_told disk_at c.args.what commands fault.why fault.left fault.right c.args.left c.args.right
    c.in-Err.ensures.not_opened (λ other m n a b told_m told_n. c.in-Err.ensures.shuts other m n a b told_m told_n)
    l r held told_l told_r start is in
    subst (λ (e : Ending g.row.D.Denot). WritesTold c.args.what start commands e.end held held
    × DisksStay disk_at e.end l r start e.left e.right)
    (sym c.end_without_store.ensures) found

pub returns-in-Err-clause-damaged : goal.returns-in-Err-clause-damaged
returns-in-Err-clause-damaged g c l r told_l told_r side damage is =
    let disk_at = g.D.Disk.at in
    let fault = c.in-Err.fault in
    let opens = c.in-Err.ensures in (
      refl,
      subst (λ (e : Ending g.row.D.Denot).
          LeavesDamaged disk_at c.args.left c.args.right l r side damage e.end e.left e.right)
          (sym c.end_without_store.ensures)
          (unopened_damaged disk_at c.args.left c.args.right l r side damage told_l told_r is
          fault.left fault.right fault.why opens.not_opened (opens.left_leaves l r told_l told_r)
          (opens.right_leaves r told_r) (λ other a b. opens.shuts other l r a b told_l told_r)),
    )

pub returns-clause-told : goal.returns-clause-told
returns-clause-told g c l r told_l told_r start is =
    let disk_at = g.D.Disk.at in
    let sink_at = g.K.Sink.at in
    let what = c.args.what in
    let store = c.in-Ok.store in
    let opened = c.in-Ok.ensures.opened in
    let found = opened.state l r told_l told_r in
    let stands = opened_at found.0 start _ _ found.1 is found.2 in
    let wrote = c.write_told-end in
    let end = wrote.result in
    let left = wrote.new.store in
    let stand = opened_still disk_at c.args.left c.args.right store l r start opened c.in-Ok.ensures.order stands told_l
    told_r is in
    let stay = disks_stay disk_at end l r start left.left left.right
    (stand_too disk_at l r start store.left store.right left.left left.right wrote.ensures.disks.left.same
    wrote.ensures.disks.right.same stand) in
    let from_one =
    opened_from_one disk_at store start opened.going c.in-Ok.ensures.order stands
    (c.in-Ok.ensures.left_telling.1 (is_some_of (disk_at c.args.left).seen l told_l))
    (c.in-Ok.ensures.right_telling.1 (is_some_of (disk_at c.args.right).seen r told_r)) in
    let taken = taken_tells disk_at store.side c.args.left c.args.right store.left store.right
    c.in-Ok.ensures.left_telling c.in-Ok.ensures.right_telling l r told_l told_r in
    let holds = opened.commands l r taken.0 told_l told_r taken.1 in
    let limit_is = c.journals_keep_their_limit.ensures.pair l r start is in
    let leads : start.generation ≡ 1 → replay 1 (opening_with start.limit) holds.written.commands ≡ Ok start =
    λ one. ap (replay 1 (opening_with start.limit)) holds.are
    ∙ ap (λ (limit : ℕ). replay 1 (opening_with limit) (commands_on l r)) limit_is
    ∙ c.commands_lead_to_the_state.ensures.first l r start is one in
    let written = wrote.ensures.written taken.0 holds.written start taken.1 holds.found stands from_one leads in
    let so = subst (λ (commands : List Command). WritesTold what start commands end (sink_at c.args.out.now).held
    (sink_at wrote.new.out).held) holds.are written in (
      so,
      subst (λ (d : g.row.D.Denot). DisksStay disk_at end l r start d c.close-left.result.1)
          (sym c.close-left.ensures.left)
          (subst (λ (d : g.row.D.Denot). DisksStay disk_at end l r start left.left d)
          (sym c.close-left.ensures.right) stay),
    )

pub returns-clause-damaged : goal.returns-clause-damaged
returns-clause-damaged g c l r told_l told_r side damage is =
    absurd (cc ((c.in-Ok.ensures.opened.state l r told_l told_r).1, is))

pub returns-in-Err-clause-past : goal.returns-in-Err-clause-past
returns-in-Err-clause-past g c l r told_l told_r start is =
    let disk_at = g.D.Disk.at in
    let fault = c.in-Err.fault in
    let opens = c.in-Err.ensures in
    subst (λ (e : Ending g.row.D.Denot). LeavesOfRun disk_at c.args.left c.args.right
    (IsFaultOfTelling e.end) l r start [] e.left e.right) (sym c.end_without_store.ensures)
    (unopened_past disk_at g.met.D.Disk.seen_may_stay fault.why fault.left fault.right c.args.left c.args.right
    opens.not_opened opens.left_time opens.right_time opens.rests opens.recovers opens.left_leaves opens.right_leaves l
    r start told_l told_r is)

pub returns-clause-past : goal.returns-clause-past
returns-clause-past g c l r told_l told_r start is only_l only_r kept =
    let disk_at = g.D.Disk.at in
    let stays = g.met.D.Disk.seen_may_stay in
    let opens = c.in-Ok.ensures in
    let store = c.in-Ok.store in
    let now = subst (λ (stopped : Option ℕ). IsInOrderWith disk_at stopped store) opens.opened.going opens.order in
    let past =
    begins disk_at stays l r start c.args.left c.args.right store told_l told_r kept
    (opens.left_leaves l r told_l told_r only_l) (opens.right_leaves r told_r only_r)
    opens.left_telling opens.right_telling opens.opened opens.order in
    let wrote = c.write_told-end in
    let end = wrote.result in
    let left = wrote.new.store in
    subst (λ (d : g.row.D.Denot). LeavesBoth disk_at c.args.left c.args.right
    (IsFaultOfTelling end) l r start [] d c.close-left.result.1) (sym c.close-left.ensures.left)
    (subst (λ (d : g.row.D.Denot). LeavesBoth disk_at c.args.left c.args.right
    (IsFaultOfTelling end) l r start [] left.left d) (sym c.close-left.ensures.right)
    (looked_past disk_at stays c.args.left c.args.right end l r start store.left store.right left.left left.right
    past.later wrote.ensures.disks.left wrote.ensures.disks.right now.left now.right past.leaves
    (ends_kept disk_at stays _ l r start [] store past opens.order)))

pub returns-in-Err-clause-disks : goal.returns-in-Err-clause-disks
returns-in-Err-clause-disks g c =
    let opens = c.in-Err.ensures in
    let disk_at = g.D.Disk.at in
    subst (λ (e : Ending g.row.D.Denot).
    DisksGoOn disk_at c.args.left c.args.right e.end e.left e.right)
    (sym c.end_without_store.ensures) (record {
      count = unopened_cause c.in-Err.fault.why _ _ opens.not_opened.cause;
      left_time = opens.left_time;
      right_time = opens.right_time;
      left_telling = opens.left_telling;
      right_telling = opens.right_telling;
    })

pub returns-clause-disks : goal.returns-clause-disks
returns-clause-disks g c =
    let disk_at = g.D.Disk.at in
    let looked = c.write_told-end.ensures.disks in
    let opened = c.in-Ok.store in
    let closed = c.write_told-end.new.store in
    record {
      count = search rules;
      left_time = subst (GoesOn disk_at c.args.left) (sym c.close-left.ensures.left)
          (joined disk_at c.args.left opened.left closed.left c.in-Ok.ensures.left_time looked.left.leaves.goes_on);
      right_time = subst (GoesOn disk_at c.args.right) (sym c.close-left.ensures.right)
          (joined disk_at c.args.right opened.right closed.right c.in-Ok.ensures.right_time
          looked.right.leaves.goes_on);
      left_telling = subst (λ (d : g.row.D.Denot). IsSome (disk_at d).seen ↔ IsSome (disk_at c.args.left).seen)
          (sym c.close-left.ensures.left)
          (tells_still disk_at c.args.left opened.left closed.left c.in-Ok.ensures.left_telling looked.left.same);
      right_telling = subst (λ (d : g.row.D.Denot). IsSome (disk_at d).seen ↔ IsSome (disk_at c.args.right).seen)
          (sym c.close-left.ensures.right)
          (tells_still disk_at c.args.right opened.right closed.right c.in-Ok.ensures.right_telling looked.right.same);
    }

pub returns-in-Err-clause-some : goal.returns-in-Err-clause-some
returns-in-Err-clause-some g c =
    let held = (g.K.Sink.at c.args.out.now).held in
    subst (λ (e : Ending g.row.D.Denot). WritesSome c.args.what e.end held held) (sym c.end_without_store.ensures)
    (inr (unopened_none c.in-Err.fault.why, refl))

pub returns-clause-some : goal.returns-clause-some
returns-clause-some g c = c.write_told-end.ensures.some
