use Rattle.std.proofs.Common.{◌≡◌, Err, refl, sym, subst}
use Rattle.liq_store.specs.Keeping.{IsInOrder}
use Rattle.liq_store.specs.Stored.{Stored}
use Rattle.liq_word_exit.specs.declared.ending.Ending.{Ending}
use Rattle.liq_outside.proofs.Moments.{joined}
use Rattle.liq_store.specs.Causes.{Faults, counts_of}
use Rattle.liq_word_exit.specs.Causes.{DiskCause, DisksGoOn}
use Rattle.liq_word_exit.specs.Disks.{LeavesDamaged}
use Rattle.liq_word_exit.specs.Unopened.{halt_of}
use Rattle.liq_word_run.specs.Passing.{Begun}
use Rattle.liq_word_run.specs.Progress.{GivesBack}
use Rattle.liq_word_run.specs.Turns.{Reached, run_at}
use Rattle.liq_word_run.proofs.Leaving.{gives_back, unopened_by}
use Rattle.liq_word_run.proofs.Passing.{both}
use Rattle.liq_word_run.proofs.run.run_input.Goals as goal
use Rattle.liq_text_lines.proofs.Readings.{takes_none}

pub returns-in-Err-clause-run : goal.returns-in-Err-clause-run
returns-in-Err-clause-run g c l r told_l told_r start is =
    let disk_at = g.D.Disk.at in
    let sink_at = g.K.Sink.at in
    let out = c.args.out.now in
    let told = (g.S.Source.at c.args.input.now).left in
    let fault = c.in-Err.fault in
    subst (λ (e : Ending g.row.D.Denot). GivesBack disk_at c.args.left c.args.right start e.end told l r told
    (sink_at out).held (sink_at c.open.new.out).held (sink_at out).shown (sink_at c.open.new.out).shown e.left e.right)
    (sym c.end_without_store.ensures)
    (subst (λ o. GivesBack disk_at c.args.left c.args.right start (Err (halt_of fault.why)) told l r told
    (sink_at out).held (sink_at o).held (sink_at out).shown (sink_at o).shown fault.left fault.right)
    (sym c.in-Err.ensures.untouched)
    (unopened_by disk_at c.args.left c.args.right l r told (sink_at out).held (sink_at out).shown start
    fault.why fault.left fault.right c.in-Err.ensures.not_opened told_l told_r is
    (c.in-Err.ensures.begins_none l r start told_l told_r is)))

pub returns-clause-run : goal.returns-clause-run
returns-clause-run g c l r told_l told_r start is =
    let disk_at = g.D.Disk.at in
    let sink_at = g.K.Sink.at in
    let opened = c.in-Ok.run'.store in
    let ran = c.answer_all-end in
    let end = ran.result in
    let store = ran.new.self.store in
    let was = sink_at c.args.out.now in
    let now = sink_at ran.new.out in
    let told = (g.S.Source.at c.args.input.now).left in
    let unread = (g.S.Source.at ran.new.input).left in
    let begins = c.in-Ok.ensures.begins l r start told_l told_r is in
    let begun : Begun g.row.D.Denot = record {
      left = opened.left;
      right = opened.right;
      l = begins.left;
      r = begins.right;
      start = start;
      held = was.held;
      shown = was.shown;
    } in
    let order : IsInOrder disk_at store =
    subst (λ (s : Stored g.row.D.Denot). IsInOrder disk_at s) c.into_store.ensures c.end_with_store.ensures.order in
    let place : Reached g.row.D.Denot =
    run_at store ran.new.self.reader ran.new.self.waiting.items unread now in
    let ends = gives_back disk_at g.met.D.Disk.seen_may_stay c.args.left c.args.right l r start opened was.held
    was.shown (sink_at c.open.new.out).shown begins store end told place refl ran.ensures.time ran.ensures.stopped
    order (ran.ensures.run begun (sym c.open.ensures.held) begins.begun) in
    let given : (s : Stored g.row.D.Denot) → s ≡ store → GivesBack disk_at c.args.left c.args.right start end told
    l r unread was.held now.held was.shown now.shown s.left s.right =
    λ s same. subst (λ (s : Stored g.row.D.Denot). GivesBack disk_at c.args.left c.args.right start end told
    l r unread was.held now.held was.shown now.shown s.left s.right) (sym same) ends in
    subst (λ (e : Ending g.row.D.Denot). GivesBack disk_at c.args.left c.args.right start e.end told
    l r unread was.held now.held was.shown now.shown e.left e.right) (sym c.end_with_store.ensures.is)
    (given c.into_store.result c.into_store.ensures)

pub returns-clause-disks : goal.returns-clause-disks
returns-clause-disks g c =
    let opened = c.in-Ok.ensures in
    let ran = c.answer_all-end in
    let end = ran.result in
    let store = ran.new.self.store in
    let disk_at = g.D.Disk.at in
    let goes_on : DisksGoOn disk_at c.args.left c.args.right end store.left store.right = record {
      count = subst (λ (before : Faults). DiskCause end before (counts_of disk_at store.left store.right))
          opened.opened.0.counts ran.ensures.disks;
      left_time = joined disk_at _ _ _ opened.time.0 ran.ensures.time.left;
      right_time = joined disk_at _ _ _ opened.time.1 ran.ensures.time.right;
      left_telling = both opened.telling.0 ran.ensures.time.left_telling;
      right_telling = both opened.telling.1 ran.ensures.time.right_telling;
    } in
    let given : (s : Stored g.row.D.Denot) → s ≡ store
    → DisksGoOn disk_at c.args.left c.args.right end s.left s.right =
    λ s same. subst (λ (s : Stored g.row.D.Denot). DisksGoOn disk_at c.args.left c.args.right end s.left s.right)
    (sym same) goes_on in
    subst (λ (e : Ending g.row.D.Denot). DisksGoOn disk_at c.args.left c.args.right e.end e.left e.right)
    (sym c.end_with_store.ensures.is) (given c.into_store.result c.into_store.ensures)

pub returns-in-Err-clause-disks : goal.returns-in-Err-clause-disks
returns-in-Err-clause-disks g c =
    subst (λ (e : Ending g.row.D.Denot). DisksGoOn g.D.Disk.at c.args.left c.args.right e.end e.left e.right)
    (sym c.end_without_store.ensures) c.in-Err.ensures.disks

pub returns-in-Err-clause-damaged : goal.returns-in-Err-clause-damaged
returns-in-Err-clause-damaged g c l r told_l told_r side damage is = (
  refl,
  c.in-Err.ensures.untouched,
  subst (λ (e : Ending g.row.D.Denot).
      LeavesDamaged g.D.Disk.at c.args.left c.args.right l r side damage e.end e.left e.right)
      (sym c.end_without_store.ensures) (c.in-Err.ensures.damaged l r told_l told_r side damage is),
)

pub returns-clause-damaged : goal.returns-clause-damaged
returns-clause-damaged g c l r told_l told_r side damage is =
    let found = c.in-Ok.ensures.opened.0.state l r told_l told_r in
    absurd (cc (found.1, is))

pub returns-in-Err-clause-few : goal.returns-in-Err-clause-few
returns-in-Err-clause-few g c = takes_none (g.S.Source.at c.args.input.now).left
