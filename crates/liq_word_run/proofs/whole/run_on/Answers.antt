use Rattle.std.proofs.Common.{List, [], Option, Err, Result, sym, subst}
use Rattle.liq_outside.specs.declared.showing.Showing.{Showing}
use Rattle.liq_outside.specs.Faults.{Rose}
use Rattle.liq_word_exit.specs.declared.halts.Halt.{Halt}
use Rattle.liq_word_exit.specs.Disks.{LeavesDamaged}
use Rattle.liq_word_exit.specs.Output.{last}
use Rattle.liq_word_exit.specs.Stops.{Adds, EndsIn}
use Rattle.liq_word_exit.proofs.EndingLines.{rose_later, adds_weaker}
use Rattle.liq_word_exit.proofs.Causes.{write_no_fewer}
use Rattle.liq_word_exit.proofs.Opened.{damaged_halts, state_formed}
use Rattle.liq_word_run.specs.Progress.{GivesBack}
use Rattle.liq_word_run.proofs.Last.{last_written, went_well}
use Rattle.liq_word_run.proofs.whole.run_on.Goals as goal

pub returns-in-Err-clause-run : goal.returns-in-Err-clause-run
returns-in-Err-clause-run g c l r told_l told_r start is =
    let at = g.K.Sink.at in
    let ran = c.run_input-ending in
    let end = ran.result.end in
    let halt = c.in-Err.halt in
    let told = (g.S.Source.at c.args.input.now).left in
    let unread = (g.S.Source.at ran.new.input).left in
    let out = c.args.out.now in
    let middle = ran.new.out in
    let after = c.write_last.new.out in
    let rose = Rose (at out).faults (at after).faults in
    subst (λ (e : Result (Unit {0}) Halt). EndsIn g.D.Disk.at c.args.left c.args.right start e told l r unread rose
    (at out).held (at after).held (at out).shown (at after).shown ran.result.left ran.result.right) (sym c.in-Err.is)
    (subst (λ (s : Option (List Showing)). EndsIn g.D.Disk.at c.args.left c.args.right start (Err halt) told l r
    unread rose (at out).held (at after).held (at out).shown s ran.result.left ran.result.right)
    (sym c.write_last.ensures.unshown)
    (last_written g.D.Disk.at c.args.left c.args.right start (state_formed l r start is) l r told unread rose
    (at out).shown (at middle).shown ran.result.left ran.result.right halt (at out).held (at middle).held
    (at after).held
    (subst (λ (e : Result (Unit {0}) Halt). GivesBack g.D.Disk.at c.args.left c.args.right start e told l r unread
    (at out).held (at middle).held (at out).shown (at middle).shown ran.result.left ran.result.right) c.in-Err.is
    (ran.ensures.run l r told_l told_r start is))
    (adds_weaker (last halt) (Rose (at middle).faults (at after).faults) rose (at middle).held (at after).held
    (rose_later (at out).faults (at middle).faults (at after).faults
    (write_no_fewer end (at out).faults (at middle).faults ran.ensures.sink)) c.write_last.ensures.written)))

pub returns-in_default-clause-run : goal.returns-in_default-clause-run
returns-in_default-clause-run g c l r told_l told_r start is =
    let ran = c.run_input-ending in
    let out = c.args.out.now in
    let was = g.K.Sink.at out in
    let now = g.K.Sink.at ran.new.out in
    went_well g.D.Disk.at c.args.left c.args.right start (state_formed l r start is) l r
    (g.S.Source.at c.args.input.now).left (g.S.Source.at ran.new.input).left (Rose was.faults now.faults) was.shown
    now.shown ran.result.left
    ran.result.right ran.result.end was.held now.held c.in_default.not-Err
    (ran.ensures.run l r told_l told_r start is)

pub returns-in-Err-clause-damaged : goal.returns-in-Err-clause-damaged
returns-in-Err-clause-damaged g c l r told_l told_r side damage is =
    let at = g.K.Sink.at in
    let ran = c.run_input-ending in
    let found = ran.ensures.damaged l r told_l told_r side damage is in
    let halt = c.in-Err.halt in
    let after = c.write_last.new.out in (
      found.0,
      (
        halt,
        c.in-Err.is,
        subst (λ (e : Result (Unit {0}) Halt).
            LeavesDamaged g.D.Disk.at c.args.left c.args.right l r side damage e ran.result.left ran.result.right)
            c.in-Err.is found.2,
        subst (λ o. Adds [] (last halt) (Rose (at o).faults (at after).faults) (at o).held (at after).held) found.1
            c.write_last.ensures.written,
      ),
    )

pub returns-in_default-clause-damaged : goal.returns-in_default-clause-damaged
returns-in_default-clause-damaged g c l r told_l told_r side damage is =
    let ran = c.run_input-ending in
    let found = ran.ensures.damaged l r told_l told_r side damage is in
    let halts = damaged_halts g.D.Disk.at side damage ran.result.end ran.result.left ran.result.right found.2.ends in
    absurd (c.in_default.not-Err halts.0 halts.1)
