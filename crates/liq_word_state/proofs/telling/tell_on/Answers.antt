use Rattle.liq_outside.specs.Faults.{Rose}
use Rattle.liq_disk_pair.specs.Pair.{commands_on}
use Rattle.liq_word_exit.proofs.Causes.{write_no_fewer}
use Rattle.liq_word_state.proofs.DamagedTold.{damaged_told}
use Rattle.liq_word_state.proofs.SomeTold.{some_told}
use Rattle.liq_word_state.proofs.TextsTold.{all_told}
use Rattle.liq_word_state.proofs.telling.tell_on.Goals as goal

pub returns-clause-told : goal.returns-clause-told
returns-clause-told g c l r told_l told_r start is =
    let at = g.K.Sink.at in
    let out = c.args.out.now in
    let ran = c.tell-ending in
    let found = ran.ensures.told l r told_l told_r start is in (
      all_told c.args.what start (commands_on l r) ran.result.end (Rose (at out).faults (at c.tell_last.new.out).faults)
          (at out).held (at ran.new.out).held (at c.tell_last.new.out).held found.0
          (λ text wrote. c.tell_last.ensures.told text (at out).held (at out).faults
          (write_no_fewer ran.result.end _ _ ran.ensures.sink) wrote),
      found.1,
    )

pub returns-clause-damaged : goal.returns-clause-damaged
returns-clause-damaged g c l r told_l told_r side damage is =
    let ran = c.tell-ending in
    let found = ran.ensures.damaged l r told_l told_r side damage is in
    damaged_told g.D.Disk.at c.args.left c.args.right l r g.K.Sink.at
    c.args.out.now ran.new.out c.tell_last.new.out side damage ran.result.end ran.result.left ran.result.right found.0
    found.1 c.tell_last.ensures.last

pub returns-clause-some : goal.returns-clause-some
returns-clause-some g c =
    let at = g.K.Sink.at in
    let out = c.args.out.now in
    let ran = c.tell-ending in
    some_told c.args.what ran.result.end (Rose (at out).faults (at c.tell_last.new.out).faults) (at out).held
    (at ran.new.out).held (at c.tell_last.new.out).held ran.ensures.some
    (λ text wrote. c.tell_last.ensures.told text (at out).held (at out).faults
    (write_no_fewer ran.result.end _ _ ran.ensures.sink) wrote)
