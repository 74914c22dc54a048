use Rattle.std.proofs.Common.{rules, refl, subst, sym}
use Rattle.std.specs.Prelude.{◌↔◌, IsSome}
use Rattle.liq_outside.specs.Disk.{GoesOn}
use Rattle.liq_outside.proofs.Moments.{unmoved}
use Rattle.liq_store.specs.Stored.{Stored}
use Rattle.liq_word_exit.proofs.Causes.{unopened_cause}
use Rattle.liq_word_exit.proofs.Damaged.{unopened_damaged, untouched_damaged}
use Rattle.liq_word_exit.proofs.Passing.{unopened_past}
use Rattle.liq_word_run.proofs.Cleared.{opens_cleared}
use Rattle.liq_word_run.proofs.Passing.{begins_run, begins_untouched}
use Rattle.liq_word_run.proofs.run.Run.open.Goals as goal

pub returns-in-Ok-open-clause-opened : goal.returns-in-Ok-open-clause-opened
returns-in-Ok-open-clause-opened g c = (
  opens_cleared g.D.Disk.at c.args.left c.args.right c.in-Ok-open.store c.clear_changes.new.self
      c.clear_changes.ensures.cleared c.in-Ok-open.ensures.opened,
  c.in-Ok.ensures.0,
  c.in-Ok.ensures.1,
)

pub returns-in-Ok-open-clause-begins : goal.returns-in-Ok-open-clause-begins
returns-in-Ok-open-clause-begins g c l r start told_l told_r is =
    let opens = c.in-Ok-open.ensures in
    begins_run g.D.Disk.at g.met.D.Disk.seen_may_stay c.args.left c.args.right l r start c.in-Ok-open.store
    c.clear_changes.new.self (g.K.Sink.at c.args.out.now).held (g.K.Sink.at c.args.out.now).shown _
    c.clear_changes.ensures.cleared c.clear_changes.ensures.order told_l told_r is
    (opens.left_leaves l r told_l told_r) (opens.right_leaves r told_r) opens.left_telling opens.right_telling
    opens.left_time opens.right_time (opens.recovers l r start told_l told_r) opens.opened opens.order (search rules)

pub returns-in-Err-open-clause-begins_none : goal.returns-in-Err-open-clause-begins_none
returns-in-Err-open-clause-begins_none g c l r start told_l told_r is =
    let fault = c.in-Err-open.fault in
    let opens = c.in-Err-open.ensures in
    record {
      left_time = opens.left_time.later;
      right_time = opens.right_time.later;
      past = unopened_past g.D.Disk.at g.met.D.Disk.seen_may_stay fault.why fault.left fault.right c.args.left
          c.args.right opens.not_opened opens.left_time opens.right_time opens.rests opens.recovers opens.left_leaves
          opens.right_leaves l r start told_l told_r is;
      opens = λ other a b told_a told_b. opens.shuts other l r a b told_l told_r told_a told_b;
      recovers = opens.recovers l r start told_l told_r;
    }

pub returns-in-Err-clause-begins_none : goal.returns-in-Err-clause-begins_none
returns-in-Err-clause-begins_none g c l r start told_l told_r is =
    begins_untouched g.D.Disk.at g.met.D.Disk.seen_may_stay c.args.left c.args.right l r start told_l told_r

pub returns-in-Ok-open-clause-time : goal.returns-in-Ok-open-clause-time
returns-in-Ok-open-clause-time g c =
    let opens = c.in-Ok-open.ensures in (
      subst (λ (s : Stored g.row.D.Denot). GoesOn g.D.Disk.at c.args.left s.left)
          (sym c.clear_changes.ensures.cleared) opens.left_time,
      subst (λ (s : Stored g.row.D.Denot). GoesOn g.D.Disk.at c.args.right s.right)
          (sym c.clear_changes.ensures.cleared) opens.right_time,
    )

pub returns-in-Ok-open-clause-telling : goal.returns-in-Ok-open-clause-telling
returns-in-Ok-open-clause-telling g c =
    let at = g.D.Disk.at in
    let opens = c.in-Ok-open.ensures in
    subst (λ (s : Stored g.row.D.Denot).
    (IsSome (at s.left).seen ↔ IsSome (at c.args.left).seen)
    × (IsSome (at s.right).seen ↔ IsSome (at c.args.right).seen))
    (sym c.clear_changes.ensures.cleared) (opens.left_telling, opens.right_telling)

-- ---- none was opened

pub returns-in-Err-open-clause-disks : goal.returns-in-Err-open-clause-disks
returns-in-Err-open-clause-disks g c =
    let opens = c.in-Err-open.ensures in
    record {
      count = unopened_cause c.in-Err-open.fault.why _ _ opens.not_opened.cause;
      left_time = opens.left_time;
      right_time = opens.right_time;
      left_telling = opens.left_telling;
      right_telling = opens.right_telling;
    }

pub returns-in-Err-clause-disks : goal.returns-in-Err-clause-disks
returns-in-Err-clause-disks g c = record {
  count = refl;
  left_time = unmoved g.D.Disk.at c.args.left;
  right_time = unmoved g.D.Disk.at c.args.right;
  left_telling = (λ tells. tells, λ tells. tells);
  right_telling = (λ tells. tells, λ tells. tells);
}

pub returns-in-Err-open-clause-damaged : goal.returns-in-Err-open-clause-damaged
returns-in-Err-open-clause-damaged g c l r told_l told_r side damage is =
    let fault = c.in-Err-open.fault in
    let opens = c.in-Err-open.ensures in
    unopened_damaged g.D.Disk.at c.args.left c.args.right l r side damage told_l told_r is fault.left fault.right
    fault.why opens.not_opened (opens.left_leaves l r told_l told_r) (opens.right_leaves r told_r)
    (λ other a b. opens.shuts other l r a b told_l told_r)

pub returns-in-Err-clause-damaged : goal.returns-in-Err-clause-damaged
returns-in-Err-clause-damaged g c l r told_l told_r side damage is =
    untouched_damaged g.D.Disk.at c.args.left c.args.right l r side damage told_l told_r is
