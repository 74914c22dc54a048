use Rattle.std.proofs.Common.{◌≡◌, ℕ, List, Some, true, false, Ok, rules}
use Rattle.liq_outside.specs.Disk.{LeftNow, Only}
use Rattle.liq_disk_pair.proofs.Recovering.{recovered}
use Rattle.liq_store.specs.Opening.{left_after, right_after}
use Rattle.liq_store.proofs.Opening.{begun_not, begun_opened, begun_reads_kept, begun_shuts, both_fine, judged_not, judged_rests, judged_shuts, left_begun, left_opened, right_opened, same_disk, stood_on}
use Rattle.liq_store.proofs.store.Store.open.Goals as goal

pub begin_told-requires : goal.begin_told-requires
begin_told-requires g c =
    let both = both_fine g.D.Disk.at c.args.left c.args.right c.stand-left.result c.stand-right.result c.in-Ok.left
    c.in-Ok.right c.in-Ok.ensures.fine c.stand-left.ensures c.stand-right.ensures in
    record {
      left = stood_on g.D.Disk.at true c.args.left c.in-Ok.left both.0;
      right = stood_on g.D.Disk.at false c.args.right c.in-Ok.right both.1;
    }

pub returns-in-Ok : goal.returns-in-Ok
returns-in-Ok g c =
    let both = both_fine g.D.Disk.at c.args.left c.args.right c.stand-left.result c.stand-right.result c.in-Ok.left
    c.in-Ok.right c.in-Ok.ensures.fine c.stand-left.ensures c.stand-right.ensures in
    let left_leaves = left_begun g.D.Disk.at c.args.left c.args.right c.in-Ok.left c.in-Ok.right
    (left_after c.begin_told.result) both.0 both.1 c.begin_told.ensures.left in
    let right_leaves = (λ (r : List ℕ) (tr : (g.D.Disk.at c.args.right).seen
    ≡ Some r) (only : Only r (LeftNow g.D.Disk.at c.args.right)). right_opened g.D.Disk.at c.args.left c.args.right
    (Ok c.in-Ok.left) (Ok c.in-Ok.right) both.0 both.1 r tr only (right_after c.begin_told.result)
    (same_disk g.D.Disk.at c.in-Ok.right (right_after c.begin_told.result) c.begin_told.ensures.right)) in
    record {
      opened = begun_opened g.D.Disk.at c.args.left c.args.right c.in-Ok.left c.in-Ok.right both.0 both.1
          c.begin_told.result c.begin_told.ensures.opened;
      not_opened = begun_not g.D.Disk.at c.args.left c.args.right c.in-Ok.left c.in-Ok.right both.0 both.1
          c.begin_told.result c.begin_told.ensures.left c.begin_told.ensures.right c.begin_told.ensures.cause;
      order = c.begin_told.ensures.order;
      told = c.begin_told.ensures.told;
      followed = c.begin_told.ensures.followed;
      shut = c.begin_told.ensures.shut;
      rests = c.begin_told.ensures.rests;
      shuts = λ none l r a b tl tr ta tb. begun_shuts g.D.Disk.at c.args.left c.args.right c.in-Ok.left c.in-Ok.right
          (left_after c.begin_told.result) (right_after c.begin_told.result) both.0 both.1 c.begin_told.ensures.left
          c.begin_told.ensures.right l r a b tl tr ta tb;
      recovers = λ l r s tl tr only_l only_r kept x y lx ly. recovered l r x y s kept
          ((left_leaves l r tl tr only_l).each x lx) ((right_leaves r tr only_r).each y ly);
      reads = begun_reads_kept g.D.Disk.at c.args.left c.args.right c.in-Ok.left c.in-Ok.right both.0 both.1
          c.begin_told.result c.begin_told.ensures.left c.begin_told.ensures.right;
      left_leaves = left_leaves;
      right_leaves = right_leaves;
      left_telling = search rules;
      right_telling = search rules;
      left_time = search rules;
      right_time = search rules;
    }

pub returns-in-Err : goal.returns-in-Err
returns-in-Err g c =
    let left_leaves = (λ (l r : List ℕ) (tl : (g.D.Disk.at c.args.left).seen
    ≡ Some l) (only : Only l (LeftNow g.D.Disk.at c.args.left)). left_opened g.D.Disk.at c.args.left c.args.right
    c.stand-left.result c.stand-right.result c.stand-left.ensures c.stand-right.ensures l r tl only
    c.in-Err.fault.left c.in-Err.ensures.left) in
    let right_leaves = (λ (r : List ℕ) (tr : (g.D.Disk.at c.args.right).seen
    ≡ Some r) (only : Only r (LeftNow g.D.Disk.at c.args.right)). right_opened g.D.Disk.at c.args.left c.args.right
    c.stand-left.result c.stand-right.result c.stand-left.ensures c.stand-right.ensures r tr only c.in-Err.fault.right
    c.in-Err.ensures.right) in
    record {
      opened = tt;
      not_opened = judged_not g.D.Disk.at c.args.left c.args.right c.stand-left.result c.stand-right.result
          c.stand-left.ensures c.stand-right.ensures c.in-Err.fault c.in-Err.ensures.left c.in-Err.ensures.right
          c.in-Err.ensures.why;
      order = tt;
      told = tt;
      followed = tt;
      shut = tt;
      rests = judged_rests g.D.Disk.at c.args.left c.args.right c.stand-left.result c.stand-right.result
          c.stand-left.ensures c.stand-right.ensures c.in-Err.fault c.in-Err.ensures.left c.in-Err.ensures.right
          c.in-Err.ensures.why;
      shuts = λ other l r a b tl tr ta tb. judged_shuts g.D.Disk.at c.args.left c.args.right
          c.stand-left.result c.stand-right.result c.stand-left.ensures c.stand-right.ensures c.in-Err.fault
          c.in-Err.ensures.left c.in-Err.ensures.right c.in-Err.ensures.why
          other l r a b tl tr ta tb;
      recovers = λ l r s tl tr only_l only_r kept x y lx ly. recovered l r x y s kept
          ((left_leaves l r tl only_l).each x lx) ((right_leaves r tr only_r).each y ly);
      reads = tt;
      left_leaves = λ l r tl tr only. left_leaves l r tl only;
      right_leaves = right_leaves;
      left_telling = search rules;
      right_telling = search rules;
      left_time = search rules;
      right_time = search rules;
    }
