use Rattle.std.proofs.Common.{◌∙◌, ◌+◌, ◌*◌, List, ℕ, Option, IfSome, arith, refl, subst}
use Rattle.liq_journal.specs.Tested.{IsTested}
use Rattle.liq_journal.proofs.Looks.{looked_none, looked_on}
use Rattle.liq_journal.proofs.Counting.{told_more, told_end, told_fault, told_full, told_none}
use Rattle.liq_journal.proofs.Parting.{told_empty}
use Rattle.liq_journal.proofs.records.count_records.Goals as goal

pub loop-count-init : goal.loop-count-init
loop-count-init g c = record {
  looked = looked_none g.D.Disk.at c.args.disk.now;
  part = told_empty (g.D.Disk.at c.args.disk.now).seen c.new-block.result c.new-block.ensures;
  still = refl;
  read = told_none (g.D.Disk.at c.args.disk.now).seen c.args.generation c.args.start;
}

pub returns-in-Ok-None-clause-looked : goal.returns-in-Ok-None-clause-looked
returns-in-Ok-None-clause-looked g c = looked_on g.D.Disk.at c.args.disk.now c.loop-count.disk c.read_record.new.disk
    c.loop-count.invariant.looked c.read_record.ensures.looked

pub returns-in-Ok-None-clause-counted : goal.returns-in-Ok-None-clause-counted
returns-in-Ok-None-clause-counted g c = told_end (g.D.Disk.at c.args.disk.now).seen (g.D.Disk.at c.loop-count.disk).seen
    c.loop-count.invariant.looked.same c.args.generation c.args.start c.loop-count.count
    (omega arith) c.loop-count.invariant.read
    (subst (λ (b : Option (List ℕ)). IfSome (g.D.Disk.at c.loop-count.disk).seen (λ held. IsTested c.args.generation
    (c.loop-count.count + 1) (c.args.start + 129 * c.loop-count.count) held b)) c.in-Ok-None.field-0-is
    c.in-Ok-None.ensures.tested)

pub returns-in-Err-clause-looked : goal.returns-in-Err-clause-looked
returns-in-Err-clause-looked g c = looked_on g.D.Disk.at c.args.disk.now c.loop-count.disk c.read_record.new.disk
    c.loop-count.invariant.looked c.read_record.ensures.looked

pub returns-in-Err-clause-fault : goal.returns-in-Err-clause-fault
returns-in-Err-clause-fault g c = told_fault (g.D.Disk.at c.args.disk.now).seen (g.D.Disk.at c.loop-count.disk).seen
    c.loop-count.invariant.looked.same c.args.generation c.args.start c.loop-count.count c.in-Err.why
    (omega arith) c.loop-count.invariant.read c.in-Err.ensures.fault

pub loop-count-preserved : goal.loop-count-preserved
loop-count-preserved g c = record {
  looked = looked_on g.D.Disk.at c.args.disk.now c.loop-count.disk c.read_record.new.disk c.loop-count.invariant.looked
      c.read_record.ensures.looked;
  part = c.read_record.ensures.part;
  still = c.in-Ok-Some.ensures.cause ∙ c.loop-count.invariant.still;
  read = told_more (g.D.Disk.at c.args.disk.now).seen (g.D.Disk.at c.loop-count.disk).seen
      c.loop-count.invariant.looked.same c.args.generation c.args.start c.loop-count.count c.in-Ok-Some.field-0-0
      c.loop-count.invariant.read (subst (λ (b : Option (List ℕ)). IfSome (g.D.Disk.at c.loop-count.disk).seen
      (λ held. IsTested c.args.generation (c.loop-count.count + 1) (c.args.start + 129 * c.loop-count.count) held b))
      c.in-Ok-Some.field-0-is c.in-Ok-Some.ensures.tested);
}

pub returns-clause-counted : goal.returns-clause-counted
returns-clause-counted g c = told_full (g.D.Disk.at c.args.disk.now).seen c.args.generation c.args.start
    c.loop-count.count (omega arith) c.loop-count.invariant.read
