use Rattle.std.proofs.Common.{◌≡◌, ◌∙◌, ◌≤◌, List, ℕ, ◌∷◌, [], length, Option, Some, None, IfSome, option_map, rules, arith}
use Rattle.std.proofs.lemmas.Result.{err_from_is_err_and}
use Rattle.liq_outside.specs.Disk.{overwritten}
use Rattle.liq_journal.specs.Crash.{Stands, beginning}
use Rattle.liq_disk_header.specs.Header.{is_odd}
use Rattle.liq_journal.proofs.Creating.{some_is, gate_shut, only_shut, after_shut, after_fill, after_open, made, reads_then}
use Rattle.liq_journal.proofs.Parity.{of_its_parity}
use Rattle.liq_journal.proofs.Going.{called_on, on_ok_from}
use Rattle.liq_journal.proofs.create.make.Goals as goal

pub returns-in_err-settle-clause-crash : goal.returns-in_err-settle-clause-crash
returns-in_err-settle-clause-crash g c = λ held told only. after_shut g.D.Disk.at c.args.disk.now c.settle.new.disk
    c.settle.new.disk c.settle.new.disk held c.args.generation c.args.checkpoint.now
    (c.settle.ensures.crash held told only)

pub returns-in_err-fill-clause-crash : goal.returns-in_err-fill-clause-crash
returns-in_err-fill-clause-crash g c = λ held told only. after_fill g.D.Disk.at c.args.disk.now c.settle.new.disk
    c.fill.new.disk c.fill.new.disk held c.args.generation c.args.checkpoint.now (c.settle.ensures.crash held told only)
    (c.fill.ensures.crash (only_shut g.D.Disk.at c.settle.new.disk (g.D.Disk.at c.settle.new.disk).seen
    (gate_shut (g.D.Disk.at c.settle.new.disk).seen c.in_ok-settle.ensures.settled)
    (c.in_ok-settle.ensures.durable held told only) (c.settle.ensures.called.lasts.telling.1
    (some_is (g.D.Disk.at c.args.disk.now).seen held told))))

pub returns-clause-crash : goal.returns-clause-crash
returns-clause-crash g c = λ held told only. after_open g.D.Disk.at c.args.disk.now c.settle.new.disk c.fill.new.disk
    c.write_synced.new.disk held c.args.generation c.args.checkpoint.now (search rules) (search rules)
    (of_its_parity c.args.generation c.requires.from_one) c.requires.size
    (gate_shut (g.D.Disk.at c.settle.new.disk).seen c.in_ok-settle.ensures.settled)
    (c.settle.ensures.called.lasts.telling.1 (some_is (g.D.Disk.at c.args.disk.now).seen held told))
    c.in_ok-fill.ensures.filled (after_fill g.D.Disk.at c.args.disk.now c.settle.new.disk c.fill.new.disk
    c.write_synced.new.disk held c.args.generation c.args.checkpoint.now (c.settle.ensures.crash held told only)
    (c.fill.ensures.crash (only_shut g.D.Disk.at c.settle.new.disk (g.D.Disk.at c.settle.new.disk).seen
    (gate_shut (g.D.Disk.at c.settle.new.disk).seen c.in_ok-settle.ensures.settled)
    (c.in_ok-settle.ensures.durable held told only) (c.settle.ensures.called.lasts.telling.1
    (some_is (g.D.Disk.at c.args.disk.now).seen held told))))) c.in_ok-fill.ensures.durable c.write_synced.ensures.crash

pub returns-clause-created : goal.returns-clause-created
returns-clause-created g c = on_ok_from c.write_synced.result ((g.D.Disk.at c.write_synced.new.disk).seen
    ≡ option_map (λ (l : List ℕ). overwritten l 0 (1 ∷ [])) (g.D.Disk.at c.fill.new.disk).seen)
    ((held : List ℕ) → (g.D.Disk.at c.args.disk.now).seen ≡ Some held → (x : List ℕ)
    × ((g.D.Disk.at c.write_synced.new.disk).seen ≡ Some x)
    × Stands (is_odd c.args.generation) x (beginning c.args.generation c.args.checkpoint.now))
    (λ gate held told. made g.D.Disk.at c.args.disk.now c.settle.new.disk c.fill.new.disk c.write_synced.new.disk held
    c.args.generation c.args.checkpoint.now (search rules) (search rules)
    (of_its_parity c.args.generation c.requires.from_one) c.requires.size
    (gate_shut (g.D.Disk.at c.settle.new.disk).seen c.in_ok-settle.ensures.settled)
    (c.settle.ensures.called.lasts.telling.1 (some_is (g.D.Disk.at c.args.disk.now).seen held told))
    c.in_ok-fill.ensures.filled gate) c.write_synced.ensures.written

pub returns-in_err-settle-clause-reads : goal.returns-in_err-settle-clause-reads
returns-in_err-settle-clause-reads g c = reads_then g.D.Disk.at c.args.disk.now c.settle.new.disk c.args.generation
    c.args.checkpoint.now (g.met.D.Disk.seen_may_stay c.settle.new.disk) (returns-in_err-settle-clause-crash g c)

pub returns-in_err-fill-clause-reads : goal.returns-in_err-fill-clause-reads
returns-in_err-fill-clause-reads g c = reads_then g.D.Disk.at c.args.disk.now c.fill.new.disk c.args.generation
    c.args.checkpoint.now (g.met.D.Disk.seen_may_stay c.fill.new.disk) (returns-in_err-fill-clause-crash g c)

pub returns-clause-reads : goal.returns-clause-reads
returns-clause-reads g c = reads_then g.D.Disk.at c.args.disk.now c.write_synced.new.disk c.args.generation
    c.args.checkpoint.now (g.met.D.Disk.seen_may_stay c.write_synced.new.disk) (returns-clause-crash g c)

pub returns-in_err-fill-clause-called : goal.returns-in_err-fill-clause-called
returns-in_err-fill-clause-called g c =
    let calls = called_on g.D.Disk.at c.args.disk.now c.settle.new.disk c.fill.new.disk _ _ c.settle.ensures.called
    c.in_ok-settle.ensures.called.cause.ok c.fill.ensures.called in
    record { lasts = calls.lasts; cause = search rules }

pub returns-clause-called : goal.returns-clause-called
returns-clause-called g c =
    let same = c.in_ok-settle.ensures.called.cause.ok in
    let both = called_on g.D.Disk.at c.args.disk.now c.settle.new.disk c.fill.new.disk _ _ c.settle.ensures.called same
    c.fill.ensures.called in
    called_on g.D.Disk.at c.args.disk.now c.fill.new.disk c.write_synced.new.disk _ _ both
    (c.in_ok-fill.ensures.called.cause.ok ∙ same) c.write_synced.ensures.called

pub returns-in_err-fill-clause-created : goal.returns-in_err-fill-clause-created
returns-in_err-fill-clause-created g c =
    let p = err_from_is_err_and c.from_residual-in_err-fill.result c.from_residual-in_err-fill.ensures.1 in rw p.1 tt

pub returns-in_err-fill-clause-durable : goal.returns-in_err-fill-clause-durable
returns-in_err-fill-clause-durable g c =
    let p = err_from_is_err_and c.from_residual-in_err-fill.result c.from_residual-in_err-fill.ensures.1 in rw p.1 tt

from_start : (told : Option (List ℕ)) → IfSome told (λ held. 0 ≤ length held)
from_start None = tt
from_start (Some held) = omega arith

pub write_synced-requires-clause-inside : goal.write_synced-requires-clause-inside
write_synced-requires-clause-inside g c = from_start (g.D.Disk.at c.fill.new.disk).seen

pub returns-in_err-fill-clause-calls : goal.returns-in_err-fill-clause-calls
returns-in_err-fill-clause-calls g c =
    let p = err_from_is_err_and c.from_residual-in_err-fill.result c.from_residual-in_err-fill.ensures.1 in rw p.1 tt
