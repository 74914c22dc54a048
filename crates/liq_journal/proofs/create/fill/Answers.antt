use Rattle.std.proofs.Common.{◌≡◌, ◌+◌, ◌∙◌, List, ℕ, Option, IfSome, length, option_map, rules, subst, sym}
use Rattle.std.proofs.lemmas.Result.{err_from_is_err_and}
use Rattle.std.specs.Result.{OnOk}
use Rattle.liq_outside.specs.Disk.{LeftNow, Only}
use Rattle.liq_disk_header.specs.Layout.{version_2, header_size}
use Rattle.liq_journal.specs.Crash.{IsShut, filled}
use Rattle.liq_outside.proofs.Moments.{call}
use Rattle.liq_journal.proofs.Creating.{long_after, filled_told, shut_on}
use Rattle.liq_journal.proofs.Going.{called_on, on_ok, telling_same}
use Rattle.liq_journal.proofs.create.fill.Goals as goal

pub write_behind-requires-2-clause-inside : goal.write_behind-requires-2-clause-inside
write_behind-requires-2-clause-inside g c = long_after (g.D.Disk.at c.args.disk.now).seen
    (g.D.Disk.at c.write_behind.new.disk).seen 1 (header_size version_2) c.header_bytes.result
    c.in_ok-write_behind.ensures.written c.requires.there (search rules)

pub write_behind-requires-3-clause-inside : goal.write_behind-requires-3-clause-inside
write_behind-requires-3-clause-inside g c = long_after (g.D.Disk.at c.write_behind.new.disk).seen
    (g.D.Disk.at c.write_behind-2.new.disk).seen (header_size version_2) (header_size version_2
    + length c.args.checkpoint.now) c.args.checkpoint.now c.in_ok-write_behind-2.ensures.written
    (long_after (g.D.Disk.at c.args.disk.now).seen (g.D.Disk.at c.write_behind.new.disk).seen 1 (header_size version_2)
    c.header_bytes.result c.in_ok-write_behind.ensures.written c.requires.there (search rules)) (search rules)

pub returns-in_err-write_behind-2-clause-crash : goal.returns-in_err-write_behind-2-clause-crash
returns-in_err-write_behind-2-clause-crash g c =
    λ shut. (shut_on g.D.Disk.at c.args.disk.now c.write_behind.new.disk c.write_behind-2.new.disk
    (c.write_behind.ensures.crash shut) c.write_behind-2.ensures.crash)

pub returns-in_err-write_behind-3-clause-crash : goal.returns-in_err-write_behind-3-clause-crash
returns-in_err-write_behind-3-clause-crash g c =
    λ shut. (shut_on g.D.Disk.at c.args.disk.now c.write_behind-2.new.disk c.write_behind-3.new.disk
    (shut_on g.D.Disk.at c.args.disk.now c.write_behind.new.disk c.write_behind-2.new.disk
    (c.write_behind.ensures.crash shut) c.write_behind-2.ensures.crash) c.write_behind-3.ensures.crash)

pub returns-clause-crash : goal.returns-clause-crash
returns-clause-crash g c = λ shut. shut_on g.D.Disk.at c.args.disk.now c.write_behind-3.new.disk c.sync.new.self
    (shut_on g.D.Disk.at c.args.disk.now c.write_behind-2.new.disk c.write_behind-3.new.disk
    (shut_on g.D.Disk.at c.args.disk.now c.write_behind.new.disk c.write_behind-2.new.disk
    (c.write_behind.ensures.crash shut) c.write_behind-2.ensures.crash) c.write_behind-3.ensures.crash)
    (λ before. call g.D.Disk.at c.write_behind-3.new.disk c.sync.new.self IsShut c.sync.ensures.time before
    (λ image left. before image (c.sync.ensures.crash image left)))

pub returns-clause-filled : goal.returns-clause-filled
returns-clause-filled g c = on_ok c.sync.result ((g.D.Disk.at c.sync.new.self).seen
    ≡ option_map (filled version_2 c.args.generation c.args.checkpoint.now) (g.D.Disk.at c.args.disk.now).seen)
    (c.sync.ensures.same ∙ filled_told version_2 c.args.generation c.args.checkpoint.now c.header_bytes.result
    (g.D.Disk.at c.args.disk.now).seen (g.D.Disk.at c.write_behind.new.disk).seen
    (g.D.Disk.at c.write_behind-2.new.disk).seen (g.D.Disk.at c.write_behind-3.new.disk).seen c.header_bytes.ensures
    c.in_ok-write_behind.ensures.written c.in_ok-write_behind-2.ensures.written
    c.in_ok-write_behind-3.ensures.written)

pub returns-in_err-write_behind-2-clause-called : goal.returns-in_err-write_behind-2-clause-called
returns-in_err-write_behind-2-clause-called g c =
    let calls = called_on g.D.Disk.at c.args.disk.now c.write_behind.new.disk c.write_behind-2.new.disk _ _
    c.write_behind.ensures.called c.in_ok-write_behind.ensures.called.cause.ok c.write_behind-2.ensures.called in
    record { lasts = calls.lasts; cause = search rules }

pub returns-in_err-write_behind-3-clause-called : goal.returns-in_err-write_behind-3-clause-called
returns-in_err-write_behind-3-clause-called g c =
    let calls = called_on g.D.Disk.at c.args.disk.now c.write_behind-2.new.disk c.write_behind-3.new.disk _ _
    (called_on g.D.Disk.at c.args.disk.now c.write_behind.new.disk c.write_behind-2.new.disk _ _
    c.write_behind.ensures.called c.in_ok-write_behind.ensures.called.cause.ok c.write_behind-2.ensures.called)
    (c.in_ok-write_behind-2.ensures.called.cause.ok ∙ c.in_ok-write_behind.ensures.called.cause.ok)
    c.write_behind-3.ensures.called in
    record { lasts = calls.lasts; cause = search rules }

pub returns-clause-called : goal.returns-clause-called
returns-clause-called g c =
    let first = called_on g.D.Disk.at c.args.disk.now c.write_behind.new.disk c.write_behind-2.new.disk _ _
    c.write_behind.ensures.called c.in_ok-write_behind.ensures.called.cause.ok c.write_behind-2.ensures.called in
    let same = c.in_ok-write_behind-2.ensures.called.cause.ok ∙ c.in_ok-write_behind.ensures.called.cause.ok in
    let both = called_on g.D.Disk.at c.args.disk.now c.write_behind-2.new.disk c.write_behind-3.new.disk _ _ first same
    c.write_behind-3.ensures.called in
    called_on g.D.Disk.at c.args.disk.now c.write_behind-3.new.disk c.sync.new.self _ _ both
    (c.in_ok-write_behind-3.ensures.called.cause.ok ∙ same) (record {
      lasts = record {
        telling = telling_same (g.D.Disk.at c.write_behind-3.new.disk).seen (g.D.Disk.at c.sync.new.self).seen
            c.sync.ensures.same;
        time = c.sync.ensures.time.goes_on;
      };
      cause = c.sync.ensures.cause;
    })

-- ---- without an `Ok` there is nothing to show

pub returns-in_err-write_behind-clause-filled : goal.returns-in_err-write_behind-clause-filled
returns-in_err-write_behind-clause-filled g c =
    let p = err_from_is_err_and c.from_residual.result c.from_residual.ensures.1 in rw p.1 tt

pub returns-in_err-write_behind-clause-durable : goal.returns-in_err-write_behind-clause-durable
returns-in_err-write_behind-clause-durable g c =
    let p = err_from_is_err_and c.from_residual.result c.from_residual.ensures.1 in rw p.1 tt

pub returns-in_err-write_behind-clause-calls : goal.returns-in_err-write_behind-clause-calls
returns-in_err-write_behind-clause-calls g c =
    let p = err_from_is_err_and c.from_residual.result c.from_residual.ensures.1 in rw p.1 tt

pub returns-in_err-write_behind-2-clause-filled : goal.returns-in_err-write_behind-2-clause-filled
returns-in_err-write_behind-2-clause-filled g c =
    let p = err_from_is_err_and c.from_residual-in_err-write_behind-2.result
    c.from_residual-in_err-write_behind-2.ensures.1 in rw p.1 tt

pub returns-in_err-write_behind-2-clause-durable : goal.returns-in_err-write_behind-2-clause-durable
returns-in_err-write_behind-2-clause-durable g c =
    let p = err_from_is_err_and c.from_residual-in_err-write_behind-2.result
    c.from_residual-in_err-write_behind-2.ensures.1 in rw p.1 tt

pub returns-in_err-write_behind-2-clause-calls : goal.returns-in_err-write_behind-2-clause-calls
returns-in_err-write_behind-2-clause-calls g c =
    let p = err_from_is_err_and c.from_residual-in_err-write_behind-2.result
    c.from_residual-in_err-write_behind-2.ensures.1 in rw p.1 tt

pub returns-in_err-write_behind-3-clause-filled : goal.returns-in_err-write_behind-3-clause-filled
returns-in_err-write_behind-3-clause-filled g c =
    let p = err_from_is_err_and c.from_residual-in_err-write_behind-3.result
    c.from_residual-in_err-write_behind-3.ensures.1 in rw p.1 tt

pub returns-in_err-write_behind-3-clause-durable : goal.returns-in_err-write_behind-3-clause-durable
returns-in_err-write_behind-3-clause-durable g c =
    let p = err_from_is_err_and c.from_residual-in_err-write_behind-3.result
    c.from_residual-in_err-write_behind-3.ensures.1 in rw p.1 tt

pub returns-in_err-write_behind-3-clause-calls : goal.returns-in_err-write_behind-3-clause-calls
returns-in_err-write_behind-3-clause-calls g c =
    let p = err_from_is_err_and c.from_residual-in_err-write_behind-3.result
    c.from_residual-in_err-write_behind-3.ensures.1 in rw p.1 tt

pub returns-in_err-write_behind-clause-called : goal.returns-in_err-write_behind-clause-called
returns-in_err-write_behind-clause-called g c =
    record { lasts = c.write_behind.ensures.called.lasts; cause = search rules }

pub returns-clause-durable : goal.returns-clause-durable
returns-clause-durable g c =
    subst (λ (o : Option (List ℕ)). OnOk c.sync.result (IfSome o (λ held. Only held (LeftNow g.D.Disk.at
    c.sync.new.self)))) (sym c.sync.ensures.same) c.sync.ensures.synced
