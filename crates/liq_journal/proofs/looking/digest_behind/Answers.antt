use Rattle.std.proofs.Common.{◌∙◌, ◌-◌, ◌≤◌, List, ℕ, rules, arith}
use Rattle.sha2.specs.Hashers.{Holds256}
use Rattle.liq_journal.proofs.Looks.{looked_on, digest_more, digest_done}
use Rattle.liq_journal.proofs.looking.digest_behind.Goals as goal

pub loop-done-preserved : goal.loop-done-preserved
loop-done-preserved g c =
    let fits : c.in_ok-count.count ≤ c.min-want.result = search rules in
    let want : c.min-want.result ≤ c.args.size - c.loop-done.done = search rules in
    let more : c.loop-done.done ≤ c.args.size = c.loop-done.invariant.within in
    record {
      looked = looked_on g.D.Disk.at c.args.disk.now c.loop-done.disk c.read_at.new.disk c.loop-done.invariant.looked
          c.read_at.ensures.looked;
      still = c.in_ok-count.ensures.cause.ok ∙ c.loop-done.invariant.still;
      within = omega arith;
      read = digest_more (g.D.Disk.at c.args.disk.now).seen (g.D.Disk.at c.loop-done.disk).seen
          c.loop-done.invariant.looked.same c.args.place c.args.size c.loop-done.done c.in_ok-count.count
          c.args.fields.now c.read_at.new.buf _ (λ (m : List ℕ). Holds256 c.loop-done.hasher m) (λ (m : List ℕ).
          Holds256 c.update-in-loop-done.new.self m) c.update-in-loop-done.ensures c.in_ok-count.ensures.told
          c.loop-done.invariant.read;
    }

pub returns-clause-told : goal.returns-clause-told
returns-clause-told g c =
    let more : c.loop-done.done ≤ c.args.size = c.loop-done.invariant.within in
    digest_done (g.D.Disk.at c.args.disk.now).seen c.args.place c.args.size c.loop-done.done
    (omega arith) c.args.fields.now c.finalize-2.result (λ (m : List ℕ). Holds256 c.loop-done.hasher m)
    c.finalize-2.ensures c.loop-done.invariant.read

pub returns-in_err-count-clause-looked : goal.returns-in_err-count-clause-looked
returns-in_err-count-clause-looked g c = looked_on g.D.Disk.at c.args.disk.now c.loop-done.disk c.read_at.new.disk
    c.loop-done.invariant.looked c.read_at.ensures.looked

pub returns-then-count-eq0-clause-looked : goal.returns-then-count-eq0-clause-looked
returns-then-count-eq0-clause-looked g c = looked_on g.D.Disk.at c.args.disk.now c.loop-done.disk c.read_at.new.disk
    c.loop-done.invariant.looked c.read_at.ensures.looked
