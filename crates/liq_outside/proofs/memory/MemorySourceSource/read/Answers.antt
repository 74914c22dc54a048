use Rattle.std.proofs.Common.{◌≡◌, ◌+◌, ℕ, List, [], length, drop, ap, arith, subst, length-drop}
use Rattle.std.proofs.lemmas.List.{drop-drop, nil_from_length}
use Rattle.liq_outside.specs.Calls.{Calls}
use Rattle.liq_outside.specs.Memory.{SourceInMemory, after_read, count_taken}
use Rattle.liq_outside.proofs.memory.MemorySourceSource.read.Goals as goal

abbrev reading : List ℕ → ℕ → ℕ → Calls → SourceInMemory
reading bytes taken chunk calls = record { left = drop taken bytes; chunk = chunk; calls = calls }

pub returns-clause-taken : goal.returns-clause-taken
returns-clause-taken c = subst (λ (old : SourceInMemory). c.read_part-count.result
    ≡ count_taken old (length c.args.buf.now)) c.self.view_is (omega (
      arith,
      c.read_part-count.ensures.count,
      ap length c.deref.ensures.value,
      length-drop {A = ℕ},
    ))

pub returns-clause-read : goal.returns-clause-read
returns-clause-read c =
    let bytes = c.self.inside.bytes.items in
    let taken = c.self.inside.taken in
    let n = c.read_part-count.result in
    let new : SourceInMemory = reading bytes (taken + n) c.self.inside.chunk c.begin.new.self in
    let left = drop-drop n taken bytes in
    let calls = c.begin.ensures.begun in
    let is : new ≡ after_read (reading bytes taken c.self.inside.chunk c.self.inside.schedule) n = cc in
    subst (λ (old : SourceInMemory). new ≡ after_read old n) c.self.view_is is

pub returns-clause-end : goal.returns-clause-end
returns-clause-end c = λ is some.
    let none : c.read_part-count.result ≡ 0 = cc in
    let left = drop c.self.inside.taken c.self.inside.bytes.items in
    subst (λ (old : SourceInMemory). old.left ≡ []) c.self.view_is (nil_from_length left (omega (
      arith,
      some,
      none,
      c.self.invariant.1,
      c.read_part-count.ensures.count,
      ap length c.deref.ensures.value,
      length-drop {A = ℕ},
    )))
