use Rattle.std.proofs.Common.{arith, ◌∙◌, ◌-◌, ◌≡◌, List, ℕ, ◌++◌, ap, drop, length, refl, take}
use Rattle.std.proofs.Math.Seq.{take-append_seam}
use Rattle.std.proofs.lemmas.List.{take_rest}
use Rattle.liq_outside.specs.DiskInMemory.{Wrote}
use Rattle.liq_outside.proofs.Writing.{laid, replaced}
use Rattle.liq_outside.proofs.made.overwrite.Goals as goal

pub returns-in-Ok-clause-written : goal.returns-in-Ok-clause-written
returns-in-Ok-clause-written c =
    let held : List ℕ = c.args.held.now.items in
    let bytes : List ℕ = c.args.bytes.now in
    let inside = c.min-stop.result - c.args.at in
    let grown = c.in_ok-extend_from_slice-2.ensures.items ∙ ap (λ (l : List ℕ). held ++ l) (take_rest bytes inside) in
    c.replace.ensures ∙ laid held bytes c.extend_from_slice-2.new.self.items (take inside bytes) c.args.at inside
    c.requires.inside (omega (arith, c.min-stop.ensures, c.len-len.ensures)) grown refl

pub returns-in-Ok-clause-noted : goal.returns-in-Ok-clause-noted
returns-in-Ok-clause-noted c =
    let note = c.in-Ok.ensures.noted in
    let held : List ℕ = c.args.held.now.items in
    let part = c.min-stop.result - c.args.at in
    let over : c.extend_from_slice.new.self.items ≡ take (length c.args.bytes.now) (drop c.args.at held) =
    c.in_ok-extend_from_slice.ensures.items
    ∙ ap (λ (l : List ℕ). l ++ take part (drop c.args.at c.deref.result.now)) c.new-over.ensures.items
    ∙ ap (λ (l : List ℕ). take part (drop c.args.at l)) c.deref.ensures.value
    ∙ replaced held c.args.at (length c.args.bytes.now) c.min-stop.result (omega (
      arith,
      c.min-stop.ensures,
      c.len-len.ensures,
    )) in
    (note.0, note.1, note.2 ∙ ap (Wrote c.args.at (length c.args.bytes.now)) over)

pub returns-in-Err-clause-not_written : goal.returns-in-Err-clause-not_written
returns-in-Err-clause-not_written c =
    let held : List ℕ = c.args.held.now.items in
    let long : c.len-len.result ≡ length held = omega (arith, c.len-len.ensures) in
    c.truncate.ensures.items ∙ ap (λ (n : ℕ). take n c.extend_from_slice-2.new.self.items) long
    ∙ ap (take (length held)) c.in_ok-extend_from_slice-2.ensures.items ∙ take-append_seam held _
