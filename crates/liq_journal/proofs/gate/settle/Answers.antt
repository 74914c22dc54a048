use Rattle.std.proofs.Common.{◌≡◌, ◌≤◌, ◌∙◌, List, ℕ, [], ◌∷◌, Option, Some, option_map, IfSome, length, take, subst, sym, rules}
use Rattle.liq_outside.specs.Disk.{LeftNow, Only, overwritten}
use Rattle.liq_journal.specs.Crash.{HasGate}
use Rattle.liq_journal.proofs.Going.{called_behind, lasts_looked, on_ok_from}
use Rattle.liq_journal.proofs.Settling.{settle_looked, settle_written, gate_told, front_told}
use Rattle.liq_journal.proofs.gate.settle.Goals as goal

pub returns-in_err-is_shut-clause-crash : goal.returns-in_err-is_shut-clause-crash
returns-in_err-is_shut-clause-crash g c = λ held told only. settle_looked g.D.Disk.at c.args.disk.now c.is_shut.new.disk
    c.is_shut.new.disk c.args.place held only c.is_shut.ensures.looked.leaves

pub returns-then-branch-clause-crash : goal.returns-then-branch-clause-crash
returns-then-branch-clause-crash g c = λ held told only. settle_looked g.D.Disk.at c.args.disk.now c.is_shut.new.disk
    c.is_shut.new.disk c.args.place held only c.is_shut.ensures.looked.leaves

pub returns-clause-crash : goal.returns-clause-crash
returns-clause-crash g c = λ held told only.
    let inside : c.args.place ≤ length held = subst (λ (o : Option (List ℕ)). IfSome o (λ l. c.args.place ≤ length l))
    told c.requires.inside in
    settle_written g.D.Disk.at c.args.disk.now c.is_shut.new.disk c.write_synced.new.disk c.args.place held only
    c.is_shut.ensures.looked.leaves inside c.in_ok-is_shut.field-0 c.if-branch.false
    (g.D.Disk.at c.args.disk.now).seen told c.in_ok-is_shut.ensures.told
    (c.write_synced.ensures.crash held (c.is_shut.ensures.looked.same
    ∙ told) (λ image left. only image (c.is_shut.ensures.looked.within image left)))

pub returns-in_err-is_shut-clause-called : goal.returns-in_err-is_shut-clause-called
returns-in_err-is_shut-clause-called g c = record {
  lasts = lasts_looked g.D.Disk.at c.args.disk.now c.is_shut.new.disk c.is_shut.ensures.looked;
  cause = search rules;
}

pub returns-then-branch-clause-called : goal.returns-then-branch-clause-called
returns-then-branch-clause-called g c = record {
  lasts = lasts_looked g.D.Disk.at c.args.disk.now c.is_shut.new.disk c.is_shut.ensures.looked;
  cause = search rules;
}

pub returns-clause-called : goal.returns-clause-called
returns-clause-called g c = called_behind g.D.Disk.at c.args.disk.now c.is_shut.new.disk c.write_synced.new.disk _
    c.is_shut.ensures.looked c.in_ok-is_shut.ensures.cause.ok c.write_synced.ensures.called

pub returns-then-branch-clause-durable : goal.returns-then-branch-clause-durable
returns-then-branch-clause-durable g c = λ held told only.
    subst (λ (o : Option (List ℕ)). IfSome o (λ after. Only after (LeftNow g.D.Disk.at c.is_shut.new.disk)))
    (sym (c.is_shut.ensures.looked.same ∙ told)) (λ image left. only image
    (c.is_shut.ensures.looked.within image left))

pub returns-clause-settled : goal.returns-clause-settled
returns-clause-settled g c =
    let at = g.D.Disk.at in
    on_ok_from c.write_synced.result ((at c.write_synced.new.disk).seen
    ≡ option_map (λ (l : List ℕ). overwritten l c.args.place (0 ∷ [])) (at c.is_shut.new.disk).seen)
    (IfSome (at c.write_synced.new.disk).seen (HasGate c.args.place))
    (gate_told c.args.place (at c.args.disk.now).seen (at c.is_shut.new.disk).seen (at c.write_synced.new.disk).seen
    c.is_shut.ensures.looked.same c.requires.inside) c.write_synced.ensures.written

pub returns-clause-front : goal.returns-clause-front
returns-clause-front g c =
    let at = g.D.Disk.at in
    on_ok_from c.write_synced.result ((at c.write_synced.new.disk).seen
    ≡ option_map (λ (l : List ℕ). overwritten l c.args.place (0 ∷ [])) (at c.is_shut.new.disk).seen)
    ((held : List ℕ) → (at c.args.disk.now).seen ≡ Some held
    → IfSome (at c.write_synced.new.disk).seen (λ after. take c.args.place after ≡ take c.args.place held))
    (front_told c.args.place (at c.args.disk.now).seen (at c.is_shut.new.disk).seen (at c.write_synced.new.disk).seen
    c.is_shut.ensures.looked.same c.requires.inside) c.write_synced.ensures.written
