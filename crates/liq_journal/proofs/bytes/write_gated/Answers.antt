use Rattle.std.proofs.Common.{inl, inr, ◌∙◌, ◌+◌, List, ℕ, Option, IfSome, length, option_map, ap, subst}
use Rattle.liq_outside.specs.Disk.{LeftNow, Only, Torn, overwritten}
use Rattle.liq_outside.proofs.Moments.{chained, weaker}
use Rattle.liq_journal.specs.Crash.{GatedLeaves}
use Rattle.liq_journal.proofs.bytes.write_gated.Goals as goal

pub returns-in_err-write_synced-clause-crash : goal.returns-in_err-write_synced-clause-crash
returns-in_err-write_synced-clause-crash g c = λ held told only.
    weaker g.D.Disk.at c.args.disk.now c.write_synced.new.disk (Torn (c.args.gate + 1) (length c.args.bytes.now) held)
    (GatedLeaves c.args.gate held c.args.bytes.now) (c.write_synced.ensures.crash held told only) (λ image torn.
    inl torn)

pub returns-clause-crash : goal.returns-clause-crash
returns-clause-crash g c = λ held told only.
    let behind = overwritten held (c.args.gate + 1) c.args.bytes.now in
    let leaves = GatedLeaves c.args.gate held c.args.bytes.now in
    let told_mid = c.in_ok-write_synced.ensures.written
    ∙ ap (option_map (λ (l : List ℕ). overwritten l (c.args.gate + 1) c.args.bytes.now)) told in
    let only_mid = subst (λ (o : Option (List ℕ)). IfSome o (λ l. Only l (LeftNow g.D.Disk.at c.write_synced.new.disk)))
    told_mid c.in_ok-write_synced.ensures.durable in
    chained g.D.Disk.at c.args.disk.now c.write_synced.new.disk c.write_synced-2.new.disk leaves
    (weaker g.D.Disk.at c.args.disk.now c.write_synced.new.disk (Torn (c.args.gate + 1) (length c.args.bytes.now) held)
    leaves (c.write_synced.ensures.crash held told only) (λ image torn. inl torn))
    (weaker g.D.Disk.at c.write_synced.new.disk c.write_synced-2.new.disk (Torn c.args.gate 1 behind) leaves
    (c.write_synced-2.ensures.crash behind told_mid only_mid) (λ image torn. inr torn))
