use Rattle.std.proofs.Common.{◌≡◌, ◌≤◌, List, ℕ, Option, Result, IfSome, subst}
use Rattle.std.specs.Result.{MatchResult}
use Rattle.liq_journal.specs.declared.scanned.Scanned.{Scanned}
use Rattle.liq_journal.specs.declared.answers.OpenWhy.{OpenWhy}
use Rattle.liq_journal.specs.Opened.{IsScanOf, IsWhyOf}
use Rattle.liq_disk_header.specs.Layout.{StartsWithin}
use Rattle.liq_journal.specs.Written.{Absent, found_on}
use Rattle.liq_journal.proofs.Opening.{told_inside, told_stands, leaves_behind, leaves_absent}
use Rattle.liq_journal.proofs.open.settle_scanned.Goals as goal

pub settle-requires-clause-inside : goal.settle-requires-clause-inside
settle-requires-clause-inside g c = told_inside (g.D.Disk.at c.args.disk.now).seen c.args.odd c.in-Ok.scanned
    (subst (λ (f : Result Scanned OpenWhy). MatchResult f (λ s. IfSome (g.D.Disk.at c.args.disk.now).seen
    (λ held. IsScanOf c.args.odd held s) × (StartsWithin s.limit s.start × (s.count ≤ 1000001)))
    (λ why. IfSome (g.D.Disk.at c.args.disk.now).seen (λ held. IsWhyOf c.args.odd held why))) c.in-Ok.is
    c.requires.found).0

pub returns-in-Ok-settle-clause-stands : goal.returns-in-Ok-settle-clause-stands
returns-in-Ok-settle-clause-stands g c = λ held w told found. told_stands (g.D.Disk.at c.args.disk.now).seen
    (g.D.Disk.at c.settle.new.disk).seen c.args.odd c.in-Ok.scanned held w told (subst (λ (f : Result Scanned OpenWhy).
    MatchResult f (λ s. IfSome (g.D.Disk.at c.args.disk.now).seen (λ held. IsScanOf c.args.odd held s)
    × (StartsWithin s.limit s.start × (s.count ≤ 1000001))) (λ why. IfSome (g.D.Disk.at c.args.disk.now).seen
    (λ held. IsWhyOf c.args.odd held why))) c.in-Ok.is c.requires.found).0 found
    (c.in-Ok-settle.ensures.front held told) c.in-Ok-settle.ensures.settled

pub returns-in-Ok-settle-clause-crash : goal.returns-in-Ok-settle-clause-crash
returns-in-Ok-settle-clause-crash g c = λ held told only. leaves_behind g.D.Disk.at c.args.disk.now c.settle.new.disk
    c.args.odd held (g.D.Disk.at c.args.disk.now).seen c.in-Ok.scanned told (subst (λ (f : Result Scanned OpenWhy).
    MatchResult f (λ s. IfSome (g.D.Disk.at c.args.disk.now).seen (λ held. IsScanOf c.args.odd held s)
    × (StartsWithin s.limit s.start × (s.count ≤ 1000001))) (λ why. IfSome (g.D.Disk.at c.args.disk.now).seen
    (λ held. IsWhyOf c.args.odd held why))) c.in-Ok.is c.requires.found).0 (c.settle.ensures.crash held told only)

pub returns-in-Err-settle-clause-crash : goal.returns-in-Err-settle-clause-crash
returns-in-Err-settle-clause-crash g c = λ held told only. leaves_behind g.D.Disk.at c.args.disk.now c.settle.new.disk
    c.args.odd held (g.D.Disk.at c.args.disk.now).seen c.in-Ok.scanned told (subst (λ (f : Result Scanned OpenWhy).
    MatchResult f (λ s. IfSome (g.D.Disk.at c.args.disk.now).seen (λ held. IsScanOf c.args.odd held s)
    × (StartsWithin s.limit s.start × (s.count ≤ 1000001))) (λ why. IfSome (g.D.Disk.at c.args.disk.now).seen
    (λ held. IsWhyOf c.args.odd held why))) c.in-Ok.is c.requires.found).0 (c.settle.ensures.crash held told only)

pub returns-in-Ok-settle_absent-clause-crash : goal.returns-in-Ok-settle_absent-clause-crash
returns-in-Ok-settle_absent-clause-crash g c = λ held told only. leaves_absent g.D.Disk.at c.args.disk.now
    c.settle_absent.new.disk c.args.odd held (subst (λ (o : Option (List ℕ)). IfSome o (λ l. found_on c.args.odd l
    ≡ Absent)) told (subst (λ (y : OpenWhy). IfSome (g.D.Disk.at c.args.disk.now).seen (λ l. IsWhyOf c.args.odd l y))
    c.in-Absent.is (subst (λ (f : Result Scanned OpenWhy). MatchResult f (λ s. IfSome (g.D.Disk.at c.args.disk.now).seen
    (λ held. IsScanOf c.args.odd held s) × (StartsWithin s.limit s.start × (s.count ≤ 1000001)))
    (λ why. IfSome (g.D.Disk.at c.args.disk.now).seen (λ held. IsWhyOf c.args.odd held why))) c.in-Err.is
    c.requires.found))) (c.settle_absent.ensures.crash held told only)

pub returns-in-Err-settle_absent-clause-crash : goal.returns-in-Err-settle_absent-clause-crash
returns-in-Err-settle_absent-clause-crash g c =
    λ held told only. leaves_absent g.D.Disk.at c.args.disk.now c.settle_absent.new.disk c.args.odd held
    (subst (λ (o : Option (List ℕ)). IfSome o (λ l. found_on c.args.odd l ≡ Absent)) told
    (subst (λ (y : OpenWhy). IfSome (g.D.Disk.at c.args.disk.now).seen (λ l. IsWhyOf c.args.odd l y)) c.in-Absent.is
    (subst (λ (f : Result Scanned OpenWhy). MatchResult f (λ s. IfSome (g.D.Disk.at c.args.disk.now).seen
    (λ held. IsScanOf c.args.odd held s) × (StartsWithin s.limit s.start × (s.count ≤ 1000001)))
    (λ why. IfSome (g.D.Disk.at c.args.disk.now).seen (λ held. IsWhyOf c.args.odd held why))) c.in-Err.is
    c.requires.found))) (c.settle_absent.ensures.crash held told only)
