use Rattle.std.proofs.Common.{◌≡◌, ◌∙◌, List, ℕ, Option, Some, IfSome, inl, subst}
use Rattle.liq_outside.specs.Disk.{Only, LeftNow}
use Rattle.liq_outside.proofs.Moments.{call, chained, weaker, at_last}
use Rattle.liq_journal.specs.declared.scanned.Scanned.{Scanned}
use Rattle.liq_journal.specs.Crash.{Stands}
use Rattle.liq_journal.specs.Opened.{OpenLeaves}
use Rattle.liq_journal.specs.Written.{Written, Open, found_on}
use Rattle.liq_journal.proofs.Going.{if_ok_map}
use Rattle.liq_journal.proofs.open.open_on.Goals as goal

pub returns-clause-stands : goal.returns-clause-stands
returns-clause-stands g c = if_ok_map c.settle_scanned.result
    (λ (s : Scanned). (held : List ℕ) (w : Written) → (g.D.Disk.at c.scan-found.new.disk).seen ≡ Some held
    → found_on c.args.odd held ≡ Open w
    → IfSome (g.D.Disk.at c.settle_scanned.new.disk).seen (λ after. Stands c.args.odd after w))
    (λ (s : Scanned). (held : List ℕ) (w : Written) → (g.D.Disk.at c.args.disk.now).seen ≡ Some held
    → found_on c.args.odd held ≡ Open w
    → IfSome (g.D.Disk.at c.settle_scanned.new.disk).seen (λ after. Stands c.args.odd after w))
    (λ s stands held w told found. stands held w (c.scan-found.ensures.looked.same ∙ c.sync.ensures.same
    ∙ told) found) c.settle_scanned.ensures.stands

pub returns-clause-crash : goal.returns-clause-crash
returns-clause-crash g c = λ held told only.
    let told_2 = c.scan-found.ensures.looked.same ∙ c.sync.ensures.same ∙ told in
    let P = OpenLeaves c.args.odd held in
    let only_1 = λ (image : List ℕ) (left : LeftNow g.D.Disk.at c.sync.new.self image). only image
    (c.sync.ensures.crash image left) in
    let only_2 = λ (image : List ℕ) (left : LeftNow g.D.Disk.at c.scan-found.new.disk image). only_1 image
    (c.scan-found.ensures.looked.within image left) in
    chained g.D.Disk.at c.args.disk.now c.scan-found.new.disk c.settle_scanned.new.disk P
    (chained g.D.Disk.at c.args.disk.now c.sync.new.self c.scan-found.new.disk P
    (call g.D.Disk.at c.args.disk.now c.sync.new.self P c.sync.ensures.time (λ image left. inl (only image left))
    (λ image left. inl (only_1 image left)))
    (weaker g.D.Disk.at c.sync.new.self c.scan-found.new.disk (LeftNow g.D.Disk.at c.sync.new.self) P
    c.scan-found.ensures.looked.leaves (λ image left. inl (only_1 image left))))
    (c.settle_scanned.ensures.crash held told_2 only_2)

pub returns-clause-reads : goal.returns-clause-reads
returns-clause-reads g c = λ held after told told_after.
    let told_2 = c.scan-found.ensures.looked.same ∙ c.sync.ensures.same ∙ told in
    let only_1 = subst (λ (o : Option (List ℕ)). IfSome o (λ l. Only l (LeftNow g.D.Disk.at c.sync.new.self))) told
    c.in-Ok.ensures.synced in
    let only_2 = λ (image : List ℕ) (left : LeftNow g.D.Disk.at c.scan-found.new.disk image). only_1 image
    (c.scan-found.ensures.looked.within image left) in
    at_last g.D.Disk.at c.scan-found.new.disk c.settle_scanned.new.disk (OpenLeaves c.args.odd held)
    (c.settle_scanned.ensures.crash held told_2 only_2) after (g.met.D.Disk.seen_may_stay c.settle_scanned.new.disk
    after told_after)
