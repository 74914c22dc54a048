use Rattle.std.proofs.Common.{◌≡◌, ◌∙◌, List, ℕ, Option, IfSome, inl, sym, ap, subst}
use Rattle.liq_outside.proofs.Moments.{at_last, chained, weaker}
use Rattle.liq_outside.specs.Disk.{LeftNow}
use Rattle.liq_journal.specs.declared.answers.OpenWhy.{OpenWhy}
use Rattle.liq_journal.specs.Opened.{IsKept, IsUnshut, IsWhyOf, OpenLeaves}
use Rattle.liq_journal.specs.Written.{found_on}
use Rattle.liq_disk_pair.proofs.Beginning.{still_absent}
use Rattle.liq_disk_pair.proofs.Standings.{standing_damaged}
use Rattle.liq_store.specs.Standing.{OnlyShuts, disk_in}
use Rattle.liq_store.proofs.OneDisk.{found_by, opened_as, some_same}
use Rattle.liq_store.proofs.Shutting.{shut_behind, shut_first}
use Rattle.liq_store.proofs.standing.stand.Goals as goal

pub returns-in-Ok-clause-found : goal.returns-in-Ok-clause-found
returns-in-Ok-clause-found g c held told =
    let j = c.in-Ok.journal in
    let o = opened_as (g.D.Disk.at c.args.disk).seen (g.D.Disk.at j.disk).seen c.args.odd j.generation j.limit j.start
    j.count _ c.in-Ok.ensures.lasts.telling c.in-Ok.ensures.generation c.in-Ok.ensures.found c.in-Ok.ensures.stands
    held told in
    found_by c.args.odd held o.2.written j c.hold.result o.2.found o.2.generation_is
    (c.hold.ensures.holds o.0 o.2.written o.1 o.2.journal o.2.limit_is o.2.checkpoint_is o.2.count_is)
    c.hold.ensures.journal

pub returns-in-Ok-clause-same : goal.returns-in-Ok-clause-same
returns-in-Ok-clause-same g c faultless held after told told_after =
    let j = c.in-Ok.journal in
    let o = opened_as (g.D.Disk.at c.args.disk).seen (g.D.Disk.at j.disk).seen c.args.odd j.generation j.limit j.start
    j.count _ c.in-Ok.ensures.lasts.telling c.in-Ok.ensures.generation c.in-Ok.ensures.found c.in-Ok.ensures.stands
    held told in
    let same = some_same after o.0 (g.D.Disk.at j.disk).seen (sym c.hold.ensures.looked.same ∙ told_after) o.1 in
    ap (found_on c.args.odd) same ∙ o.2.stands.found ∙ sym o.2.found

pub returns-in-Ok-clause-crash : goal.returns-in-Ok-clause-crash
returns-in-Ok-clause-crash g c held told only =
    let P = OpenLeaves c.args.odd held in
    let first = c.in-Ok.ensures.crash held told only in
    let j = c.in-Ok.journal in
    chained g.D.Disk.at c.args.disk j.disk (disk_in c.hold.result) P first
    (weaker g.D.Disk.at j.disk (disk_in c.hold.result) (LeftNow g.D.Disk.at j.disk) P c.hold.ensures.looked.leaves
    (at_last g.D.Disk.at c.args.disk j.disk P first))

pub returns-in-Ok-clause-reads : goal.returns-in-Ok-clause-reads
returns-in-Ok-clause-reads g c held after told told_after =
    c.in-Ok.ensures.reads held after told (sym c.hold.ensures.looked.same ∙ told_after)

pub returns-in-Absent-clause-same : goal.returns-in-Absent-clause-same
returns-in-Absent-clause-same g c faultless held after told told_after =
    let shut : IsUnshut after → ⊥ = subst (λ (o : Option (List ℕ)). IfSome o (λ l. IsUnshut l → ⊥)) told_after
    (c.in-Err.ensures.absent c.in-Absent.is) in
    let why = subst (λ (o : Option (List ℕ)). IfSome o (λ l. IsWhyOf c.args.odd l c.in-Err.field-0.why)) told
    c.in-Err.ensures.why in
    let absent = subst (λ (y : OpenWhy). IsWhyOf c.args.odd held y) c.in-Absent.is why in
    still_absent c.args.odd after shut ∙ sym absent

pub returns-in-Damaged-clause-found : goal.returns-in-Damaged-clause-found
returns-in-Damaged-clause-found g c held told =
    let why = subst (λ (o : Option (List ℕ)). IfSome o (λ l. IsWhyOf c.args.odd l c.in-Err.field-0.why)) told
    c.in-Err.ensures.why in
    standing_damaged c.args.odd held c.in-Damaged.damage (subst (λ (y : OpenWhy). IsWhyOf c.args.odd held y)
    c.in-Damaged.is why)

pub returns-in-Damaged-clause-same : goal.returns-in-Damaged-clause-same
returns-in-Damaged-clause-same g c faultless held after told told_after =
    let kept = subst (λ (y : OpenWhy). IsKept y → (g.D.Disk.at c.in-Err.field-0.disk).seen
    ≡ (g.D.Disk.at c.args.disk).seen) c.in-Damaged.is c.in-Err.ensures.kept tt in
    ap (found_on c.args.odd) (some_same after held (g.D.Disk.at c.in-Err.field-0.disk).seen told_after (kept ∙ told))

pub returns-in-NoMemory-clause-same : goal.returns-in-NoMemory-clause-same
returns-in-NoMemory-clause-same g c faultless held after told told_after =
    let kept = subst (λ (y : OpenWhy). IsKept y → (g.D.Disk.at c.in-Err.field-0.disk).seen
    ≡ (g.D.Disk.at c.args.disk).seen) c.in-NoMemory.is c.in-Err.ensures.kept tt in
    ap (found_on c.args.odd) (some_same after held (g.D.Disk.at c.in-Err.field-0.disk).seen told_after (kept ∙ told))

-- ---- the byte that was shut

pub returns-in-Ok-clause-shut : goal.returns-in-Ok-clause-shut
returns-in-Ok-clause-shut g c faultless held after told told_after =
    let j = c.in-Ok.journal in
    let o = opened_as (g.D.Disk.at c.args.disk).seen (g.D.Disk.at j.disk).seen c.args.odd j.generation j.limit j.start
    j.count _ c.in-Ok.ensures.lasts.telling c.in-Ok.ensures.generation c.in-Ok.ensures.found c.in-Ok.ensures.stands
    held told in
    let same = some_same after o.0 (g.D.Disk.at j.disk).seen (sym c.hold.ensures.looked.same ∙ told_after) o.1 in
    subst (λ (bytes : List ℕ). OnlyShuts c.args.odd held bytes) (sym same)
    (shut_behind c.args.odd held o.0 o.2.written o.2.found o.2.stands (c.in-Ok.ensures.reads held o.0 told o.1))

pub returns-in-Absent-clause-shut : goal.returns-in-Absent-clause-shut
returns-in-Absent-clause-shut g c faultless held after told told_after =
    let shut : IsUnshut after → ⊥ = subst (λ (o : Option (List ℕ)). IfSome o (λ l. IsUnshut l → ⊥)) told_after
    (c.in-Err.ensures.absent c.in-Absent.is) in
    let why = subst (λ (o : Option (List ℕ)). IfSome o (λ l. IsWhyOf c.args.odd l c.in-Err.field-0.why)) told
    c.in-Err.ensures.why in
    let absent = subst (λ (y : OpenWhy). IsWhyOf c.args.odd held y) c.in-Absent.is why in
    shut_first c.args.odd held after absent shut (c.in-Err.ensures.reads held after told told_after)

pub returns-in-Damaged-clause-shut : goal.returns-in-Damaged-clause-shut
returns-in-Damaged-clause-shut g c faultless held after told told_after =
    let kept = subst (λ (y : OpenWhy). IsKept y → (g.D.Disk.at c.in-Err.field-0.disk).seen
    ≡ (g.D.Disk.at c.args.disk).seen) c.in-Damaged.is c.in-Err.ensures.kept tt in
    inl (some_same after held (g.D.Disk.at c.in-Err.field-0.disk).seen told_after (kept ∙ told))

pub returns-in-NoMemory-clause-shut : goal.returns-in-NoMemory-clause-shut
returns-in-NoMemory-clause-shut g c faultless held after told told_after =
    let kept = subst (λ (y : OpenWhy). IsKept y → (g.D.Disk.at c.in-Err.field-0.disk).seen
    ≡ (g.D.Disk.at c.args.disk).seen) c.in-NoMemory.is c.in-Err.ensures.kept tt in
    inl (some_same after held (g.D.Disk.at c.in-Err.field-0.disk).seen told_after (kept ∙ told))
