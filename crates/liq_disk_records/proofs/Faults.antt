-- What a look's fault comes to as a fault of reading.
use Rattle.std.proofs.Common.{◌≡◌, ℕ, Result, IfErr, sym, subst}
use Rattle.std.proofs.lemmas.Result.{err_from_is_err_and}
use Rattle.std.specs.Result.{IsErrAnd}
use Rattle.liq_outside.specs.At.{DiskAt}
use Rattle.liq_journal.specs.Causes.{CauseOfLook}
use Rattle.liq_journal.specs.Settled.{JournalOn}
use Rattle.liq_journal.specs.declared.answers.LookFault.{LookFault}
use Rattle.liq_journal.specs.declared.answers.LookFault.TheVariants as look
use Rattle.liq_disk_records.specs.declared.answers.AcceptedFault.{AcceptedFault}
use Rattle.liq_disk_records.specs.Reading.{CountsFault, CountsReading, HoldsWhereTold, IsReadable, IsReadableThere, fault_of}

-- what is known of the fault holds of what is answered
pub met_as : {T : Type 0} (r : Result T AcceptedFault) (met : LookFault) (P : AcceptedFault → Type 0)
    → IsErrAnd r (λ (why : AcceptedFault). why ≡ fault_of met) → P (fault_of met) → IfErr r P
met_as r met P is holds =
    let of = err_from_is_err_and r is in
    subst (λ (x : Result _ AcceptedFault). IfErr x P) (sym of.1) (subst P (sym of.2) holds)

counts_fault : (met : LookFault) (before after : ℕ) → CauseOfLook met before after
    → CountsFault (fault_of met) before after
counts_fault look.DiskFault before after counted = counted
counts_fault (look.Damaged damage) before after same = same

-- the count of faults rose exactly where a disk's fault was met
pub met_counts : {T : Type 0} (r : Result T AcceptedFault) (met : LookFault) (before after : ℕ)
    → IsErrAnd r (λ (why : AcceptedFault). why ≡ fault_of met) → CauseOfLook met before after
    → CountsReading r before after
met_counts r met before after is counts =
    let of = err_from_is_err_and r is in
    subst (λ (x : Result _ AcceptedFault). CountsReading x before after) (sym of.1)
    (subst (λ (why : AcceptedFault). CountsFault why before after) (sym of.2) (counts_fault met before after counts))

-- a disk's fault is no damage
pub met_readable : {T D : Type 0} (at : D → DiskAt) (journal : JournalOn D) (index : ℕ) (r : Result T AcceptedFault)
    (met : LookFault) → IsErrAnd r (λ (why : AcceptedFault). why ≡ fault_of met)
    → HoldsWhereTold at journal index (λ w. met ≡ look.DiskFault) → IfErr r (IsReadableThere at journal index)
met_readable at journal index r met is fails =
    met_as r met (IsReadableThere at journal index) is
    (λ held w told so within. subst (λ (m : LookFault). IsReadable (fault_of m)) (sym (fails held w told so within)) tt)
