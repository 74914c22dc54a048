-- How the commands of a journal are read back, one after the other.
use Rattle.std.proofs.Common.{◌≡◌, ◌∙◌, ℕ, ◌+◌, ◌-◌, ◌<◌, List, [], ◌∷◌, ◌++◌, length, take, slice_get, slice_index_or, Some, Ok, sym, ap, subst, arith}
use Rattle.std.proofs.lemmas.List.{take_more}
use Rattle.std.proofs.lemmas.Option.{get_or_from_slice_get}
use Rattle.liq_types.specs.declared.requests.Command.{Command}
use Rattle.liq_wire.specs.Fields.{command_of}
use Rattle.liq_journal.specs.Bodies.{IsAccepted, IsBodyFault, body_at}
use Rattle.liq_journal.specs.Written.{Written}
use Rattle.liq_journal.specs.declared.answers.LookFault.{LookFault}
use Rattle.liq_journal.specs.declared.answers.LookFault.TheVariants as look
use Rattle.liq_disk_records.specs.Reading.{IsRecordNumber, fault_of}
use Rattle.liq_store.specs.Answering.{IsUnreadable}

pub one_more : (commands items : List Command) (done : ℕ) (c : Command) → done < length commands
    → slice_get commands (done + 1 - 1) ≡ Some c → items ≡ take done commands
    → items ++ c ∷ [] ≡ take (done + 1) commands
one_more commands items done c within recorded so_far =
    let at : done + 1 - 1 ≡ done = omega arith in
    let here : slice_get commands done ≡ Some c = ap (slice_get commands) (sym at) ∙ recorded in
    let is : slice_index_or commands done c ≡ c = get_or_from_slice_get commands done c c here in
    (λ i. so_far i ++ (sym is i) ∷ []) ∙ sym (take_more commands done c within)

-- the command that was read is the record's
pub recorded_so : (start index : ℕ) (held body : List ℕ) (w : Written) (d : Command)
    → IsAccepted start held w index body → command_of body ≡ Ok d → slice_get w.commands (index - 1) ≡ Some d
recorded_so start index held body w d accepted read =
    let spelled : command_of body ≡ Ok accepted.command = accepted.spelled.spelled in
    let here : slice_get w.commands (index - 1) ≡ Some accepted.command = accepted.recorded in
    cc

-- why the body of the record of this number is not read
pub unread_body : (generation start count index : ℕ) (met : LookFault) → IsRecordNumber count index
    → IsBodyFault generation index (body_at start index) met → IsUnreadable generation start count (fault_of met)
unread_body generation start count index look.DiskFault there fault = tt
unread_body generation start count index (look.Damaged damage) there fault =
    let is = fault.0 in (
      omega (arith, is, there.0),
      omega (arith, is, there.1),
      subst (λ (n : ℕ). IsBodyFault generation n (body_at start n) (look.Damaged damage)) (sym is) fault,
    )
