-- An answer that is no reply enters nothing.
use Rattle.std.proofs.Common.{◌≡◌, ℕ, List, refl}
use Rattle.liq_types.specs.declared.entries.Entry.{Entry}
use Rattle.liq_types.specs.declared.replies.Answer.{Answer}
use Rattle.liq_types.specs.declared.replies.Answer.TheVariants as answer
use Rattle.liq_types.specs.declared.replies.Reply.{Reply}
use Rattle.liq_types.specs.declared.requests.Request.{Request}
use Rattle.liq_book.specs.Entering.{IsEntered}

pub not_entered : (session calls : ℕ) (request : Request) (a : Answer) (entries : List Entry)
    → ((reply : Reply) → a ≡ answer.Reply reply → ⊥)
    → IsEntered session calls request a entries entries
not_entered session calls request (answer.Reply reply) entries none = absurd (none reply refl)
not_entered session calls request answer.NoMemory entries none = refl
not_entered session calls request answer.DiskFault entries none = refl
not_entered session calls request (answer.Stopped faults) entries none = refl
not_entered session calls request (answer.HistoryFull most) entries none = refl

pub entries_stay : (session calls : ℕ) (request : Request) (a : Answer) (old new : List Entry)
    → ((reply : Reply) → a ≡ answer.Reply reply → ⊥)
    → IsEntered session calls request a old new → new ≡ old
entries_stay session calls request (answer.Reply reply) old new none entered = absurd (none reply refl)
entries_stay session calls request answer.NoMemory old new none entered = entered
entries_stay session calls request answer.DiskFault old new none entered = entered
entries_stay session calls request (answer.Stopped faults) old new none entered = entered
entries_stay session calls request (answer.HistoryFull most) old new none entered = entered
