-- A request that is answered by a disk's fault.
use Rattle.std.proofs.Common.{◌≡◌, ℕ, ◌≤◌, List, Some, refl, arith}
use Rattle.std.specs.Prelude.{◌↔◌, IsSome}
use Rattle.liq_outside.specs.At.{DiskAt}
use Rattle.liq_outside.specs.Disk.{GoesOn, LeftNow, LeftSince}
use Rattle.liq_types.specs.declared.replies.Answer.{Answer}
use Rattle.liq_types.specs.declared.replies.Answer.TheVariants as answers
use Rattle.liq_types.specs.declared.replies.Reply.{Reply}
use Rattle.liq_types.specs.declared.requests.Command.{Command}
use Rattle.liq_types.specs.declared.requests.Request.{Request}
use Rattle.liq_types.specs.declared.requests.Request.TheVariants.{Do, Ask}
use Rattle.liq_types.specs.State.{State}
use Rattle.liq_core.specs.Core.{Core}
use Rattle.liq_store.specs.Answering.{Answers}
use Rattle.liq_store.specs.Keeping.{LeavesPairs}
use Rattle.liq_rule_step.specs.Memory.{IsAccepted}
use Rattle.liq_word_run.specs.Calls.{IsCommand}
use Rattle.liq_word_exit.proofs.Opened.{is_some_of, some_of}

-- a store that goes on has no other answer
pub no_other : (answer : Answer) (s : State) (request : Request) (core : Core) → Answers s request answer core
    → ((reply : Reply) → answer ≡ answers.Reply reply → ⊥) → (answer ≡ answers.NoMemory → ⊥)
    → (answer ≡ answers.DiskFault → ⊥) → ⊥
no_other (answers.Reply reply) s request core h a b c = a reply refl
no_other answers.NoMemory s request core h a b c = b refl
no_other answers.DiskFault s request core h a b c = c refl
no_other (answers.Stopped faults) s request core h a b c = h
no_other (answers.HistoryFull entries) s request core h a b c = h

-- what is accepted is a command
pub accepted_command : (s : State) (request : Request) → IsAccepted s request → IsCommand request
accepted_command s (Do command) h = tt
accepted_command s (Ask query) h = h

-- a disk's fault is met at a command
pub failing : (s : State) (request : Request) (core : Core) → Answers s request answers.DiskFault core → (c : Command)
    × (request ≡ Do c)
failing s (Do command) core h = (command, refl)
failing s (Ask query) core h = absurd h.1

module _ {D : Type 0} (at : D → DiskAt) where
  told_before : (old new : D) → (IsSome (at new).seen ↔ IsSome (at old).seen) → (a : List ℕ)
      → (at new).seen ≡ Some a → (l : List ℕ) × ((at old).seen ≡ Some l)
  told_before old new same a told = some_of (at old).seen (same.0 (is_some_of (at new).seen a told))

  -- what is read now may have been left since
  left_since : (old new : D) → (at old).moment ≤ (at new).moment
      → ((held : List ℕ) → (at new).seen ≡ Some held → LeftNow at new held)
      → (a : List ℕ) → (at new).seen ≡ Some a → LeftSince at new (at old).moment a
  left_since old new later law a told = ((at new).moment, later, omega arith, law a told)

  pub read_so : (ol or nl nr : D) (P : List ℕ → List ℕ → Type 0) → GoesOn at ol nl → GoesOn at or nr
      → (IsSome (at nl).seen ↔ IsSome (at ol).seen) → (IsSome (at nr).seen ↔ IsSome (at or).seen)
      → ((disk : D) (held : List ℕ) → (at disk).seen ≡ Some held → LeftNow at disk held)
      → ((l r : List ℕ) → (at ol).seen ≡ Some l → (at or).seen ≡ Some r → LeavesPairs at ol or nl nr P)
      → (a b : List ℕ) → (at nl).seen ≡ Some a → (at nr).seen ≡ Some b → P a b
  read_so ol or nl nr P left right left_tells right_tells law leaves a b told_a told_b =
      let l = told_before ol nl left_tells a told_a in
      let r = told_before or nr right_tells b told_b in
      leaves l.0 r.0 l.1 r.1 a b (left_since ol nl left.later (law nl) a told_a)
      (left_since or nr right.later (law nr) b told_b)
