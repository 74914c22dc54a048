-- What a call enters, and what the store answers and leaves.
use Rattle.std.specs.Prelude.{ℕ, ◌≡◌, ◌+◌, ◌++◌, List, [], ◌∷◌, Some, None}
use Rattle.liq_types.specs.declared.entries.Entry.{Entry}
use Rattle.liq_types.specs.declared.replies.Answer.{Answer}
use Rattle.liq_types.specs.declared.replies.Answer.TheVariants as answer
use Rattle.liq_types.specs.declared.requests.Request.{Request}
use Rattle.liq_types.specs.State.{State}
use Rattle.liq_outside.specs.At.{DiskAt}
use Rattle.liq_core.specs.Core.{StandsFor}
use Rattle.liq_store.specs.Answering.{Answers}
use Rattle.liq_store.specs.Calling.{WritesOn}
use Rattle.liq_store.specs.Causes.{CausesAnswer, Faults, stopped_after}
use Rattle.liq_store.specs.Keeping.{IsInOrder}
use Rattle.liq_store.specs.Stored.{Stored}
use Rattle.liq_store.specs.Telling.{told}

-- A reply is entered behind all entries, as the session's next. With any other answer nothing is.
abbrev pub IsEntered : ℕ → ℕ → Request → Answer → List Entry → List Entry → Type 0
IsEntered session calls request (answer.Reply reply) old new =
    new ≡ old
    ++ record { session = session; index = calls + 1; request = request; reply = reply } ∷ []
IsEntered session calls request _ old new = new ≡ old

-- ---- the store

module _ {D : Type 0} (at : D → DiskAt) where
  abbrev pub faults_in : Stored D → Faults
  faults_in store = record { left = (at store.left).faults; right = (at store.right).faults }

  -- what is answered, and what the store is left as
  pub record IsCalled
      (old : Stored D) (request : Request) (a : Answer) (new : Stored D) : Type 0 where
    pub stopped : (sum : ℕ) → old.stopped ≡ Some sum → (a ≡ answer.Stopped sum) × (new ≡ old)
    pub step_is :
        old.stopped ≡ None → (s : State) → StandsFor old.core s → Answers s request a new.core
    pub stops : new.stopped ≡ stopped_after old.stopped a (faults_in new)
    pub tells : (s : State) → StandsFor old.core s → new.changes ≡ old.changes ++ told s request a
    pub cause : CausesAnswer a (faults_in old) (faults_in new)
    pub disks : WritesOn at old request a new
    pub order : IsInOrder at new
