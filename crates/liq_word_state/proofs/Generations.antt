-- The generation of what two disks hold.
use Rattle.std.proofs.Common.{◌≡◌, ◌≤◌, ℕ, Option, None, subst}
use Rattle.std.specs.Prelude.{IsSome}
use Rattle.liq_types.specs.State.{State}
use Rattle.liq_outside.specs.At.{DiskAt}
use Rattle.liq_core.specs.Core.{StandsFor}
use Rattle.liq_disk_pair.proofs.Keeping.{settled_from_one}
use Rattle.liq_store.specs.Keeping.{IsInOrder, IsInOrderWith}
use Rattle.liq_store.specs.Stored.{Stored}
use Rattle.liq_word_exit.proofs.Opened.{some_of}

-- a store's state is of the first generation or of a later one
pub opened_from_one : {D : Type 0} (at : D → DiskAt) (store : Stored D) (s : State)
    → store.stopped ≡ None → IsInOrder at store → StandsFor store.core s → IsSome (at store.left).seen
    → IsSome (at store.right).seen → 1 ≤ s.generation
opened_from_one at store s going order stands left right =
    let now = subst (λ (stopped : Option ℕ). IsInOrderWith at stopped store) going order in
    let l = some_of (at store.left).seen left in
    let r = some_of (at store.right).seen right in
    settled_from_one store.side l.0 r.0 s (now.settled l.0 r.0 l.1 r.1 s stands)
