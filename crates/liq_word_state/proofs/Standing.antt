-- What is told of two disks, and how they stand then.
use Rattle.std.proofs.Common.{◌≡◌, ◌≢◌, ℕ, List, Option, Some, Result, Ok, Err, inl}
use Rattle.liq_types.specs.declared.requests.Command.{Command}
use Rattle.liq_types.specs.State.{State}
use Rattle.liq_outside.specs.At.{DiskAt}
use Rattle.liq_disk_pair.specs.Pair.{state_on}
use Rattle.liq_store.specs.declared.answers.StoreWhy.{StoreWhy}
use Rattle.liq_store.specs.declared.answers.StoreWhy.TheVariants as why
use Rattle.liq_store.specs.Opening.{IsNotOpened, OnlyOpens}
use Rattle.liq_word_exit.specs.declared.halts.Halt.{Halt}
use Rattle.liq_word_exit.specs.declared.halts.Halt.TheVariants.{BadLine, ReadFault, WriteFault, DiskFault, Damaged, DamagedInput, NoMemory, Limit, Rotated}
use Rattle.liq_word_exit.specs.Disks.{DisksStay}
use Rattle.liq_word_state.specs.declared.telling.Text.{Text}
use Rattle.liq_word_state.specs.Told.{WritesTold}
use Rattle.liq_word_state.proofs.TextsTold.{nothing_told}
use Rattle.liq_word_exit.specs.Unopened.{halt_of}
use Rattle.liq_word_exit.proofs.Opened.{unopened}

module _ {D : Type 0} (at : D → DiskAt) where
  -- no store was opened
  pub not_told : (what : Text) (commands : List Command) (why_is : StoreWhy) (fl fr left right : D)
      → IsNotOpened at left right (record { left = fl; right = fr; why = why_is })
      → (why_is ≢ why.DiskFault → (m n a b : List ℕ) → (at left).seen ≡ Some m → (at right).seen ≡ Some n
      → (at fl).seen ≡ Some a → (at fr).seen ≡ Some b → OnlyOpens m n a b)
      → (l r : List ℕ) (held : Option (List ℕ)) → (at left).seen ≡ Some l → (at right).seen ≡ Some r → (start : State)
      → state_on l r ≡ Ok start
      → WritesTold what start commands (Err (halt_of why_is)) held held
      × DisksStay at (Err (halt_of why_is)) l r start fl fr
  not_told what commands why.DiskFault fl fr left right h shuts l r held told_l told_r start is = (
    (nothing_told what start commands held).0,
    λ kept a b told_a told_b. h.reads l r a b start told_l told_r kept
        told_a told_b,
  )
  not_told what commands (why.Damaged side damage) fl fr left right h shuts l r held told_l told_r start is =
      absurd (cc (h.is_why l r told_l told_r, is))
  not_told what commands why.NoMemory fl fr left right h shuts l r held told_l told_r start is = (
    (nothing_told what start commands held).1,
    unopened at left right
        (record { left = fl; right = fr; why = why.NoMemory }) h (λ e. cc)
        (λ m n a b told_m told_n. shuts (λ e. cc) m n a b told_m told_n) l r start told_l told_r is,
  )

-- a word that asks nothing of the disks leaves them so
pub disks_stay : {D : Type 0} (at : D → DiskAt) (end : Result (Unit {0}) Halt) (l r : List ℕ) (start : State)
    (left right : D) → DisksStay at (Ok tt) l r start left right → DisksStay at end l r start left right
disks_stay at (Ok done) l r start left right stand = stand
disks_stay at (Err (BadLine n)) l r start left right stand = stand
disks_stay at (Err ReadFault) l r start left right stand = stand
disks_stay at (Err WriteFault) l r start left right stand = stand
disks_stay at (Err DiskFault) l r start left right stand = λ kept a b told_a told_b. inl (stand a b told_a told_b).1
disks_stay at (Err (Damaged side number)) l r start left right stand = stand
disks_stay at (Err NoMemory) l r start left right stand = λ a b told_a told_b. let so =
    stand a b told_a told_b in (so.0, so.1.commands, λ kept. so.1.kept)
disks_stay at (Err (Limit number)) l r start left right stand = stand
disks_stay at (Err (Rotated generation)) l r start left right stand = stand
disks_stay at (Err (DamagedInput number)) l r start left right stand = stand
