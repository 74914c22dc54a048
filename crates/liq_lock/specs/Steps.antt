-- What each kind of step tells the seat that makes it, of what it knew, the word that it found and
-- what it knows now.
use Rattle.std.specs.Prelude.{◌≡◌, ◌≢◌, ℕ, ◌%◌, ◌^◌, ◌<◌, ◌≤◌, true, false, List, [], ◌∷◌, Option, Some}
use Rattle.atomic_table.specs.Table.{Me, Step, rest}
use Rattle.liq_lock.specs.declared.view.View.{View}
use Rattle.liq_lock.specs.History.{Behind}
use Rattle.liq_lock.specs.Views.{drew, entered, saw, outside}

module _ {T I : Type 0} where
  -- the view has the ticket whose number was found
  abbrev pub Draws : Step (Option T) → Me (Option T) (View I) → ℕ → Me (Option T) (View I) → Type 0
  Draws st m found n = (t : ℕ) × (n ≡ (drew m.0 t, m.1)) × (found ≡ t % 2 ^ 64)

  -- the turn has come: the view knows the value's history to its end, which goes on from what it
  -- knew, and its seat holds the slot
  abbrev pub Enters : (T → List I) → (I → ℕ) → Me (Option T) (View I) → Me (Option T) (View I)
      → Type 0
  Enters history maker m n = (x : T) × (n ≡ (entered m.0 (history x), (0, Some x) ∷ m.1))
      × Behind maker (history x) m.0.stands m.0.seen

  -- where the word is the view's ticket the view enters, else nothing changes
  abbrev pub Looks : (T → List I) → (I → ℕ) → Step (Option T) → Me (Option T) (View I) → ℕ
      → Me (Option T) (View I)
      → Type 0
  Looks history maker st m found n = (t : ℕ) → m.0.ticket ≡ Some t
      → (found ≡ t % 2 ^ 64 → Enters history maker m n) × (found ≢ t % 2 ^ 64 → n ≡ m)

  -- the history has become that of the value in the slot, and the view has seen all of it
  abbrev pub Counts : (T → List I) → Step (Option T) → Me (Option T) (View I) → ℕ
      → Me (Option T) (View I) → Type 0
  Counts history st m found n = (x : T) → m.1 ≡ (0, Some x) ∷ [] → n ≡ (saw m.0 (history x), m.1)

  -- the view is outside without a ticket, and its seat has given the slot back
  abbrev pub Leaves : Step (Option T) → Me (Option T) (View I) → ℕ → Me (Option T) (View I) → Type 0
  Leaves st m found n = n ≡ (outside m.0, rest m.1)

  -- nothing changes, the shares are few, and the view's history goes on from both pasts
  abbrev pub Settles : (I → ℕ) → Step (Option T) → Me (Option T) (View I) → ℕ
      → Me (Option T) (View I) → Type 0
  Settles maker st m found n = (n ≡ m) × (m.0.shares < 2 ^ 32)
      × Behind maker m.0.seen m.0.left.stands m.0.left.seen
      × Behind maker m.0.seen m.0.right.stands m.0.right.seen

  -- the view waits with the ticket whose number this is
  pub record IsWaiting (m : Me (Option T) (View I)) (number : ℕ) : Type 0 where
    pub ticket : (t : ℕ) × (m.0.ticket ≡ Some t) × (number ≡ t % 2 ^ 64)
    pub calm : m.0.inside ≡ false
    pub alive : 1 ≤ m.0.shares
    pub empty : m.1 ≡ []

  -- the view is inside, and its seat has a value in the slot with the history that it has seen
  pub record IsLeaving (history : T → List I) (m : Me (Option T) (View I)) : Type 0 where
    pub inside : m.0.inside ≡ true
    pub alive : 1 ≤ m.0.shares
    pub value : (x : T) × (m.1 ≡ (0, Some x) ∷ []) × (history x ≡ m.0.seen)
