-- What a sink was shown of two disks, and what a crash from one showing to the next may have left
-- of them.
use Rattle.std.specs.Prelude.{ℕ, ◌≡◌, ◌⊎◌, ◌≤◌, List, [], ◌∷◌, ◌++◌, Option, None, IfSome, length, option_map}
use Rattle.liq_outside.specs.At.{DiskAt}
use Rattle.liq_outside.specs.Disk.{LeftBetween}
use Rattle.liq_outside.specs.declared.showing.Showing.{Showing}

-- a sink that holds these bytes, and two disks beside it, as a showing
abbrev pub shown_as : {D : Type 0} → (D → DiskAt) → List ℕ → D → D → Showing
shown_as at held left right =
    record { held = length held; left = (at left).moment; right = (at right).moment }

-- A sink that holds these bytes was shown two disks: it has this showing besides, or tells none
-- from then on.
abbrev pub Notes :
    {D : Type 0} → (D → DiskAt) → Option (List ℕ) → D → D
    → Option (List Showing) → Option (List Showing) → Type 0
Notes at held left right old new = IfSome held (λ bytes.
    (new ≡ None) ⊎ (new ≡ option_map (λ earlier. earlier ++ shown_as at bytes left right ∷ []) old))

-- each two neighbours of a list behind a first one
abbrev pub AllNeighbours : {A : Type 0} → (A → A → Type 0) → A → List A → Type 0
AllNeighbours P first [] = Unit {0}
AllNeighbours P first (next ∷ later) = P first next × AllNeighbours P next later

-- each two neighbours of a list
abbrev pub AllFrom : {A : Type 0} → (A → A → Type 0) → List A → Type 0
AllFrom P [] = Unit {0}
AllFrom P (first ∷ later) = AllNeighbours P first later

-- the first of a list that has this one behind it
abbrev pub first_of : {A : Type 0} → List A → A → A
first_of [] last = last
first_of (first ∷ later) last = first

-- From one showing to the next no disk goes back in time. All that a crash between them may have
-- left of the one, beside all of the other, has P, and so has what the sink held by the later one.
pub record LeavesBetween
    {D : Type 0} (at : D → DiskAt) (left right : D)
    (P : ℕ → List ℕ → List ℕ → Type 0) (p q : Showing) : Type 0 where
  pub left_time : p.left ≤ q.left
  pub right_time : p.right ≤ q.right
  pub leaves :
      (a b : List ℕ) → LeftBetween at left p.left q.left a → LeftBetween at right p.right q.right b
      → P q.held a b
