-- What the calls of a disk do to its bytes, and what a crash may leave of them, at each moment.
use Rattle.std.specs.Prelude.{◌≡◌, ◌⊎◌, ℕ, ◌+◌, ◌≤◌, max, List, ◌++◌, length, take, drop}
use Rattle.liq_outside.specs.At.{DiskAt}
use Rattle.liq_outside.specs.Calls.{after_calls}

-- the bytes with these at this place
abbrev pub overwritten : List ℕ → ℕ → List ℕ → List ℕ
overwritten held at bytes = take at held ++ bytes ++ drop (at + length bytes) held

-- After any part of a write of n bytes: any bytes in the range and past the old end, the same
-- elsewhere.
pub record Torn (at n : ℕ) (old new : List ℕ) : Type 0 where
  pub before : take at new ≡ take at old
  pub behind : drop (at + n) new ≡ drop (at + n) old
  pub no_shorter : length old ≤ length new
  pub no_longer : length new ≤ max (length old) (at + n)

-- each image after is one from before, after this step
abbrev pub Follows : (List ℕ → List ℕ → Type 0) → (List ℕ → Type 0) → (List ℕ → Type 0) → Type 0
Follows step before after =
    (image : List ℕ) → after image → (earlier : List ℕ) × before earlier × step earlier image

-- each image from before, after this step, is one after
abbrev pub Reaches : (List ℕ → List ℕ → Type 0) → (List ℕ → Type 0) → (List ℕ → Type 0) → Type 0
Reaches step before after =
    (earlier image : List ℕ) → before earlier → step earlier image → after image

-- each of these images is one of those
abbrev pub Within : (List ℕ → Type 0) → (List ℕ → Type 0) → Type 0
Within these those = (image : List ℕ) → these image → those image

-- no image but these bytes is among the images
abbrev pub Only : List ℕ → (List ℕ → Type 0) → Type 0
Only bytes images = (image : List ℕ) → images image → image ≡ bytes

-- what a crash at this moment may leave
abbrev pub LeftNow : {D : Type 0} → (D → DiskAt) → D → List ℕ → Type 0
LeftNow at disk image = (at disk).left_at (at disk).moment image

-- what a crash at some moment from that one on may have left
abbrev pub LeftSince : {D : Type 0} → (D → DiskAt) → D → ℕ → List ℕ → Type 0
LeftSince at disk since image =
    (k : ℕ) × (since ≤ k) × (k ≤ (at disk).moment) × (at disk).left_at k image

-- what a crash from one moment to another may have left
abbrev pub LeftBetween : {D : Type 0} → (D → DiskAt) → D → ℕ → ℕ → List ℕ → Type 0
LeftBetween at disk from to image = (k : ℕ) × (from ≤ k) × (k ≤ to) × (at disk).left_at k image

-- the disk so many writes and syncs later, of which each succeeded
abbrev pub IsLater : {D : Type 0} → (D → DiskAt) → ℕ → D → D → Type 0
IsLater at n old new = (at new).moment ≡ after_calls n (at old).moment

-- Time goes on, and what a crash may have left at a past moment stays what it was.
pub record GoesOn {D : Type 0} (at : D → DiskAt) (old new : D) : Type 0 where
  pub later : (at old).moment ≤ (at new).moment
  pub past :
      (k : ℕ) (image : List ℕ) → k ≤ (at old).moment
      → (at new).left_at k image → (at old).left_at k image
  pub kept :
      (k : ℕ) (image : List ℕ) → k ≤ (at old).moment
      → (at old).left_at k image → (at new).left_at k image

-- One call: a crash in it leaves what it may leave before it or after it.
pub record Elapses {D : Type 0} (at : D → DiskAt) (old new : D) : Type 0 where
  pub goes_on : GoesOn at old new
  pub within :
      (k : ℕ) (image : List ℕ)
      → (at old).moment ≤ k → k ≤ (at new).moment → (at new).left_at k image
      → LeftNow at old image ⊎ LeftNow at new image

-- The law of moments: an image since some moment before the calls was one since then before them,
-- or is one since they began.
abbrev pub KeepsToItsTime : {D : Type 0} → (D → DiskAt) → D → D → Type 0
KeepsToItsTime at old new =
    (since : ℕ) (image : List ℕ)
    → since ≤ (at old).moment → LeftSince at new since image
    → LeftSince at old since image ⊎ LeftSince at new (at old).moment image

-- A crash at any moment of the calls leaves what has P.
pub record LeavesOnly
    {D : Type 0} (at : D → DiskAt) (old new : D) (P : List ℕ → Type 0) : Type 0 where
  pub goes_on : GoesOn at old new
  pub each : (image : List ℕ) → LeftSince at new (at old).moment image → P image

-- Calls that write nothing: what a read gives and the moment stay as they were, and so does what a
-- crash may leave.
pub record Looked {D : Type 0} (at : D → DiskAt) (old new : D) : Type 0 where
  pub same : (at new).seen ≡ (at old).seen
  pub moment : (at new).moment ≡ (at old).moment
  pub within : Within (LeftNow at new) (LeftNow at old)
  pub keeps : Within (LeftNow at old) (LeftNow at new)
  pub leaves : LeavesOnly at old new (LeftNow at old)
