-- Histories: what of one history a seat has seen, and how it grows. `maker` is the number of the
-- seat that made an item.
use Rattle.std.specs.Prelude.{◌≡◌, ℕ, ◌≤◌, List, ◌++◌, Contains}

module _ {I : Type 0} (maker : I → ℕ) where
  -- no item carries one of these numbers
  abbrev pub NoneOf : List ℕ → List I → Type 0
  NoneOf numbers items = (i : I) → Contains items i → ¬ Contains numbers (maker i)

  -- each item carries this number
  abbrev pub AllBy : ℕ → List I → Type 0
  AllBy number items = (i : I) → Contains items i → maker i ≡ number

  -- each item carries a number from 1 to `most`
  abbrev pub Within : ℕ → List I → Type 0
  Within most items = (i : I) → Contains items i → (1 ≤ maker i) × (maker i ≤ most)

  -- the history begins with all that was seen, and no item beyond carries one of these numbers
  abbrev pub Behind : List I → List ℕ → List I → Type 0
  Behind log numbers seen = (rest : List I) × (log ≡ seen ++ rest) × NoneOf numbers rest

  -- the history begins with all that was seen, and each item beyond carries this number
  abbrev pub GoesOn : ℕ → List I → List I → Type 0
  GoesOn number seen log = (new : List I) × (log ≡ seen ++ new) × AllBy number new
