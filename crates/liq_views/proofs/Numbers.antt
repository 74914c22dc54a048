-- The numbers of batches, and of the versions that they make.
use Rattle.std.proofs.Common.{◌≡◌, ℕ, ◌≤◌, ◌+◌, List, [], ◌∷◌, ◌++◌, fold, length, refl, le_refl, le_trans, arith}
use Rattle.liq_list_version.specs.Versions.{Numbered, empty_version}
use Rattle.liq_views.specs.declared.shelf.Shelf.{Shelf}
use Rattle.liq_views.specs.Batches.{Given, with_batch, version_after, last_from, Rise}
use Rattle.liq_views.specs.Shelves.{opening, after, after_all}

-- ---- rising numbers

pub rise_last : (n : ℕ) (bs : List Given) → Rise n bs → n ≤ last_from n bs
rise_last n [] r = le_refl n
rise_last n (b ∷ bs) r = le_trans r.0 (rise_last b.number bs r.1)

pub rise_later : (n : ℕ) (bs cs : List Given) → Rise n (bs ++ cs) → last_from n bs ≤ last_from n (bs ++ cs)
rise_later n [] cs r = rise_last n cs r
rise_later n (b ∷ bs) cs r = rise_later b.number bs cs r.1

pub rise_snoc : (n : ℕ) (bs : List Given) (b : Given) → Rise n bs → last_from n bs ≤ b.number → Rise n (bs ++ b ∷ [])
rise_snoc n [] b r e = (e, tt)
rise_snoc n (c ∷ bs) b r e = (r.0, rise_snoc c.number bs b r.1 e)

pub last_snoc : (n : ℕ) (bs : List Given) (b : Given) → last_from n (bs ++ b ∷ []) ≡ b.number
last_snoc n [] b = refl
last_snoc n (c ∷ bs) b = last_snoc c.number bs b

-- ---- what a shelf counts and shows

pub count_from : (s : Shelf) (bs : List Given) → (fold after s bs).count ≡ s.count + length bs
count_from s [] = omega arith
count_from s (b ∷ bs) = let e = count_from (after s b) bs in omega (arith, e)

pub version_from : (s : Shelf) (bs : List Given) → (fold after s bs).version ≡ fold with_batch s.version bs
version_from s [] = refl
version_from s (b ∷ bs) = version_from (after s b) bs

pub version_is : (bs : List Given) → (after_all bs).version ≡ version_after bs
version_is bs = version_from opening bs

pub number_from : (v : Numbered) (bs : List Given) → (fold with_batch v bs).number ≡ last_from v.number bs
number_from v [] = refl
number_from v (b ∷ bs) = number_from (with_batch v b) bs

pub number_is : (bs : List Given) → (version_after bs).number ≡ last_from 0 bs
number_is bs = number_from empty_version bs

pub later_version : (before after : List Given) → last_from 0 before ≤ last_from 0 after → (version_after before).number
    ≤ (version_after after).number
later_version before after later = let a = number_is before in let b = number_is after in omega (arith, a, b, later)
