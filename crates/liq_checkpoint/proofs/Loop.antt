-- Reading rows, or numbers, one after the other, as a loop does.
use Rattle.std.proofs.Common.{◌≡◌, ℕ, suc, ◌-◌, ◌+◌, ◌≤◌, ◌<◌, List, [], ◌∷◌, ◌++◌, Option, Some, Result, Ok, Err, refl, sym, ap, subst, ◌∙◌, append_assoc, arith}
use Rattle.std.proofs.lemmas.List.{append-nil}
use Rattle.liq_checkpoint.specs.declared.image_bytes.ImageBytes.{ImageBytes}
use Rattle.liq_checkpoint.specs.declared.image_bytes.ImageBytes.TheVariants.{Bad, NoMemory}
use Rattle.liq_checkpoint.specs.Reading.{◌>>=◌, Fails, number_at, numbers_at, rows_at}

-- what fails is no further read
pub fails_then : {X Y : Type 0} (e : ImageBytes) (read : Result X ℕ) (f : X → Result Y ℕ) → Fails e read
    → Fails e (read >>= f)
fails_then NoMemory read f h = tt
fails_then {X = X} (Bad place) read f h = ap (λ (r : Result X ℕ). r >>= f) h

-- what fails behind a value that was read
pub behind : {X Y : Type 0} {read : Result X ℕ} {x : X} (e : ImageBytes) (f : X → Result Y ℕ) → read ≡ Ok x
    → Fails e (f x) → Fails e (read >>= f)
behind {X} e f is fails = subst (λ (r : Result X ℕ). Fails e (r >>= f)) (sym is) fails

-- what was read before, and what is still read
abbrev pub with_front : {R : Type 0} → List R → Result (List R × List ℕ) ℕ → Result (List R × List ℕ) ℕ
with_front front read = read >>= λ x. Ok (front ++ x.0, x.1)

regroup : {R : Type 0} (front : List R) (r : R) (read : Result (List R × List ℕ) ℕ)
    → with_front front (read >>= λ x. Ok (r ∷ x.0, x.1)) ≡ with_front (front ++ r ∷ []) read
regroup {R = R} front r (Ok x) = ap (λ (rs : List R). Ok (rs, x.1)) (simp append_assoc)
regroup front r (Err place) = refl

module _ {K X : Type 0} (row_at : Option K → List ℕ → Result ((K × X) × List ℕ) ℕ) where
  pub goes_on : (front : List (K × X)) (count i : ℕ) (last : Option K) (at : List ℕ) (row : K
      × X) (after : List ℕ) (total : Result (List (K × X) × List ℕ) ℕ) → i < count → row_at last at ≡ Ok (row, after)
      → with_front front (rows_at row_at (count - i) last at) ≡ total
      → with_front (front ++ row ∷ []) (rows_at row_at (count - (i + 1)) (Some row.0) after) ≡ total
  unfolding rows_at
  goes_on front count i last at row after total lt h so_far =
      let k : count - i ≡ suc (count - (i + 1)) = omega arith in
      let one : with_front front (rows_at row_at (count - i) last at) ≡ with_front (front ++ row ∷ [])
      (rows_at row_at (count - (i + 1)) (Some row.0) after) =
      rw (k, h) (regroup front row (rows_at row_at (count - (i + 1)) (Some row.0) after)) in
      sym one ∙ so_far

  pub ends : (e : ImageBytes) (front : List (K × X)) (count i : ℕ) (last : Option K) (at : List ℕ)
      (total : Result (List (K × X) × List ℕ) ℕ) → i < count → Fails e (row_at last at)
      → with_front front (rows_at row_at (count - i) last at) ≡ total → Fails e total
  unfolding rows_at
  ends NoMemory front count i last at total lt h so_far = tt
  ends (Bad place) front count i last at total lt h so_far =
      let k : count - i ≡ suc (count - (i + 1)) = omega arith in
      let one : with_front front (rows_at row_at (count - i) last at) ≡ Err place = rw (k, h) refl in
      sym so_far ∙ one

  pub is_done : (front : List (K × X)) (count i : ℕ) (last : Option K) (at : List ℕ) (total : Result (List (K × X)
      × List ℕ) ℕ) → count ≤ i → with_front front (rows_at row_at (count - i) last at) ≡ total → total ≡ Ok (front, at)
  unfolding rows_at
  is_done front count i last at total le so_far =
      let k : count - i ≡ 0 = omega arith in
      let one : with_front front (rows_at row_at (count - i) last at) ≡ Ok (front, at) =
      rw k (ap (λ (rs : List (K × X)). Ok (rs, at)) (append-nil front)) in
      sym so_far ∙ one

-- ---- numbers

pub numbers_go_on : (end : ℕ) (front : List ℕ) (count i : ℕ) (at : List ℕ) (n : ℕ) (after : List ℕ)
    (total : Result (List ℕ × List ℕ) ℕ) → i < count → number_at end 8 at ≡ Ok (n, after)
    → with_front front (numbers_at end (count - i) at) ≡ total
    → with_front (front ++ n ∷ []) (numbers_at end (count - (i + 1)) after) ≡ total
unfolding numbers_at
numbers_go_on end front count i at n after total lt h so_far =
    let k : count - i ≡ suc (count - (i + 1)) = omega arith in
    let one : with_front front (numbers_at end (count - i) at)
    ≡ with_front (front ++ n ∷ []) (numbers_at end (count - (i + 1)) after) =
    rw (k, h) (regroup front n (numbers_at end (count - (i + 1)) after)) in
    sym one ∙ so_far

pub numbers_end : (end : ℕ) (e : ImageBytes) (front : List ℕ) (count i : ℕ) (at : List ℕ) (total : Result (List ℕ
    × List ℕ) ℕ) → i < count → Fails e (number_at end 8 at)
    → with_front front (numbers_at end (count - i) at) ≡ total → Fails e total
unfolding numbers_at
numbers_end end NoMemory front count i at total lt h so_far = tt
numbers_end end (Bad place) front count i at total lt h so_far =
    let k : count - i ≡ suc (count - (i + 1)) = omega arith in
    let one : with_front front (numbers_at end (count - i) at) ≡ Err place = rw (k, h) refl in
    sym so_far ∙ one

pub numbers_done : (end : ℕ) (front : List ℕ) (count i : ℕ) (at : List ℕ) (total : Result (List ℕ × List ℕ) ℕ)
    → count ≤ i → with_front front (numbers_at end (count - i) at) ≡ total → total ≡ Ok (front, at)
unfolding numbers_at
numbers_done end front count i at total le so_far =
    let k : count - i ≡ 0 = omega arith in
    let one : with_front front (numbers_at end (count - i) at) ≡ Ok (front, at) =
    rw k (ap (λ (ns : List ℕ). Ok (ns, at)) (append-nil front)) in
    sym so_far ∙ one
