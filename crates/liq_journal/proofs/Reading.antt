-- How records are read, and that a front decides them.
use Rattle.std.proofs.Common.{◌≡◌, inl, inr, ℕ, zero, suc, ◌+◌, ◌*◌, ◌<◌, ◌≤◌, min, List, [], ◌∷◌, ◌++◌, length, take, drop, get_or, Bool, true, false, refl, sym, ◌∙◌, ap, arith, if◌then◌else◌, length-take, length-drop}
use Rattle.std.proofs.lemmas.Bool.Decides.{nat_tests}
use Rattle.std.proofs.lemmas.List.{drop-take, take-take, get_or-take, drop-drop, nil_from_length}
use Rattle.byteorder.specs.Endian.{big_number}
use Rattle.byteorder.specs.Numbers.{big_from-take}
use Rattle.liq_wire.specs.Fields.{number_at}
use Rattle.liq_journal.specs.Records.{begins_whole, records}
use Rattle.liq_disk_header.specs.Layout.{piece}
use Rattle.std.proofs.lemmas.Bool.{cases_Bool}

pub records_whole : (most : ℕ) (bytes : List ℕ) → begins_whole bytes ≡ true → records (suc most) bytes
    ≡ take 128 (drop 1 bytes) ∷ records most (drop 129 bytes)
unfolding records
records_whole most bytes is = ap (λ (b : Bool). if b then take 128 (drop 1 bytes) ∷ records most (drop 129 bytes)
    else []) is

pub records_none : (most : ℕ) (bytes : List ℕ) → begins_whole bytes ≡ false → records most bytes ≡ []
unfolding records
records_none zero bytes is = refl
records_none (suc most) bytes is = ap (λ (b : Bool). if b then take 128 (drop 1 bytes) ∷ records most (drop 129 bytes)
    else []) is

pub records_zero : (bytes : List ℕ) → records zero bytes ≡ []
unfolding records
records_zero bytes = refl

-- where a gate is open and 128 bytes stand behind it
pub is_whole : (bytes : List ℕ) → get_or bytes 0 0 ≡ 1 → 128 < length bytes → begins_whole bytes ≡ true
is_whole bytes gate long = grind (arith, nat_tests)

pub isnt_open : (bytes : List ℕ) → (get_or bytes 0 0 ≡ 1 → ⊥) → begins_whole bytes ≡ false
isnt_open bytes shut = grind (arith, nat_tests)

pub isnt_long : (bytes : List ℕ) → length bytes ≤ 128 → begins_whole bytes ≡ false
isnt_long bytes short = grind (arith, nat_tests)

pub whole_gate : (bytes : List ℕ) → begins_whole bytes ≡ true → get_or bytes 0 0 ≡ 1
whole_gate bytes is = grind (arith, nat_tests)

pub whole_long : (bytes : List ℕ) → begins_whole bytes ≡ true → 128 < length bytes
whole_long bytes is = grind (arith, nat_tests)

-- two lists with the same front
module _ (m : ℕ) (xs ys : List ℕ) (alike : take m ys ≡ take m xs) where
  pub piece_alike : (place count : ℕ) → place + count ≤ m → piece place count ys ≡ piece place count xs
  piece_alike place count within =
      let cut : (l : List ℕ) → piece place count l ≡ drop place (take (place + count) (take m l)) =
      λ l. sym (drop-take place count l) ∙ ap (drop place) (sym (take-take (place + count) m l within)) in
      cut ys ∙ ap (λ (l : List ℕ). drop place (take (place + count) l)) alike ∙ sym (cut xs)

  pub byte_alike : (place : ℕ) → place < m → get_or ys place 0 ≡ get_or xs place 0
  byte_alike place within = sym (get_or-take m ys place 0 within) ∙ ap (λ (l : List ℕ). get_or l place 0) alike
      ∙ get_or-take m xs place 0 within

  pub length_alike : m ≤ length xs → m ≤ length ys
  length_alike long = let same : min m (length ys) ≡ min m (length xs) = sym (length-take m ys) ∙ ap length alike
      ∙ length-take m xs in omega arith

  pub number_alike : (place count : ℕ) → place + count ≤ m → number_at place count ys ≡ number_at place count xs
  unfolding number_at
  number_alike place count within =
      let cut : (l : List ℕ) → big_number count (drop place l) ≡ big_number count (piece place count l) =
      λ l. sym (big_from-take 0 count count (drop place l) (omega arith)) in
      cut ys ∙ ap (big_number count) (piece_alike place count within) ∙ sym (cut xs)

-- what stands in front of a place, from another place on
pub front_behind : (n m : ℕ) (xs ys : List ℕ) → take (n + m) ys ≡ take (n + m) xs
    → take m (drop n ys) ≡ take m (drop n xs)
front_behind n m xs ys alike = sym (drop-take n m ys) ∙ ap (drop n) alike ∙ drop-take n m xs

-- A front of k records that another list has too is read there too, and then what stands behind it.
pub records_alike : (k fuel most : ℕ) (xs ys : List ℕ) → fuel ≡ k + most → length (records fuel xs) ≡ k
    → take (129 * k) ys ≡ take (129 * k) xs → records fuel ys ≡ records fuel xs ++ records most (drop (129 * k) ys)
records_alike zero fuel most xs ys is none alike =
    let same : fuel ≡ most = omega arith in
    let nothing : records fuel xs ≡ [] = nil_from_length (records fuel xs) none in
    ap (λ (n : ℕ). records n ys) same ∙ ap (λ (l : List (List ℕ)). l ++ records most ys) (sym nothing)
records_alike (suc k) zero most xs ys is some alike = absurd (omega arith)
records_alike (suc k) (suc fuel) most xs ys is some alike = elim (cases_Bool (begins_whole xs)) [
  | inr none ↦ let nothing : length (records (suc fuel) xs) ≡ 0 = ap length (records_none (suc fuel) xs none)
      in absurd (omega arith)
  | inl whole ↦
      let read = records_whole fuel xs whole in
      let front : 129 ≤ 129 * suc k = omega arith in
      let same : take (129 + 129 * k) ys ≡ take (129 + 129 * k) xs = let e : 129 + 129 * k ≡ 129 * suc k = omega arith
      in ap (λ (n : ℕ). take n ys) e ∙ alike ∙ ap (λ (n : ℕ). take n xs) (sym e) in
      let first : take 129 ys ≡ take 129 xs = sym (take-take 129 (129 * suc k) ys front) ∙ ap (take 129) alike
      ∙ take-take 129 (129 * suc k) xs front in
      let whole_2 : begins_whole ys ≡ true = is_whole ys (byte_alike 129 xs ys first 0 (omega arith)
      ∙ whole_gate xs whole) (length_alike 129 xs ys first (whole_long xs whole)) in
      let raw : take 128 (drop 1 ys) ≡ take 128 (drop 1 xs) = piece_alike 129 xs ys first 1 128 (omega arith) in
      let size : length (records fuel (drop 129 xs)) ≡ k = let e = sym (ap length read) ∙ some in omega (arith, e) in
      let more = records_alike k fuel most (drop 129 xs) (drop 129 ys) (omega arith) size
      (front_behind 129 (129 * k) xs ys same) in
      let there : drop (129 * k) (drop 129 ys) ≡ drop (129 * suc k) ys = drop-drop (129 * k) 129 ys
      ∙ (let e : 129 + 129 * k ≡ 129 * suc k = omega arith in ap (λ (n : ℕ). drop n ys) e) in
      records_whole fuel ys whole_2 ∙ (λ i. raw i ∷ more i)
      ∙ ap (λ (l : List ℕ). (take 128 (drop 1 xs) ∷ records fuel (drop 129 xs)) ++ records most l) there
      ∙ ap (λ (l : List (List ℕ)). l ++ records most (drop (129 * suc k) ys)) (sym read)
]

-- whole records are as long as they are
pub records_long : (fuel : ℕ) (xs : List ℕ) → 129 * length (records fuel xs) ≤ length xs
records_long zero xs = let e = ap length (records_zero xs) in omega arith
records_long (suc fuel) xs = elim (cases_Bool (begins_whole xs)) [
  | inr none ↦ let e = ap length (records_none (suc fuel) xs none) in omega arith
  | inl whole ↦
      let e = ap length (records_whole fuel xs whole) in
      let more = records_long fuel (drop 129 xs) in
      let d = length-drop 129 xs in
      let l = whole_long xs whole in
      omega arith
]

-- and no more than are read
pub records_few : (fuel : ℕ) (xs : List ℕ) → length (records fuel xs) ≤ fuel
records_few zero xs = let e = ap length (records_zero xs) in omega arith
records_few (suc fuel) xs = elim (cases_Bool (begins_whole xs)) [
  | inr none ↦ let e = ap length (records_none (suc fuel) xs none) in omega arith
  | inl whole ↦ let e = ap length (records_whole fuel xs whole) in let more = records_few fuel (drop 129 xs)
      in omega arith
]
