-- A save taken apart.
use Rattle.std.proofs.Common.{◌≡◌, ℕ, ◌+◌, ◌-◌, ◌<◌, ◌≤◌, ◌^◌, List, [], ◌∷◌, ◌++◌, length, take, drop}
use Rattle.std.proofs.Common.{Ok, refl, sym, ap, ◌∙◌, append_assoc, arith}
use Rattle.std.proofs.lemmas.Bool.{le-ltb}
use Rattle.std.proofs.lemmas.List.{append-nil, drop_at, length-append, length-drop, take-append-drop, take_at}
use Rattle.byteorder.specs.Endian.{big_bytes, big_number}
use Rattle.byteorder.specs.Numbers.{big_number-reads_back, length-bytes_high_first}
use Rattle.sha2.proofs.Facts256.{length-sha256}
use Rattle.liq_checkpoint.specs.Reading.{number_at}
use Rattle.liq_checkpoint.specs.Spelling.{bytes_of, spelled}
use Rattle.liq_checkpoint.proofs.Fields.{IsBytes, IsBytes-drop, number_takes}
use Rattle.liq_market.specs.Saving.{digest, name, sealed, told_with}

-- ---- the digest

pub length-digest : (told : List ℕ) → length (digest told) ≡ 32
unfolding digest
length-digest told = length-sha256 told

pub sealed_is :
    (bytes : List ℕ) (n : ℕ) (told sum : List ℕ) → told ≡ take n bytes → sum ≡ drop n bytes → sum ≡ digest told
    → bytes ≡ sealed told
sealed_is bytes n told sum front back is =
    sym (take-append-drop n bytes) ∙ (λ i. sym front i ++ sym back i) ∙ ap (λ (l : List ℕ). told ++ l) is

pub record Seal (bytes told : List ℕ) : Type 0 where
  pub long : 32 ≤ length bytes
  pub front : take (length bytes - 32) bytes ≡ told
  pub back : drop (length bytes - 32) bytes ≡ digest told

pub seal_of : (bytes told : List ℕ) → bytes ≡ sealed told → Seal bytes told
seal_of bytes told is =
    let size = ap (λ (l : List ℕ). length l) is ∙ length-append told (digest told) in
    let sum = length-digest told in
    let there : length bytes - 32 ≡ length told = omega (arith, size, sum) in
    record {
      long = omega (arith, size, sum);
      front = (λ i. take (there i) (is i)) ∙ take_at told (digest told) (length told) refl;
      back = (λ i. drop (there i) (is i)) ∙ drop_at told (digest told) (length told) refl;
    }

-- ---- a number in front of bytes

number_read : (at : List ℕ) → 8 ≤ length at → number_at 0 8 at ≡ Ok (big_number 8 at, drop 8 at)
unfolding number_at
number_read at long = rw (le-ltb (length at) 8 long) refl

spelled_one : (n : ℕ) (rest : List ℕ) → spelled ((8, n) ∷ []) ++ rest ≡ big_bytes 8 n ++ rest
unfolding bytes_of
spelled_one n rest = ap (λ (l : List ℕ). l ++ rest) (append-nil (big_bytes 8 n))

number_front : (at : List ℕ) → IsBytes at → 8 ≤ length at → at ≡ big_bytes 8 (big_number 8 at) ++ drop 8 at
number_front at fits long =
    let taken = number_takes 0 8 at (big_number 8 at, drop 8 at) fits (number_read at long) in
    taken.parts ∙ spelled_one (big_number 8 at) (drop 8 at)

-- ---- the name, the records and the checkpoint

pub told_put :
    (records : ℕ) (checkpoint : List ℕ)
    → (name ++ big_bytes 8 records) ++ checkpoint ≡ told_with records checkpoint
unfolding told_with
told_put records checkpoint = append_assoc name (big_bytes 8 records) checkpoint

pub told_is :
    (told front rest : List ℕ) → IsBytes told → 16 ≤ length told → front ≡ take 8 told → rest ≡ drop 8 told
    → front ≡ name → told ≡ told_with (big_number 8 rest) (drop 8 rest)
unfolding told_with
told_is told front rest fits long front_is rest_is named =
    let behind = length-drop 8 told in
    let number = number_front (drop 8 told) (IsBytes-drop 8 told fits) (omega (arith, behind, long)) in
    sym (take-append-drop 8 told)
    ∙ ap (λ (l : List ℕ). l ++ drop 8 told) (sym front_is ∙ named)
    ∙ ap (λ (l : List ℕ). name ++ l) number
    ∙ ap (λ (l : List ℕ). name ++ big_bytes 8 (big_number 8 l) ++ drop 8 l) (sym rest_is)

pub record Parts (told : List ℕ) (records : ℕ) (checkpoint : List ℕ) : Type 0 where
  pub long : 16 ≤ length told
  pub named : take 8 told ≡ name
  pub count : big_number 8 (drop 8 told) ≡ records
  pub rest : drop 8 (drop 8 told) ≡ checkpoint

pub parts_of :
    (told : List ℕ) (records : ℕ) (checkpoint : List ℕ) → records < 2 ^ 64 → told ≡ told_with records checkpoint
    → Parts told records checkpoint
unfolding told_with
parts_of told records checkpoint small is =
    let number = length-bytes_high_first 8 records in
    let behind = big_bytes 8 records ++ checkpoint in
    let size = ap (λ (l : List ℕ). length l) is ∙ length-append name behind in
    let back = length-append (big_bytes 8 records) checkpoint in
    let rest : drop 8 told ≡ behind = ap (drop 8) is ∙ drop_at name behind 8 refl in
    record {
      long = omega (arith, size, back, number);
      named = ap (take 8) is ∙ take_at name behind 8 refl;
      count = ap (big_number 8) rest ∙ big_number-reads_back 8 records checkpoint small;
      rest = ap (drop 8) rest ∙ drop_at (big_bytes 8 records) checkpoint 8 number;
    }

pub length-told : (records : ℕ) (checkpoint : List ℕ) → length (told_with records checkpoint) ≡ 16 + length checkpoint
unfolding told_with
length-told records checkpoint =
    let number = length-bytes_high_first 8 records in
    let front = length-append name (big_bytes 8 records ++ checkpoint) in
    let back = length-append (big_bytes 8 records) checkpoint in
    omega (arith, number, front, back)
