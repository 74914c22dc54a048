-- Numbers in two words each, and words in front of noughts.
use Rattle.std.proofs.Common.{◌≡◌, ℕ, zero, suc, ◌+◌, ◌*◌, ◌/◌, ◌%◌, ◌^◌, List, [], ◌∷◌, ◌++◌, length, take, drop}
use Rattle.std.proofs.Common.{get_or, refl, ap, sym, ◌∙◌, arith}
use Rattle.std.specs.List.{flat_map}
use Rattle.std.proofs.Math.Nat.{mod-add-div}
use Rattle.std.proofs.Math.Seq.{take-append_seam, take-nil}
use Rattle.liq_replies96.specs.Replies.{halves}

-- the front of a list, by how long it is
pub same_front : {A : Type 0} (xs ys us vs : List A) → length xs ≡ length ys → xs ++ us ≡ ys ++ vs → xs ≡ ys
same_front {A = A} xs ys us vs long same =
    sym (take-append_seam xs us) ∙ ap (λ (n : ℕ). take n (xs ++ us)) long
    ∙ ap (take (length ys)) same ∙ take-append_seam ys vs

-- a number by its halves
same_number : (m n : ℕ) → m % 2 ^ 64 ≡ n % 2 ^ 64 → m / 2 ^ 64 ≡ n / 2 ^ 64 → m ≡ n
same_number m n low high = sym (mod-add-div m (2 ^ 64)) ∙ (λ i. low i + 2 ^ 64 * high i) ∙ mod-add-div n (2 ^ 64)

pub same_halves : (xs ys : List ℕ) → length xs ≡ length ys → flat_map halves xs ≡ flat_map halves ys → xs ≡ ys
same_halves [] [] long same = refl
same_halves [] (y ∷ ys) long same = absurd (omega (arith, long))
same_halves (x ∷ xs) [] long same = absurd (omega (arith, long))
same_halves (x ∷ xs) (y ∷ ys) long same =
    let low = ap (λ (words : List ℕ). get_or words 0 0) same in
    let first = same_number x y low (ap (λ (words : List ℕ). get_or words 1 0) same) in
    let rest = same_halves xs ys (omega (arith, long)) (ap (λ (words : List ℕ). drop 2 words) same) in
    λ i. first i ∷ rest i

pub length-halves : (xs : List ℕ) → length (flat_map halves xs) ≡ 2 * length xs
length-halves [] = refl
length-halves (x ∷ xs) = let rest = length-halves xs in omega (arith, rest)

double : (k : ℕ) → 2 * suc k ≡ suc (suc (2 * k))
double k = omega arith

-- the first numbers are the first words, two for each
pub take-halves : (k : ℕ) (xs : List ℕ) → take (2 * k) (flat_map halves xs) ≡ flat_map halves (take k xs)
take-halves zero xs = refl
take-halves (suc k) [] = take-nil (2 * suc k)
take-halves (suc k) (x ∷ xs) =
    ap (λ (n : ℕ). take n (flat_map halves (x ∷ xs))) (double k)
    ∙ ap (λ (words : List ℕ). x % 2 ^ 64 ∷ x / 2 ^ 64 ∷ words) (take-halves k xs)
