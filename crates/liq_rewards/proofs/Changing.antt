-- Rows that change one by one.
use Rattle.std.proofs.Common.{◌≡◌, ℕ, zero, suc, ◌+◌, ◌<◌, ◌≤◌, List, [], ◌∷◌, length, map, get_or, set, refl, ap, ◌∙◌, arith}
use Rattle.std.specs.List.{AllByRecursion}
use Rattle.liq_rewards.specs.declared.earner.Earner.{Earner}
use Rattle.liq_rewards.specs.declared.rows.Row.{Row}

-- the first rows are changed already
abbrev pub changed : ℕ → (Row → Row) → List Row → List Row
changed zero f es = es
changed (suc n) f [] = []
changed (suc n) f (e ∷ es) = f e ∷ changed n f es

pub next_same : (n : ℕ) (f : Row → Row) (es : List Row) (d : Row) → n < length es → get_or (changed n f es) n d
    ≡ get_or es n d
next_same zero f es d low = refl
next_same (suc n) f [] d low = absurd (omega (arith, low))
next_same (suc n) f (e ∷ es) d low = next_same n f es d (omega (arith, low))

next_changed : (n : ℕ) (f : Row → Row) (es : List Row) (d : Row) → n < length es
    → set (changed n f es) n (f (get_or es n d)) ≡ changed (suc n) f es
next_changed zero f [] d low = absurd (omega (arith, low))
next_changed zero f (e ∷ es) d low = refl
next_changed (suc n) f [] d low = absurd (omega (arith, low))
next_changed (suc n) f (e ∷ es) d low = ap (λ (t : List Row). f e ∷ t) (next_changed n f es d (omega (arith, low)))

pub one_changed : (n : ℕ) (f : Row → Row) (es now : List Row) (row d : Row) → n < length es → now ≡ changed n f es
    → row ≡ f (get_or now n d) → set now n row ≡ changed (n + 1) f es
one_changed n f es now row d low is changes =
    ap (λ (t : List Row). set t n row) is ∙ ap (λ (x : Row). set (changed n f es) n x) (changes
    ∙ ap (λ (t : List Row). f (get_or t n d)) is ∙ ap f (next_same n f es d low))
    ∙ next_changed n f es d low ∙ ap (λ m. changed m f es) (one n) where
      one : (m : ℕ) → suc m ≡ m + 1
      one m = omega arith

pub all_changed : (n : ℕ) (f : Row → Row) (es : List Row) → length es ≤ n → changed n f es ≡ map f es
all_changed zero f [] low = refl
all_changed zero f (e ∷ es) low = absurd (omega (arith, low))
all_changed (suc n) f [] low = refl
all_changed (suc n) f (e ∷ es) low = ap (λ (t : List Row). f e ∷ t) (all_changed n f es (omega (arith, low)))

pub holds_now : (P : Earner → Type 0) (f : Row → Earner) (es : List Row) (n : ℕ) (d : Row) → AllByRecursion P (map f es)
    → n < length es → P (f (get_or es n d))
holds_now P f [] n d h low = absurd (omega (arith, low))
holds_now P f (e ∷ es) zero d h low = h.0
holds_now P f (e ∷ es) (suc n) d h low = holds_now P f es n d h.1 (omega (arith, low))
