-- The reply of an allowed call is one that a client's row may keep.
use Rattle.std.proofs.Common.{◌≡◌, ℕ, zero, suc, ◌≤◌, true, List, [], ◌∷◌, ◌++◌, None, refl, subst, arith, length, length-append, take, drop}
use Rattle.std.specs.Prelude.{◌==◌, replicate}
use Rattle.std.specs.List.{list_all}
use Rattle.liq_types.specs.declared.requests.Call.{Call}
use Rattle.liq_types.specs.Codes.{value_count}
use Rattle.liq_types.specs.Rules.{first_refusal}
use Rattle.liq_types.specs.State.{State}
use Rattle.liq_rule_step.specs.Rules.{rules, values, six, done_of}
use Rattle.liq_core.specs.Sound.{IsKeptRow}
use Rattle.liq_rule_step.specs.Verbs.{kind}
use Rattle.liq_rule_step.proofs.Counting.{values_count}
use Rattle.liq_rule_sound.proofs.SoundStep.{kind_range}

abbrev is_zero : List ℕ → Type 0
is_zero xs = list_all (λ value. value == 0) xs ≡ true

-- all of the rest of a list of zeros is zero
zeros : (m : ℕ) (k : ℕ) → is_zero (take m (replicate k 0))
zeros zero k = refl
zeros (suc m) zero = refl
zeros (suc m) (suc k) = zeros m k

behind : (shown : List ℕ) (m : ℕ) → is_zero (drop (length shown) (take m (shown ++ replicate 6 0)))
behind [] m = zeros m 6
behind (x ∷ shown) zero = refl
behind (x ∷ shown) (suc m) = behind shown m

pub six_shown : (shown : List ℕ) (n : ℕ) → length shown ≡ n → is_zero (drop n (six shown))
six_shown shown n e = subst (λ k. is_zero (drop k (six shown))) e (behind shown 6)

full : (m : ℕ) (xs : List ℕ) → m ≤ length xs → length (take m xs) ≡ m
full zero xs h = refl
full (suc m) [] h = absurd (none h) where
  none : suc m ≤ 0 → ⊥
  none k = omega (arith, k)
full (suc m) (x ∷ xs) h = let rest = full m xs (omega (arith, h)) in omega (arith, rest)

pub six_values : (shown : List ℕ) → length (six shown) ≡ 6
six_values shown =
    full 6 (shown ++ replicate 6 0) (let all = length-append shown (replicate 6 0) in omega (arith, all))

pub kept_reply : (s : State) (call : Call) (number : ℕ) → first_refusal (rules s call) ≡ None → 1 ≤ number
    → IsKeptRow (record { last = number; kept = done_of s call })
kept_reply s call number h some =
    record {
      form = record { last = some; kind = kind_range call; values = six_values (values s call) };
      shown = six_shown (values s call) (value_count (kind call)) (values_count s call h);
    }
