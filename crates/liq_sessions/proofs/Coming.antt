-- What is still to come begins with the next call.
use Rattle.std.proofs.Common.{◌≡◌, ℕ, ◌+◌, ◌-◌, ◌%◌, ◌≤◌, ◌<◌, zero, suc, length, ◌∷◌, ◌++◌, refl, ap, sym, ◌∙◌, length-append, arith}
use Rattle.std.specs.Prelude.{map}
use Rattle.std.specs.List.{range_with_len}
use Rattle.std.proofs.lemmas.List.FromFn.{length-map-range_with_len}
use Rattle.liq_sessions.specs.Generated.{PREAMBLE, OWNERS, after_draw, after_call, call_of, drawn, drawn_call, opening_call, preamble_from, shown, to_come}

pub opens : (x before left : ℕ) → before < PREAMBLE → to_come x before left ≡ opening_call before
    ∷ to_come x (before + 1) left
opens x before left h =
    let more : PREAMBLE - before ≡ suc (PREAMBLE - (before + 1)) = omega (arith, h) in
    ap (λ n. map opening_call (range_with_len before n) ++ drawn x left) more

pub draws : (x before left : ℕ) → PREAMBLE ≤ before → (1 ≤ left)
    → to_come x before left ≡ drawn_call x ∷ to_come (after_call x) before (left - 1)
draws x before left h some = at (left - 1) (omega (arith, some)) where
  none : PREAMBLE - before ≡ 0
  none = omega (arith, h)

  at : (n : ℕ) → left ≡ suc n → to_come x before left ≡ drawn_call x ∷ to_come (after_call x) before n
  at n e =
      ap (λ (m : ℕ). map opening_call (range_with_len before m) ++ drawn x left) none
      ∙ ap (λ m. drawn x m) e
      ∙ ap (λ (m : ℕ). drawn_call x ∷ (map opening_call (range_with_len before m) ++ drawn (after_call x) n)) (sym none)

-- three draws make a call
pub three_draws : (x kind account number k a v : ℕ) → kind ≡ after_draw x → account ≡ after_draw kind
    → number ≡ after_draw account → k ≡ shown kind → a ≡ shown account → v ≡ shown number
    → call_of (k % 16) (1 + a % OWNERS) v ≡ drawn_call x
three_draws x kind account number k a v first second third k_is a_is v_is =
    let then : account ≡ after_draw (after_draw x) = second ∙ ap after_draw first in
    let last : number ≡ after_call x = third ∙ ap after_draw then in
    ap (λ n. call_of (n % 16) (1 + a % OWNERS) v) (k_is ∙ ap shown first)
    ∙ ap (λ n. call_of (shown (after_draw x) % 16) (1 + n % OWNERS) v) (a_is ∙ ap shown then)
    ∙ ap (λ n. call_of (shown (after_draw x) % 16) (1 + shown (after_draw (after_draw x)) % OWNERS) n) (v_is
    ∙ ap shown last)

pub drawn_length : (x count : ℕ) → length (drawn x count) ≡ count
drawn_length x zero = refl
drawn_length x (suc more) = ap suc (drawn_length (after_call x) more)

pub coming_length : (x before left : ℕ) → length (to_come x before left) ≡ (PREAMBLE - before) + left
coming_length x before left =
    let opening = length-map-range_with_len opening_call before (PREAMBLE - before) in
    length-append (preamble_from before) (drawn x left) ∙ ap (λ n. n + length (drawn x left)) opening
    ∙ ap (λ n. (PREAMBLE - before) + n) (drawn_length x left)
