-- The numbers of a refusal, in two words each.
use Rattle.std.proofs.Common.{◌≡◌, ℕ, suc, ◌-◌, ◌*◌, ◌≤◌, List, [], ◌∷◌, length, take, drop, get_or, refl, ap, sym, ◌∙◌}
use Rattle.std.proofs.Common.{arith}
use Rattle.std.specs.List.{flat_map}
use Rattle.std.proofs.lemmas.List.{length-take-le}
use Rattle.liq_types.specs.declared.replies.Refusal.{Refusal}
use Rattle.liq_types.specs.declared.replies.Reply.TheVariants.{No}
use Rattle.liq_types.specs.Codes.{refusal_numbers, code_of}
use Rattle.liq_replies96.specs.Replies.{reply96, made, halves}
use Rattle.liq_replies96.proofs.Halving.{take-halves}

abbrev pub five : List ℕ → List ℕ
five ns = get_or ns 1 0 ∷ get_or ns 2 0 ∷ get_or ns 3 0 ∷ get_or ns 4 0 ∷ get_or ns 5 0 ∷ []

six : (ns : List ℕ) → length ns ≡ 6 → get_or ns 0 0 ∷ five ns ≡ ns
six [] h = absurd (omega (arith, h))
six (a ∷ []) h = absurd (omega (arith, h))
six (a ∷ b ∷ []) h = absurd (omega (arith, h))
six (a ∷ b ∷ c ∷ []) h = absurd (omega (arith, h))
six (a ∷ b ∷ c ∷ d ∷ []) h = absurd (omega (arith, h))
six (a ∷ b ∷ c ∷ d ∷ e ∷ []) h = absurd (omega (arith, h))
six (a ∷ b ∷ c ∷ d ∷ e ∷ f ∷ []) h = refl
six (a ∷ b ∷ c ∷ d ∷ e ∷ f ∷ g ∷ ns) h = absurd (omega (arith, h))

of_parts : (r : Refusal) (code : ℕ) (values : List ℕ) (k : ℕ)
    → k ≤ length values → code ∷ take k values ≡ refusal_numbers r
    → made 3 code k (take (2 * k) (flat_map halves values)) ≡ reply96 (No r)
unfolding reply96
of_parts r code values k low is =
    let shown = ap (λ (ns : List ℕ). drop 1 ns) is in
    let first : code ≡ code_of r = ap (λ (ns : List ℕ). get_or ns 0 0) is in
    let count = sym (length-take-le k values low) ∙ ap (λ (ns : List ℕ). length ns) shown in
    let words = take-halves k values ∙ ap (λ (ns : List ℕ). flat_map halves ns) shown in
    λ i. made 3 (first i) (count i) (words i)

-- Behind its code stand up to five values.
pub refused : (r : Refusal) (ns : List ℕ) (count : ℕ)
    → length ns ≡ 6 → 1 ≤ count → count ≤ 6 → take count ns ≡ refusal_numbers r
    → made 3 (get_or ns 0 0) (count - 1) (take (2 * (count - 1)) (flat_map halves (five ns))) ≡ reply96 (No r)
refused r ns count long some few is =
    let one : suc (count - 1) ≡ count = omega (arith, some) in
    of_parts r (get_or ns 0 0) (five ns) (count - 1) (omega (arith, few))
    (ap (λ (k : ℕ). take k (get_or ns 0 0 ∷ five ns)) one ∙ ap (take count) (six ns long) ∙ is)
