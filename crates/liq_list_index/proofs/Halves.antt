-- The order of entries whose keys are in halves is the one of what they stand for.
use Rattle.std.proofs.Common.{◌≡◌, ℕ, ℤ, pos, ◌<◌, ◌^◌, ◌*ℤ◌, ◌+ℤ◌, refl, ap, ◌∙◌, arith}
use Rattle.std.proofs.lemmas.Cmp.{ranked as nat_ranked, int_ranked}
use Rattle.std.proofs.lemmas.Int.{ints}
use Rattle.std.specs.Prelude.{◌<ℤ◌}
use Rattle.std.specs.Ordering.{MatchOrdering, ordering_then, int_cmp, nat_cmp}
use Rattle.std.specs.declared.cmp.Ordering.{Ordering}
use Rattle.std.specs.declared.cmp.Ordering.TheVariants.{Less, Equal, Greater}
use Rattle.liq_types.specs.Ranked.{rank_order}
use Rattle.liq_list_index.specs.declared.longs.Long.{Long}
use Rattle.liq_list_index.specs.EntrySets.{IsHalved, ranked_long}

-- the order that `Long` derives
abbrev pub halved_order : Long → Long → Ordering
halved_order a b =
    ordering_then (int_cmp a.high b.high) (ordering_then (nat_cmp a.low b.low) (nat_cmp a.account b.account))

key_order : (h k : ℤ) (l m : ℕ) → l < 2 ^ 64 → m < 2 ^ 64 → ordering_then (int_cmp h k) (nat_cmp l m)
    ≡ int_cmp (h *ℤ pos (2 ^ 64) +ℤ pos l) (k *ℤ pos (2 ^ 64) +ℤ pos m)
key_order h k l m below beneath = by (int_cmp h k) (int_ranked h k (int_cmp h k) refl) (nat_cmp l m)
    (nat_ranked l m (nat_cmp l m) refl) (int_cmp a b) (int_ranked a b (int_cmp a b) refl) where
      a : ℤ
      a = h *ℤ pos (2 ^ 64) +ℤ pos l

      b : ℤ
      b = k *ℤ pos (2 ^ 64) +ℤ pos m

      by : (o : Ordering) → MatchOrdering o (h <ℤ k) (h ≡ k) (k <ℤ h) → (p : Ordering)
          → MatchOrdering p (l < m) (l ≡ m) (m < l) → (q : Ordering)
          → MatchOrdering q ((h *ℤ pos (2 ^ 64) +ℤ pos l) <ℤ (k *ℤ pos (2 ^ 64) +ℤ pos m)) ((h *ℤ pos (2 ^ 64) +ℤ pos l)
          ≡ (k *ℤ pos (2 ^ 64) +ℤ pos m)) ((k *ℤ pos (2 ^ 64) +ℤ pos m) <ℤ (h *ℤ pos (2 ^ 64) +ℤ pos l))
          → ordering_then o p ≡ q
      by Less x p y Less z = refl
      by Less x p y Equal z = absurd (omega (arith, ints))
      by Less x p y Greater z = absurd (omega (arith, ints))
      by Greater x p y Less z = absurd (omega (arith, ints))
      by Greater x p y Equal z = absurd (omega (arith, ints))
      by Greater x p y Greater z = refl
      by Equal x Less y Less z = refl
      by Equal x Less y Equal z = absurd (omega (arith, ints))
      by Equal x Less y Greater z = absurd (omega (arith, ints))
      by Equal x Equal y Less z = absurd (omega (arith, ints))
      by Equal x Equal y Equal z = refl
      by Equal x Equal y Greater z = absurd (omega (arith, ints))
      by Equal x Greater y Less z = absurd (omega (arith, ints))
      by Equal x Greater y Equal z = absurd (omega (arith, ints))
      by Equal x Greater y Greater z = refl

then_then : (o p q : Ordering) → ordering_then o (ordering_then p q) ≡ ordering_then (ordering_then o p) q
then_then Less p q = refl
then_then Equal p q = refl
then_then Greater p q = refl

pub long_order : (a b : Long) → IsHalved a → IsHalved b → halved_order a b ≡ rank_order (ranked_long a) (ranked_long b)
long_order a b below beneath =
    then_then (int_cmp a.high b.high) (nat_cmp a.low b.low) (nat_cmp a.account b.account)
    ∙ ap (λ o. ordering_then o (nat_cmp a.account b.account)) (key_order a.high b.high a.low b.low below beneath)
