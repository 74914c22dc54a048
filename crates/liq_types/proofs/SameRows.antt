-- Tables with equal rows at all keys are equal, and what follows from it.
use Rattle.std.proofs.Common.{◌≡◌, ℕ, Bool, true, false, cond, [], ◌∷◌, refl, ap, sym, subst, ◌∙◌, Some, None, Option}
use Rattle.std.specs.Prelude.{◌==◌, unwrap_or}
use Rattle.std.specs.BTreeMap.{is_at}
use Rattle.std.specs.List.{AllByRecursion}
use Rattle.std.specs.Map.{keys_of}
use Rattle.std.specs.Ordering.{nat_cmp, is_eq, ordering_reverse}
use Rattle.std.specs.declared.cmp.Ordering.{Ordering}
use Rattle.std.specs.declared.cmp.Ordering.TheVariants.{Less, Equal, Greater}
use Rattle.std.proofs.lemmas.Bool.{eqb-true}
use Rattle.std.proofs.lemmas.Cmp.{nat_cmp_total}
use Rattle.std.proofs.lemmas.Map.{lookup-none}
use Rattle.std.proofs.lemmas.Map.Entries.{none_below_head}
use Rattle.std.proofs.lemmas.Map.Keys.{sorted_head, sorted_tail}
use Rattle.std.proofs.lemmas.Map.Lookups.{exact_unsigned}
use Rattle.liq_types.specs.Tables.{Table, at, put, without}
use Rattle.liq_types.specs.WellFormed.{Ascends}
use Rattle.liq_types.proofs.Ascending.{put-ascends, without-ascends}
use Rattle.liq_types.proofs.Lookups.{is_eq-same, same_key, at-put_same, at-put_other, at-without_same, at-without_other}

module _ {X : Type 0} where
  at_head : (x : ℕ × X) (xs : Table X) → at (x ∷ xs) x.0 ≡ Some x.1
  at_head x xs = ap (λ b. cond b (Some x.1) (at xs x.0)) (is_eq-same x.0)

  not_none : (x : X) → None ≡ Some x → ⊥
  not_none x e = cc

  below_head : (key : ℕ) (table : Table X) → Ascends table → AllByRecursion (λ y. nat_cmp key y ≡ Less) (keys_of table)
      → at table key ≡ None
  below_head key [] s h = refl
  below_head key (e ∷ es) s h = lookup-none (is_at (nat_cmp key)) (e ∷ es)
      (none_below_head nat_cmp_total key e es s h.0)

  head_gone : (x : ℕ × X) (xs : Table X) → Ascends (x ∷ xs) → at xs x.0 ≡ None
  head_gone x xs s = below_head x.0 xs (sorted_tail nat_cmp x.0 (keys_of xs) s) (sorted_head nat_cmp x.0 (keys_of xs) s)

  -- the first keys are equal
  same_heads : (x y : ℕ × X) (xs ys : Table X) → Ascends (x ∷ xs) → Ascends (y ∷ ys)
      → ((q : ℕ) → at (x ∷ xs) q ≡ at (y ∷ ys) q) → x.0 ≡ y.0
  same_heads x y xs ys s t h = by (nat_cmp x.0 y.0) refl where
    by : (o : Ordering) → nat_cmp x.0 y.0 ≡ o → x.0 ≡ y.0
    by Less is =
        absurd (not_none x.1 (sym (lookup-none (is_at (nat_cmp x.0)) (y ∷ ys) (none_below_head nat_cmp_total x.0 y ys t
        is)) ∙ sym (h x.0) ∙ at_head x xs))
    by Equal is = exact_unsigned x.0 y.0 is
    by Greater is =
        absurd (not_none y.1 (sym (lookup-none (is_at (nat_cmp y.0)) (x ∷ xs) (none_below_head nat_cmp_total y.0 x xs s
        (nat_cmp_total.antisymm y.0 x.0 ∙ ap ordering_reverse is))) ∙ h y.0 ∙ at_head y ys))

  rest_of : (x : ℕ × X) (xs : Table X) (q : ℕ) → is_eq (nat_cmp q x.0) ≡ false → at (x ∷ xs) q ≡ at xs q
  rest_of x xs q n = ap (λ b. cond b (Some x.1) (at xs q)) n

  same_tails : (x y : ℕ × X) (xs ys : Table X) → Ascends (x ∷ xs) → Ascends (y ∷ ys) → x.0 ≡ y.0
      → ((q : ℕ) → at (x ∷ xs) q ≡ at (y ∷ ys) q) → (q : ℕ) → at xs q ≡ at ys q
  same_tails x y xs ys s t e h q = by (is_eq (nat_cmp q x.0)) refl where
    by : (b : Bool) → is_eq (nat_cmp q x.0) ≡ b → at xs q ≡ at ys q
    by true is =
        let here = same_key q x.0 is in
        subst (λ k. at xs k ≡ None) (sym here) (head_gone x xs s)
        ∙ sym (subst (λ k. at ys k ≡ None) (sym (here ∙ e)) (head_gone y ys t))
    by false is = sym (rest_of x xs q is) ∙ h q ∙ rest_of y ys q (subst (λ k. is_eq (nat_cmp q k) ≡ false) e is)

  pub same_rows : (s t : Table X) → Ascends s → Ascends t → ((q : ℕ) → at s q ≡ at t q) → s ≡ t
  same_rows [] [] a b h = refl
  same_rows [] (y ∷ ys) a b h = absurd (not_none y.1 (h y.0 ∙ at_head y ys))
  same_rows (x ∷ xs) [] a b h = absurd (not_none x.1 (sym (h x.0) ∙ at_head x xs))
  same_rows (x ∷ xs) (y ∷ ys) a b h =
      let key = same_heads x y xs ys a b h in
      let row : x.1 ≡ y.1 = ap (λ (o : Option X). unwrap_or o x.1) (sym (at_head x xs) ∙ h x.0
      ∙ subst (λ k. at (y ∷ ys) k ≡ Some y.1) (sym key) (at_head y ys)) in
      let tails = same_rows xs ys (sorted_tail nat_cmp x.0 (keys_of xs) a) (sorted_tail nat_cmp y.0 (keys_of ys) b)
      (same_tails x y xs ys a b key h) in
      λ i. (key i, row i) ∷ tails i

-- ---- what was taken out is put back

pub put-back : {X : Type 0} (table : Table X) (key : ℕ) (x : X) → Ascends table → at table key ≡ Some x
    → table ≡ put (without table key) key x
put-back {X} table key x s h =
    same_rows table (put (without table key) key x) s (put-ascends (without table key) key x
    (without-ascends table key s)) rows where
      rows : (q : ℕ) → at table q ≡ at (put (without table key) key x) q
      rows q = by (key == q) refl where
        by : (b : Bool) → (key == q) ≡ b → at table q ≡ at (put (without table key) key x) q
        by true is =
            subst (λ k. at table k ≡ at (put (without table key) key x) k) (eqb-true key q is) (h
            ∙ sym (at-put_same (without table key) key x))
        by false is = sym (at-put_other (without table key) key x q is ∙ at-without_other table key q is)

pub without-absent : {X : Type 0} (table : Table X) (key : ℕ) → Ascends table → at table key ≡ None
    → without table key ≡ table
without-absent {X} table key s h = same_rows (without table key) table (without-ascends table key s) s rows where
  rows : (q : ℕ) → at (without table key) q ≡ at table q
  rows q = by (key == q) refl where
    by : (b : Bool) → (key == q) ≡ b → at (without table key) q ≡ at table q
    by true is = subst (λ k. at (without table key) k ≡ at table k) (eqb-true key q is) (at-without_same table key s
        ∙ sym h)
    by false is = at-without_other table key q is
