-- What a table has at a key after another row was written, or taken out: stated for keys in any total order, and for
-- numbers.
use Rattle.std.proofs.Common.{◌≡◌, ℕ, ◌+◌, Bool, true, false, cond, List, [], ◌∷◌, length, refl, ap, sym, ◌∙◌, subst, Some, None, Option, arith}
use Rattle.std.specs.BTreeMap.{insert_entry, is_at}
use Rattle.std.specs.Prelude.{◌==◌}
use Rattle.std.specs.List.{AllByRecursion}
use Rattle.std.specs.List.Sorted.{IsStrictlySortedBy}
use Rattle.std.specs.Map.{keys_of, lookup, remove_entry}
use Rattle.std.specs.Ordering.{nat_cmp, is_eq, match_ordering, ordering_reverse}
use Rattle.std.specs.declared.cmp.Ordering.{Ordering}
use Rattle.std.specs.declared.cmp.Ordering.TheVariants.{Less, Equal, Greater}
use Rattle.std.proofs.lemmas.Bool.{eqb-true, eq-eqb}
use Rattle.std.specs.Cmp.{IsTotalOrder}
use Rattle.std.proofs.lemmas.Cmp.{nat_cmp_total, tied_itself, alike_right}
use Rattle.std.proofs.lemmas.Map.Keys.{sorted_head, sorted_tail}
use Rattle.liq_types.specs.Tables.{Table, at, put, without}
use Rattle.liq_types.specs.WellFormed.{Ascends}
use Rattle.liq_types.proofs.Places.{nat_cmp-eq}

-- ---- keys in any total order

is_eq-reverse : (c : Ordering) → is_eq (ordering_reverse c) ≡ is_eq c
is_eq-reverse Less = refl
is_eq-reverse Equal = refl
is_eq-reverse Greater = refl

tied : (c : Ordering) → is_eq c ≡ true → c ≡ Equal
tied Less h = cc
tied Equal h = refl
tied Greater h = cc

module _ {K : Type 0} {R : K → K → Ordering} (o : IsTotalOrder R) where
  apart_turned : (key q : K) → is_eq (R key q) ≡ false → is_eq (R q key) ≡ false
  apart_turned key q h = ap is_eq (o.antisymm q key) ∙ is_eq-reverse (R key q) ∙ h

  -- what stands at a key that is tied with the one is not at another
  away : (key a q : K) → R key a ≡ Equal → is_eq (R key q) ≡ false → is_eq (R q a) ≡ false
  away key a q same h = ap is_eq (sym (alike_right o key a q same)) ∙ apart_turned key q h

module _ {K X : Type 0} {R : K → K → Ordering} (o : IsTotalOrder R) where
  abbrev found : List (K × X) → K → Option X
  found table key = lookup (is_at (R key)) table

  found-put_same : (table : List (K × X)) (key : K) (x : X) → found (insert_entry R table key x) key ≡ Some x
  found-put_same [] key x = ap (λ c. cond (is_eq c) (Some x) None) (tied_itself o key)
  found-put_same (e ∷ es) key x = by (R key e.0) refl (found-put_same es key x) where
    by : (c : Ordering) → R key e.0 ≡ c → found (insert_entry R es key x) key ≡ Some x
        → found (match_ordering c ((key, x) ∷ e ∷ es) ((e.0, x) ∷ es) (e ∷ insert_entry R es key x)) key ≡ Some x
    by Less is h = ap (λ c. cond (is_eq c) (Some x) (found (e ∷ es) key)) (tied_itself o key)
    by Equal is h = ap (λ c. cond (is_eq c) (Some x) (found es key)) is
    by Greater is h = ap (λ c. cond (is_eq c) (Some e.1) (found (insert_entry R es key x) key)) is ∙ h

  found-put_other : (table : List (K × X)) (key : K) (x : X) (q : K) → is_eq (R key q) ≡ false
      → found (insert_entry R table key x) q ≡ found table q
  found-put_other [] key x q h = ap (λ b. cond b (Some x) None) (apart_turned o key q h)
  found-put_other (e ∷ es) key x q h = by (R key e.0) refl (found-put_other es key x q h) where
    by : (c : Ordering) → R key e.0 ≡ c → found (insert_entry R es key x) q ≡ found es q
        → found (match_ordering c ((key, x) ∷ e ∷ es) ((e.0, x) ∷ es) (e ∷ insert_entry R es key x)) q
        ≡ found (e ∷ es) q
    by Less is k = ap (λ b. cond b (Some x) (found (e ∷ es) q)) (apart_turned o key q h)
    by Equal is k =
        ap (λ b. cond b (Some x) (found es q)) (away o key e.0 q is h)
        ∙ sym (ap (λ b. cond b (Some e.1) (found es q)) (away o key e.0 q is h))
    by Greater is k = ap (λ (f : Option X). cond (is_eq (R q e.0)) (Some e.1) f) k

  found_below : (key a : K) (table : List (K × X)) → R key a ≡ Equal
      → AllByRecursion (λ y. R a y ≡ Less) (keys_of table) → found table key ≡ None
  found_below key a [] same h = refl
  found_below key a (e ∷ es) same h =
      ap (λ c. cond (is_eq c) (Some e.1) (found es key)) (o.congr key a e.0 same ∙ h.0) ∙ found_below key a es same h.1

  found-without_same : (table : List (K × X)) (key : K) → IsStrictlySortedBy R (keys_of table)
      → found (remove_entry (is_at (R key)) table) key ≡ None
  found-without_same [] key s = refl
  found-without_same (e ∷ es) key s =
      by (is_eq (R key e.0)) refl (found-without_same es key (sorted_tail R e.0 (keys_of es) s)) where
        by : (b : Bool) → is_eq (R key e.0) ≡ b → found (remove_entry (is_at (R key)) es) key ≡ None
            → found (cond b es (e ∷ remove_entry (is_at (R key)) es)) key ≡ None
        by true is h = found_below key e.0 es (tied (R key e.0) is) (sorted_head R e.0 (keys_of es) s)
        by false is h = ap (λ b. cond b (Some e.1) (found (remove_entry (is_at (R key)) es) key)) is ∙ h

  found-without_other : (table : List (K × X)) (key q : K) → is_eq (R key q) ≡ false
      → found (remove_entry (is_at (R key)) table) q ≡ found table q
  found-without_other [] key q h = refl
  found-without_other (e ∷ es) key q h = by (is_eq (R key e.0)) refl (found-without_other es key q h) where
    by : (b : Bool) → is_eq (R key e.0) ≡ b → found (remove_entry (is_at (R key)) es) q ≡ found es q
        → found (cond b es (e ∷ remove_entry (is_at (R key)) es)) q ≡ found (e ∷ es) q
    by true is k = sym (ap (λ b. cond b (Some e.1) (found es q)) (away o key e.0 q (tied (R key e.0) is) h))
    by false is k = ap (λ (f : Option X). cond (is_eq (R q e.0)) (Some e.1) f) k

-- ---- numbers

pub is_eq-same : (k : ℕ) → is_eq (nat_cmp k k) ≡ true
is_eq-same k = nat_cmp-eq k k ∙ eq-eqb k k refl

pub same_key : (j k : ℕ) → is_eq (nat_cmp j k) ≡ true → j ≡ k
same_key j k h = eqb-true j k (sym (nat_cmp-eq j k) ∙ h)

module _ {X : Type 0} where
  pub at-put_same : (table : Table X) (key : ℕ) (x : X) → at (put table key x) key ≡ Some x
  at-put_same table key x = found-put_same nat_cmp_total table key x

  pub at-put_other : (table : Table X) (key : ℕ) (x : X) (q : ℕ) → (key == q) ≡ false
      → at (put table key x) q ≡ at table q
  at-put_other table key x q h = found-put_other nat_cmp_total table key x q (nat_cmp-eq key q ∙ h)

  pub at-without_same : (table : Table X) (key : ℕ) → Ascends table → at (without table key) key ≡ None
  at-without_same table key s = found-without_same nat_cmp_total table key s

  pub at-without_other : (table : Table X) (key q : ℕ) → (key == q) ≡ false → at (without table key) q ≡ at table q
  at-without_other table key q h = found-without_other nat_cmp_total table key q (nat_cmp-eq key q ∙ h)

  -- what holds of each row holds of the one that is found
  pub all-at : (P : X → Type 0) (table : Table X) (key : ℕ) (x : X) → AllByRecursion (λ (row : ℕ × X). P row.1) table
      → at table key ≡ Some x → P x
  all-at P [] key x h f = cc
  all-at P (e ∷ es) key x h f = by (is_eq (nat_cmp key e.0)) f (all-at P es key x h.1) where
    the : Some e.1 ≡ Some x → e.1 ≡ x
    the k = cc

    by : (b : Bool) → cond b (Some e.1) (at es key) ≡ Some x → (at es key ≡ Some x → P x) → P x
    by true g more = subst P (the g) h.0
    by false g more = more g

  -- ---- how many rows

  pub length-put : (table : Table X) (key : ℕ) (x : X) → at table key ≡ None → length (put table key x)
      ≡ length table + 1
  length-put [] key x n = refl
  length-put (e ∷ es) key x n = by (nat_cmp key e.0) n (length-put es key x) where
    by : (c : Ordering) → cond (is_eq c) (Some e.1) (at es key) ≡ None
        → (at es key ≡ None → length (put es key x) ≡ length es + 1)
        → length (match_ordering c ((key, x) ∷ e ∷ es) ((e.0, x) ∷ es) (e ∷ put es key x)) ≡ length (e ∷ es) + 1
    by Less m more = omega arith
    by Equal m more = cc
    by Greater m more = let long = more m in omega (arith, long)

  pub length-without : (table : Table X) (key : ℕ) (x : X) → at table key ≡ Some x → length (without table key) + 1
      ≡ length table
  length-without [] key x h = cc
  length-without (e ∷ es) key x h = by (is_eq (nat_cmp key e.0)) h (length-without es key x) where
    by : (b : Bool) → cond b (Some e.1) (at es key) ≡ Some x → (at es key ≡ Some x → length (without es key) + 1
        ≡ length es) → length (cond b es (e ∷ without es key)) + 1 ≡ length (e ∷ es)
    by true g more = omega arith
    by false g more = let k = more g in omega (arith, k)
