-- Tables stay in the order of their keys, whatever row is written or taken out.
use Rattle.std.proofs.Common.{◌≡◌, ℕ, Bool, true, false, cond, List, [], ◌∷◌, refl, ap, ◌∙◌}
use Rattle.std.specs.BTreeMap.{insert_entry}
use Rattle.std.specs.Cmp.{IsTotalOrder}
use Rattle.std.specs.Prelude.{◌==◌}
use Rattle.std.specs.List.{AllByRecursion}
use Rattle.std.specs.List.Sorted.{IsStrictlySortedBy}
use Rattle.std.specs.Ordering.{nat_cmp, is_eq, match_ordering, ordering_reverse}
use Rattle.std.specs.declared.cmp.Ordering.{Ordering}
use Rattle.std.specs.declared.cmp.Ordering.TheVariants.{Less, Equal, Greater}
use Rattle.std.specs.Map.{keys_of}
use Rattle.std.proofs.lemmas.Cmp.{nat_cmp_total}
use Rattle.liq_types.specs.declared.figures.Wallet.{Wallet}
use Rattle.liq_types.specs.State.{with_wallet, with_surplus, is_used_wallet}
use Rattle.liq_types.specs.Tables.{Table, put, without}
use Rattle.liq_types.specs.WellFormed.{Ascends}

-- ---- keys in any total order

module _ {K X : Type 0} {R : K → K → Ordering} (o : IsTotalOrder R) where
  abbrev IsBelow : K → List (K × X) → Type 0
  IsBelow key table = AllByRecursion (λ y. R key y ≡ Less) (keys_of table)

  pub below_more : (a b : K) (table : List (K × X)) → R a b ≡ Less → IsBelow b table → IsBelow a table
  below_more a b [] l h = tt
  below_more a b (e ∷ es) l h = (o.trans a b e.0 l h.0, below_more a b es l h.1)

  below-insert : (b : K) (table : List (K × X)) (key : K) (x : X) → R b key ≡ Less → IsBelow b table
      → IsBelow b (insert_entry R table key x)
  below-insert b [] key x l h = (l, tt)
  below-insert b (e ∷ es) key x l h = by (R key e.0) (below-insert b es key x l h.1) where
    by : (c : Ordering) → IsBelow b (insert_entry R es key x)
        → IsBelow b (match_ordering c ((key, x) ∷ e ∷ es) ((e.0, x) ∷ es) (e ∷ insert_entry R es key x))
    by Less more = (l, h)
    by Equal more = h
    by Greater more = (h.0, more)

  pub insert-ascends : (table : List (K × X)) (key : K) (x : X) → IsStrictlySortedBy R (keys_of table)
      → IsStrictlySortedBy R (keys_of (insert_entry R table key x))
  unfolding IsStrictlySortedBy
  insert-ascends [] key x h = (tt, tt)
  insert-ascends (e ∷ es) key x h = by (R key e.0) refl (insert-ascends es key x h.1) where
    by : (c : Ordering) → R key e.0 ≡ c → IsStrictlySortedBy R (keys_of (insert_entry R es key x))
        → IsStrictlySortedBy R (keys_of (match_ordering c ((key, x) ∷ e ∷ es) ((e.0, x) ∷ es) (e
        ∷ insert_entry R es key x)))
    by Less is more = ((is, below_more key e.0 es is h.0), h)
    by Equal is more = h
    by Greater is more = (below-insert e.0 es key x (o.antisymm e.0 key ∙ ap ordering_reverse is) h.0, more)

-- ---- numbers

module _ {X : Type 0} where
  abbrev Below : ℕ → Table X → Type 0
  Below key table = AllByRecursion (λ y. nat_cmp key y ≡ Less) (keys_of table)

  below-without : (b : ℕ) (table : Table X) (key : ℕ) → Below b table → Below b (without table key)
  below-without b [] key h = tt
  below-without b (e ∷ es) key h = by (is_eq (nat_cmp key e.0)) (below-without b es key h.1) where
    by : (c : Bool) → Below b (without es key) → Below b (cond c es (e ∷ without es key))
    by true more = h.1
    by false more = (h.0, more)

  pub put-ascends : (table : Table X) (key : ℕ) (x : X) → Ascends table → Ascends (put table key x)
  put-ascends table key x h = insert-ascends nat_cmp_total table key x h

  pub without-ascends : (table : Table X) (key : ℕ) → Ascends table → Ascends (without table key)
  unfolding IsStrictlySortedBy
  without-ascends [] key h = tt
  without-ascends (e ∷ es) key h = by (is_eq (nat_cmp key e.0)) (without-ascends es key h.1) where
    by : (c : Bool) → Ascends (without es key) → Ascends (cond c es (e ∷ without es key))
    by true more = h.1
    by false more = (below-without e.0 es key h.0, more)

  pub either-ascends : (b : Bool) (table : Table X) (key : ℕ) (x : X) → Ascends table
      → Ascends (cond b (put table key x) (without table key))
  either-ascends true table key x h = put-ascends table key x h
  either-ascends false table key x h = without-ascends table key h

  pub none-ascends : (b : Bool) (table : Table X) (key : ℕ) (x : X) → Ascends table
      → Ascends (cond b (without table key) (put table key x))
  none-ascends true table key x h = without-ascends table key h
  none-ascends false table key x h = put-ascends table key x h

pub wallet-ascends : (table : Table Wallet) (account : ℕ) (w : Wallet) → Ascends table
    → Ascends (with_wallet table account w)
wallet-ascends table account w h = either-ascends (is_used_wallet w) table account w h

pub surplus-ascends : (table : Table ℕ) (account coll : ℕ) → Ascends table → Ascends (with_surplus table account coll)
surplus-ascends table account coll h = none-ascends (coll == 0) table account coll h
