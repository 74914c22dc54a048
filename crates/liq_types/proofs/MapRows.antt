-- Tables of which each row is changed by itself.
use Rattle.std.proofs.Common.{◌≡◌, ℕ, ◌+◌, Bool, true, false, cond, [], ◌∷◌, refl, ap, ◌∙◌, Some, suc}
use Rattle.std.specs.Prelude.{option_map, fold, sum_by, length}
use Rattle.std.specs.List.{AllByRecursion}
use Rattle.std.specs.Ordering.{nat_cmp, is_eq, match_ordering}
use Rattle.std.specs.declared.cmp.Ordering.{Ordering}
use Rattle.std.specs.declared.cmp.Ordering.TheVariants.{Less, Equal, Greater}
use Rattle.std.specs.Map.{values_of}
use Rattle.liq_types.specs.Tables.{Table, at, put, without, map_rows}

module _ {X Y : Type 0} (f : X → Y) where
  pub at-map : (table : Table X) (key : ℕ) → at (map_rows f table) key ≡ option_map f (at table key)
  at-map [] key = refl
  at-map (e ∷ es) key = by (is_eq (nat_cmp key e.0)) (at-map es key) where
    by : (b : Bool) → at (map_rows f es) key ≡ option_map f (at es key) → cond b (Some (f e.1)) (at (map_rows f es) key)
        ≡ option_map f (cond b (Some e.1) (at es key))
    by true h = refl
    by false h = h

  pub map-put : (table : Table X) (key : ℕ) (x : X) → map_rows f (put table key x) ≡ put (map_rows f table) key (f x)
  map-put [] key x = refl
  map-put (e ∷ es) key x = by (nat_cmp key e.0) (map-put es key x) where
    by : (o : Ordering) → map_rows f (put es key x) ≡ put (map_rows f es) key (f x)
        → map_rows f (match_ordering o ((key, x) ∷ e ∷ es) ((e.0, x) ∷ es) (e ∷ put es key x))
        ≡ match_ordering o ((key, f x) ∷ (e.0, f e.1) ∷ map_rows f es) ((e.0, f x) ∷ map_rows f es) ((e.0, f e.1)
        ∷ put (map_rows f es) key (f x))
    by Less h = refl
    by Equal h = refl
    by Greater h = ap (λ (t : Table Y). (e.0, f e.1) ∷ t) h

  pub map-without : (table : Table X) (key : ℕ) → map_rows f (without table key) ≡ without (map_rows f table) key
  map-without [] key = refl
  map-without (e ∷ es) key = by (is_eq (nat_cmp key e.0)) (map-without es key) where
    by : (b : Bool) → map_rows f (without es key) ≡ without (map_rows f es) key
        → map_rows f (cond b es (e ∷ without es key)) ≡ cond b (map_rows f es) ((e.0, f e.1)
        ∷ without (map_rows f es) key)
    by true h = refl
    by false h = ap (λ (t : Table Y). (e.0, f e.1) ∷ t) h

  pub map-length : (table : Table X) → length (map_rows f table) ≡ length table
  map-length [] = refl
  map-length (e ∷ es) = ap suc (map-length es)

  sum_from : (g : Y → ℕ) (table : Table X) (n : ℕ) → fold (λ a y. a + g y) n (values_of (map_rows f table))
      ≡ fold (λ a x. a + g (f x)) n (values_of table)
  sum_from g [] n = refl
  sum_from g (e ∷ es) n = sum_from g es (n + g (f e.1))

  pub map-sum : (g : Y → ℕ) (table : Table X) → sum_by g (values_of (map_rows f table))
      ≡ sum_by (λ x. g (f x)) (values_of table)
  map-sum g table = sum_from g table 0

  pub map-cong : (g : X → Y) (P : X → Type 0) → ((x : X) → P x → f x ≡ g x) → (table : Table X)
      → AllByRecursion (λ (row : ℕ × X). P row.1) table → map_rows f table ≡ map_rows g table
  map-cong g P same [] h = refl
  map-cong g P same (e ∷ es) h =
      ap (λ (y : Y). (e.0, y) ∷ map_rows f es) (same e.1 h.0)
      ∙ ap (λ (t : Table Y). (e.0, g e.1) ∷ t) (map-cong g P same es h.1)

module _ {X : Type 0} (P : X → Type 0) where
  abbrev Rows : Table X → Type 0
  Rows table = AllByRecursion (λ (row : ℕ × X). P row.1) table

  pub all-put : (table : Table X) (key : ℕ) (x : X) → P x → Rows table → Rows (put table key x)
  all-put [] key x p h = (p, tt)
  all-put (e ∷ es) key x p h = by (nat_cmp key e.0) (all-put es key x p h.1) where
    by : (o : Ordering) → Rows (put es key x)
        → Rows (match_ordering o ((key, x) ∷ e ∷ es) ((e.0, x) ∷ es) (e ∷ put es key x))
    by Less more = (p, h)
    by Equal more = (p, h.1)
    by Greater more = (h.0, more)

  pub all-without : (table : Table X) (key : ℕ) → Rows table → Rows (without table key)
  all-without [] key h = tt
  all-without (e ∷ es) key h = by (is_eq (nat_cmp key e.0)) (all-without es key h.1) where
    by : (b : Bool) → Rows (without es key) → Rows (cond b es (e ∷ without es key))
    by true more = h.1
    by false more = (h.0, more)

  pub all-weaken : (Q : X → Type 0) → ((x : X) → P x → Q x) → (table : Table X) → Rows table
      → AllByRecursion (λ (row : ℕ × X). Q row.1) table
  all-weaken Q w [] h = tt
  all-weaken Q w (e ∷ es) h = (w e.1 h.0, all-weaken Q w es h.1)
