-- Tables of which only the used rows are seen, and what writing a row does to what is seen.
use Rattle.std.proofs.Common.{◌≡◌, ℕ, Bool, true, false, cond, [], ◌∷◌, refl, ap, sym, subst, ◌∙◌, Some, None, Option, arith}
use Rattle.std.specs.Prelude.{unwrap_or, sum_by, ◌+◌}
use Rattle.std.specs.Option.{option_map}
use Rattle.std.specs.List.{AllByRecursion}
use Rattle.std.specs.List.Sorted.{IsStrictlySortedBy}
use Rattle.std.specs.declared.cmp.Ordering.{Ordering}
use Rattle.std.specs.declared.cmp.Ordering.TheVariants.{Less, Equal, Greater}
use Rattle.std.specs.Ordering.{nat_cmp, is_eq, match_ordering}
use Rattle.std.specs.Cmp.{nat_cmp_total, eq_by_cmp_equiv}
use Rattle.std.proofs.lemmas.Cmp.{tied_itself}
use Rattle.std.specs.Map.{keys_of, values_of}
use Rattle.std.proofs.lemmas.Map.Keys.{sorted_head, sorted_tail, IsDistinct-from_sorted}
use Rattle.std.proofs.lemmas.Map.Entries.{option_filter, lookup-filter-values, sum_by-insert_entry}
use Rattle.std.proofs.lemmas.Map.Lookups.{exact_unsigned}
use Rattle.liq_types.proofs.Ascending.{below_more}
use Rattle.liq_types.specs.Tables.{Table, at, put, without, rows}

module _ {X : Type 0} where
  -- the key stands before all of the table
  abbrev pub Below : ℕ → Table X → Type 0
  Below key table = AllByRecursion (λ y. nat_cmp key y ≡ Less) (keys_of table)

  below_rows : (test : X → Bool) (key : ℕ) (table : Table X) → Below key table → Below key (rows test table)
  below_rows test key [] h = tt
  below_rows test key (e ∷ es) h =
      elim (test e.1) as (λ b. Below key (cond b (e ∷ rows test es) (rows test es)))
      [ true ↦ (h.0, below_rows test key es h.1) | false ↦ below_rows test key es h.1 ]

  put_below : (key : ℕ) (x : X) (table : Table X) → Below key table → put table key x ≡ (key, x) ∷ table
  put_below key x [] h = refl
  put_below key x (e ∷ es) h = ap (λ o. match_ordering o ((key, x) ∷ e ∷ es) ((e.0, x) ∷ es) (e ∷ put es key x)) h.0

  without_below : (key : ℕ) (table : Table X) → Below key table → without table key ≡ table
  without_below key [] h = refl
  without_below key (e ∷ es) h =
      ap (λ o. cond (is_eq o) es (e ∷ without es key)) h.0 ∙ ap (λ (t : Table X). e ∷ t) (without_below key es h.1)

  -- the used rows after a row is written
  abbrev pub written : (X → Bool) → Table X → ℕ → X → Table X
  written test seen key x = cond (test x) (put seen key x) (without seen key)

  written_below : (test : X → Bool) (key : ℕ) (x : X) (seen : Table X) → Below key seen
      → written test seen key x ≡ cond (test x) ((key, x) ∷ seen) seen
  written_below test key x seen h =
      ap (λ (t : Table X). cond (test x) t (without seen key)) (put_below key x seen h)
      ∙ ap (λ (t : Table X). cond (test x) ((key, x) ∷ seen) t) (without_below key seen h)

  -- a row that is written again, or whose place is further on
  written_here : (test : X → Bool) (e : ℕ × X) (seen : Table X) (key : ℕ) (x : X) → nat_cmp key e.0 ≡ Equal
      → written test (e ∷ seen) key x ≡ cond (test x) ((e.0, x) ∷ seen) seen
  written_here test e seen key x q =
      ap (λ o. cond (test x) (match_ordering o ((key, x) ∷ e ∷ seen) ((e.0, x) ∷ seen) (e ∷ put seen key x))
      (cond (is_eq o) seen (e ∷ without seen key))) q

  written_later : (test : X → Bool) (e : ℕ × X) (seen : Table X) (key : ℕ) (x : X) → nat_cmp key e.0 ≡ Greater
      → written test (e ∷ seen) key x ≡ e ∷ written test seen key x
  written_later test e seen key x g =
      ap (λ o. cond (test x) (match_ordering o ((key, x) ∷ e ∷ seen) ((e.0, x) ∷ seen) (e ∷ put seen key x))
      (cond (is_eq o) seen (e ∷ without seen key))) g
      ∙ elim (test x) as (λ b. cond b (e ∷ put seen key x) (e ∷ without seen key)
      ≡ e ∷ cond b (put seen key x) (without seen key)) [ true ↦ refl | false ↦ refl ]

  rows-put_cons : (test : X → Bool) (e : ℕ × X) (es : Table X) (key : ℕ) (x : X) → Below e.0 es
      → rows test (put es key x) ≡ written test (rows test es) key x → (o : Ordering) → nat_cmp key e.0 ≡ o
      → rows test (match_ordering o ((key, x) ∷ e ∷ es) ((e.0, x) ∷ es) (e ∷ put es key x))
      ≡ written test (rows test (e ∷ es)) key x
  rows-put_cons test e es key x head later Less l =
      sym (written_below test key x (rows test (e ∷ es)) (below_rows test key (e ∷ es) (
        l,
        below_more nat_cmp_total key e.0 es l head,
      )))
  rows-put_cons test e es key x head later Equal q =
      let same : key ≡ e.0 = exact_unsigned key e.0 q in
      let front : Below e.0 (rows test es) = below_rows test e.0 es head in
      elim (test e.1) as (λ b. cond (test x) ((e.0, x) ∷ rows test es) (rows test es)
      ≡ written test (cond b (e ∷ rows test es) (rows test es)) key x) [
        | true ↦ sym (written_here test e (rows test es) key x q)
        | false ↦ sym (subst (λ k. written test (rows test es) k x ≡ cond (test x) ((e.0, x) ∷ rows test es)
            (rows test es)) (sym same) (written_below test e.0 x (rows test es) front))
      ]
  rows-put_cons test e es key x head later Greater g =
      elim (test e.1) as (λ b. cond b (e ∷ rows test (put es key x)) (rows test (put es key x))
      ≡ written test (cond b (e ∷ rows test es) (rows test es)) key x) [
        | true ↦ ap (λ (t : Table X). e ∷ t) later ∙ sym (written_later test e (rows test es) key x g)
        | false ↦ later
      ]

  pub rows-put : (test : X → Bool) (table : Table X) (key : ℕ) (x : X) → IsStrictlySortedBy nat_cmp (keys_of table)
      → rows test (put table key x) ≡ written test (rows test table) key x
  rows-put test [] key x s = refl
  rows-put test (e ∷ es) key x s =
      rows-put_cons test e es key x (sorted_head nat_cmp e.0 (keys_of es) s) (rows-put test es key x
      (sorted_tail nat_cmp e.0 (keys_of es) s)) (nat_cmp key e.0) refl

  put_twice : (table : Table X) (key : ℕ) (x y : X) → put (put table key x) key y ≡ put table key y
  put_twice [] key x y = ap (λ o. match_ordering o ((key, y) ∷ (key, x) ∷ []) ((key, y) ∷ []) ((key, x) ∷ (key, y)
      ∷ [])) (tied_itself nat_cmp_total key)
  put_twice (e ∷ es) key x y = by (put_twice es key x y) (nat_cmp key e.0) refl where
    by : put (put es key x) key y ≡ put es key y → (o : Ordering) → nat_cmp key e.0 ≡ o
        → put (match_ordering o ((key, x) ∷ e ∷ es) ((e.0, x) ∷ es) (e ∷ put es key x)) key y
        ≡ match_ordering o ((key, y) ∷ e ∷ es) ((e.0, y) ∷ es) (e ∷ put es key y)
    by later Less l = ap (λ o. match_ordering o ((key, y) ∷ (key, x) ∷ e ∷ es) ((key, y) ∷ e ∷ es) ((key, x)
        ∷ put (e ∷ es) key y)) (tied_itself nat_cmp_total key)
    by later Equal q = ap (λ o. match_ordering o ((key, y) ∷ (e.0, x) ∷ es) ((e.0, y) ∷ es) ((e.0, x) ∷ put es key y)) q
    by later Greater g = ap (λ o. match_ordering o ((key, y) ∷ e ∷ put es key x) ((e.0, y) ∷ put es key x) (e
        ∷ put (put es key x) key y)) g ∙ ap (λ (t : Table X). e ∷ t) later

  without_put : (table : Table X) (key : ℕ) (x : X) → IsStrictlySortedBy nat_cmp (keys_of table)
      → without (put table key x) key ≡ without table key
  without_put [] key x s = ap (λ o. cond (is_eq o) [] ((key, x) ∷ [])) (tied_itself nat_cmp_total key)
  without_put (e ∷ es) key x s = by (sorted_head nat_cmp e.0 (keys_of es) s) (without_put es key x
      (sorted_tail nat_cmp e.0 (keys_of es) s)) (nat_cmp key e.0) refl where
        by : Below e.0 es → without (put es key x) key ≡ without es key → (o : Ordering) → nat_cmp key e.0 ≡ o
            → without (match_ordering o ((key, x) ∷ e ∷ es) ((e.0, x) ∷ es) (e ∷ put es key x)) key
            ≡ cond (is_eq o) es (e ∷ without es key)
        by head later Less l = ap (λ o. cond (is_eq o) (e ∷ es) ((key, x) ∷ without (e ∷ es) key))
            (tied_itself nat_cmp_total key)
            ∙ ap (λ (t : Table X). e ∷ t) (sym (without_below key es (below_more nat_cmp_total key e.0 es l head)))
        by head later Equal q = ap (λ o. cond (is_eq o) es ((e.0, x) ∷ without es key)) q
        by head later Greater g = ap (λ o. cond (is_eq o) (put es key x) (e ∷ without (put es key x) key)) g
            ∙ ap (λ (t : Table X). e ∷ t) later

  put_without : (table : Table X) (key : ℕ) (y : X) → IsStrictlySortedBy nat_cmp (keys_of table)
      → put (without table key) key y ≡ put table key y
  put_without [] key y s = refl
  put_without (e ∷ es) key y s = by (sorted_head nat_cmp e.0 (keys_of es) s) (put_without es key y
      (sorted_tail nat_cmp e.0 (keys_of es) s)) (nat_cmp key e.0) refl where
        by : Below e.0 es → put (without es key) key y ≡ put es key y → (o : Ordering) → nat_cmp key e.0 ≡ o
            → put (cond (is_eq o) es (e ∷ without es key)) key y
            ≡ match_ordering o ((key, y) ∷ e ∷ es) ((e.0, y) ∷ es) (e ∷ put es key y)
        by head later Less l =
            ap (λ o. match_ordering o ((key, y) ∷ e ∷ without es key) ((e.0, y) ∷ without es key) (e
            ∷ put (without es key) key y)) l
            ∙ ap (λ (t : Table X). (key, y) ∷ e ∷ t) (without_below key es (below_more nat_cmp_total key e.0 es l head))
        by head later Equal q =
            let same : key ≡ e.0 = exact_unsigned key e.0 q in
            subst (λ k. put es k y ≡ (e.0, y) ∷ es) (sym same) (put_below e.0 y es head)
        by head later Greater g =
            ap (λ o. match_ordering o ((key, y) ∷ e ∷ without es key) ((e.0, y) ∷ without es key) (e
            ∷ put (without es key) key y)) g
            ∙ ap (λ (t : Table X). e ∷ t) later

  without_twice : (table : Table X) (key : ℕ) → IsStrictlySortedBy nat_cmp (keys_of table)
      → without (without table key) key ≡ without table key
  without_twice [] key s = refl
  without_twice (e ∷ es) key s = by (sorted_head nat_cmp e.0 (keys_of es) s) (without_twice es key
      (sorted_tail nat_cmp e.0 (keys_of es) s)) (nat_cmp key e.0) refl where
        by : Below e.0 es → without (without es key) key ≡ without es key → (o : Ordering) → nat_cmp key e.0 ≡ o
            → without (cond (is_eq o) es (e ∷ without es key)) key ≡ cond (is_eq o) es (e ∷ without es key)
        by head later Less l = ap (λ o. cond (is_eq o) (without es key) (e ∷ without (without es key) key)) l
            ∙ ap (λ (t : Table X). e ∷ t) later
        by head later Equal q =
            let same : key ≡ e.0 = exact_unsigned key e.0 q in
            subst (λ k. without es k ≡ es) (sym same) (without_below e.0 es head)
        by head later Greater g = ap (λ o. cond (is_eq o) (without es key) (e ∷ without (without es key) key)) g
            ∙ ap (λ (t : Table X). e ∷ t) later

  -- of two rows that are written at a key the later one stays
  pub written_twice : (test : X → Bool) (table : Table X) (key : ℕ) (x y : X)
      → IsStrictlySortedBy nat_cmp (keys_of table) → written test (written test table key x) key y
      ≡ written test table key y
  written_twice test table key x y s = by (test x) (test y) where
    by : (a b : Bool) → cond b (put (cond a (put table key x) (without table key)) key y)
        (without (cond a (put table key x) (without table key)) key) ≡ cond b (put table key y) (without table key)
    by true true = put_twice table key x y
    by true false = without_put table key x s
    by false true = put_without table key y s
    by false false = without_twice table key s

  -- a row that is not used is not seen
  pub rows-put_unused : (test : X → Bool) (table : Table X) (key : ℕ) (x : X) → test x ≡ false → at table key ≡ None
      → rows test (put table key x) ≡ rows test table
  rows-put_unused test [] key x u n = ap (λ b. cond b ((key, x) ∷ []) []) u
  rows-put_unused test (e ∷ es) key x u n = by (rows-put_unused test es key x u) (nat_cmp key e.0) n where
    by : (at es key ≡ None → rows test (put es key x) ≡ rows test es) → (o : Ordering)
        → cond (is_eq o) (Some e.1) (at es key) ≡ None
        → rows test (match_ordering o ((key, x) ∷ e ∷ es) ((e.0, x) ∷ es) (e ∷ put es key x)) ≡ rows test (e ∷ es)
    by later Less m = ap (λ b. cond b ((key, x) ∷ rows test (e ∷ es)) (rows test (e ∷ es))) u
    by later Equal m = cc
    by later Greater m = ap (λ (t : Table X). cond (test e.1) (e ∷ t) t) (later m)

  -- what is seen ascends too
  pub rows-ascends : (test : X → Bool) (table : Table X) → IsStrictlySortedBy nat_cmp (keys_of table)
      → IsStrictlySortedBy nat_cmp (keys_of (rows test table))
  unfolding IsStrictlySortedBy
  rows-ascends test [] s = tt
  rows-ascends test (e ∷ es) s =
      let more = rows-ascends test es s.1 in
      elim (test e.1) as (λ b. IsStrictlySortedBy nat_cmp (keys_of (cond b (e ∷ rows test es) (rows test es))))
      [ true ↦ (below_rows test e.0 es s.0, more) | false ↦ more ]

  -- what is seen at a key
  pub at-rows : (test : X → Bool) (table : Table X) (key : ℕ) → IsStrictlySortedBy nat_cmp (keys_of table)
      → at (rows test table) key ≡ option_filter test (at table key)
  at-rows test table key s =
      lookup-filter-values (eq_by_cmp_equiv nat_cmp_total) test key table (IsDistinct-from_sorted nat_cmp
      (keys_of table) s)

  -- what a sum counts after a row is written
  pub sum_by-put : (f : X → ℕ) (table : Table X) (key : ℕ) (x none : X) → f none ≡ 0
      → IsStrictlySortedBy nat_cmp (keys_of table)
      → sum_by f (values_of (put table key x)) + f (unwrap_or (at table key) none) ≡ sum_by f (values_of table) + f x
  sum_by-put f table key x none z s =
      let law = sum_by-insert_entry f nat_cmp_total table key x s in
      let same = by (at table key) in
      omega (arith, law, same) where
        by : (o : Option X) → unwrap_or (option_map f o) 0 ≡ f (unwrap_or o none)
        by None = sym z
        by (Some y) = refl
