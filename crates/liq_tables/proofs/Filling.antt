-- A table that is filled with rows in ascending keys, of which only the used ones are seen.
use Rattle.std.proofs.Common.{◌≡◌, ℕ, ◌+◌, ◌<◌, Bool, true, false, cond, [], ◌∷◌, ◌++◌, refl, ap, sym, ◌∙◌, subst, length, take, drop, get_or}
use Rattle.std.specs.List.{AllByRecursion}
use Rattle.std.specs.List.Sorted.{IsStrictlySortedBy}
use Rattle.std.specs.Map.{keys_of}
use Rattle.std.specs.Cmp.{nat_cmp_total}
use Rattle.std.specs.Ordering.{nat_cmp, match_ordering, ordering_reverse}
use Rattle.std.specs.declared.cmp.Ordering.TheVariants.{Less}
use Rattle.std.proofs.lemmas.List.{take-append-drop, drop_more, take_more}
use Rattle.liq_types.specs.Tables.{Table, put, rows}
use Rattle.liq_types.specs.WellFormed.{Ascends}
use Rattle.liq_types.proofs.UsedRows.{rows-put}
use Rattle.liq_tables.specs.WithRoom.{written}

module _ {X : Type 0} where
  abbrev Below : ℕ → Table X → Type 0
  Below key table = AllByRecursion (λ y. nat_cmp key y ≡ Less) (keys_of table)

  later : (front : Table X) (e : ℕ × X) (back : Table X) (key : ℕ) → Below key (front ++ e ∷ back)
      → nat_cmp key e.0 ≡ Less
  later [] e back key h = h.0
  later (f ∷ fs) e back key h = later fs e back key h.1

  front_below : (front back : Table X) (key : ℕ) → Below key (front ++ back) → Below key front
  front_below [] back key h = tt
  front_below (f ∷ fs) back key h = (h.0, front_below fs back key h.1)

  front_ascends : (front back : Table X) → Ascends (front ++ back) → Ascends front
  unfolding IsStrictlySortedBy
  front_ascends [] back h = tt
  front_ascends (f ∷ fs) back h = (front_below fs back f.0 h.0, front_ascends fs back h.1)

  -- a row behind all others is put at the end
  put_end : (front : Table X) (e : ℕ × X) (back : Table X) → Ascends (front ++ e ∷ back)
      → put front e.0 e.1 ≡ front ++ e ∷ []
  unfolding IsStrictlySortedBy
  put_end [] e back h = refl
  put_end (f ∷ fs) e back h =
      let greater = nat_cmp_total.antisymm e.0 f.0 ∙ ap ordering_reverse (later fs e back f.0 h.0) in
      ap (λ o. match_ordering o ((e.0, e.1) ∷ f ∷ fs) ((f.0, e.1) ∷ fs) (f ∷ put fs e.0 e.1)) greater
      ∙ ap (λ (t : Table X). f ∷ t) (put_end fs e back h.1)

  -- the next row of a table, after those before it
  pub fill_next : (used : X → Bool) (table : Table X) (i : ℕ) (d : ℕ × X) → i < length table → Ascends table
      → written used (rows used (take i table)) (get_or table i d).0 (get_or table i d).1
      ≡ rows used (take (i + 1) table)
  fill_next used table i d less h =
      let e = get_or table i d in
      let whole : table ≡ take i table ++ e ∷ drop (i + 1) table = sym (take-append-drop i table)
      ∙ ap (λ l. take i table ++ l) (drop_more table i d less) in
      let split : Ascends (take i table ++ e ∷ drop (i + 1) table) = subst Ascends whole h in
      sym (rows-put used (take i table) e.0 e.1 (front_ascends (take i table) (e ∷ drop (i + 1) table) split))
      ∙ ap (λ (t : Table X). rows used t) (put_end (take i table) e (drop (i + 1) table) split
      ∙ sym (take_more table i d less))

  -- ---- of the used rows

  pub all_used : (P : ℕ × X → Type 0) (used : X → Bool) (table : Table X) → AllByRecursion P table
      → AllByRecursion P (rows used table)
  all_used P used [] h = tt
  all_used P used (e ∷ es) h =
      elim (used e.1) as (λ b. AllByRecursion P (cond b (e ∷ rows used es) (rows used es))) [
        | true ↦ (
          h.0,
          all_used P used es h.1,
        )
        | false ↦ all_used P used es h.1
      ]

  used_below : (key : ℕ) (used : X → Bool) (table : Table X) → Below key table → Below key (rows used table)
  used_below key used [] h = tt
  used_below key used (e ∷ es) h =
      elim (used e.1) as (λ b. Below key (cond b (e ∷ rows used es) (rows used es))) [
        | true ↦ (
          h.0,
          used_below key used es h.1,
        )
        | false ↦ used_below key used es h.1
      ]

  pub used_ascend : (used : X → Bool) (table : Table X) → Ascends table → Ascends (rows used table)
  unfolding IsStrictlySortedBy
  used_ascend used [] h = tt
  used_ascend used (e ∷ es) h =
      elim (used e.1) as (λ b. Ascends (cond b (e ∷ rows used es) (rows used es))) [
        | true ↦ (
          used_below e.0 used es h.0,
          used_ascend used es h.1,
        )
        | false ↦ used_ascend used es h.1
      ]

  -- where all are used all are seen
  pub rows_all : (used : X → Bool) (table : Table X) → AllByRecursion (λ (row : ℕ × X). used row.1 ≡ true) table
      → rows used table ≡ table
  rows_all used [] h = refl
  rows_all used (e ∷ es) h = ap (λ b. cond b (e ∷ rows used es) (rows used es)) h.0
      ∙ ap (λ (t : Table X). e ∷ t) (rows_all used es h.1)
