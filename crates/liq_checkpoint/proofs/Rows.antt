-- Rows one after the other: what is read is spelled so, and what is spelled so is read.
use Rattle.std.proofs.Common.{◌≡◌, ℕ, zero, suc, Bool, true, List, [], ◌∷◌, ◌++◌, length, Option, Some, None, Result, Ok, refl, sym, ap, subst, ◌∙◌, append_assoc}
use Rattle.std.specs.Cmp.{IsTotalOrder}
use Rattle.std.specs.List.{flat_map, AllByRecursion}
use Rattle.std.specs.List.Sorted.{IsStrictlySortedBy}
use Rattle.std.specs.Map.{keys_of, values_of}
use Rattle.std.specs.Ordering.{is_lt}
use Rattle.std.specs.declared.cmp.Ordering.{Ordering}
use Rattle.std.specs.declared.cmp.Ordering.TheVariants.{Less, Equal, Greater}
use Rattle.liq_types.proofs.Ascending.{below_more}
use Rattle.liq_checkpoint.specs.Spelling.{Field, spelled, Fit, table}
use Rattle.liq_checkpoint.specs.Reading.{◌>>=◌, number_at, rows_at, table_at}
use Rattle.liq_checkpoint.proofs.Fields.{IsBytes, bind_ok, ok_is, Takes, Takes-none, Takes-then, spelled-append, Fit-front, Fit-back, number_takes, number_again}

-- how rows of a table are read and spelled, what their values are, and which key may follow which
pub record IsRow {K X : Type 0} (row_at : Option K → List ℕ → Result ((K × X) × List ℕ) ℕ) (spell : K × X
    → List Field) (Used : X → Type 0) (follows : Option K → K → Bool) : Type 0 where
  pub takes : (last : Option K) (at : List ℕ) (x : (K × X) × List ℕ) → IsBytes at → row_at last at ≡ Ok x
      → Takes at (spell x.0) x.1 × Used x.0.1 × (follows last x.0.0 ≡ true)
  pub again : (last : Option K) (row : K × X) (rest : List ℕ) → Fit (spell row) → Used row.1 → follows last row.0 ≡ true
      → row_at last (spelled (spell row) ++ rest) ≡ Ok (row, rest)

-- each key follows the one before it
abbrev pub AscendFrom : {K X : Type 0} → (Option K → K → Bool) → Option K → List (K × X) → Type 0
AscendFrom follows last [] = Unit {0}
AscendFrom follows last (row ∷ rows) = (follows last row.0 ≡ true) × AscendFrom follows (Some row.0) rows

module _ {K X : Type 0} (row_at : Option K → List ℕ → Result ((K × X) × List ℕ) ℕ) (spell : K × X
    → List Field) (Used : X → Type 0) (follows : Option K → K → Bool) (is_row : IsRow row_at spell Used follows) where
  record AreRows (last : Option K) (at : List ℕ) (n : ℕ) (x : List (K × X) × List ℕ) : Type 0 where
    takes : Takes at (flat_map spell x.0) x.1
    used : AllByRecursion Used (values_of x.0)
    ascend : AscendFrom follows last x.0
    count : length x.0 ≡ n

  rows_take : (n : ℕ) (last : Option K) (at : List ℕ) (x : List (K × X) × List ℕ) → IsBytes at
      → rows_at row_at n last at ≡ Ok x → AreRows last at n x
  unfolding rows_at
  rows_take zero last at x fits e = subst (AreRows last at 0) (ok_is ([], at) x e) (record {
    takes = Takes-none at fits;
    used = tt;
    ascend = tt;
    count = refl;
  })
  rows_take (suc n) last at x fits e =
      let a = bind_ok (row_at last at) _ x e in
      let b = bind_ok (rows_at row_at n (Some a.0.0.0) a.0.1) _ x a.2 in
      let first = is_row.takes last at a.0 fits a.1 in
      let others = rows_take n (Some a.0.0.0) a.0.1 b.0 first.0.rest_fits b.1 in
      subst (AreRows last at (suc n)) (ok_is (a.0.0 ∷ b.0.0, b.0.1) x b.2) (record {
        takes = Takes-then first.0 others.takes;
        used = (first.1, others.used);
        ascend = (first.2, others.ascend);
        count = ap suc others.count;
      })

  rows_again : (last : Option K) (rows : List (K × X)) (rest : List ℕ) → Fit (flat_map spell rows)
      → AllByRecursion Used (values_of rows) → AscendFrom follows last rows
      → rows_at row_at (length rows) last (spelled (flat_map spell rows) ++ rest) ≡ Ok (rows, rest)
  unfolding rows_at
  rows_again last [] rest fit used ascend = refl
  rows_again last (row ∷ rows) rest fit used ascend =
      let behind = spelled (flat_map spell rows) ++ rest in
      let regrouped : spelled (spell row ++ flat_map spell rows) ++ rest ≡ spelled (spell row) ++ behind =
      ap (λ (bytes : List ℕ). bytes ++ rest) (spelled-append (spell row) (flat_map spell rows))
      ∙ append_assoc (spelled (spell row)) (spelled (flat_map spell rows)) rest in
      let first = is_row.again last row behind (Fit-front (spell row) (flat_map spell rows) fit) used.0 ascend.0 in
      let others = rows_again (Some row.0) rows rest (Fit-back (spell row) (flat_map spell rows) fit) used.1 ascend.1 in
      ap (rows_at row_at (suc (length rows)) last) regrouped ∙ rw (first, others) refl

  pub record IsTable (at : List ℕ) (x : List (K × X) × List ℕ) : Type 0 where
    pub takes : Takes at (table spell x.0) x.1
    pub used : AllByRecursion Used (values_of x.0)
    pub ascend : AscendFrom follows None x.0

  table_takes : (end : ℕ) (at : List ℕ) (x : List (K × X) × List ℕ) → IsBytes at → table_at row_at end at ≡ Ok x
      → IsTable at x
  unfolding table_at
  table_takes end at x fits e =
      let a = bind_ok (number_at end 8 at) _ x e in
      let count = number_takes end 8 at a.0 fits a.1 in
      let rows = rows_take a.0.0 None a.0.1 x count.rest_fits a.2 in
      record {
        takes = subst (λ (n : ℕ). Takes at ((8, n) ∷ flat_map spell x.0) x.1) (sym rows.count)
            (Takes-then count rows.takes);
        used = rows.used;
        ascend = rows.ascend;
      }

  pub table_then : {Y P : Type 0} (end : ℕ) (at : List ℕ) (f : List (K × X) × List ℕ → Result Y ℕ) (y : Y) → IsBytes at
      → (table_at row_at end at >>= f) ≡ Ok y → ((rows : List (K × X)) (rest : List ℕ) → IsTable at (rows, rest)
      → f (rows, rest) ≡ Ok y → P) → P
  table_then end at f y fits e on = let a = bind_ok (table_at row_at end at) f y e
      in on a.0.0 a.0.1 (table_takes end at a.0 fits a.1) a.2

  pub table_again : (end : ℕ) (rows : List (K × X)) (rest : List ℕ) → Fit (table spell rows)
      → AllByRecursion Used (values_of rows) → AscendFrom follows None rows
      → table_at row_at end (spelled (table spell rows) ++ rest) ≡ Ok (rows, rest)
  unfolding table_at
  table_again end rows rest fit used ascend =
      rw (
        number_again end 8 (length rows) (flat_map spell rows) rest fit.0,
        rows_again None rows rest fit.1 used ascend,
      ) refl

-- ---- the order of keys

-- which key may follow which is said by an order
pub record IsOrder {K : Type 0} (cmp : K → K → Ordering) (follows : Option K → K → Bool) : Type 0 where
  pub total : IsTotalOrder cmp
  pub none : (k : K) → follows None k ≡ true
  pub some : (a b : K) → is_lt (cmp a b) ≡ follows (Some a) b

module _ {K X : Type 0} (cmp : K → K → Ordering) (follows : Option K → K → Bool) (order : IsOrder cmp follows) where
  all_above : (k : K) (rows : List (K × X)) → AscendFrom follows (Some k) rows
      → AllByRecursion (λ y. cmp k y ≡ Less) (keys_of rows)
  all_above k [] h = tt
  all_above k (row ∷ rows) h =
      let first = less (cmp k row.0) (order.some k row.0 ∙ h.0) in
      (first, below_more order.total k row.0 rows first (all_above row.0 rows h.1))
    where
      less : (o : Ordering) → is_lt o ≡ true → o ≡ Less
      less Less h = refl
      less Equal h = absurd cc
      less Greater h = absurd cc

  pub ascends : (last : Option K) (rows : List (K × X)) → AscendFrom follows last rows
      → IsStrictlySortedBy cmp (keys_of rows)
  unfolding IsStrictlySortedBy
  ascends last [] h = tt
  ascends last (row ∷ rows) h = (all_above row.0 rows h.1, ascends (Some row.0) rows h.1)

  from_above : (k : K) (rows : List (K × X)) → AllByRecursion (λ y. cmp k y ≡ Less) (keys_of rows)
      → IsStrictlySortedBy cmp (keys_of rows) → AscendFrom follows (Some k) rows
  unfolding IsStrictlySortedBy
  from_above k [] above h = tt
  from_above k (row ∷ rows) above h = (sym (order.some k row.0) ∙ ap is_lt above.0, from_above row.0 rows h.0 h.1)

  pub ascend_from : (rows : List (K × X)) → IsStrictlySortedBy cmp (keys_of rows) → AscendFrom follows None rows
  unfolding IsStrictlySortedBy
  ascend_from [] h = tt
  ascend_from (row ∷ rows) h = (order.none row.0, from_above row.0 rows h.0 h.1)
