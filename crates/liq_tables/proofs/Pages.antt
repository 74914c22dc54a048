-- What a row of an index is found by, and what another row, or one more, changes.
use Rattle.std.proofs.Common.{◌≡◌, ◌≢◌, ℕ, zero, suc, ◌+◌, ◌*◌, ◌/◌, ◌%◌, ◌<◌, ◌≤◌, Bool, true, false, List, [], ◌∷◌, ◌++◌, refl, ap, sym, ◌∙◌, subst, length, get_or, set, Option, Some, None, arith, inl, inr, ◌⊎◌, ltb}
use Rattle.std.specs.Prelude.{◌==◌, slice_get, is_some, option_map, IfSome}
use Rattle.std.proofs.lemmas.Bool.{cases_eq, cases_lt, eqb-true}
use Rattle.std.proofs.lemmas.Bool.Decides.{nat_tests}
use Rattle.std.proofs.lemmas.List.{get_or_past, length-set, length_push}
use Rattle.std.proofs.lemmas.Nat.{le-div}
use Rattle.std.proofs.lemmas.Option.{slice_get_past, slice_get_read}
use Rattle.liq_types.specs.Tables.{Table, at, put}
use Rattle.liq_types.specs.WellFormed.{Ascends}
use Rattle.liq_types.proofs.Ascending.{put-ascends}
use Rattle.liq_types.proofs.Lookups.{at-put_same, at-put_other}
use Rattle.liq_types.proofs.SameRows.{same_rows}
use Rattle.liq_tables.specs.Pages.{place, row_at, listed, entries, IsIndex}
use Rattle.liq_tables.specs.declared.places.TheConstants.{KEYS, NONE}
use Rattle.liq_tables.proofs.Listed.{ascends_listed, at_listed, at_behind}

-- ---- elements by number

module _ {X : Type 0} where
  get-set_same : (xs : List X) (n : ℕ) (x : X) → n < length xs → slice_get (set xs n x) n ≡ Some x
  get-set_same [] n x less = absurd (omega (arith, less))
  get-set_same (y ∷ ys) zero x less = refl
  get-set_same (y ∷ ys) (suc n) x less = get-set_same ys n x (omega (arith, less))

  get-set_other : (xs : List X) (n m : ℕ) (x : X) → m ≢ n → slice_get (set xs n x) m ≡ slice_get xs m
  get-set_other [] n m x apart = refl
  get-set_other (y ∷ ys) zero zero x apart = absurd (apart refl)
  get-set_other (y ∷ ys) zero (suc m) x apart = refl
  get-set_other (y ∷ ys) (suc n) zero x apart = refl
  get-set_other (y ∷ ys) (suc n) (suc m) x apart = get-set_other ys n m x (λ e. apart (ap suc e))

  get-push_last : (xs : List X) (x : X) → slice_get (xs ++ x ∷ []) (length xs) ≡ Some x
  get-push_last [] x = refl
  get-push_last (y ∷ ys) x = get-push_last ys x

  get-push_other : (xs : List X) (n : ℕ) (x : X) → n ≢ length xs → slice_get (xs ++ x ∷ []) n ≡ slice_get xs n
  get-push_other [] zero x apart = absurd (apart refl)
  get-push_other [] (suc n) x apart = refl
  get-push_other (y ∷ ys) zero x apart = refl
  get-push_other (y ∷ ys) (suc n) x apart = get-push_other ys n x (λ e. apart (ap suc e))

  -- what a look-up by number gives
  found_by : {B : Type 0} (f : B → X) (o : Option B) (xs : List X) (n : ℕ) → is_some o ≡ ltb n (length xs)
      → IfSome o (λ x. f x ≡ get_or xs n (f x)) → option_map f o ≡ slice_get xs n
  found_by f None xs n is v = sym (slice_get_past xs n (grind (arith, nat_tests, is)))
  found_by f (Some x) xs n is v = sym (slice_get_read xs (length xs) n (f x) refl (grind (arith, nat_tests, is)) v)

-- ---- no rows

pub no_entries : {X : Type 0} → entries {X = X} [] [] ≡ []
unfolding listed
no_entries = refl

pub no_index : {X : Type 0} → IsIndex {X = X} [] []
unfolding place
no_index = record { few = omega arith; known = λ key. inr refl; apart = λ j k less e. absurd (omega (arith, less)) }

-- ---- rows by key

unpaged : (pages : List (List ℕ)) (key : ℕ) → KEYS * length pages ≤ key → place pages key ≡ NONE
unfolding place
unpaged pages key past =
    ap (λ page. get_or page (key % KEYS) NONE) (get_or_past pages (key / KEYS) [] (le-div (length pages) key KEYS
    (omega arith) (omega (arith, past))))

module _ {X : Type 0} where
  pub at-entries : (pages : List (List ℕ)) (rows : List X) → length rows ≤ NONE → (key : ℕ)
      → at (entries pages rows) key ≡ row_at pages rows key
  at-entries pages rows few key = by (cases_lt key (KEYS * length pages)) where
    by : ((key < KEYS * length pages) ⊎ (KEYS * length pages ≤ key)) → at (entries pages rows) key
        ≡ row_at pages rows key
    by (inl within) = at_listed (row_at pages rows) key 0 (KEYS * length pages) (omega arith) (omega (arith, within))
    by (inr past) =
        at_behind (row_at pages rows) key 0 (KEYS * length pages) (omega (arith, past))
        ∙ sym (ap (λ n. slice_get rows n) (unpaged pages key past) ∙ slice_get_past rows NONE few)

  -- what a look-up by number gives is the row at the key
  pub at-index : {B : Type 0} (f : B → X) (o : Option B) (xs : List X) (table : Table X) (pages : List (List ℕ))
      (rows : List X) (n key : ℕ) → xs ≡ rows → entries pages rows ≡ table → length rows ≤ NONE → n ≡ place pages key
      → is_some o ≡ ltb n (length xs) → IfSome o (λ x. f x ≡ get_or xs n (f x)) → option_map f o ≡ at table key
  at-index f o xs table pages rows n key same view few number is read =
      found_by f o xs n is read
      ∙ ap (λ (l : List X). slice_get l n) same
      ∙ ap (λ n. slice_get rows n) number
      ∙ sym (at-entries pages rows few key)
      ∙ ap (λ (t : Table X). at t key) view

  pub ascends-entries : (pages : List (List ℕ)) (rows : List X) → Ascends (entries pages rows)
  ascends-entries pages rows = ascends_listed (row_at pages rows) 0 (KEYS * length pages)

  -- the same numbers lead to the same rows
  pub entries-same : (new old : List (List ℕ)) (rows : List X) → length rows ≤ NONE
      → ((k : ℕ) → place new k ≡ place old k) → entries new rows ≡ entries old rows
  entries-same new old rows few same =
      same_rows (entries new rows) (entries old rows) (ascends-entries new rows) (ascends-entries old rows)
      (λ key. at-entries new rows few key ∙ ap (λ n. slice_get rows n) (same key) ∙ sym (at-entries old rows few key))

  -- ---- another row at a key

  pub index-set : (pages : List (List ℕ)) (rows : List X) (n : ℕ) (x : X) → IsIndex pages rows
      → IsIndex pages (set rows n x)
  index-set pages rows n x h =
      let long : length rows ≡ length (set rows n x) = sym (length-set rows n x) in
      record {
        few = subst (λ l. l ≤ NONE) long h.few;
        known = λ key. subst (λ l. (place pages key < l) ⊎ (place pages key ≡ NONE)) long (h.known key);
        apart = λ j k less e. h.apart j k (subst (λ l. place pages j < l) (sym long) less) e;
      }

  pub entries-set : (pages : List (List ℕ)) (rows : List X) (key : ℕ) (x : X) → IsIndex pages rows
      → place pages key < length rows → entries pages (set rows (place pages key) x) ≡ put (entries pages rows) key x
  entries-set pages rows key x h less =
      same_rows (entries pages (set rows (place pages key) x)) (put (entries pages rows) key x) (ascends-entries pages
      (set rows (place pages key) x))
      (put-ascends (entries pages rows) key x (ascends-entries pages rows)) each where
        found : (q : ℕ) → at (entries pages (set rows (place pages key) x)) q
            ≡ row_at pages (set rows (place pages key) x) q
        found q = at-entries pages (set rows (place pages key) x) (index-set pages rows (place pages key) x h).few q

        each : (q : ℕ) → at (entries pages (set rows (place pages key) x)) q ≡ at (put (entries pages rows) key x) q
        each q = by (key == q) refl where
          by : (b : Bool) → (key == q) ≡ b → at (entries pages (set rows (place pages key) x)) q
              ≡ at (put (entries pages rows) key x) q
          by true e =
              subst (λ k. at (entries pages (set rows (place pages key) x)) k ≡ at (put (entries pages rows) key x) k)
              (eqb-true key q e)
              (found key ∙ get-set_same rows (place pages key) x less ∙ sym (at-put_same (entries pages rows) key x))
          by false e =
              let other : key ≢ q = grind (arith, nat_tests, e) in
              found q
              ∙ get-set_other rows (place pages key) (place pages q) x (λ same. other (h.apart key q less (sym same)))
              ∙ sym (at-entries pages rows h.few q) ∙ sym (at-put_other (entries pages rows) key x q e)

  -- ---- one more row

  module _ (new old : List (List ℕ)) (rows : List X) (key : ℕ) (x : X) (h : IsIndex old rows) (room : length rows
      < NONE) (here : place new key ≡ length rows) (others : (k : ℕ) → k ≢ key → place new k ≡ place old k) where
    long : length (rows ++ x ∷ []) ≡ length rows + 1
    long = length_push rows x

    -- no other key had this number
    unused : (k : ℕ) → k ≢ key → place new k ≢ length rows
    unused k apart e = by (h.known k) where
      by : ((place old k < length rows) ⊎ (place old k ≡ NONE)) → ⊥
      by (inl less) = omega (arith, less, e, others k apart)
      by (inr none) = omega (arith, none, e, others k apart, room)

    known : (k : ℕ) → (place new k < length (rows ++ x ∷ [])) ⊎ (place new k ≡ NONE)
    known k = by (cases_eq k key) (h.known k) where
      by : ((k ≡ key) ⊎ (k ≢ key)) → ((place old k < length rows) ⊎ (place old k ≡ NONE))
          → (place new k < length (rows ++ x ∷ [])) ⊎ (place new k ≡ NONE)
      by (inl same) w = inl (omega (arith, long, ap (λ k. place new k) same, here))
      by (inr apart) (inl less) = inl (omega (arith, long, less, others k apart))
      by (inr apart) (inr none) = inr (others k apart ∙ none)

    apart : (j k : ℕ) → place new j < length (rows ++ x ∷ []) → place new j ≡ place new k → j ≡ k
    apart j k less e = by (cases_eq j key) (cases_eq k key) where
      by : ((j ≡ key) ⊎ (j ≢ key)) → ((k ≡ key) ⊎ (k ≢ key)) → j ≡ k
      by (inl a) (inl b) = a ∙ sym b
      by (inl a) (inr b) = absurd (unused k b (sym e ∙ ap (λ k. place new k) a ∙ here))
      by (inr a) (inl b) = absurd (unused j a (e ∙ ap (λ k. place new k) b ∙ here))
      by (inr a) (inr b) =
          let other = unused j a in
          h.apart j k (subst (λ n. n < length rows) (others j a) (omega (arith, long, less, other))) (sym (others j a)
          ∙ e ∙ others k b)

    pub index-push : IsIndex new (rows ++ x ∷ [])
    index-push = record { few = omega (arith, long, room); known = known; apart = apart }

    pub entries-push : entries new (rows ++ x ∷ []) ≡ put (entries old rows) key x
    entries-push =
        same_rows (entries new (rows ++ x ∷ [])) (put (entries old rows) key x) (ascends-entries new (rows ++ x ∷ []))
        (put-ascends (entries old rows) key x (ascends-entries old rows)) each where
          found : (q : ℕ) → at (entries new (rows ++ x ∷ [])) q ≡ row_at new (rows ++ x ∷ []) q
          found q = at-entries new (rows ++ x ∷ []) index-push.few q

          each : (q : ℕ) → at (entries new (rows ++ x ∷ [])) q ≡ at (put (entries old rows) key x) q
          each q = by (key == q) refl where
            by : (b : Bool) → (key == q) ≡ b → at (entries new (rows ++ x ∷ [])) q ≡ at (put (entries old rows) key x) q
            by true e =
                subst (λ k. at (entries new (rows ++ x ∷ [])) k ≡ at (put (entries old rows) key x) k)
                (eqb-true key q e)
                (found key ∙ ap (λ n. slice_get (rows ++ x ∷ []) n) here ∙ get-push_last rows x
                ∙ sym (at-put_same (entries old rows) key x))
            by false e =
                let other : q ≢ key = grind (arith, nat_tests, e) in
                found q
                ∙ get-push_other rows (place new q) x (unused q other)
                ∙ ap (λ n. slice_get rows n) (others q other)
                ∙ sym (at-entries old rows h.few q) ∙ sym (at-put_other (entries old rows) key x q e)
