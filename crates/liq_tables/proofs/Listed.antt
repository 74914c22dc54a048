-- A listing of what is found at each key.
use Rattle.std.proofs.Common.{◌≡◌, ℕ, zero, suc, ◌+◌, ◌<◌, ◌≤◌, Bool, true, false, cond, refl, ap, sym, ◌∙◌, Some, None, Option, arith, [], ◌++◌, inl, inr, ◌⊎◌, length, add-one, length-append}
use Rattle.std.specs.Prelude.{◌==◌, is_some}
use Rattle.std.specs.List.{AllByRecursion}
use Rattle.std.specs.List.Sorted.{IsStrictlySortedBy}
use Rattle.std.specs.Map.{keys_of}
use Rattle.std.specs.Cmp.{nat_cmp_is}
use Rattle.std.specs.Ordering.{nat_cmp}
use Rattle.std.specs.declared.cmp.Ordering.TheVariants.{Less}
use Rattle.std.proofs.lemmas.Bool.{eqb-true}
use Rattle.std.proofs.lemmas.Bool.Decides.{nat_tests}
use Rattle.std.proofs.lemmas.Bool.{cases_lt}
use Rattle.liq_types.proofs.Places.{nat_cmp-eq}
use Rattle.liq_types.proofs.SameRows.{same_rows}
use Rattle.liq_types.specs.Tables.{Table, at}
use Rattle.liq_types.specs.WellFormed.{Ascends}
use Rattle.liq_tables.specs.Pages.{listed, with_row}

module _ {X : Type 0} where
  abbrev Below : ℕ → Table X → Type 0
  Below key table = AllByRecursion (λ y. nat_cmp key y ≡ Less) (keys_of table)

  below_row : (b key : ℕ) (o : Option X) (rest : Table X) → b < key → Below b rest → Below b (with_row key o rest)
  below_row b key None rest less h = h
  below_row b key (Some x) rest less h = (sym (nat_cmp_is b key Less less), h)

  below_listed : (found : ℕ → Option X) (b key more : ℕ) → b < key → Below b (listed found key more)
  unfolding listed
  below_listed found b key zero less = tt
  below_listed found b key (suc more) less =
      below_row b key (found key) (listed found (key + 1) more) less (below_listed found b (key + 1) more
      (omega (arith, less)))

  ascends_row : (key : ℕ) (o : Option X) (rest : Table X) → Below key rest → Ascends rest
      → Ascends (with_row key o rest)
  unfolding IsStrictlySortedBy
  ascends_row key None rest b h = h
  ascends_row key (Some x) rest b h = (b, h)

  pub ascends_listed : (found : ℕ → Option X) (key more : ℕ) → Ascends (listed found key more)
  unfolding listed IsStrictlySortedBy
  ascends_listed found key zero = tt
  ascends_listed found key (suc more) =
      ascends_row key (found key) (listed found (key + 1) more) (below_listed found key (key + 1) more (omega arith))
      (ascends_listed found (key + 1) more)

  -- a look-up passes a row of another key
  row_other : (q key : ℕ) (o : Option X) (rest : Table X) → (q == key) ≡ false → at (with_row key o rest) q ≡ at rest q
  row_other q key None rest h = refl
  row_other q key (Some x) rest h = ap (λ b. cond b (Some x) (at rest q)) (nat_cmp-eq q key ∙ h)

  row_same : (q key : ℕ) (o : Option X) (rest : Table X) → (q == key) ≡ true → at rest q ≡ None
      → at (with_row key o rest) q ≡ o
  row_same q key None rest h none = none
  row_same q key (Some x) rest h none = ap (λ b. cond b (Some x) (at rest q)) (nat_cmp-eq q key ∙ h)

  -- keys before the listing and behind it have no row
  at_before : (found : ℕ → Option X) (q key more : ℕ) → q < key → at (listed found key more) q ≡ None
  unfolding listed
  at_before found q key zero less = refl
  at_before found q key (suc more) less =
      row_other q key (found key) (listed found (key + 1) more) (grind (arith, nat_tests, less))
      ∙ at_before found q (key + 1) more (omega (arith, less))

  pub at_behind : (found : ℕ → Option X) (q key more : ℕ) → key + more ≤ q → at (listed found key more) q ≡ None
  unfolding listed
  at_behind found q key zero less = refl
  at_behind found q key (suc more) less =
      row_other q key (found key) (listed found (key + 1) more) (grind (arith, nat_tests, less))
      ∙ at_behind found q (key + 1) more (omega (arith, less))

  at_next : (found : ℕ → Option X) (q key more : ℕ) (b : Bool) → (q == key) ≡ b → key ≤ q
      → (key + 1 ≤ q → at (listed found (key + 1) more) q ≡ found q)
      → at (with_row key (found key) (listed found (key + 1) more)) q ≡ found q
  at_next found q key more true e from later =
      let same : q ≡ key = eqb-true q key e in
      row_same q key (found key) (listed found (key + 1) more) e (at_before found q (key + 1) more (omega (
        arith,
        same,
      ))) ∙ ap found (sym same)
  at_next found q key more false e from later =
      row_other q key (found key) (listed found (key + 1) more) e ∙ later (grind (arith, nat_tests, e, from))

  pub at_listed : (found : ℕ → Option X) (q key more : ℕ) → key ≤ q → q < key + more → at (listed found key more) q
      ≡ found q
  unfolding listed
  at_listed found q key zero from to = absurd (omega (arith, from, to))
  at_listed found q key (suc more) from to =
      at_next found q key more (q == key) refl from (λ next. at_listed found q (key + 1) more next (omega (arith, to)))

  -- ---- a table by its look-ups

  row_first : (key : ℕ) (o : Option X) (front back : Table X) → with_row key o (front ++ back)
      ≡ with_row key o front ++ back
  row_first key None front back = refl
  row_first key (Some x) front back = refl

  next : (found : ℕ → Option X) (key more : ℕ) → listed found key (suc more) ≡ listed found key more
      ++ with_row (key + more) (found (key + more)) []
  unfolding listed
  next found key zero = ap (λ k. with_row k (found k) []) (omega arith)
  next found key (suc more) =
      ap (λ (t : Table X). with_row key (found key) t) (next found (key + 1) more)
      ∙ row_first key (found key) (listed found (key + 1) more) (with_row (key + 1 + more) (found (key + 1 + more)) [])
      ∙ ap (λ k. with_row key (found key) (listed found (key + 1) more) ++ with_row k (found k) []) (omega arith)

  -- what is found at one more key
  pub listed_more : (found : ℕ → Option X) (key : ℕ) → listed found 0 (key + 1) ≡ listed found 0 key
      ++ with_row key (found key) []
  listed_more found key = ap (λ n. listed found 0 n) (add-one key) ∙ next found 0 key
      ∙ ap (λ k. listed found 0 key ++ with_row k (found k) []) (omega arith)

  -- a table is what is found in it at each key below one that is above all of its own
  pub listed_whole : (table : Table X) (end : ℕ) → Ascends table → ((q : ℕ) → end ≤ q → at table q ≡ None)
      → listed (at table) 0 end ≡ table
  listed_whole table end s above =
      same_rows (listed (at table) 0 end) table (ascends_listed (at table) 0 end) s each where
        each : (q : ℕ) → at (listed (at table) 0 end) q ≡ at table q
        each q = by (cases_lt q end) where
          by : ((q < end) ⊎ (end ≤ q)) → at (listed (at table) 0 end) q ≡ at table q
          by (inl less) = at_listed (at table) q 0 end (omega arith) (omega (arith, less))
          by (inr past) = at_behind (at table) q 0 end (omega (arith, past)) ∙ sym (above q past)

  few_more : (key more : ℕ) (o : Option X) (rest : Table X) → length rest ≤ more → length (with_row key o rest)
      ≤ suc more
  few_more key more None rest h = omega (arith, h)
  few_more key more (Some x) rest h = omega (arith, h)

  pub listed_few : (found : ℕ → Option X) (key more : ℕ) → length (listed found key more) ≤ more
  unfolding listed
  listed_few found key zero = omega arith
  listed_few found key (suc more) = few_more key more (found key) (listed found (key + 1) more)
      (listed_few found (key + 1) more)

  pub counted_more : (found : ℕ → Option X) (key count : ℕ) (some : Bool) → count ≡ length (listed found 0 key)
      → some ≡ is_some (found key) → count + cond some 1 0 ≡ length (listed found 0 (key + 1))
  counted_more found key count some before is =
      ap (λ n. n + cond some 1 0) before
      ∙ ap (λ b. length (listed found 0 key) + cond b 1 0) is
      ∙ ap (λ n. length (listed found 0 key) + n) (one key (found key))
      ∙ sym (length-append (listed found 0 key) (with_row key (found key) []))
      ∙ ap length (sym (listed_more found key)) where
        one : (key : ℕ) (o : Option X) → cond (is_some o) 1 0 ≡ length (with_row key o [])
        one key None = refl
        one key (Some x) = refl
