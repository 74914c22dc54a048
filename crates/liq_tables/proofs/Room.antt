-- Keys with room: those at which a map has a row, used or not.
use Rattle.std.proofs.Common.{◌≡◌, ℕ, Bool, true, false, cond, [], ◌∷◌, refl, ap, sym, subst, ◌∙◌, ◌≤◌, Some, None, Option, arith, List, Bor}
use Rattle.std.specs.Prelude.{◌==◌, IsSome}
use Rattle.std.specs.Option.{is_some, option_copied}
use Rattle.std.specs.BTreeMap.{is_at}
use Rattle.std.specs.List.{Contains}
use Rattle.std.specs.List.Sorted.{IsStrictlySortedBy}
use Rattle.std.specs.Map.{keys_of}
use Rattle.std.specs.Ordering.{nat_cmp, is_eq, match_ordering}
use Rattle.std.specs.declared.cmp.Ordering.{Ordering}
use Rattle.std.specs.declared.cmp.Ordering.TheVariants.{Less, Equal, Greater}
use Rattle.std.specs.Cmp.{nat_cmp_total, eq_by_cmp_equiv}
use Rattle.std.proofs.lemmas.Bool.Decides.{nat_tests}
use Rattle.std.proofs.lemmas.Map.{lookup-none}
use Rattle.std.proofs.lemmas.Map.Entries.{option_filter, none_below_head}
use Rattle.std.proofs.lemmas.Map.Keys.{sorted_tail}
use Rattle.std.proofs.lemmas.Map.Views.{Contains-keys_from_lookup, IsSome-lookup_from_Contains}
use Rattle.liq_types.proofs.Lookups.{at-put_same, at-put_other, same_key}
use Rattle.liq_types.proofs.UsedRows.{at-rows, rows-put, rows-ascends}
use Rattle.liq_types.specs.Tables.{Table, at, put, without, rows}
use Rattle.liq_types.specs.WellFormed.{Ascends}
use Rattle.liq_tables.specs.Pages.{listed}
use Rattle.liq_tables.specs.WithRoom.{written}
use Rattle.liq_tables.proofs.Listed.{listed_whole}
use Rattle.liq_types.proofs.Tests.{some}

module _ {X : Type 0} where
  pub room_from_row : (table : Table X) (key : ℕ) → IsSome (at table key) → Contains (keys_of table) key
  room_from_row table key h = Contains-keys_from_lookup same_key key table h

  pub row_from_room : (table : Table X) (key : ℕ) → Contains (keys_of table) key → IsSome (at table key)
  row_from_room table key h = IsSome-lookup_from_Contains (eq_by_cmp_equiv nat_cmp_total) key table h

  pub room-put_same : (table : Table X) (key : ℕ) (x : X) → Contains (keys_of (put table key x)) key
  room-put_same table key x =
      room_from_row (put table key x) key (some (at (put table key x) key) x (at-put_same table key x))

  pub room-put : (table : Table X) (key : ℕ) (x : X) (q : ℕ) → Contains (keys_of table) q
      → Contains (keys_of (put table key x)) q
  room-put table key x q h = by (key == q) refl where
    by : (b : Bool) → (key == q) ≡ b → Contains (keys_of (put table key x)) q
    by true e =
        let same : key ≡ q = grind (arith, nat_tests, e) in
        subst (λ k. Contains (keys_of (put table key x)) k) same (room-put_same table key x)
    by false e =
        room_from_row (put table key x) q
        (subst (λ (o : Option X). IsSome o) (sym (at-put_other table key x q e)) (row_from_room table q h))

  -- a key without a row has none to take out
  pub without_none : (table : Table X) (key : ℕ) → at table key ≡ None → without table key ≡ table
  without_none [] key h = refl
  without_none (e ∷ es) key h = by (is_eq (nat_cmp key e.0)) h (without_none es key) where
    by : (b : Bool) → cond b (Some e.1) (at es key) ≡ None → (at es key ≡ None → without es key ≡ es)
        → cond b es (e ∷ without es key) ≡ e ∷ es
    by true g more = cc
    by false g more = ap (λ (t : Table X). e ∷ t) (more g)

  -- at a key without room only a row that is not used may be written, which changes nothing
  pub unwritten : (used : X → Bool) (table : Table X) (key : ℕ) (x : X) → IsStrictlySortedBy nat_cmp (keys_of table)
      → at table key ≡ None → (used x ≡ true → Contains (keys_of table) key) → written used (rows used table) key x
      ≡ rows used table
  unwritten used table key x s none room = by (used x) refl where
    by : (b : Bool) → used x ≡ b → cond b (put (rows used table) key x) (without (rows used table) key)
        ≡ rows used table
    by true h = let there = subst (λ (o : Option X). IsSome o) none (row_from_room table key (room h)) in cc
    by false h = without_none (rows used table) key (at-rows used table key s ∙ ap (option_filter used) none)

  -- what a look-up finds is read where it is used
  pub read : (used : X → Bool) (table : Table X) (key : ℕ) (o : Option X) → IsStrictlySortedBy nat_cmp (keys_of table)
      → at table key ≡ o → at (rows used table) key ≡ option_filter used o
  read used table key o s h = at-rows used table key s ∙ ap (option_filter used) h

  -- another row at a key keeps the room
  pub keys-put : (table : Table X) (key : ℕ) (x : X) → IsStrictlySortedBy nat_cmp (keys_of table)
      → IsSome (at table key) → keys_of (put table key x) ≡ keys_of table
  keys-put [] key x s h = cc
  keys-put (e ∷ es) key x s h =
      by (nat_cmp key e.0) refl h (keys-put es key x (sorted_tail nat_cmp e.0 (keys_of es) s)) where
        by : (o : Ordering) → nat_cmp key e.0 ≡ o → IsSome (cond (is_eq o) (Some e.1) (at es key)) → (IsSome (at es key)
            → keys_of (put es key x) ≡ keys_of es)
            → keys_of (match_ordering o ((key, x) ∷ e ∷ es) ((e.0, x) ∷ es) (e ∷ put es key x)) ≡ keys_of (e ∷ es)
        by Less l i more =
            let none : at (e ∷ es) key ≡ None = lookup-none (is_at (nat_cmp key)) (e ∷ es)
            (none_below_head nat_cmp_total key e es s l) in
            let there = subst (λ (o : Option X). IsSome o) none h in
            cc
        by Equal q i more = refl
        by Greater g i more = ap (λ (l : List ℕ). e.0 ∷ l) (more i)

  pub some-copied : (o : Option (Bor X)) → is_some (option_copied o) ≡ is_some o
  some-copied None = refl
  some-copied (Some x) = refl

  -- a row that is replaced where there is one
  pub replaced-put : (table after : Table X) (key : ℕ) (x y : X)
      → after ≡ cond (is_some (at table key)) (put table key x) table → at table key ≡ Some y → after ≡ put table key x
  replaced-put table after key x y h there = h ∙ ap (λ (o : Option X). cond (is_some o) (put table key x) table) there

  pub replaced-none : (table after : Table X) (key : ℕ) (x : X)
      → after ≡ cond (is_some (at table key)) (put table key x) table → at table key ≡ None → after ≡ table
  replaced-none table after key x h none = h ∙ ap (λ (o : Option X). cond (is_some o) (put table key x) table) none

  -- then what is seen is written, and the room stays
  pub replaced-rows : (used : X → Bool) (table after : Table X) (key : ℕ) (x y : X)
      → IsStrictlySortedBy nat_cmp (keys_of table) → after ≡ cond (is_some (at table key)) (put table key x) table
      → at table key ≡ Some y → rows used after ≡ written used (rows used table) key x
  replaced-rows used table after key x y s h there =
      ap (λ (t : Table X). rows used t) (replaced-put table after key x y h there) ∙ rows-put used table key x s

  pub replaced-keys : (table after : Table X) (key : ℕ) (x y : X) → IsStrictlySortedBy nat_cmp (keys_of table)
      → after ≡ cond (is_some (at table key)) (put table key x) table → at table key ≡ Some y
      → keys_of after ≡ keys_of table
  replaced-keys table after key x y s h there =
      ap (λ (t : Table X). keys_of t) (replaced-put table after key x y h there)
      ∙ keys-put table key x s (some (at table key) y there)

  -- all that is seen is found below a key that is above those of all rows
  pub all_seen : (used : X → Bool) (table seen : Table X) (end : ℕ) → rows used table ≡ seen → Ascends table
      → ((key : ℕ) → end ≤ key → at table key ≡ None) → listed (at seen) 0 end ≡ seen
  all_seen used table seen end view s above =
      listed_whole seen end (subst Ascends view (rows-ascends used table s))
      (λ key past. ap (λ (t : Table X). at t key) (sym view) ∙ read used table key None s (above key past))
