-- Fields put behind bytes one after the other.
use Rattle.std.proofs.Common.{◌≡◌, ℕ, ◌+◌, ◌<◌, ◌≤◌, List, [], ◌∷◌, ◌++◌, length, get_or, take, map, sym, ap, subst, ◌∙◌, append_assoc}
use Rattle.std.specs.List.{flat_map}
use Rattle.std.proofs.lemmas.List.{append-nil, flat_map_more, length-map, map-append, take_all, take_more}
use Rattle.liq_checkpoint.specs.Spelling.{Field, Puts, eights, spelled, table}
use Rattle.liq_checkpoint.proofs.Fields.{Fit-append, spelled-append}

pub Puts-none : (a : List ℕ) → Puts a a []
Puts-none a = record { items = sym (append-nil a); fit = tt }

pub Puts-then : {a b c : List ℕ} {fields more : List Field} → Puts a b fields → Puts b c more
    → Puts a c (fields ++ more)
Puts-then {a} {b} {c} {fields} {more} p q = record {
  items = q.items ∙ ap (λ (bytes : List ℕ). bytes ++ spelled more) p.items
      ∙ append_assoc a (spelled fields) (spelled more)
      ∙ ap (λ (bytes : List ℕ). a ++ bytes) (sym (spelled-append fields more));
  fit = Fit-append fields more p.fit q.fit;
}

-- ---- rows, as a loop over the program's rows puts them

module _ {R V : Type 0} (view : R → V) (spell : V → List Field) where
  pub row_more : (front : List Field) (old now new : List ℕ) (rows : List R) (i : ℕ) (d : R) → i < length rows
      → Puts old now (front ++ flat_map spell (map view (take i rows))) → Puts now new (spell (view (get_or rows i d)))
      → Puts old new (front ++ flat_map spell (map view (take (i + 1) rows)))
  row_more front old now new rows i d lt so_far one =
      let row : R = get_or rows i d in
      let more : take (i + 1) rows ≡ take i rows ++ row ∷ [] = take_more rows i d lt in
      let seen : map view (take (i + 1) rows) ≡ map view (take i rows) ++ view row ∷ [] = ap (map view) more
      ∙ map-append view (take i rows) (row ∷ []) in
      let fields : (front ++ flat_map spell (map view (take i rows))) ++ spell (view row)
      ≡ front ++ flat_map spell (map view (take (i + 1) rows)) = flat_map_more spell front (map view (take i rows))
      (view row) ∙ ap (λ (vs : List V). front ++ flat_map spell vs) (sym seen) in
      subst (Puts old new) fields (Puts-then so_far one)

  pub all_rows : (old new : List ℕ) (rows : List R) (i : ℕ) → length rows ≤ i
      → Puts old new ((8, length rows) ∷ flat_map spell (map view (take i rows)))
      → Puts old new (table spell (map view rows))
  all_rows old new rows i le so_far =
      let whole : Puts old new ((8, length rows) ∷ flat_map spell (map view rows)) =
      subst (λ (rs : List R). Puts old new ((8, length rows) ∷ flat_map spell (map view rs))) (take_all i rows le)
      so_far in
      subst (λ (n : ℕ). Puts old new ((8, n) ∷ flat_map spell (map view rows))) (sym (length-map rows view)) whole

-- ---- numbers

pub number_more : (old now new numbers : List ℕ) (i : ℕ) → i < length numbers → Puts old now (eights (take i numbers))
    → Puts now new ((8, get_or numbers i 0) ∷ []) → Puts old new (eights (take (i + 1) numbers))
number_more old now new numbers i lt so_far one =
    let n = get_or numbers i 0 in
    let more : take (i + 1) numbers ≡ take i numbers ++ n ∷ [] = take_more numbers i 0 lt in
    let seen : eights (take (i + 1) numbers) ≡ eights (take i numbers) ++ (8, n) ∷ [] = ap eights more
    ∙ map-append (λ (m : ℕ). (8, m)) (take i numbers) (n ∷ []) in
    subst (Puts old new) (sym seen) (Puts-then so_far one)
