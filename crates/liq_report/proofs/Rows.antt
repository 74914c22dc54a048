-- The rows of a table from a key on, as a loop over all keys meets and sends them.
use Rattle.std.proofs.Common.{◌≡◌, ℕ, ◌+◌, ◌<◌, ◌≤◌, Bool, true, false, cond, [], ◌∷◌, Option, Some, None, Result, ◌⊎◌, inl, inr, refl, sym, ap, ap₂, subst, ◌∙◌, arith}
use Rattle.std.specs.Prelude.{OnOk, filter, map, nat_le, option_map}
use Rattle.std.specs.List.{AllByRecursion}
use Rattle.std.specs.Map.{keys_of}
use Rattle.std.specs.Ordering.{nat_cmp, is_eq}
use Rattle.std.specs.declared.cmp.Ordering.TheVariants.{Less}
use Rattle.std.proofs.lemmas.Bool.{cases_lt}
use Rattle.std.proofs.lemmas.Bool.Decides.{nat_tests}
use Rattle.std.proofs.lemmas.Map.Keys.{sorted_head, sorted_tail}
use Rattle.std.proofs.lemmas.Result.{on_ok_weaker}
use Rattle.serde.specs.Event.{Log, Logs, seq_begins, seq_ends}
use Rattle.serde_json.specs.Data.{Data, Items}
use Rattle.serde_json.specs.Events.{SendsItems, SendsValue}
use Rattle.serde_json.specs.View.{items_of}
use Rattle.liq_types.specs.Tables.{Table, at}
use Rattle.liq_types.specs.WellFormed.{Ascends}
use Rattle.liq_report.specs.Sent.{SendsList}

module _ {X : Type 0} where
  -- the rows from a key on
  abbrev pub from : ℕ → Table X → Table X
  from key table = filter (λ (row : ℕ × X). nat_le key row.0) table

  abbrev Above : ℕ → Table X → Type 0
  Above key table = AllByRecursion (λ y. key < y) (keys_of table)

  higher : (a b : ℕ) → a ≤ b → (table : Table X) → AllByRecursion (λ y. nat_cmp b y ≡ Less) (keys_of table)
      → Above a table
  higher a b le [] h = tt
  higher a b le (e ∷ es) h = (grind (arith, nat_tests, le, h.0), higher a b le es h.1)

  all_from : (key j : ℕ) → j ≤ key + 1 → (table : Table X) → Above key table → from j table ≡ table
  all_from key j le [] h = refl
  all_from key j le (e ∷ es) h =
      ap₂ (λ (b : Bool) (rest : Table X). cond b (e ∷ rest) rest) (passes e.0 h.0) (all_from key j le es h.1) where
        passes : (k : ℕ) → key < k → nat_le j k ≡ true
        passes k l = grind (arith, nat_tests, le, l)

  none_at : (key : ℕ) (table : Table X) → Above key table → at table key ≡ None
  none_at key [] h = refl
  none_at key (e ∷ es) h = ap (λ b. cond b (Some e.1) (at es key)) (other e.0 h.0) ∙ none_at key es h.1 where
    other : (k : ℕ) → key < k → is_eq (nat_cmp key k) ≡ false
    other k l = grind (arith, nat_tests, l)

  -- all rows are from 0 on, and none from a key on that is above all
  pub from_zero : (table : Table X) → from 0 table ≡ table
  from_zero [] = refl
  from_zero (e ∷ es) =
      ap₂ (λ (b : Bool) (rest : Table X). cond b (e ∷ rest) rest) (first e.0) (from_zero es) where
        first : (k : ℕ) → nat_le 0 k ≡ true
        first k = grind (arith, nat_tests)

  pub from_end : (end key : ℕ) → end ≤ key → (table : Table X) → AllByRecursion (λ y. y < end) (keys_of table)
      → from key table ≡ []
  from_end end key le [] h = refl
  from_end end key le (e ∷ es) h =
      ap (λ b. cond b (e ∷ from key es) (from key es)) (past e.0 h.0) ∙ from_end end key le es h.1 where
        past : (k : ℕ) → k < end → nat_le key k ≡ false
        past k l = grind (arith, nat_tests, le, l)

  -- a key without a row is passed
  pub passed : (key : ℕ) (table : Table X) → Ascends table → at table key ≡ None → from key table
      ≡ from (key + 1) table
  passed key [] s none = refl
  passed key (e ∷ es) s none = by (is_eq (nat_cmp key e.0)) refl (λ later.
      passed key es (sorted_tail nat_cmp e.0 (keys_of es) s) later) where
        same : (k : ℕ) → is_eq (nat_cmp key k) ≡ false → nat_le key k ≡ nat_le (key + 1) k
        same k other = grind (arith, nat_tests, other)

        found : Some e.1 ≡ None → ⊥
        found h = cc

        by : (b : Bool) → is_eq (nat_cmp key e.0) ≡ b → (at es key ≡ None → from key es ≡ from (key + 1) es)
            → from key (e ∷ es) ≡ from (key + 1) (e ∷ es)
        by true here rest = absurd (found (sym (ap (λ b. cond b (Some e.1) (at es key)) here) ∙ none))
        by false other rest =
            ap₂ (λ (b : Bool) (later : Table X). cond b (e ∷ later) later) (same e.0 other)
            (rest (sym (ap (λ b. cond b (Some e.1) (at es key)) other) ∙ none))

  -- a key with a row is the first of those from it on
  pub taken : (key : ℕ) (table : Table X) (x : X) → Ascends table → at table key ≡ Some x → from key table
      ≡ (key, x) ∷ from (key + 1) table
  taken key [] x s some = absurd cc
  taken key (e ∷ es) x s some = by (is_eq (nat_cmp key e.0)) refl (λ later.
      taken key es x (sorted_tail nat_cmp e.0 (keys_of es) s) later) where
        lower : AllByRecursion (λ y. nat_cmp e.0 y ≡ Less) (keys_of es)
        lower = sorted_head nat_cmp e.0 (keys_of es) s

        row_is : key ≡ e.0 → e.1 ≡ x → e ≡ (key, x)
        row_is k v = ap₂ (λ (a : ℕ) (b : X). (a, b)) (sym k) v

        value_is : {A : Type 0} (a b : A) → Some a ≡ Some b → a ≡ b
        value_is a b h = cc

        key_is : (k : ℕ) → is_eq (nat_cmp key k) ≡ true → key ≡ k
        key_is k h = grind (arith, nat_tests, h)

        begins : (k : ℕ) → key ≡ k → nat_le key k ≡ true
        begins k h = grind (arith, nat_tests, h)

        ends : (k : ℕ) → key ≡ k → nat_le (key + 1) k ≡ false
        ends k h = grind (arith, nat_tests, h)

        behind : (j k : ℕ) → k < j → nat_le j k ≡ false
        behind j k l = grind (arith, nat_tests, l)

        first : key ≡ e.0 → e.1 ≡ x → from key (e ∷ es) ≡ (key, x) ∷ from (key + 1) (e ∷ es)
        first here value =
            let above : Above key es = higher key e.0 (omega (arith, here)) es lower in
            ap₂ (λ (b : Bool) (rest : Table X). cond b (e ∷ rest) rest) (begins e.0 here)
            (all_from key key (omega arith) es above)
            ∙ ap₂ (λ (row : ℕ × X) (rest : Table X). row ∷ rest) (row_is here value)
            (sym (ap₂ (λ (b : Bool) (rest : Table X). cond b (e ∷ rest) rest) (ends e.0 here)
            (all_from key (key + 1) (omega arith) es above)))

        further : from key es ≡ (key, x) ∷ from (key + 1) es → e.0 < key → from key (e ∷ es)
            ≡ (key, x) ∷ from (key + 1) (e ∷ es)
        further rest less =
            ap (λ b. cond b (e ∷ from key es) (from key es)) (behind key e.0 less)
            ∙ rest
            ∙ ap (λ (after : Table X). (key, x) ∷ after)
            (sym (ap (λ b. cond b (e ∷ from (key + 1) es) (from (key + 1) es))
            (behind (key + 1) e.0 (omega (arith, less)))))

        apart : (k : ℕ) → is_eq (nat_cmp key k) ≡ false → k ≤ key → k < key
        apart k h le = grind (arith, nat_tests, h, le)

        none_some : None ≡ Some x → ⊥
        none_some h = cc

        order : is_eq (nat_cmp key e.0) ≡ false → at es key ≡ Some x → ((key < e.0) ⊎ (e.0 ≤ key)) → e.0 < key
        order other later (inl less) =
            absurd (none_some (sym (none_at key es (higher key e.0 (omega (arith, less)) es lower)) ∙ later))
        order other later (inr past) = apart e.0 other past

        by : (b : Bool) → is_eq (nat_cmp key e.0) ≡ b
            → (at es key ≡ Some x → from key es ≡ (key, x) ∷ from (key + 1) es)
            → from key (e ∷ es) ≡ (key, x) ∷ from (key + 1) (e ∷ es)
        by true here rest =
            first (key_is e.0 here) (value_is e.1 x (sym (ap (λ b. cond b (Some e.1) (at es key)) here) ∙ some))
        by false other rest =
            let later : at es key ≡ Some x = sym (ap (λ b. cond b (Some e.1) (at es key)) other) ∙ some in
            further (rest later) (order other later (cases_lt key e.0))

-- ---- sent, each as a value

module _ {X : Type 0} (data_of : ℕ × X → Data) (table : Table X) where
  -- the values of the rows from a key on
  abbrev pub rest : ℕ → Items
  rest key = items_of (map data_of (from key table))

  pub rest_whole : (old end : Log) → SendsItems (rest 0) old end → SendsItems (items_of (map data_of table)) old end
  rest_whole old end h =
      subst (λ (rows : Table X). SendsItems (items_of (map data_of rows)) old end) (from_zero table) h

  pub rest_ended : (end key : ℕ) → end ≤ key → AllByRecursion (λ y. y < end) (keys_of table) → (old new : Log)
      → Logs old new seq_ends → SendsItems (rest key) old new
  rest_ended end key le below old new h =
      subst (λ (rows : Table X). SendsItems (items_of (map data_of rows)) old new)
      (sym (from_end end key le table below)) h

  -- the list is sent, where its end is sent behind the last row
  pub list_sent : {T E : Type 0} (ended : Result T E) (end key : ℕ) → end ≤ key
      → AllByRecursion (λ y. y < end) (keys_of table) → (old first last new : Log) → Logs old first (seq_begins None)
      → ((closed : Log) → SendsItems (rest key) last closed → SendsItems (items_of (map data_of table)) first closed)
      → OnOk ended (Logs last new seq_ends) → OnOk ended (SendsList (map data_of table) old new)
  list_sent ended end key le below old first last new begun all sent =
      on_ok_weaker ended (λ h. (first, begun, all new (rest_ended end key le below last new h))) sent

mapped_none : {X V : Type 0} (f : X → V) (o : Option X) → None ≡ option_map f o → o ≡ None
mapped_none f None h = refl
mapped_none f (Some x) h = absurd cc

mapped_some : {X V : Type 0} (f : X → V) (o : Option X) (v : V) → Some v ≡ option_map f o
    → (x : X) × (o ≡ Some x) × (v ≡ f x)
mapped_some f None v h = absurd cc
mapped_some f (Some x) v h = (x, refl, value_is v (f x) h) where
  value_is : {V : Type 0} (a b : V) → Some a ≡ Some b → a ≡ b
  value_is a b h = cc

-- each by what is told of its row
module _ {X V : Type 0} (told : ℕ → X → V) (data_of : ℕ → V → Data) (table : Table X) where
  abbrev each : ℕ × X → Data
  each row = data_of row.0 (told row.0 row.1)

  pub rest_without : (key : ℕ) → Ascends table → None ≡ option_map (told key) (at table key) → (old end : Log)
      → SendsItems (rest each table (key + 1)) old end → SendsItems (rest each table key) old end
  rest_without key s none old end h =
      subst (λ (rows : Table X). SendsItems (items_of (map each rows)) old end)
      (sym (passed key table s (mapped_none (told key) (at table key) none))) h

  pub rest_with : (key : ℕ) (v : V) → Ascends table → Some v ≡ option_map (told key) (at table key)
      → (old mid end : Log) → SendsValue (data_of key v) old mid → SendsItems (rest each table (key + 1)) mid end
      → SendsItems (rest each table key) old end
  rest_with key v s some old mid end sent h =
      let row = mapped_some (told key) (at table key) v some in
      subst (λ (rows : Table X). SendsItems (items_of (map each rows)) old end) (sym (taken key table row.0 s row.1))
      (mid, subst (λ (w : V). SendsValue (data_of key w) old mid) row.2 sent, h)
