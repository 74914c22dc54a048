-- An image that is read has its tables, whatever the numbers are that stand for its bytes: each key once, in order,
-- and no empty row.
use Rattle.std.proofs.Common.{◌≡◌, ℕ, zero, suc, ◌≤◌, Bool, true, false, List, [], ◌∷◌, length, Option, Some, None, Result, Ok, Err, refl, ap, subst, arith}
use Rattle.std.specs.Prelude.{IfOk, not, nat_le, nat_lt, ◌&&◌, ◌==◌}
use Rattle.std.specs.Cmp.{IsTotalOrder, nat_cmp_total, on_total, then_total}
use Rattle.std.specs.List.{AllByRecursion}
use Rattle.std.specs.List.Sorted.{IsStrictlySortedBy}
use Rattle.std.specs.Map.{keys_of, values_of}
use Rattle.std.specs.Ordering.{is_lt, nat_cmp}
use Rattle.std.specs.declared.cmp.Ordering.{Ordering}
use Rattle.std.specs.declared.cmp.Ordering.TheVariants.{Less, Equal, Greater}
use Rattle.std.proofs.lemmas.Bool.Decides.{nat_tests}
use Rattle.liq_types.specs.declared.figures.Deposit.{Deposit}
use Rattle.liq_types.specs.declared.figures.Trove.{Trove}
use Rattle.liq_types.specs.declared.figures.Wallet.{Wallet}
use Rattle.liq_types.specs.declared.image.Image.{Image}
use Rattle.liq_types.specs.Product.{place_order}
use Rattle.liq_types.specs.Soundness.{HasTables, IsClientRow, is_before}
use Rattle.liq_types.specs.State.{is_used_wallet}
use Rattle.liq_types.specs.Tables.{EpochScale}
use Rattle.liq_types.proofs.Ascending.{below_more}
use Rattle.liq_checkpoint.specs.Reading.{◌>>=◌, client_at, deposit_at, finished_at, image_at, is_kind, key_at, limit_at, number_at, numbers_at, rows_at, some_at, surplus_at, table_at, tables_at, tested, trove_at, wallet_at, words_at}

-- ---- what holds of whatever is read

then : {A B : Type 0} (P : B → Type 0) (Q : A → Type 0) (r : Result A ℕ) (f : A → Result B ℕ) → IfOk r Q
    → ((x : A) → Q x → IfOk (f x) P) → IfOk (r >>= f) P
then P Q (Ok x) f read on = on x read
then P Q (Err place) f read on = tt

-- whatever is read first
anyway : {A B : Type 0} (P : B → Type 0) (r : Result A ℕ) (f : A → Result B ℕ) → ((x : A) → IfOk (f x) P)
    → IfOk (r >>= f) P
anyway P (Ok x) f on = on x
anyway P (Err place) f on = tt

where_it_fits : {A : Type 0} (P : A → Type 0) (fits : Bool) (end : ℕ) (at : List ℕ) (x : A) → (fits ≡ true → P x)
    → IfOk (tested fits end at x) P
where_it_fits P true end at x on = on refl
where_it_fits P false end at x on = tt

-- ---- parts of rows

is_less : (order : Ordering) → is_lt order ≡ true → order ≡ Less
is_less Less is = refl
is_less Equal is = absurd (cc (is))
is_less Greater is = absurd (cc (is))

-- the key comes behind the last one before it
abbrev IsBehind : {K : Type 0} → (K → K → Ordering) → Option K → K → Type 0
IsBehind cmp None key = Unit {0}
IsBehind cmp (Some last) key = cmp last key ≡ Less

key_read : (end : ℕ) (last : Option ℕ) (at : List ℕ)
    → IfOk (key_at end last at) (λ (x : ℕ × List ℕ). IsBehind nat_cmp last x.0)
unfolding key_at
key_read end None at = anyway _ (number_at end 4 at) _ λ key. tt
key_read end (Some last) at = anyway _ (number_at end 4 at) _ λ key.
    where_it_fits _ (nat_lt last key.0) end at key (λ is. is_less (nat_cmp last key.0) (grind (arith, nat_tests, is)))

some_read : (end count : ℕ) (at : List ℕ) → IfOk (some_at end count at) (λ (x : ℕ × List ℕ). 1 ≤ x.0)
unfolding some_at
some_read end count at = anyway _ (number_at end count at) _ λ n.
    where_it_fits _ (not (n.0 == 0)) end at n (λ is. grind (arith, nat_tests, is))

numbers_read : (end count : ℕ) (at : List ℕ)
    → IfOk (numbers_at end count at) (λ (x : List ℕ × List ℕ). length x.0 ≡ count)
unfolding numbers_at
numbers_read end zero at = refl
numbers_read end (suc n) at = anyway _ (number_at end 8 at) _ λ first.
    then _ _ (numbers_at end n first.1) _ (numbers_read end n first.1) λ others many. ap suc many

-- ---- rows

abbrev IsRow : {K X : Type 0} → (Option K → List ℕ → Result ((K × X) × List ℕ) ℕ) → (X → Type 0)
    → (K → K → Ordering) → Type 0
IsRow {K} {X} row_at Used cmp = (last : Option K) (at : List ℕ)
    → IfOk (row_at last at) (λ (x : (K × X) × List ℕ). Used x.0.1 × IsBehind cmp last x.0.0)

wallet_row : (end : ℕ) → IsRow (wallet_at end) (λ (w : Wallet). is_used_wallet w ≡ true) nat_cmp
unfolding wallet_at
wallet_row end last at =
    then _ _ (key_at end last at) _ (key_read end last at) λ account behind.
    anyway _ (number_at end 8 account.1) _ λ coll.
    anyway _ (number_at end 8 coll.1) _ λ lusd.
    where_it_fits (λ (x : (ℕ × Wallet) × List ℕ). (is_used_wallet x.0.1 ≡ true) × IsBehind nat_cmp last x.0.0)
    (not (coll.0 == 0 && lusd.0 == 0)) end coll.1 ((account.0, record { coll = coll.0; lusd = lusd.0 }), lusd.1)
    (λ used. (used, behind))

trove_row : (end : ℕ) → IsRow (trove_at end) (λ (t : Trove). Unit {0}) nat_cmp
unfolding trove_at
trove_row end last at =
    then _ _ (key_at end last at) _ (key_read end last at) λ account behind.
    anyway _ (number_at end 8 account.1) _ λ coll.
    anyway _ (number_at end 8 coll.1) _ λ debt.
    anyway _ (number_at end 8 debt.1) _ λ stake.
    anyway _ (number_at end 16 stake.1) _ λ mark_coll.
    anyway _ (number_at end 16 mark_coll.1) _ λ mark_debt. (tt, behind)

surplus_row : (end : ℕ) → IsRow (surplus_at end) (λ coll. 1 ≤ coll) nat_cmp
unfolding surplus_at
surplus_row end last at =
    then _ _ (key_at end last at) _ (key_read end last at) λ account behind.
    then _ _ (some_at end 8 account.1) _ (some_read end 8 account.1) λ coll some. (some, behind)

finished_row : (end : ℕ) → IsRow (finished_at end) (λ sum. 1 ≤ sum) place_order
unfolding finished_at
finished_row end None at =
    anyway _ (number_at end 8 at) _ λ epoch.
    anyway _ (number_at end 8 epoch.1) _ λ scale.
    then _ _ (some_at end 16 scale.1) _ (some_read end 16 scale.1) λ sum some. (some, tt)
finished_row end (Some last) at =
    anyway _ (number_at end 8 at) _ λ number.
    anyway _ (tested (nat_le last.0 number.0) end at number) _ λ epoch.
    anyway _ (number_at end 8 epoch.1) _ λ next.
    then _ (λ (scale : ℕ × List ℕ). is_before last (epoch.0, scale.0) ≡ true) _ _
    (where_it_fits _ (is_before last (epoch.0, next.0)) end epoch.1 next (λ is. is)) λ scale behind.
    then _ _ (some_at end 16 scale.1) _ (some_read end 16 scale.1) λ sum some.
    (some, is_less (place_order last (epoch.0, scale.0)) (grind (arith, nat_tests, behind)))

deposit_row : (end : ℕ) → IsRow (deposit_at end) (λ (d : Deposit). 1 ≤ d.amount) nat_cmp
unfolding deposit_at
deposit_row end last at =
    then _ _ (key_at end last at) _ (key_read end last at) λ account behind.
    then _ _ (some_at end 8 account.1) _ (some_read end 8 account.1) λ amount some.
    anyway _ (number_at end 16 amount.1) _ λ p.
    anyway _ (number_at end 16 p.1) _ λ sum.
    anyway _ (number_at end 8 sum.1) _ λ scale.
    anyway _ (number_at end 8 scale.1) _ λ epoch. (some, behind)

within : (kind : ℕ) → is_kind kind ≡ true → (1 ≤ kind) × (kind ≤ 16)
within kind is = (grind (arith, nat_tests, is), grind (arith, nat_tests, is))

client_row : (end : ℕ) → IsRow (client_at end) IsClientRow nat_cmp
unfolding client_at
client_row end last at =
    then _ _ (key_at end last at) _ (key_read end last at) λ client behind.
    then _ _ (some_at end 8 client.1) _ (some_read end 8 client.1) λ number some.
    anyway _ (number_at end 1 number.1) _ λ verb.
    then _ (λ (kind : ℕ × List ℕ). is_kind kind.0 ≡ true) _ _
    (where_it_fits _ (is_kind verb.0) end number.1 verb (λ is. is)) λ kind known.
    then _ _ (numbers_at end 6 kind.1) _ (numbers_read end 6 kind.1) λ values six.
    (record { last = some; kind = within kind.0 known; values = six }, behind)

-- ---- tables

abbrev AreBehind : {K X : Type 0} → (K → K → Ordering) → Option K → List (K × X) → Type 0
AreBehind cmp None rows = Unit {0}
AreBehind cmp (Some last) rows = AllByRecursion (λ key. cmp last key ≡ Less) (keys_of rows)

-- rows that are of use, each behind the one before it
record AreRows {K X : Type 0} (Used : X → Type 0) (cmp : K → K → Ordering) (last : Option K) (rows : List (K × X)) :
    Type 0 where
  used : AllByRecursion Used (values_of rows)
  ascend : IsStrictlySortedBy cmp (keys_of rows)
  behind : AreBehind cmp last rows

module _
    {K X : Type 0} (row_at : Option K → List ℕ → Result ((K × X) × List ℕ) ℕ) (Used : X → Type 0)
    (cmp : K → K → Ordering) (total : IsTotalOrder cmp) (is_row : IsRow row_at Used cmp) where
  no_rows : (last : Option K) → AreRows Used cmp last []
  unfolding IsStrictlySortedBy
  no_rows None = record { used = tt; ascend = tt; behind = tt }
  no_rows (Some last) = record { used = tt; ascend = tt; behind = tt }

  one_more : (last : Option K) (row : K × X) (rows : List (K × X)) → IsBehind cmp last row.0
      → AreBehind cmp (Some row.0) rows → AreBehind cmp last (row ∷ rows)
  one_more None row rows first others = tt
  one_more (Some last) row rows first others = (first, below_more total last row.0 rows first others)

  rows_read : (count : ℕ) (last : Option K) (at : List ℕ) → IfOk (rows_at row_at count last at)
      (λ (x : List (K × X) × List ℕ). AreRows Used cmp last x.0)
  unfolding rows_at IsStrictlySortedBy
  rows_read zero last at = no_rows last
  rows_read (suc n) last at =
      then _ _ (row_at last at) _ (is_row last at) λ row one.
      then _ _ (rows_at row_at n (Some row.0.0) row.1) _ (rows_read n (Some row.0.0) row.1) λ others all. record {
        used = (one.0, all.used);
        ascend = (all.behind, all.ascend);
        behind = one_more last row.0 others.0 one.1 all.behind;
      }

  table_read : (end : ℕ) (at : List ℕ) → IfOk (table_at row_at end at)
      (λ (x : List (K × X) × List ℕ). AreRows Used cmp None x.0)
  unfolding table_at
  table_read end at = anyway _ (number_at end 8 at) _ λ count. rows_read count.0 None count.1

place_total : IsTotalOrder place_order
place_total = then_total (on_total (λ (place : EpochScale). place.0) nat_cmp_total)
    (on_total (λ (place : EpochScale). place.1) nat_cmp_total)

-- ---- an image

tables_then : (end : ℕ) (words : Image) (at : List ℕ) → IfOk (tables_at end words at) HasTables
tables_then end words at =
    then _ _ (table_at (wallet_at end) end at) _
    (table_read _ _ _ nat_cmp_total (wallet_row end) end at) λ wallets w.
    then _ _ (table_at (trove_at end) end wallets.1) _
    (table_read _ _ _ nat_cmp_total (trove_row end) end wallets.1) λ troves t.
    then _ _ (table_at (surplus_at end) end troves.1) _
    (table_read _ _ _ nat_cmp_total (surplus_row end) end troves.1) λ surplus s.
    then _ _ (table_at (finished_at end) end surplus.1) _
    (table_read _ _ _ place_total (finished_row end) end surplus.1) λ finished f.
    then _ _ (table_at (deposit_at end) end finished.1) _
    (table_read _ _ _ nat_cmp_total (deposit_row end) end finished.1) λ deposits d.
    then _ _ (table_at (client_at end) end deposits.1) _
    (table_read _ _ _ nat_cmp_total (client_row end) end deposits.1) λ clients c.
    where_it_fits HasTables (length clients.1 == 0) end clients.1 _ (λ none. record {
      wallets = w.ascend;
      used_wallets = w.used;
      troves = t.ascend;
      surplus = s.ascend;
      some_surplus = s.used;
      finished = f.ascend;
      some_finished = f.used;
      deposits = d.ascend;
      some_deposits = d.used;
      clients = c.ascend;
      client_rows = c.used;
    })

image_read : (end : ℕ) (at : List ℕ) → IfOk (image_at end at) HasTables
unfolding image_at
image_read end at =
    anyway _ (limit_at end at) _ λ limit.
    anyway _ (words_at end limit.0 limit.1) _ λ words. tables_then end words.0 words.1

pub tables_read : (end : ℕ) (at : List ℕ) (i : Image) → image_at end at ≡ Ok i → HasTables i
tables_read end at i read = subst (λ (r : Result Image ℕ). IfOk r HasTables) read (image_read end at)
