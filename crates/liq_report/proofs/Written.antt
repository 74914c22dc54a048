-- The texts of a report's values.
use Rattle.std.proofs.Common.{◌≡◌, ◌<◌, ◌%◌, ◌/◌, ℕ, zero, suc, Bool, false, true, ◌||◌, List, [], ◌∷◌, ◌++◌, refl, sym, ap, ap₂, ◌∙◌, arith, append_assoc}
use Rattle.std.specs.Prelude.{codes, map, decimal, ◌==◌, if◌then◌else◌}
use Rattle.std.specs.Fmt.{digit_glyph, digits, digits_onto}
use Rattle.std.specs.List.{join_with_byte}
use Rattle.std.specs.Map.{keys_of}
use Rattle.json.specs.Print.{escape, escape_byte, quoted}
use Rattle.serde_json.specs.Data.{Data, array, string}
use Rattle.serde_json.specs.View.{items_of}
use Rattle.serde_json.specs.Written.{compact_text, has_float, items_have_float, items_text, members_text}
use Rattle.serde_json.proofs.OnLiterals.{serde_json_on_literals}
use Rattle.liq_types.specs.declared.figures.Trove.{Trove}
use Rattle.liq_types.specs.State.{State, DepositEntry}
use Rattle.liq_types.specs.Tables.{Table}
use Rattle.liq_troves.specs.StakeSums.{sums_words, trove_rows}
use Rattle.liq_stability.specs.declared.words.PoolWords.{PoolWords}
use Rattle.liq_stability.specs.Words.{pool_words}
use Rattle.liq_report.specs.declared.objects.Totals.{Totals}
use Rattle.liq_report.specs.Report.{deposit_text, deposits_text, pool_text, report_text, trove_text, troves_text}
use Rattle.liq_report.specs.Texts.{list_text, object_text, string_text}
use Rattle.liq_report.specs.Values.{count, deposit_of, deposits_data, members_by, members_of_totals, object_by, pool_data, position, report_data, standing, totals_data, totals_of, trove_of, troves_data}

-- ---- lists

items_behind : (d : Data) (ds : List Data) → compact_text d ++ items_text true (items_of ds)
    ≡ join_with_byte 44 (compact_text d ∷ map compact_text ds) ++ 93 ∷ []
items_behind d [] = refl
items_behind d (e ∷ es) =
    ap (λ (t : List ℕ). compact_text d ++ 44 ∷ t) (items_behind e es)
    ∙ simp append_assoc

list_written : (ds : List Data) → compact_text (array (items_of ds)) ≡ list_text (map compact_text ds)
list_written [] = refl
list_written (d ∷ ds) = ap (λ (t : List ℕ). 91 ∷ t) (items_behind d ds)

module _ {R : Type 0} (data_of : R → Data) where
  each_written : (text : R → List ℕ) → ((r : R) → compact_text (data_of r) ≡ text r) → (rs : List R)
      → map compact_text (map data_of rs) ≡ map text rs
  each_written text same [] = refl
  each_written text same (r ∷ rs) =
      ap₂ (λ (t : List ℕ) (ts : List (List ℕ)). t ∷ ts) (same r) (each_written text same rs)

  each_plain : ((r : R) → has_float (data_of r) ≡ false) → (rs : List R)
      → items_have_float (items_of (map data_of rs)) ≡ false
  each_plain plain [] = refl
  each_plain plain (r ∷ rs) = ap₂ (λ (a b : Bool). a || b) (plain r) (each_plain plain rs)

-- ---- objects

abbrev named : List ℕ × Data → List ℕ
named m = quoted m.0 ++ 58 ∷ compact_text m.1

members_behind : (m : List ℕ × Data) (ms : List (List ℕ × Data))
    → quoted m.0 ++ 58 ∷ (compact_text m.1 ++ members_text true (members_by ms))
    ≡ join_with_byte 44 (named m ∷ map named ms) ++ 125 ∷ []
members_behind m [] = simp append_assoc
members_behind m (n ∷ ns) =
    let later : List ℕ = join_with_byte 44 (named n ∷ map named ns) in
    let behind : List ℕ = 44 ∷ (later ++ 125 ∷ []) in
    ap (λ (t : List ℕ). quoted m.0 ++ 58 ∷ (compact_text m.1 ++ 44 ∷ t)) (members_behind n ns)
    ∙ sym (append_assoc (named m) (44 ∷ later) (125 ∷ []) ∙ append_assoc (quoted m.0) (58 ∷ compact_text m.1) behind)

object_written : (ms : List (List ℕ × Data)) → compact_text (object_by ms)
    ≡ 123 ∷ (join_with_byte 44 (map named ms) ++ 125 ∷ [])
object_written [] = refl
object_written (m ∷ ms) = ap (λ (t : List ℕ). 123 ∷ t) (members_behind m ms)

-- ---- digits

digit_plain : (d : ℕ) → d < 10 → escape_byte (digit_glyph false d) ≡ digit_glyph false d ∷ []
unfolding escape_byte
digit_plain zero l = refl
digit_plain (suc zero) l = refl
digit_plain (suc (suc zero)) l = refl
digit_plain (suc (suc (suc zero))) l = refl
digit_plain (suc (suc (suc (suc zero)))) l = refl
digit_plain (suc (suc (suc (suc (suc zero))))) l = refl
digit_plain (suc (suc (suc (suc (suc (suc zero)))))) l = refl
digit_plain (suc (suc (suc (suc (suc (suc (suc zero))))))) l = refl
digit_plain (suc (suc (suc (suc (suc (suc (suc (suc zero)))))))) l = refl
digit_plain (suc (suc (suc (suc (suc (suc (suc (suc (suc zero))))))))) l = refl
digit_plain (suc (suc (suc (suc (suc (suc (suc (suc (suc (suc d)))))))))) l = absurd (omega (arith, l))

one_plain : (n : ℕ) (ds : List ℕ) → escape ds ≡ ds → escape (digit_glyph false (n % 10) ∷ ds)
    ≡ digit_glyph false (n % 10) ∷ ds
one_plain n ds h = ap₂ (λ (a b : List ℕ). a ++ b) (digit_plain (n % 10) (omega arith)) h

-- digits need no escape
onto_plain : (k n : ℕ) (ds : List ℕ) → escape ds ≡ ds → escape (digits_onto k 10 false n ds)
    ≡ digits_onto k 10 false n ds
onto_plain zero n ds h = h
onto_plain (suc k) n ds h =
    by (n / 10 == 0) (one_plain n ds h) (onto_plain k (n / 10) (digit_glyph false (n % 10) ∷ ds) (one_plain n ds h))
  where
    by : (b : Bool) {front back : List ℕ} → escape front ≡ front → escape back ≡ back
        → escape (if b then front else back) ≡ (if b then front else back)
    by true f g = f
    by false f g = g

digits_plain : (n : ℕ) → escape (decimal n) ≡ decimal n
unfolding digits
digits_plain n = onto_plain 64 n [] refl

-- ---- the objects of a report

deposit_written : (s : State) (row : ℕ × DepositEntry) → compact_text (deposit_of s row) ≡ deposit_text s row.0
unfolding serde_json_on_literals
deposit_written s row =
    let p = position s row.0 in
    object_written ((codes "account", count row.0) ∷ (codes "balance", count p.0) ∷ (codes "gain", count p.1) ∷ [])

trove_written : (s : State) (row : ℕ × Trove) → compact_text (trove_of s row) ≡ trove_text (sums_words s) row
unfolding serde_json_on_literals
trove_written s row =
    let t = standing s row.1 in
    object_written ((codes "account", count row.0) ∷ (codes "coll", count t.0) ∷ (codes "debt", count t.1)
    ∷ (codes "stake", count t.2) ∷ [])

abbrev pub totals_text : Totals → List ℕ
totals_text t = object_text (members_of_totals decimal t)

totals_written : (t : Totals) → compact_text (totals_data t) ≡ totals_text t
unfolding serde_json_on_literals
totals_written t = object_written (members_of_totals count t)

words_written : (w : PoolWords) → compact_text (pool_data w) ≡ object_text (
    (codes "epoch", decimal w.epoch)
    ∷ (codes "p", string_text (decimal w.p))
    ∷ (codes "scale", decimal w.scale)
    ∷ (codes "sum", string_text (decimal w.sum)) ∷ [])
unfolding serde_json_on_literals
words_written w =
    object_written ((codes "epoch", count w.epoch) ∷ (codes "p", string (decimal w.p)) ∷ (codes "scale", count w.scale)
    ∷ (codes "sum", string (decimal w.sum)) ∷ [])
    ∙ ap₂ (λ (a b : List ℕ). object_text ((codes "epoch", decimal w.epoch) ∷ (codes "p", string_text a) ∷ (
      codes "scale",
      decimal w.scale,
    ) ∷ (codes "sum", string_text b) ∷ []))
    (digits_plain w.p) (digits_plain w.sum)

-- ---- the whole

by_key : {X : Type 0} (text : ℕ → List ℕ) (table : Table X) → map (λ (row : ℕ × X). text row.0) table
    ≡ map text (keys_of table)
by_key text [] = refl
by_key text (e ∷ es) = ap (λ (ts : List (List ℕ)). text e.0 ∷ ts) (by_key text es)

deposits_written : (s : State) → compact_text (array (items_of (deposits_data s))) ≡ deposits_text s
deposits_written s =
    list_written (deposits_data s)
    ∙ ap list_text (each_written (deposit_of s) (λ (row : ℕ × DepositEntry). deposit_text s row.0) (deposit_written s)
    s.deposits ∙ by_key (deposit_text s) s.deposits)

troves_written : (s : State) → compact_text (array (items_of (troves_data s))) ≡ troves_text s
troves_written s =
    list_written (troves_data s)
    ∙ ap list_text (each_written (trove_of s) (trove_text (sums_words s)) (trove_written s) (trove_rows s))

-- none holds a fraction
pub deposits_plain : (s : State) → items_have_float (items_of (deposits_data s)) ≡ false
deposits_plain s = each_plain (deposit_of s) (λ row. refl) s.deposits

pub troves_plain : (s : State) → items_have_float (items_of (troves_data s)) ≡ false
troves_plain s = each_plain (trove_of s) (λ row. refl) (trove_rows s)

whole_by : (deposits pool system troves : Data) → compact_text (object_by (
    (codes "deposits", deposits)
    ∷ (codes "pool", pool)
    ∷ (codes "system", system)
    ∷ (codes "troves", troves) ∷ []))
    ≡ object_text (
    (codes "deposits", compact_text deposits)
    ∷ (codes "pool", compact_text pool)
    ∷ (codes "system", compact_text system)
    ∷ (codes "troves", compact_text troves) ∷ [])
unfolding serde_json_on_literals
whole_by deposits pool system troves =
    object_written ((codes "deposits", deposits) ∷ (codes "pool", pool) ∷ (codes "system", system) ∷ (
      codes "troves",
      troves,
    ) ∷ [])

pub report_written : (s : State) → compact_text (report_data s) ≡ report_text s
unfolding report_text
report_written s =
    whole_by (array (items_of (deposits_data s))) (pool_data (pool_words s)) (totals_data (totals_of s))
    (array (items_of (troves_data s)))
    ∙ ap₂ (λ (a b : List ℕ). object_text ((codes "deposits", a) ∷ (codes "pool", b) ∷ (
      codes "system",
      compact_text (totals_data (totals_of s)),
    ) ∷ (codes "troves", compact_text (array (items_of (troves_data s)))) ∷ []))
    (deposits_written s) (words_written (pool_words s))
    ∙ ap₂ (λ (a b : List ℕ). object_text ((codes "deposits", deposits_text s) ∷ (codes "pool", pool_text s) ∷ (
      codes "system",
      a,
    ) ∷ (codes "troves", b) ∷ []))
    (totals_written (totals_of s)) (troves_written s)
