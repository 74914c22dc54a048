-- Each trove of a table is in its order.
use Rattle.std.proofs.Common.{◌≡◌, ℕ, ℤ, Bool, true, false, cond, List, [], ◌∷◌, fold, refl, sym, ap, ◌∙◌, subst, Some, Option, arith}
use Rattle.std.specs.Prelude.{◌==◌, find, option_map, IsSome, is_some}
use Rattle.std.specs.Ordering.{nat_cmp, is_eq, match_ordering}
use Rattle.std.specs.declared.cmp.Ordering.{Ordering}
use Rattle.std.specs.declared.cmp.Ordering.TheVariants.{Less, Equal, Greater}
use Rattle.std.proofs.lemmas.Bool.Decides.{nat_tests}
use Rattle.liq_types.specs.declared.figures.Trove.{Trove}
use Rattle.liq_types.specs.Ranked.{Ranked, key_in, with_ranked, rank_order}
use Rattle.liq_types.specs.Tables.{Table, at}
use Rattle.liq_types.proofs.Places.{nat_cmp-eq}
use Rattle.liq_troves.specs.Rows.{key_by}
use Rattle.liq_order.specs.Order.{ranks, order_by}
use Rattle.liq_order.proofs.Listing.{key_with_other}

abbrev key_or : Ranked → ℕ → Bool → List Ranked → Option ℤ
key_or e account b es = option_map (λ (f : Ranked). f.0) (cond b (Some e) (find (λ (f : Ranked). f.1 == account) es))

key_with_same : (list : List Ranked) (e : Ranked) (account : ℕ) → (e.1 == account) ≡ true
    → IsSome (key_in (with_ranked list e) account)
key_with_same [] e account is = ap (λ b. is_some (key_or e account b [])) is
key_with_same (f ∷ fs) e account is = by (rank_order e f) (key_with_same fs e account is) where
  by : (o : Ordering) → IsSome (key_in (with_ranked fs e) account)
      → IsSome (key_in (match_ordering o (e ∷ f ∷ fs) (e ∷ f ∷ fs) (f ∷ with_ranked fs e)) account)
  by Less more = ap (λ b. is_some (key_or e account b (f ∷ fs))) is
  by Equal more = ap (λ b. is_some (key_or e account b (f ∷ fs))) is
  by Greater more = further (f.1 == account) where
    further : (b : Bool) → is_some (key_or f account b (with_ranked fs e)) ≡ true
    further true = refl
    further false = more

key_stays : (list : List Ranked) (e : Ranked) (account : ℕ) → IsSome (key_in list account)
    → IsSome (key_in (with_ranked list e) account)
key_stays list e account h = by (e.1 == account) refl where
  by : (b : Bool) → (e.1 == account) ≡ b → IsSome (key_in (with_ranked list e) account)
  by true is = key_with_same list e account is
  by false is = subst (λ (o : Option ℤ). IsSome o) (sym (key_with_other list e account is)) h

all_stay : (entries list : List Ranked) (account : ℕ) → IsSome (key_in list account)
    → IsSome (key_in (fold with_ranked list entries) account)
all_stay [] list account h = h
all_stay (e ∷ es) list account h = all_stay es (with_ranked list e) account (key_stays list e account h)

turned : (a b : ℕ) → is_eq (nat_cmp a b) ≡ true → (b == a) ≡ true
turned a b h = let e : (a == b) ≡ true = sym (nat_cmp-eq a b) ∙ h in grind (arith, nat_tests, e)

each_there : (table : Table Trove) (list : List Ranked) (account : ℕ) → IsSome (at table account)
    → IsSome (key_in (fold with_ranked list (ranks table)) account)
each_there [] list account h = absurd (none h) where
  none : false ≡ true → ⊥
  none g = cc
each_there (row ∷ rows) list account h = by (is_eq (nat_cmp account row.0)) refl h
    (each_there rows (with_ranked list (key_by row.1, row.0)) account) where
      by : (b : Bool) → is_eq (nat_cmp account row.0) ≡ b → is_some (cond b (Some row.1) (at rows account)) ≡ true
          → (IsSome (at rows account)
          → IsSome (key_in (fold with_ranked (with_ranked list (key_by row.1, row.0)) (ranks rows)) account))
          → IsSome (key_in (fold with_ranked (with_ranked list (key_by row.1, row.0)) (ranks rows)) account)
      by true is g later = all_stay (ranks rows) (with_ranked list (key_by row.1, row.0)) account
          (key_with_same list (key_by row.1, row.0) account (turned account row.0 is))
      by false is g later = later g

pub order_has_each : (troves : Table Trove) (account : ℕ) → IsSome (at troves account)
    → IsSome (key_in (order_by troves) account)
order_has_each troves account h = each_there troves [] account h
