-- What is known of a list by the key of each account: no account stands in it twice, and where each does.
use Rattle.std.proofs.Common.{◌≡◌, ℕ, ℤ, Bool, true, false, cond, List, [], ◌∷◌, refl, sym, ap, ◌∙◌, Some, None, Option}
use Rattle.std.specs.Prelude.{◌==◌, ◌≢◌, ◌||◌, unwrap_or, find, option_map}
use Rattle.std.specs.List.{AllByRecursion}
use Rattle.std.specs.Ordering.{is_eq}
use Rattle.std.specs.declared.cmp.Ordering.TheVariants.{Less, Equal}
use Rattle.std.proofs.lemmas.Bool.{eqb-true, eq-eqb}
use Rattle.std.proofs.lemmas.Cmp.{int_cmp_total, tied_itself}
use Rattle.liq_types.proofs.RankedLists.{rank_total, Behind}
use Rattle.liq_types.specs.Ranked.{Ranked, rank_order, IsAscending, key_in}
use Rattle.liq_list_chunks.proofs.Lists.{same_entry}
use Rattle.liq_list_index.specs.Rows.{is_in, is_key, Follows, StandOnce}
use Rattle.liq_list_index.proofs.Holding.{key_is}

-- ---- no account twice

abbrev Keyed : (ℕ → Option ℤ) → List Ranked → Type 0
Keyed key list = AllByRecursion (λ (e : Ranked). key e.1 ≡ Some e.0) list

first_is_in : (e : Ranked) (es : List Ranked) → is_in (e ∷ es) e ≡ true
first_is_in e es = ap (λ o. is_eq o || is_in es e) (tied_itself rank_total e)

later_is_in : (e f : Ranked) (es : List Ranked) → is_in es f ≡ true → is_in (e ∷ es) f ≡ true
later_is_in e f es h = by (is_eq (rank_order f e)) where
  by : (b : Bool) → (b || is_in es f) ≡ true
  by true = refl
  by false = h

keyed : (key : ℕ → Option ℤ) (list : List Ranked) → ((e : Ranked) → is_in list e ≡ true → key e.1 ≡ Some e.0)
    → Keyed key list
keyed key [] h = tt
keyed key (e ∷ es) h = (h e (first_is_in e es), keyed key es (λ f there. h f (later_is_in e f es there)))

others : (key : ℕ → Option ℤ) (e : Ranked) (es : List Ranked) → key e.1 ≡ Some e.0 → Behind e es → Keyed key es
    → AllByRecursion (λ (f : Ranked). f.1 ≢ e.1) es
others key e [] own behind h = tt
others key e (f ∷ fs) own behind h = (apart, others key e fs own behind.1 h.1) where
  apart : f.1 ≢ e.1
  apart same =
      let keys_are : f.0 ≡ e.0 = ap (λ (o : Option ℤ). unwrap_or o f.0) (sym h.0 ∙ ap (λ a. key a) same ∙ own) in
      let entries : f ≡ e = ap (λ (k : ℤ). (k, f.1)) keys_are ∙ ap (λ (a : ℕ). (e.0, a)) same in
      clash (sym behind.0 ∙ ap (λ (g : Ranked). rank_order e g) entries ∙ tied_itself rank_total e) where
        clash : Less ≡ Equal → ⊥
        clash is = cc

once : (key : ℕ → Option ℤ) (list : List Ranked) → IsAscending list → Keyed key list → StandOnce list
once key [] h k = tt
once key (e ∷ es) h k = (others key e es k.0 h.0 k.1, once key es h.1 k.1)

pub stand_once : (key : ℕ → Option ℤ) (list : List Ranked) → Follows key list → StandOnce list
stand_once key list h = once key list h.ascending (keyed key list (λ e there. key_is (key e.1) e.0 (sym (h.keyed e)
    ∙ there)))

-- ---- keys

none_found : (list : List Ranked) (account : ℕ) (key : ℤ) → find (λ (e : Ranked). e.1 == account) list ≡ None
    → is_in list (key, account) ≡ false
none_found [] account key h = refl
none_found (e ∷ es) account key h = by (e.1 == account) refl h (none_found es account key) where
  differs : (e.1 == account) ≡ false → (b : Bool) → is_eq (rank_order (key, account) e) ≡ b → b ≡ false
  differs other true is = sym (eq-eqb e.1 account (sym (ap (λ (f : Ranked). f.1) (same_entry (key, account) e is))))
      ∙ other
  differs other false is = refl

  by : (b : Bool) → (e.1 == account) ≡ b → cond b (Some e) (find (λ (e : Ranked). e.1 == account) es) ≡ None
      → (find (λ (e : Ranked). e.1 == account) es ≡ None → is_in es (key, account) ≡ false)
      → is_in (e ∷ es) (key, account) ≡ false
  by true is n more = cc
  by false is n more = ap (λ b. b || is_in es (key, account)) (differs is (is_eq (rank_order (key, account) e)) refl)
      ∙ more n

found : (list : List Ranked) (account : ℕ) (f : Ranked) → find (λ (e : Ranked). e.1 == account) list ≡ Some f
    → ((f.1 == account) ≡ true) × (is_in list f ≡ true)
found [] account f h = cc
found (e ∷ es) account f h = by (e.1 == account) refl h (found es account f) where
  by : (b : Bool) → (e.1 == account) ≡ b → cond b (Some e) (find (λ (e : Ranked). e.1 == account) es) ≡ Some f
      → (find (λ (e : Ranked). e.1 == account) es ≡ Some f → ((f.1 == account) ≡ true) × (is_in es f ≡ true))
      → ((f.1 == account) ≡ true) × (is_in (e ∷ es) f ≡ true)
  by true is here more =
      let same : e ≡ f = ap (λ (o : Option Ranked). unwrap_or o e) here in (
        ap (λ (g : Ranked). g.1 == account) (sym same) ∙ is,
        ap (λ (g : Ranked). is_in (e ∷ es) g) (sym same)
            ∙ first_is_in e es,
      )
  by false is later more = ((more later).0, later_is_in e f es (more later).1)

pub key_found : (key : ℕ → Option ℤ) (list : List Ranked) (account : ℕ) → Follows key list
    → key account ≡ key_in list account
key_found key list account h = by (find (λ (e : Ranked). e.1 == account) list) refl where
  none : find (λ (e : Ranked). e.1 == account) list ≡ None → (o : Option ℤ) → key account ≡ o → o ≡ None
  none n None is = refl
  none n (Some k) is =
      let clash : false ≡ true = sym (none_found list account k n) ∙ h.keyed (k, account) ∙ ap (λ o. is_key o k) is
      ∙ ap is_eq (tied_itself int_cmp_total k) in cc

  by : (o : Option Ranked) → find (λ (e : Ranked). e.1 == account) list ≡ o
      → key account ≡ option_map (λ (e : Ranked). e.0) o
  by None is = none is (key account) refl
  by (Some f) is =
      let there = found list account f is in
      ap (λ a. key a) (sym (eqb-true f.1 account there.0)) ∙ key_is (key f.1) f.0 (sym (h.keyed f) ∙ there.1)
