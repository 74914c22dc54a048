-- Keys of accounts follow a list through each change.
use Rattle.std.proofs.Common.{◌≡◌, ℕ, ℤ, Bool, true, false, cond, List, [], ◌∷◌, refl, sym, ap, ◌∙◌, subst, Some, None, Option}
use Rattle.std.specs.Prelude.{◌==◌, not, ◌&&◌, ◌||◌}
use Rattle.std.specs.Ordering.{int_cmp, nat_cmp, is_eq, ordering_then}
use Rattle.std.specs.declared.cmp.Ordering.{Ordering}
use Rattle.std.specs.declared.cmp.Ordering.TheVariants.{Less, Equal, Greater}
use Rattle.std.proofs.lemmas.Bool.{eq-eqb}
use Rattle.liq_types.proofs.Places.{nat_cmp-eq}
use Rattle.liq_types.proofs.RankedLists.{ascending_kept}
use Rattle.liq_types.specs.Ranked.{Ranked, rank_order, with_ranked, without_ranked}
use Rattle.liq_types.specs.Views.{View, followed, all_followed}
use Rattle.liq_types.specs.declared.events.ListChange.{ListChange}
use Rattle.liq_types.specs.declared.events.ListChange.TheVariants.{Put, Gone, Words}
use Rattle.liq_list_keys.specs.Parts.{Parts, account_key}
use Rattle.liq_list_keys.specs.AccountKey.{moved, settled_at}
use Rattle.liq_list_keys.specs.declared.key_index.AccountKey.{AccountKey}
use Rattle.liq_list_index.specs.Followed.{listed, all_listed}
use Rattle.liq_list_index.specs.Rows.{is_in, is_key, key_at, Follows}
use Rattle.liq_list_index.proofs.Members.{with_is_in, without_is_in, with_ascending}

-- ---- the list of a view

list_of_view : (v : View) (change : ListChange) → (followed v change).list ≡ listed v.list change
list_of_view v (Put key account) = refl
list_of_view v (Gone account) = refl
list_of_view v (Words snap_stakes snap_coll sum_debt) = refl

pub list_of_views : (v : View) (changes : List ListChange) → (all_followed v changes).list ≡ all_listed v.list changes
list_of_views v [] = refl
list_of_views v (change ∷ changes) =
    list_of_views (followed v change) changes ∙ ap (λ (l : List Ranked). all_listed l changes) (list_of_view v change)

-- ---- one change

abbrev pub Sent : (ℕ → Option ℤ) → (ℕ → Option ℤ) → ℕ → Option ℤ → Type 0
Sent key other account next = (a : ℕ) → other a ≡ cond (a == account) next (key a)

is_eq-then : (o p : Ordering) → is_eq (ordering_then o p) ≡ (is_eq o && is_eq p)
is_eq-then Less p = refl
is_eq-then Equal p = refl
is_eq-then Greater p = refl

pub ranked_is_eq : (e f : Ranked) → is_eq (rank_order e f) ≡ (is_eq (int_cmp e.0 f.0) && (e.1 == f.1))
ranked_is_eq e f =
    is_eq-then (int_cmp e.0 f.0) (nat_cmp e.1 f.1) ∙ ap (λ b. is_eq (int_cmp e.0 f.0) && b) (nat_cmp-eq e.1 f.1)

-- an account was settled
pub sent : (stands after : Parts) (account : ℕ) (key : Option ℤ)
    → ((a : ℕ) → account_key after a ≡ moved (account_key stands) account (settled_at key) a)
    → Sent (key_at stands) (key_at after) account key
sent stands after account key h a = ap (λ (s : AccountKey). s.key) (h a) ∙ by (a == account) where
  by : (b : Bool) → (cond b (settled_at key) (account_key stands a)).key ≡ cond b key (key_at stands a)
  by true = refl
  by false = refl

-- an account is taken out
pub gone : (key other : ℕ → Option ℤ) (list : List Ranked) (account : ℕ) → Sent key other account None
    → Follows key list → Follows other (without_ranked list account)
gone key other list account sent h =
    record { ascending = ascending_kept (λ (e : Ranked). not (e.1 == account)) list h.ascending; keyed = keyed } where
      keyed : (e : Ranked) → is_in (without_ranked list account) e ≡ is_key (other e.1) e.0
      keyed e =
          without_is_in list account e
          ∙ ap (λ b. not (e.1 == account) && b) (h.keyed e)
          ∙ by (e.1 == account)
          ∙ sym (ap (λ k. is_key k e.0) (sent e.1)) where
            by : (b : Bool) → (not b && is_key (key e.1) e.0) ≡ is_key (cond b None (key e.1)) e.0
            by true = refl
            by false = refl

-- an account is put
pub put : (key other : ℕ → Option ℤ) (list : List Ranked) (account : ℕ) (place : ℤ)
    → Sent key other account (Some place) → Follows key list
    → Follows other (with_ranked (without_ranked list account) (place, account))
put key other list account place sent h =
    record {
      ascending = with_ascending rest (place, account) (without_is_in list account (place, account)
          ∙ ap (λ b. not b && is_in list (place, account)) (eq-eqb account account refl))
          (ascending_kept (λ (e : Ranked). not (e.1 == account)) list h.ascending);
      keyed = keyed;
    } where
      rest : List Ranked
      rest = without_ranked list account

      keyed : (e : Ranked) → is_in (with_ranked rest (place, account)) e ≡ is_key (other e.1) e.0
      keyed e =
          with_is_in rest (place, account) e
          ∙ ap (λ b. b || is_in rest e) (ranked_is_eq e (place, account))
          ∙ ap (λ b. (is_eq (int_cmp e.0 place) && (e.1 == account)) || b) (without_is_in list account e
          ∙ ap (λ b. not (e.1 == account) && b) (h.keyed e))
          ∙ by (e.1 == account)
          ∙ sym (ap (λ k. is_key k e.0) (sent e.1)) where
            own : (c : Bool) → ((c && true) || false) ≡ c
            own true = refl
            own false = refl

            others : (c d : Bool) → ((c && false) || d) ≡ d
            others true d = refl
            others false d = refl

            by : (b : Bool) → ((is_eq (int_cmp e.0 place) && b) || (not b && is_key (key e.1) e.0))
                ≡ is_key (cond b (Some place) (key e.1)) e.0
            by true = own (is_eq (int_cmp e.0 place))
            by false = others (is_eq (int_cmp e.0 place)) (is_key (key e.1) e.0)

-- what is left where its entry was put in and it was noted under its key, as the key is kept
pub has_put : (old new : Parts) (list places : List Ranked) (account : ℕ) (place kept : ℤ) → kept ≡ place
    → ((a : ℕ) → account_key new a ≡ moved (account_key old) account (settled_at (Some kept)) a)
    → places ≡ with_ranked (without_ranked list account) (place, account) → Follows (key_at old) list
    → Follows (key_at new) places × (places ≡ with_ranked (without_ranked list account) (place, account))
has_put old new list places account place kept same moves is h = (
  subst (Follows (key_at new)) (sym is) (put (key_at old) (key_at new) list account place
      (sent old new account (Some place) at) h),
  is,
) where
  at : (a : ℕ) → account_key new a ≡ moved (account_key old) account (settled_at (Some place)) a
  at a = moves a ∙ ap (λ (z : ℤ). moved (account_key old) account (settled_at (Some z)) a) same
