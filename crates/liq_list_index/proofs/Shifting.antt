-- An account that stands is put elsewhere: its entry leaves, and another comes.
use Rattle.std.proofs.Common.{◌≡◌, ℕ, ℤ, Bool, true, false, cond, List, refl, sym, ap, ◌∙◌, Some, None, Option}
use Rattle.std.specs.Prelude.{◌==◌, ◌≢◌, not, ◌&&◌}
use Rattle.std.specs.Bool.{Decides}
use Rattle.std.specs.Ordering.{int_eq, is_eq}
use Rattle.std.proofs.lemmas.Bool.Decides.{Decides-int_eq}
use Rattle.std.proofs.lemmas.Bool.{eqb-true, eq-eqb}
use Rattle.std.proofs.lemmas.Cmp.{tied_itself}
use Rattle.liq_types.specs.Ranked.{Ranked, rank_order, IsAscending, with_ranked, without_ranked}
use Rattle.liq_types.proofs.RankedLists.{rank_total, ascending_kept}
use Rattle.liq_list_chunks.specs.Entries.{with_entry, without_entry}
use Rattle.liq_list_chunks.proofs.Lists.{entered_ascending, left_ascending, same_entry}
use Rattle.liq_list_index.specs.Rows.{is_in, is_key, Follows}
use Rattle.liq_list_index.proofs.Holding.{own_entry}
use Rattle.liq_list_index.proofs.Members.{entered_is_in, left_is_in, or_cond, same_list, swapped, with_ascending, with_is_in, without_is_in}

-- an entry that isn't there comes
came : (list : List Ranked) (e : Ranked) → IsAscending list → is_in list e ≡ false
    → with_entry list e ≡ with_ranked list e
came list e h out =
    same_list (with_entry list e) (with_ranked list e) (entered_ascending list e h) (with_ascending list e out h)
    (λ f. entered_is_in list e f ∙ sym (or_cond (is_eq (rank_order f e)) (is_eq (rank_order e f)) (is_in list f)
    (swapped f e)) ∙ sym (with_is_in list e f))

module _ (key : ℕ → Option ℤ) (list : List Ranked) (account : ℕ) (stood : ℤ) (stands : key account ≡ Some stood)
    (h : Follows key list) where
  -- an account's entry is the one under its key
  left_own : (e : Ranked) → is_in (without_entry list (stood, account)) e ≡ is_in (without_ranked list account) e
  left_own e =
      left_is_in list (stood, account) e ∙ by (is_eq (rank_order (stood, account) e)) refl (e.1 == account) refl
      ∙ sym (without_is_in list account e) where
        own : (e.1 == account) ≡ true → (b : Bool) → is_in list e ≡ b → is_eq (rank_order (stood, account) e) ≡ false
            → b ≡ false
        own its false is other = refl
        own its true is other =
            let it : (stood, account) ≡ e = own_entry key stood account e stands (eq-eqb account e.1
            (sym (eqb-true e.1 account its))) (sym (h.keyed e) ∙ is) in
            sym (ap (λ (f : Ranked). is_eq (rank_order (stood, account) f)) (sym it)
            ∙ ap is_eq (tied_itself rank_total (stood, account))) ∙ other

        by : (b : Bool) → is_eq (rank_order (stood, account) e) ≡ b → (c : Bool) → (e.1 == account) ≡ c
            → cond b false (is_in list e) ≡ (not c && is_in list e)
        by true is true its = refl
        by true is false its =
            let it : (stood, account) ≡ e = same_entry (stood, account) e is in
            let clash : true ≡ false = sym (eq-eqb e.1 account (sym (ap (λ (f : Ranked). f.1) it))) ∙ its in cc
        by false is true its = own its (is_in list e) refl is
        by false is false its = refl

  pub left_account : without_entry list (stood, account) ≡ without_ranked list account
  left_account =
      same_list (without_entry list (stood, account)) (without_ranked list account)
      (left_ascending list (stood, account) h.ascending)
      (ascending_kept (λ (f : Ranked). not (f.1 == account)) list h.ascending) left_own

  pub shifted : (place : ℤ) → with_entry (without_entry list (stood, account)) (place, account)
      ≡ with_ranked (without_ranked list account) (place, account)
  shifted place =
      ap (λ (l : List Ranked). with_entry l (place, account)) left_account
      ∙ came (without_ranked list account) (place, account) (ascending_kept (λ (f : Ranked). not (f.1 == account)) list
      h.ascending)
      (without_is_in list account (place, account) ∙ ap (λ b. not b && is_in list (place, account))
      (eq-eqb account account refl))

-- whether two entries are one
both : (a b : Bool) → (a && b) ≡ true → (a ≡ true) × (b ≡ true)
both true b h = (refl, h)
both false b h = cc

pub Decides-entry : (e f : Ranked) → Decides (int_eq e.0 f.0 && (e.1 == f.1)) (e ≡ f)
Decides-entry e f = (to, from) where
  to : (int_eq e.0 f.0 && (e.1 == f.1)) ≡ true → e ≡ f
  to h =
      let same = both (int_eq e.0 f.0) (e.1 == f.1) h in
      ap (λ (k : ℤ). (k, e.1)) ((Decides-int_eq e.0 f.0).0 same.0) ∙ ap (λ (a : ℕ). (f.0, a)) (eqb-true e.1 f.1 same.1)

  from : e ≡ f → (int_eq e.0 f.0 && (e.1 == f.1)) ≡ true
  from same =
      ap (λ b. b && (e.1 == f.1)) ((Decides-int_eq e.0 f.0).1 (ap (λ (g : Ranked). g.0) same))
      ∙ eq-eqb e.1 f.1 (ap (λ (g : Ranked). g.1) same)

-- an entry comes, and another leaves then
pub replaced : (list : List Ranked) (from to : Ranked) → IsAscending list → from ≢ to
    → without_entry (with_entry list to) from ≡ with_entry (without_entry list from) to
replaced list from to h differ =
    same_list (without_entry (with_entry list to) from) (with_entry (without_entry list from) to)
    (left_ascending (with_entry list to) from (entered_ascending list to h))
    (entered_ascending (without_entry list from) to (left_ascending list from h)) each where
      each : (e : Ranked) → is_in (without_entry (with_entry list to) from) e
          ≡ is_in (with_entry (without_entry list from) to) e
      each e =
          left_is_in (with_entry list to) from e
          ∙ ap (λ b. cond (is_eq (rank_order from e)) false b) (entered_is_in list to e)
          ∙ by (is_eq (rank_order from e)) refl (is_eq (rank_order to e)) refl
          ∙ sym (entered_is_in (without_entry list from) to e ∙ ap (λ b. cond (is_eq (rank_order to e)) true b)
          (left_is_in list from e)) where
            by : (a : Bool) → is_eq (rank_order from e) ≡ a → (b : Bool) → is_eq (rank_order to e) ≡ b
                → cond a false (cond b true (is_in list e)) ≡ cond b true (cond a false (is_in list e))
            by true f true t = absurd (differ (same_entry from e f ∙ sym (same_entry to e t)))
            by true f false t = refl
            by false f b t = refl

-- one comes that left
pub entered_again : (list : List Ranked) (e : Ranked) → IsAscending list
    → with_entry list e ≡ with_entry (without_entry list e) e
entered_again list e h =
    same_list (with_entry list e) (with_entry (without_entry list e) e) (entered_ascending list e h)
    (entered_ascending (without_entry list e) e (left_ascending list e h))
    (λ f. entered_is_in list e f ∙ by (is_eq (rank_order e f)) (is_in list f)
    ∙ sym (entered_is_in (without_entry list e) e f ∙ ap (λ b. cond (is_eq (rank_order e f)) true b)
    (left_is_in list e f))) where
      by : (b c : Bool) → cond b true c ≡ cond b true (cond b false c)
      by true c = refl
      by false c = refl

-- an account comes that stands nowhere
pub opened : (key : ℕ → Option ℤ) (list : List Ranked) (account : ℕ) (place : ℤ) → key account ≡ None → Follows key list
    → with_entry list (place, account) ≡ with_ranked (without_ranked list account) (place, account)
opened key list account place out h =
    came list (place, account) h.ascending (h.keyed (place, account) ∙ ap (λ k. is_key k place) out)
    ∙ ap (λ (l : List Ranked). with_ranked l (place, account)) (same_list list (without_ranked list account) h.ascending
    (ascending_kept (λ (f : Ranked). not (f.1 == account)) list h.ascending) (λ e. sym (none e))) where
      none : (e : Ranked) → is_in (without_ranked list account) e ≡ is_in list e
      none e = without_is_in list account e ∙ by (e.1 == account) refl where
        by : (b : Bool) → (e.1 == account) ≡ b → (not b && is_in list e) ≡ is_in list e
        by true its = sym (h.keyed e ∙ ap (λ a. is_key (key a) e.0) (eqb-true e.1 account its)
            ∙ ap (λ k. is_key k e.0) out)
        by false its = refl

-- and leaves again
pub left_again : (key : ℕ → Option ℤ) (list : List Ranked) (account : ℕ) (place : ℤ) → key account ≡ None
    → Follows key list → without_entry (with_entry list (place, account)) (place, account) ≡ list
left_again key list account place out h =
    same_list (without_entry (with_entry list e) e) list (left_ascending (with_entry list e) e
    (entered_ascending list e h.ascending)) h.ascending same where
      e : Ranked
      e = (place, account)

      is_out : is_in list e ≡ false
      is_out = h.keyed e ∙ ap (λ k. is_key k place) out

      same : (f : Ranked) → is_in (without_entry (with_entry list e) e) f ≡ is_in list f
      same f =
          left_is_in (with_entry list e) e f
          ∙ ap (λ b. cond (is_eq (rank_order e f)) false b) (entered_is_in list e f)
          ∙ by (is_eq (rank_order e f)) refl where
            by : (b : Bool) → is_eq (rank_order e f) ≡ b → cond b false (cond b true (is_in list f)) ≡ is_in list f
            by true own = sym (ap (λ (g : Ranked). is_in list g) (sym (same_entry e f own)) ∙ is_out)
            by false other = refl
