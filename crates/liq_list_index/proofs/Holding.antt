-- The places of a list, while accounts give up keys and take others.
use Rattle.std.proofs.Common.{◌≡◌, ℕ, ℤ, Bool, true, false, cond, List, refl, sym, ap, ◌∙◌, Some, None, Option}
use Rattle.std.specs.Prelude.{◌==◌, ◌≢◌, ◌||◌, unwrap_or}
use Rattle.std.specs.Ordering.{int_cmp, is_eq}
use Rattle.std.proofs.lemmas.Bool.{eqb-true}
use Rattle.std.proofs.lemmas.Cmp.{tied_itself}
use Rattle.std.proofs.lemmas.Map.Lookups.{exact_signed}
use Rattle.liq_types.proofs.RankedLists.{rank_total}
use Rattle.liq_types.specs.Ranked.{Ranked, rank_order, IsAscending}
use Rattle.liq_list_chunks.proofs.Lists.{is_tied, same_entry}
use Rattle.liq_list_index.specs.Rows.{is_in, is_key, Follows, Holds}
use Rattle.liq_list_index.proofs.Members.{same_list}

pub key_is : (o : Option ℤ) (key : ℤ) → is_key o key ≡ true → o ≡ Some key
key_is None key h = cc
key_is (Some k) key h = ap (λ (z : ℤ). Some z) (sym (exact_signed key k (is_tied (int_cmp key k) h)))

-- the entry of an account is the one under its key
pub own_entry : (next : ℕ → Option ℤ) (place : ℤ) (account : ℕ) (e : Ranked) → next account ≡ Some place
    → (account == e.1) ≡ true → is_key (next e.1) e.0 ≡ true → (place, account) ≡ e
own_entry next place account e is own its =
    let it : account ≡ e.1 = eqb-true account e.1 own in
    let has : Some place ≡ Some e.0 = sym is ∙ ap (λ a. next a) it ∙ key_is (next e.1) e.0 its in
    ap (λ (k : ℤ). (k, account)) (ap (λ (o : Option ℤ). unwrap_or o place) has) ∙ ap (λ (a : ℕ). (e.0, a)) it

alike : (a b : Bool) → (a ≡ true → b ≡ true) → (b ≡ true → a ≡ true) → a ≡ b
alike true b to from = sym (to refl)
alike false true to from = from refl
alike false false to from = refl

or_first : (a b : Bool) → a ≡ true → (a || b) ≡ true
or_first true b h = refl
or_first false b h = cc

or_last : (a b : Bool) → b ≡ true → (a || b) ≡ true
or_last true b h = refl
or_last false b h = h

or_turned : (a b : Bool) → (a || b) ≡ true → (b || a) ≡ true
or_turned true b h = or_last b true refl
or_turned false b h = or_first b false h

or_same : (a b : Bool) → b ≡ a → (a || b) ≡ true → a ≡ true
or_same true b same h = refl
or_same false b same h = sym same ∙ h

-- the list as it stands
pub begun : (key next : ℕ → Option ℤ) (list : List Ranked) → Follows key list → Holds key next list
begun key next list h =
    record {
      ascending = h.ascending;
      held = λ e is. h.keyed e ∙ is;
      only = λ e is. or_first (is_key (key e.1) e.0) (is_key (next e.1) e.0) (sym (h.keyed e) ∙ is);
    }

-- other keys are to be taken
pub begun_again : (key next other will : ℕ → Option ℤ) (list : List Ranked) → ((a : ℕ) → next a ≡ key a)
    → ((a : ℕ) → other a ≡ key a) → Holds key next list → Holds other will list
begun_again key next other will list settled same h =
    record {
      ascending = h.ascending;
      held = λ e is. h.held e (ap (λ k. is_key k e.0) (sym (same e.1)) ∙ is);
      only = λ e is. or_first (is_key (other e.1) e.0) (is_key (will e.1) e.0) (ap (λ k. is_key k e.0) (same e.1)
          ∙ or_same (is_key (key e.1) e.0) (is_key (next e.1) e.0) (ap (λ k. is_key k e.0) (settled e.1))
          (h.only e is));
    }

-- an entry comes in that an account will have
pub entered : (keeps gives : ℕ → Option ℤ) (places other : List Ranked) (f : Ranked) → IsAscending other
    → ((e : Ranked) → is_in other e ≡ cond (is_eq (rank_order f e)) true (is_in places e))
    → is_key (gives f.1) f.0 ≡ true → Holds keeps gives places → Holds keeps gives other
entered keeps gives places other f s more will h = record { ascending = s; held = held; only = only } where
  held : (e : Ranked) → is_key (keeps e.1) e.0 ≡ true → is_in other e ≡ true
  held e is = more e ∙ by (is_eq (rank_order f e)) where
    by : (b : Bool) → cond b true (is_in places e) ≡ true
    by true = refl
    by false = h.held e is

  only : (e : Ranked) → is_in other e ≡ true → (is_key (keeps e.1) e.0 || is_key (gives e.1) e.0) ≡ true
  only e is = by (is_eq (rank_order f e)) refl (sym (more e) ∙ is) where
    by : (b : Bool) → is_eq (rank_order f e) ≡ b → cond b true (is_in places e) ≡ true
        → (is_key (keeps e.1) e.0 || is_key (gives e.1) e.0) ≡ true
    by true same there =
        or_last (is_key (keeps e.1) e.0) (is_key (gives e.1) e.0) (ap (λ (g : Ranked). is_key (gives g.1) g.0)
        (sym (same_entry f e same)) ∙ will)
    by false same there = h.only e there

-- all that will be are in: now each account may give up the other key
pub ready : (key next : ℕ → Option ℤ) (places : List Ranked) → ((e : Ranked) → is_key (next e.1) e.0 ≡ true
    → is_in places e ≡ true) → Holds key next places → Holds next key places
ready key next places all h =
    record {
      ascending = h.ascending;
      held = all;
      only = λ e is. or_turned (is_key (key e.1) e.0) (is_key (next e.1) e.0) (h.only e is);
    }

-- an account gives up its other key
module _ (keeps gives kept given : ℕ → Option ℤ) (places other : List Ranked) (account : ℕ)
    (same : (a : ℕ) → kept a ≡ keeps a) (own : given account ≡ kept account) (others : (a : ℕ) → (account == a) ≡ false
    → given a ≡ gives a) where
  not_its : (o : Option ℤ) → gives account ≡ o → Holds keeps gives places → (e : Ranked) → is_in places e ≡ true
      → is_key o e.0 ≡ false → (is_key (kept e.1) e.0 || is_key (given e.1) e.0) ≡ true
  not_its o is h e there away = by (account == e.1) refl (h.only e there) where
    by : (b : Bool) → (account == e.1) ≡ b → (is_key (keeps e.1) e.0 || is_key (gives e.1) e.0) ≡ true
        → (is_key (kept e.1) e.0 || is_key (given e.1) e.0) ≡ true
    by true here either =
        let it : account ≡ e.1 = eqb-true account e.1 here in
        let gone : is_key (gives e.1) e.0 ≡ false = ap (λ a. is_key (gives a) e.0) (sym it) ∙ ap (λ k. is_key k e.0) is
        ∙ away in
        or_first (is_key (kept e.1) e.0) (is_key (given e.1) e.0) (ap (λ k. is_key k e.0) (same e.1)
        ∙ first (is_key (keeps e.1) e.0) (is_key (gives e.1) e.0) gone either) where
          first : (a b : Bool) → b ≡ false → (a || b) ≡ true → a ≡ true
          first true b n t = refl
          first false b n t = let clash : false ≡ true = sym n ∙ t in cc
    by false here either =
        ap (λ k. is_key k e.0 || is_key (given e.1) e.0) (same e.1)
        ∙ ap (λ k. is_key (keeps e.1) e.0 || is_key k e.0) (others e.1 here)
        ∙ either

  pub nothing_given : gives account ≡ None → Holds keeps gives places → Holds kept given places
  nothing_given none h =
      record {
        ascending = h.ascending;
        held = λ e is. h.held e (ap (λ k. is_key k e.0) (sym (same e.1)) ∙ is);
        only = λ e is. not_its None none h e is refl;
      }

  pub given_up : (key : ℤ) → gives account ≡ Some key → keeps account ≢ Some key → IsAscending other
      → ((e : Ranked) → is_in other e ≡ cond (is_eq (rank_order (key, account) e)) false (is_in places e))
      → Holds keeps gives places → Holds kept given other
  given_up key is differs s less h = record { ascending = s; held = held; only = only } where
    held : (e : Ranked) → is_key (kept e.1) e.0 ≡ true → is_in other e ≡ true
    held e t = less e ∙ by (is_eq (rank_order (key, account) e)) refl where
      by : (b : Bool) → is_eq (rank_order (key, account) e) ≡ b → cond b false (is_in places e) ≡ true
      by true it =
          absurd (differs (sym (same account) ∙ key_is (kept account) key (ap (λ (f : Ranked). is_key (kept f.1) f.0)
          (same_entry (key, account) e it) ∙ t)))
      by false it = h.held e (ap (λ k. is_key k e.0) (sym (same e.1)) ∙ t)

    only : (e : Ranked) → is_in other e ≡ true → (is_key (kept e.1) e.0 || is_key (given e.1) e.0) ≡ true
    only e t = by (is_eq (rank_order (key, account) e)) refl (sym (less e) ∙ t) where
      by : (b : Bool) → is_eq (rank_order (key, account) e) ≡ b → cond b false (is_in places e) ≡ true
          → (is_key (kept e.1) e.0 || is_key (given e.1) e.0) ≡ true
      by true it there = cc
      by false it there = at (is_key (Some key) e.0) refl (account == e.1) refl where
        at : (c : Bool) → is_key (Some key) e.0 ≡ c → (d : Bool) → (account == e.1) ≡ d
            → (is_key (kept e.1) e.0 || is_key (given e.1) e.0) ≡ true
        at false away d x = not_its (Some key) is h e there away
        at true here true its =
            let its_key : key ≡ e.0 = sym (exact_signed e.0 key (is_tied (int_cmp e.0 key) here)) in
            let its_account : account ≡ e.1 = eqb-true account e.1 its in
            let entry : (key, account) ≡ e = ap (λ (k : ℤ). (k, account)) its_key
            ∙ ap (λ (a : ℕ). (e.0, a)) its_account in
            let clash : false ≡ true = sym it ∙ ap (λ (f : Ranked). is_eq (rank_order (key, account) f)) (sym entry)
            ∙ itself in cc where
              itself : is_eq (rank_order (key, account) (key, account)) ≡ true
              itself = ap is_eq (tied_itself rank_total (key, account))
        at true here false its =
            ap (λ k. is_key k e.0 || is_key (given e.1) e.0) (same e.1)
            ∙ ap (λ k. is_key (keeps e.1) e.0 || is_key k e.0) (others e.1 its)
            ∙ h.only e there

pub same_sides : (keeps gives kept given : ℕ → Option ℤ) (places : List Ranked) → ((a : ℕ) → kept a ≡ keeps a)
    → ((a : ℕ) → given a ≡ gives a) → Holds keeps gives places → Holds kept given places
same_sides keeps gives kept given places same alike h =
    record {
      ascending = h.ascending;
      held = λ e is. h.held e (ap (λ k. is_key k e.0) (sym (same e.1)) ∙ is);
      only = λ e is. ap (λ k. is_key k e.0 || is_key (given e.1) e.0) (same e.1)
          ∙ ap (λ k. is_key (keeps e.1) e.0 || is_key k e.0) (alike e.1) ∙ h.only e is;
    }

-- where no account gives up any, the places are the list
pub ended : (keeps gives : ℕ → Option ℤ) (places list : List Ranked) → ((a : ℕ) → gives a ≡ keeps a)
    → Holds keeps gives places → Follows keeps list → places ≡ list
ended keeps gives places list settled h k =
    same_list places list h.ascending k.ascending
    (λ e. alike (is_in places e) (is_in list e)
    (λ there. k.keyed e ∙ or_same (is_key (keeps e.1) e.0) (is_key (gives e.1) e.0) (ap (λ o. is_key o e.0)
    (settled e.1)) (h.only e there))
    (λ there. h.held e (sym (k.keyed e) ∙ there)))

pub same_keys : (key other : ℕ → Option ℤ) (list : List Ranked) → ((a : ℕ) → other a ≡ key a) → Follows key list
    → Follows other list
same_keys key other list same h =
    record { ascending = h.ascending; keyed = λ e. h.keyed e ∙ sym (ap (λ k. is_key k e.0) (same e.1)) }
