-- The accounts of the list from one on: what is still ahead of a walk from the list's end to its front.
use Rattle.std.proofs.Common.{◌≡◌, ℕ, ℤ, Bool, true, false, cond, List, [], ◌∷◌, ◌++◌, map, refl, sym, ap, ◌∙◌, subst, Some, None, Option}
use Rattle.std.specs.Prelude.{◌==◌, reverse, IsSome, is_some}
use Rattle.liq_types.specs.Ranked.{Ranked, first_of, from_last, key_in, after_account, before_in}
use Rattle.liq_order.specs.Listed.{IsAbsent, AreDistinct}
use Rattle.liq_order.proofs.Found.{absent_from_key, absent_push, reverse_first, absent_reverse}
use Rattle.std.proofs.lemmas.Bool.{eqb-true, ne_eqb, eq-eqb}

-- the accounts of a list from one on
abbrev pub from_account : List ℕ → ℕ → List ℕ
from_account [] account = []
from_account (a ∷ more) account = cond (a == account) (a ∷ more) (from_account more account)

abbrev pub ahead_of : List ℕ → Option ℕ → List ℕ
ahead_of accounts None = []
ahead_of accounts (Some account) = from_account accounts account

abbrev accounts : List Ranked → List ℕ
accounts list = map (λ (e : Ranked). e.1) list

-- ---- the first account

pub all_ahead : (list : List ℕ) → ahead_of list (first_of list) ≡ list
all_ahead [] = refl
all_ahead (a ∷ more) = ap (λ b. cond b (a ∷ more) (from_account more a)) (eq-eqb a a refl)

-- ---- what is next is the first of what is ahead

first_after : (a : ℕ) (more : List ℕ) (o : Option ℕ) → first_of (ahead_of more o) ≡ o
    → first_of (ahead_of (a ∷ more) o) ≡ o
first_after a more None h = refl
first_after a more (Some x) h = by (a == x) refl where
  by : (b : Bool) → (a == x) ≡ b → first_of (cond b (a ∷ more) (from_account more x)) ≡ Some x
  by true e = ap (λ n. Some n) (eqb-true a x e)
  by false e = h

pub next_first : (list : List ℕ) (account : ℕ) → first_of (ahead_of list (after_account list account))
    ≡ after_account list account
next_first [] account = refl
next_first (a ∷ more) account = by (a == account) (next_first more account) where
  by : (b : Bool) → first_of (ahead_of more (after_account more account)) ≡ after_account more account
      → first_of (ahead_of (a ∷ more) (cond b (first_of more) (after_account more account)))
      ≡ cond b (first_of more) (after_account more account)
  by true h = first_after a more (first_of more) (ap (λ (l : List ℕ). first_of l) (all_ahead more))
  by false h = first_after a more (after_account more account) h

-- ---- what is ahead after a step

passed : (b : ℕ) (list : List Ranked) (account : ℕ) → IsAbsent b list → (o : Option ℕ)
    → after_account (accounts list) account ≡ o → ahead_of (b ∷ accounts list) o ≡ ahead_of (accounts list) o
passed b list account h None e = refl
passed b list account h (Some x) e = ap (λ t. cond t (b ∷ accounts list) (from_account (accounts list) x))
    (away list h e) where
      at_first : (es : List Ranked) → IsAbsent b es → first_of (accounts es) ≡ Some x → (b == x) ≡ false
      at_first [] n f = absurd (nothing f) where
        nothing : None ≡ Some x → ⊥
        nothing g = cc
      at_first (g ∷ gs) n f = subst (λ y. (b == y) ≡ false) (the f) (ne_eqb b g.1 (λ same. n.0 (sym same))) where
        the : Some g.1 ≡ Some x → g.1 ≡ x
        the k = cc

      away : (es : List Ranked) → IsAbsent b es → after_account (accounts es) account ≡ Some x → (b == x) ≡ false
      away [] n f = absurd (nothing f) where
        nothing : None ≡ Some x → ⊥
        nothing g = cc
      away (g ∷ gs) n f = by (g.1 == account) f (away gs n.1) where
        by : (t : Bool) → cond t (first_of (accounts gs)) (after_account (accounts gs) account) ≡ Some x
            → (after_account (accounts gs) account ≡ Some x → (b == x) ≡ false) → (b == x) ≡ false
        by true k later = at_first gs n.1 k
        by false k later = later k

first_passed : (b : ℕ) (list : List Ranked) → IsAbsent b list → ahead_of (b ∷ accounts list) (first_of (accounts list))
    ≡ accounts list
first_passed b [] h = refl
first_passed b (e ∷ es) h =
    ap (λ t. cond t (b ∷ accounts (e ∷ es)) (from_account (accounts (e ∷ es)) e.1))
    (ne_eqb b e.1 (λ same. h.0 (sym same)))
    ∙ all_ahead (accounts (e ∷ es))

stepped : (list : List Ranked) (account : ℕ) → AreDistinct list → first_of (from_account (accounts list) account)
    ≡ Some account → from_account (accounts list) account ≡ account ∷ ahead_of (accounts list)
    (after_account (accounts list) account)
stepped [] account h f = absurd (nothing f) where
  nothing : None ≡ Some account → ⊥
  nothing g = cc
stepped (e ∷ es) account h f = by (e.1 == account) refl f (stepped es account h.1) where
  by : (t : Bool) → (e.1 == account) ≡ t → first_of (cond t (e.1 ∷ accounts es) (from_account (accounts es) account))
      ≡ Some account → (first_of (from_account (accounts es) account) ≡ Some account
      → from_account (accounts es) account ≡ account ∷ ahead_of (accounts es) (after_account (accounts es) account))
      → cond t (e.1 ∷ accounts es) (from_account (accounts es) account) ≡ account ∷ ahead_of (e.1 ∷ accounts es)
      (cond t (first_of (accounts es)) (after_account (accounts es) account))
  by true is g later =
      ap (λ n. n ∷ accounts es) (eqb-true e.1 account is)
      ∙ ap (λ (l : List ℕ). account ∷ l) (sym (first_passed e.1 es h.0))
  by false is g later =
      later g ∙ ap (λ (l : List ℕ). account ∷ l)
      (sym (passed e.1 es account h.0 (after_account (accounts es) account) refl))

-- ---- the list turned round

distinct_push : (list : List Ranked) (e : Ranked) → IsAbsent e.1 list → AreDistinct list → AreDistinct (list ++ e ∷ [])
distinct_push [] e n h = (tt, tt)
distinct_push (f ∷ fs) e n h = (absent_push fs e f.1 h.0 (λ same. n.0 (sym same)), distinct_push fs e n.1 h.1)

pub distinct_turned : (list : List Ranked) → AreDistinct list → AreDistinct (reverse list)
distinct_turned [] h = tt
distinct_turned (e ∷ es) h = subst AreDistinct (sym (reverse_first e es)) (distinct_push (reverse es) e
    (absent_reverse es e.1 h.0) (distinct_turned es h.1))

-- ---- along the order

-- an account that is next
abbrev pub IsNext : List Ranked → Option ℕ → Type 0
IsNext entries next = next ≡ first_of (ahead_of (from_last entries) next)

first_is : (entries : List Ranked) (next : Option ℕ) (account : ℕ) → next ≡ Some account → IsNext entries next
    → first_of (from_account (from_last entries) account) ≡ Some account
first_is entries next account is h = ap (λ o. first_of (ahead_of (from_last entries) o)) (sym is) ∙ sym h ∙ is

-- and what is ahead behind it
pub step_on : (entries : List Ranked) (next : Option ℕ) (account : ℕ) → AreDistinct entries → next ≡ Some account
    → IsNext entries next → ahead_of (from_last entries) next ≡ account ∷ ahead_of (from_last entries)
    (before_in entries account)
step_on entries next account h is n =
    ap (λ o. ahead_of (from_last entries) o) is ∙ stepped (reverse entries) account (distinct_turned entries h)
    (first_is entries next account is n)

nowhere : (list : List Ranked) (account : ℕ) → IsAbsent account list → from_account (accounts list) account ≡ []
nowhere [] account h = refl
nowhere (e ∷ es) account h = ap (λ t. cond t (accounts (e ∷ es)) (from_account (accounts es) account))
    (ne_eqb e.1 account h.0) ∙ nowhere es account h.1

-- it is in the list
pub is_listed : (entries : List Ranked) (next : Option ℕ) (account : ℕ) → next ≡ Some account → IsNext entries next
    → IsSome (key_in entries account)
is_listed entries next account is n = by (key_in entries account) refl where
  by : (o : Option ℤ) → key_in entries account ≡ o → is_some o ≡ true
  by (Some key) e = refl
  by None e =
      absurd (none (sym (ap (λ (l : List ℕ). first_of l) (nowhere (reverse entries) account
      (absent_reverse entries account (absent_from_key entries account e)))) ∙ first_is entries next account is n))
    where
      none : None ≡ Some account → ⊥
      none g = cc

-- what is next behind it
pub next_step : (entries : List Ranked) (account : ℕ) (next : Option ℕ) → next ≡ before_in entries account
    → IsNext entries next
next_step entries account next is =
    is ∙ sym (next_first (from_last entries) account) ∙ ap (λ o. first_of (ahead_of (from_last entries) o)) (sym is)
