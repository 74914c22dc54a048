-- The ordered list: troves by key and, where keys are equal, by account. Its last trove counts as
-- that of the lowest ratio.
use Rattle.std.specs.List.{AllByRecursion}
use Rattle.std.specs.Prelude.{◌≡◌, ◌≢◌, ℕ, ℤ, not, ◌==◌, List, [], ◌∷◌, ◌++◌, map, fold, filter, find, reverse, Option, Some, None, option_map, if◌then◌else◌}
use Rattle.std.specs.Ordering.{nat_cmp, int_cmp, ordering_then, match_ordering, is_lt}
use Rattle.std.specs.declared.cmp.Ordering.{Ordering}
use Rattle.std.specs.declared.cmp.Ordering.TheVariants.{Less}

-- a key and an account
abbrev pub Ranked : Type 0
Ranked = ℤ × ℕ

abbrev pub rank_order : Ranked → Ranked → Ordering
rank_order a b = ordering_then (int_cmp a.0 b.0) (nat_cmp a.1 b.1)

-- no entry stands behind one that it comes before
abbrev pub IsInOrder : List Ranked → Type 0
IsInOrder [] = Unit {0}
IsInOrder (e ∷ es) = AllByRecursion (λ f. rank_order f e ≢ Less) es × IsInOrder es

-- each entry comes before all that stand behind it, so none stands twice
abbrev pub IsAscending : List Ranked → Type 0
IsAscending [] = Unit {0}
IsAscending (e ∷ es) = AllByRecursion (λ f. rank_order e f ≡ Less) es × IsAscending es

-- ---- sorting

-- a sorted list with one more
abbrev pub with_ranked : List Ranked → Ranked → List Ranked
with_ranked [] e = e ∷ []
with_ranked (f ∷ fs) e = match_ordering (rank_order e f) (e ∷ f ∷ fs) (e ∷ f ∷ fs) (f
    ∷ with_ranked fs e)

-- any way of sorting gives this list, where no two entries are equal
abbrev pub sorted : List Ranked → List Ranked
sorted entries = fold with_ranked [] entries

-- ---- reading

abbrev pub first_of : {X : Type 0} → List X → Option X
first_of [] = None
first_of (x ∷ xs) = Some x

abbrev pub account_of : Option Ranked → Option ℕ
account_of e = option_map (λ (f : Ranked). f.1) e

-- the accounts from the list's end to its front
abbrev pub from_last : List Ranked → List ℕ
from_last list = map (λ (e : Ranked). e.1) (reverse list)

-- the list's last account
abbrev pub last_account : List Ranked → Option ℕ
last_account list = first_of (from_last list)

-- the key of an account
abbrev pub key_in : List Ranked → ℕ → Option ℤ
key_in list account = option_map (λ (e : Ranked). e.0) (find (λ (e : Ranked). e.1 == account) list)

-- what stands next after an account, in a list of accounts
abbrev pub after_account : List ℕ → ℕ → Option ℕ
after_account [] account = None
after_account (a ∷ more) account = if a == account then first_of more
    else after_account more account

-- the account next nearer the front
abbrev pub before_in : List Ranked → ℕ → Option ℕ
before_in list account = after_account (from_last list) account

-- the list without an account
abbrev pub without_ranked : List Ranked → ℕ → List Ranked
without_ranked list account = filter (λ (e : Ranked). not (e.1 == account)) list

-- ---- neighbours and hints

-- what stands before an entry, and what after it
abbrev pub before_entry : List Ranked → Ranked → List Ranked
before_entry list e = filter (λ (f : Ranked). is_lt (rank_order f e)) list

abbrev pub after_entry : List Ranked → Ranked → List Ranked
after_entry list e = filter (λ (f : Ranked). is_lt (rank_order e f)) list

-- the accounts between which an entry stands or would stand, its own account aside
abbrev pub neighbours : List Ranked → Ranked → Option ℕ × Option ℕ
neighbours list e =
    let others = without_ranked list e.1 in (
      account_of (first_of (reverse (before_entry others e))),
      account_of (first_of (after_entry others e)),
    )

-- A hint is tight for an entry where it names the neighbours between which the entry belongs. An
-- absent side says that nothing stands there.
pub record IsTight (list : List Ranked) (e : Ranked) (prev next : Option ℕ) : Type 0 where
  pub before : List Ranked
  pub after : List Ranked
  pub whole : list ≡ before ++ after
  pub prev_is : prev ≡ account_of (first_of (reverse before))
  pub next_is : next ≡ account_of (first_of after)
  pub above_prev : (f : Ranked) → first_of (reverse before) ≡ Some f → rank_order f e ≡ Less
  pub below_next : (f : Ranked) → first_of after ≡ Some f → rank_order e f ≡ Less
