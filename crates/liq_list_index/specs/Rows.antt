-- The rows of a guide: the entries of the list, and for each account its key and its next one,
-- which it has after the changes that are being followed.
use Rattle.std.specs.Prelude.{◌≡◌, ◌≢◌, ◌==◌, ◌||◌, ℕ, ℤ, Bool, true, false}
use Rattle.std.specs.Prelude.{List, [], ◌∷◌, Option, Some, None, Result, Ok, Err}
use Rattle.std.specs.List.{AllByRecursion, list_any}
use Rattle.std.specs.BTreeMap.{is_at}
use Rattle.std.specs.Ordering.{int_cmp, is_eq}
use Rattle.liq_types.specs.declared.events.ListChange.{ListChange}
use Rattle.liq_types.specs.declared.events.ListChange.TheVariants.{Put, Gone, Words}
use Rattle.liq_types.specs.Ranked.{Ranked, rank_order, IsAscending}
use Rattle.liq_list_keys.specs.Parts.{Parts, account_key}
use Rattle.liq_list_keys.specs.AccountKey.{side_of}
use Rattle.liq_list_index.specs.declared.rows.Rows.{Rows}

-- ---- an account

abbrev pub key_at : Parts → ℕ → Option ℤ
key_at stands account = (account_key stands account).key

abbrev pub next_at : Parts → ℕ → Option ℤ
next_at stands account = (account_key stands account).next

-- the next key, or the key as it is
abbrev pub side_at : Bool → Parts → ℕ → Option ℤ
side_at made stands account = side_of made (account_key stands account)

-- whether a change moves an account, and whether any of a list does
abbrev pub named_by : ℕ → ListChange → Bool
named_by account (Put key a) = a == account
named_by account (Gone a) = a == account
named_by account (Words snap_stakes snap_coll sum_debt) = false

abbrev pub names : List ListChange → ℕ → Bool
names changes account = list_any (named_by account) changes

-- an account that no change moves stands where it will
abbrev pub AreSettledBeside : Parts → List ListChange → Type 0
AreSettledBeside stands changes =
    (account : ℕ) → names changes account ≡ false → next_at stands account ≡ key_at stands account

-- ---- entries

abbrev pub is_in : List Ranked → Ranked → Bool
is_in list e = list_any (is_at (rank_order e)) list

abbrev pub is_key : Option ℤ → ℤ → Bool
is_key None key = false
is_key (Some k) key = is_eq (int_cmp key k)

-- each account that has a key stands in the list, under its key, and no other does
pub record Follows (key : ℕ → Option ℤ) (list : List Ranked) : Type 0 where
  pub ascending : IsAscending list
  pub keyed : (e : Ranked) → is_in list e ≡ is_key (key e.1) e.0

-- each account stands under the key that it keeps, and at most under the one that it gives up too
pub record Holds (keeps : ℕ → Option ℤ) (gives : ℕ → Option ℤ) (places : List Ranked) : Type 0 where
  pub ascending : IsAscending places
  pub held : (e : Ranked) → is_key (keeps e.1) e.0 ≡ true → is_in places e ≡ true
  pub only : (e : Ranked) → is_in places e ≡ true
      → (is_key (keeps e.1) e.0 || is_key (gives e.1) e.0) ≡ true

-- no account stands twice
abbrev pub StandOnce : List Ranked → Type 0
StandOnce [] = Unit {0}
StandOnce (e ∷ es) = AllByRecursion (λ (f : Ranked). f.1 ≢ e.1) es × StandOnce es

-- ---- one change alone

-- the entries, and what is kept of each account, are as before
abbrev pub AreAsBefore : Rows → Rows → Type 0
AreAsBefore old new = (new.places ≡ old.places) × (new.stands ≡ old.stands)

-- what an attempt leaves that may want memory: where it is made, the rows follow this list; where
-- memory is wanting, and where it is not made, they are as before
abbrev pub HasTried : {T E : Type 0} → Rows → Rows → List Ranked → Option (Result T E) → Type 0
HasTried old new list (Some (Ok x)) = Follows (key_at new.stands) new.places × (new.places ≡ list)
HasTried old new list (Some (Err e)) = AreAsBefore old new
HasTried old new list None = AreAsBefore old new
