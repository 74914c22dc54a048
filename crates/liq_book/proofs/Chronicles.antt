-- Chronicles: what is read from items that follow one another.
use Rattle.std.proofs.Common.{ℕ, suc, ◌≡◌, List, [], ◌∷◌, ◌++◌, map, Option, Some, None, true, false, ◌==◌, refl, sym, ap, ◌∙◌, arith}
use Rattle.std.specs.Prelude.{if◌then◌else◌}
use Rattle.std.proofs.lemmas.List.{append-nil}
use Rattle.std.proofs.lemmas.List.Elements.{filter-append}
use Rattle.std.proofs.lemmas.Bool.Decides.{nat_tests}
use Rattle.liq_types.specs.declared.requests.Request.{Request}
use Rattle.liq_rule_step.specs.History.{own_entries}
use Rattle.liq_lock.specs.History.{Behind, NoneOf}
use Rattle.liq_lock.proofs.Histories.{one_in}
use Rattle.liq_types.specs.declared.entries.Entry.{Entry}
use Rattle.liq_book.specs.declared.items.Halt.{Halt}
use Rattle.liq_book.specs.declared.items.Item.{Item}
use Rattle.liq_book.specs.declared.items.Item.TheVariants as item
use Rattle.liq_book.specs.Items.{chronicle, entries_of, faulted_in, or_else, session_of}

pub entries_of-append : (xs ys : List Item) → entries_of (xs ++ ys) ≡ entries_of xs ++ entries_of ys
entries_of-append [] ys = refl
entries_of-append (item.Entry e ∷ xs) ys = ap (λ es. e ∷ es) (entries_of-append xs ys)
entries_of-append (item.Halt h ∷ xs) ys = entries_of-append xs ys

pub entries_of-map : (entries : List Entry) → entries_of (map item.Entry entries) ≡ entries
entries_of-map [] = refl
entries_of-map (e ∷ entries) = ap (λ es. e ∷ es) (entries_of-map entries)

-- the entries of a chronicle are those of the book
pub entries_of-chronicle : (entries : List Entry) (halt : Option Halt) → entries_of (chronicle entries halt) ≡ entries
entries_of-chronicle entries None = entries_of-map entries
entries_of-chronicle entries (Some halt) = entries_of-append (map item.Entry entries) (item.Halt halt ∷ [])
    ∙ (append-nil (entries_of (map item.Entry entries)) ∙ entries_of-map entries)

pub own_entries-append : (session : ℕ) (xs ys : List Entry) → own_entries session (xs ++ ys)
    ≡ own_entries session xs ++ own_entries session ys
own_entries-append session xs ys = filter-append (λ (e : Entry). e.session == session) xs ys

or_else-none : (o : Option Request) → or_else o None ≡ o
or_else-none None = refl
or_else-none (Some request) = refl

or_else-assoc : (a b c : Option Request) → or_else (or_else a b) c ≡ or_else a (or_else b c)
or_else-assoc None b c = refl
or_else-assoc (Some request) b c = refl

pub faulted_in-append : (session : ℕ) (xs ys : List Item) → faulted_in session (xs ++ ys)
    ≡ or_else (faulted_in session ys) (faulted_in session xs)
faulted_in-append session [] ys = sym (or_else-none (faulted_in session ys))
faulted_in-append session (item.Entry e ∷ xs) ys = faulted_in-append session xs ys
faulted_in-append session (item.Halt h ∷ xs) ys =
    let here : Option Request = if h.session == session then Some h.request else None in
    ap (λ o. or_else o here) (faulted_in-append session xs ys)
    ∙ or_else-assoc (faulted_in session ys) (faulted_in session xs) here

-- ---- items of other sessions

none_behind : (session : ℕ) (x : Item) (xs : List Item) → NoneOf session_of (session ∷ []) (x ∷ xs)
    → NoneOf session_of (session ∷ []) xs
none_behind session x xs none i c = none i (suc c.0, omega (arith, c.1), c.2)

other_session : (session : ℕ) (x : Item) (xs : List Item) → NoneOf session_of (session ∷ []) (x ∷ xs)
    → (session_of x == session) ≡ false
other_session session x xs none = differ (session_of x) (λ same. none x (one_in x xs) (0, omega arith, sym same)) where
  differ : (n : ℕ) → (n ≡ session → ⊥) → (n == session) ≡ false
  differ n apart = grind (arith, nat_tests, apart)

pub own_none : (session : ℕ) (items : List Item) → NoneOf session_of (session ∷ []) items
    → own_entries session (entries_of items) ≡ []
own_none session [] none = refl
own_none session (item.Entry e ∷ items) none = rw (other_session session (item.Entry e) items none)
    (own_none session items (none_behind session (item.Entry e) items none))
own_none session (item.Halt h ∷ items) none = own_none session items (none_behind session (item.Halt h) items none)

pub faulted_none : (session : ℕ) (items : List Item) → NoneOf session_of (session ∷ []) items
    → faulted_in session items ≡ None
faulted_none session [] none = refl
faulted_none session (item.Entry e ∷ items) none =
    faulted_none session items (none_behind session (item.Entry e) items none)
faulted_none session (item.Halt h ∷ items) none =
    rw (
      faulted_none session items (none_behind session (item.Halt h) items none),
      other_session session (item.Halt h) items none,
    ) refl

-- items of others leave a session's own
pub own_on : (session : ℕ) (before between : List Item) → NoneOf session_of (session ∷ []) between
    → own_entries session (entries_of (before ++ between)) ≡ own_entries session (entries_of before)
own_on session before between none =
    rw (
      entries_of-append before between,
      own_entries-append session (entries_of before) (entries_of between),
      own_none session between none,
    ) (append-nil (own_entries session (entries_of before)))

pub faulted_on : (session : ℕ) (before between : List Item) → NoneOf session_of (session ∷ []) between
    → faulted_in session (before ++ between) ≡ faulted_in session before
faulted_on session before between none = rw (
  faulted_in-append session before between,
  faulted_none session between none,
) refl

pub own_behind : (session : ℕ) (after before : List Item) → Behind session_of after (session ∷ []) before
    → own_entries session (entries_of after) ≡ own_entries session (entries_of before)
own_behind session after before b = rw b.1 (own_on session before b.0 b.2)

pub faulted_behind : (session : ℕ) (after before : List Item) → Behind session_of after (session ∷ []) before
    → faulted_in session after ≡ faulted_in session before
faulted_behind session after before b = rw b.1 (faulted_on session before b.0 b.2)

pub same_session : (n : ℕ) → (n == n) ≡ true
same_session n = grind (arith, nat_tests)
