-- Entries are counted by the scripts of their sessions.
use Rattle.std.proofs.Common.{ℕ, zero, suc, ◌+◌, ◌≤◌, ◌<◌, ◌≡◌, List, [], ◌∷◌, length, Bool, true, false, cond, refl, sym, ap, ◌∙◌, subst, length-append, eq-eqb, arith}
use Rattle.std.specs.Prelude.{◌==◌, All, Contains, slice_index_or, sum_by}
use Rattle.std.specs.List.{AllByRecursion}
use Rattle.std.proofs.lemmas.List.{append-nil, length-map}
use Rattle.std.proofs.lemmas.List.Sums.{get_or-le-sum_by, sum_by-cons}
use Rattle.liq_rule_step.specs.History.{own_entries}
use Rattle.liq_sessions.specs.declared.script.Script.{Script}
use Rattle.liq_sessions.specs.declared.script.TheConstants.{REQUESTS_MOST}
use Rattle.liq_types.specs.declared.entries.Entry.{Entry}
use Rattle.liq_book.specs.declared.items.TheConstants.{ENTRIES_MOST}
use Rattle.liq_word_serve.specs.Answered.{IsServedFrom, IsServedWhole, answered_of}
use Rattle.liq_word_serve.specs.Serves.{AreNumbered}
use Rattle.liq_word_serve.proofs.Told.{script_of}

-- ---- sums

module _ {X : Type 0} (f g : X → ℕ) where
  sum_below : (xs : List X) → AllByRecursion (λ x. f x ≤ g x) xs → sum_by f xs ≤ sum_by g xs
  sum_below [] below = omega arith
  sum_below (x ∷ xs) below = omega (arith, sum_by-cons f x xs, sum_by-cons g x xs, below.0, sum_below xs below.1)

  sum_less : (xs : List X) (k : ℕ) (d : X) → AllByRecursion (λ x. f x ≤ g x) xs → k < length xs
      → f (slice_index_or xs k d) < g (slice_index_or xs k d) → sum_by f xs < sum_by g xs
  sum_less [] k d below within less = absurd (omega arith)
  sum_less (x ∷ xs) zero d below within less = omega (
    arith,
    sum_by-cons f x xs,
    sum_by-cons g x xs,
    less,
    sum_below xs below.1,
  )
  sum_less (x ∷ xs) (suc k) d below within less = omega (
    arith,
    sum_by-cons f x xs,
    sum_by-cons g x xs,
    below.0,
    sum_less xs k d below.1 (omega arith) less,
  )

sum_none : {X : Type 0} (f : X → ℕ) (xs : List X) → AllByRecursion (λ x. f x ≡ 0) xs → sum_by f xs ≡ 0
sum_none f [] none = refl
sum_none f (x ∷ xs) none = omega (arith, sum_by-cons f x xs, none.0, sum_none f xs none.1)

-- ---- entries

-- how many entries the script's session has
pub own : List Entry → Script → ℕ
own entries script = length (own_entries script.session entries)

own_is : (entries : List Entry) (script : Script)
    → own entries script ≡ length (answered_of script.session entries)
unfolding own
own_is entries script = sym (length-map (own_entries script.session entries) (λ (e : Entry). e.request))

one_if : Bool → ℕ
one_if true = 1
one_if false = 0

hit : Entry → Script → ℕ
hit e script = one_if (e.session == script.session)

own-cons : (e : Entry) (entries : List Entry) (script : Script) → own (e ∷ entries) script
    ≡ hit e script + own entries script
unfolding own hit one_if
own-cons e entries script = by (e.session == script.session) where
  by : (b : Bool) → length (cond b (e ∷ own_entries script.session entries) (own_entries script.session entries))
      ≡ one_if b + length (own_entries script.session entries)
  by true = omega arith
  by false = omega arith

owns-cons : (e : Entry) (entries : List Entry) (scripts : List Script)
    → sum_by (own (e ∷ entries)) scripts ≡ sum_by (hit e) scripts + sum_by (own entries) scripts
owns-cons e entries [] = refl
owns-cons e entries (script ∷ scripts) =
    omega (
      arith,
      sum_by-cons (own (e ∷ entries)) script scripts,
      sum_by-cons (hit e) script scripts,
      sum_by-cons (own entries) script scripts,
      own-cons e entries script,
      owns-cons e entries scripts,
    )

-- the script of its session is hit
hit_one : (e : Entry) (scripts : List Script) (script : Script) → Contains scripts script
    → script.session ≡ e.session → 1 ≤ sum_by (hit e) scripts
unfolding hit one_if
hit_one e scripts script there same =
    let at : hit e script ≤ sum_by (hit e) scripts = subst (λ (s : Script). hit e s ≤ sum_by (hit e) scripts) there.2
    (get_or-le-sum_by (hit e) scripts there.0 script there.1) in
    let one : hit e script ≡ 1 = ap one_if (eq-eqb e.session script.session (sym same)) in
    omega (arith, at, one)

-- each entry is one of a script's session
pub counted : (scripts : List Script) → AreNumbered scripts → (entries : List Entry)
    → AllByRecursion (λ (e : Entry). (1 ≤ e.session) × (e.session ≤ length scripts)) entries
    → length entries ≤ sum_by (own entries) scripts
counted scripts numbered [] within = omega arith
counted scripts numbered (e ∷ entries) within =
    let script = script_of scripts numbered e.session within.0.0 within.0.1 in
    omega (
      arith,
      owns-cons e entries scripts,
      hit_one e scripts script.0 script.1 script.2,
      counted scripts numbered entries within.1,
    )

-- ---- scripts that are answered, in part or not at all

empty : {X : Type 0} (xs : List X) → length xs ≤ 0 → xs ≡ []
empty [] none = refl
empty (x ∷ xs) none = absurd (omega arith)

-- no entry is left where none is of a script's session
pub none_left : (scripts : List Script) → AreNumbered scripts → (entries : List Entry)
    → AllByRecursion (λ (e : Entry). (1 ≤ e.session) × (e.session ≤ length scripts)) entries
    → AllByRecursion (λ (script : Script). answered_of script.session entries ≡ []) scripts
    → entries ≡ []
none_left scripts numbered entries within none =
    let sum : sum_by (own entries) scripts ≡ 0 = sum_none (own entries) scripts
    (owns_none scripts none) in
    empty entries (omega (arith, sum, counted scripts numbered entries within)) where
      owns_none : (list : List Script)
          → AllByRecursion (λ (script : Script). answered_of script.session entries ≡ []) list
          → AllByRecursion (λ (script : Script). own entries script ≡ 0) list
      owns_none [] h = tt
      owns_none (script ∷ list) h = (own_is entries script ∙ ap length h.0, owns_none list h.1)

own_front : (entries : List Entry) (script : Script) → IsServedFrom entries script
    → own entries script ≤ length script.requests
own_front entries script front = omega (
  arith,
  own_is entries script,
  ap length front.1,
  length-append (answered_of script.session entries) front.0,
)

own_short : (entries : List Entry) (script : Script) → IsServedFrom entries script
    → (IsServedWhole entries script → ⊥) → own entries script < length script.requests
own_short entries script ([], is) short = absurd (short (is ∙ append-nil (answered_of script.session entries)))
own_short entries script (request ∷ rest, is) short = omega (
  arith,
  own_is entries script,
  ap length is,
  length-append (answered_of script.session entries) (request ∷ rest),
)

own_fronts : (entries : List Entry) (scripts : List Script) → AllByRecursion (IsServedFrom entries) scripts
    → AllByRecursion (λ (script : Script). own entries script ≤ length script.requests) scripts
own_fronts entries [] fronts = tt
own_fronts entries (script ∷ scripts) fronts = (own_front entries script fronts.0, own_fronts entries scripts fronts.1)

-- The book is not full where a script is not answered whole.
pub has_room : (scripts : List Script) → AreNumbered scripts
    → sum_by (λ (script : Script). length script.requests) scripts ≤ ENTRIES_MOST
    → (entries : List Entry) → AllByRecursion (λ (e : Entry). (1 ≤ e.session) × (e.session ≤ length scripts)) entries
    → AllByRecursion (IsServedFrom entries) scripts
    → (script : Script) → Contains scripts script → IsServedFrom entries script
    → (IsServedWhole entries script → ⊥)
    → length entries < ENTRIES_MOST
has_room scripts numbered total entries within fronts script there front short =
    let f : Script → ℕ = own entries in
    let g : Script → ℕ = λ (s : Script). length s.requests in
    let less : f (slice_index_or scripts there.0 script) < g (slice_index_or scripts there.0 script) =
    subst (λ (s : Script). f s < g s) (sym there.2) (own_short entries script front short) in
    omega (
      arith,
      counted scripts numbered entries within,
      sum_less f g scripts there.0 script (own_fronts entries scripts fronts) there.1 less,
      total,
    )

-- no script is longer than all together
pub each_short : (scripts : List Script) → sum_by (λ (script : Script). length script.requests) scripts ≤ ENTRIES_MOST
    → All (λ (script : Script). length script.requests ≤ REQUESTS_MOST) scripts
each_short scripts total k d within =
    omega (arith, total, get_or-le-sum_by (λ (script : Script). length script.requests) scripts k d within)
