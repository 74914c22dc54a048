-- The gains that accounts were paid, as a table.
use Rattle.std.proofs.Common.{◌≡◌, ℕ, ◌+◌, ◌<◌, ◌^◌, Bool, true, false, cond, List, [], ◌∷◌, length, get_or, take, Some, refl, ap, sym, subst, ◌∙◌, arith}
use Rattle.std.specs.Prelude.{◌==◌, fold, map, unwrap_or}
use Rattle.std.specs.List.{AllByRecursion}
use Rattle.std.specs.List.Sorted.{IsStrictlySortedBy}
use Rattle.std.specs.Map.{keys_of}
use Rattle.std.specs.Ordering.{nat_cmp, is_eq, match_ordering}
use Rattle.std.specs.declared.cmp.Ordering.{Ordering}
use Rattle.std.specs.declared.cmp.Ordering.TheVariants.{Less, Equal, Greater}
use Rattle.std.proofs.lemmas.Bool.Decides.{nat_tests}
use Rattle.std.proofs.lemmas.List.{take_more}
use Rattle.std.proofs.lemmas.List.Sums.{fold-append, sum_by-cons, sum_by-take-le}
use Rattle.std.proofs.lemmas.Map.Keys.{sorted_head, sorted_tail}
use Rattle.liq_types.specs.declared.amounts.TheConstants.{ACCOUNTS}
use Rattle.liq_types.specs.declared.events.PoolEvent.{PoolEvent}
use Rattle.liq_types.specs.declared.events.PoolEvent.TheVariants as event
use Rattle.liq_types.specs.PlainLedger.{gain_paid, gains_paid_to, AreOwnedBelow}
use Rattle.liq_types.specs.State.{State}
use Rattle.liq_types.specs.Tables.{Table, at, put}
use Rattle.liq_types.specs.WellFormed.{Ascends}
use Rattle.liq_types.proofs.Ascending.{put-ascends}
use Rattle.liq_types.proofs.Lookups.{at-put_same, at-put_other}
use Rattle.liq_stability.specs.Position.{balance_of, gain_of}
use Rattle.liq_audit.specs.declared.rows.EngineRow.{EngineRow}
use Rattle.liq_audit.specs.Auditable.{with_owner, owners_of}
use Rattle.liq_core.specs.Core.{Core, StandsFor}
use Rattle.liq_text_audit.specs.Engine.{engine_row, engine_rows, paid_row, Pays}
use Rattle.liq_text_audit.specs.Paid.{with_gain, paid_table}

-- ---- what is paid

same_account : (j k : ℕ) → (j == k) ≡ true → j ≡ k
same_account j k h = grind (arith, nat_tests, h)

-- what one event pays to an account
paid_by : (k : ℕ) (e : PoolEvent) (table : Table ℕ) → unwrap_or (at (with_gain table e) k) 0 ≡ unwrap_or (at table k) 0
    + gain_paid k e
paid_by k (event.Offset debt coll total rise) table = omega arith
paid_by k (event.Own owner put_in out gain amount) table = by (owner == k) refl where
  had : ℕ
  had = unwrap_or (at table owner) 0

  by : (b : Bool) → (owner == k) ≡ b → unwrap_or (at (put table owner (unwrap_or (at table owner) 0 + gain)) k) 0
      ≡ unwrap_or (at table k) 0 + cond b gain 0
  by true is =
      let same = same_account owner k is in
      subst (λ q. unwrap_or (at (put table owner (unwrap_or (at table owner) 0 + gain)) q) 0 ≡ unwrap_or (at table q) 0
      + gain) same
      (ap (λ o. unwrap_or o 0) (at-put_same table owner (unwrap_or (at table owner) 0 + gain)))
  by false is =
      let other = ap (λ o. unwrap_or o 0) (at-put_other table owner (unwrap_or (at table owner) 0 + gain) k is) in
      omega (arith, other)

paid_from : (k : ℕ) (events : List PoolEvent) (table : Table ℕ) → unwrap_or (at (fold with_gain table events) k) 0
    ≡ unwrap_or (at table k) 0 + gains_paid_to k events
paid_from k [] table = omega arith
paid_from k (e ∷ es) table =
    let rest = paid_from k es (with_gain table e) in
    let one = paid_by k e table in
    let all = sum_by-cons (gain_paid k) e es in
    omega (arith, rest, one, all)

pub paid_is : (k : ℕ) (events : List PoolEvent) → unwrap_or (at (paid_table events) k) 0 ≡ gains_paid_to k events
paid_is k events = paid_from k events [] ∙ zero_more (gains_paid_to k events) where
  zero_more : (n : ℕ) → 0 + n ≡ n
  zero_more n = omega arith

-- one more gain is no more than all
pub paid_fits : (events : List PoolEvent) (i : ℕ) (d : PoolEvent) (account put_in out gain amount : ℕ)
    → i < length events → get_or events i d ≡ event.Own account put_in out gain amount → (most : ℕ)
    → gains_paid_to account events < most
    → unwrap_or (at (paid_table (take i events)) account) 0 + gain < most
paid_fits events i d account put_in out gain amount lt is most few =
    let had = paid_is account (take i events) in
    let here : gain_paid account (get_or events i d) ≡ gain = ap (gain_paid account) is ∙ own account in
    let all = sum_by-take-le (gain_paid account) events (i + 1) in
    let more : gains_paid_to account (take (i + 1) events) ≡ gains_paid_to account (take i events) + gain_paid account
    (get_or events i d) =
    ap (gains_paid_to account) (take_more events i d lt) ∙ fold-append (λ a e. a + gain_paid account e) 0
    (take i events) (get_or events i d ∷ []) in
    omega (arith, had, here, all, more, few) where
      own : (k : ℕ) → cond (k == k) gain 0 ≡ gain
      own k = let same : (k == k) ≡ true = grind (arith, nat_tests) in ap (λ b. cond b gain 0) same

-- ---- whose it is

keys_put : {X Y : Type 0} (a : Table X) (b : Table Y) → keys_of a ≡ keys_of b → (key : ℕ) (x : X) (y : Y)
    → keys_of (put a key x) ≡ keys_of (put b key y)
keys_put [] [] h key x y = refl
keys_put [] (f ∷ fs) h key x y = cc
keys_put (e ∷ es) [] h key x y = cc
keys_put {X} {Y} (e ∷ es) (f ∷ fs) h key x y = by (nat_cmp key f.0) (ap (nat_cmp key) heads)
    (keys_put es fs tails key x y) where
      heads : e.0 ≡ f.0
      heads = cc

      tails : keys_of es ≡ keys_of fs
      tails = cc

      by : (o : Ordering) → nat_cmp key e.0 ≡ o → keys_of (put es key x) ≡ keys_of (put fs key y)
          → keys_of (match_ordering (nat_cmp key e.0) ((key, x) ∷ e ∷ es) ((e.0, x) ∷ es) (e ∷ put es key x))
          ≡ keys_of (match_ordering o ((key, y) ∷ f ∷ fs) ((f.0, y) ∷ fs) (f ∷ put fs key y))
      by Less is more =
          ap (λ o. keys_of (match_ordering o ((key, x) ∷ e ∷ es) ((e.0, x) ∷ es) (e ∷ put es key x))) is
          ∙ ap (λ (ks : List ℕ). key ∷ ks) h
      by Equal is more =
          ap (λ o. keys_of (match_ordering o ((key, x) ∷ e ∷ es) ((e.0, x) ∷ es) (e ∷ put es key x))) is ∙ h
      by Greater is more =
          ap (λ o. keys_of (match_ordering o ((key, x) ∷ e ∷ es) ((e.0, x) ∷ es) (e ∷ put es key x))) is
          ∙ ap (λ (ks : List ℕ). e.0 ∷ ks) more ∙ ap (λ k. k ∷ keys_of (put fs key y)) heads

keys_from : (events : List PoolEvent) (a b : Table ℕ) → keys_of a ≡ keys_of b → keys_of (fold with_gain a events)
    ≡ keys_of (fold with_owner b events)
keys_from [] a b h = h
keys_from (event.Own owner put_in out gain amount ∷ es) a b h =
    keys_from es (put a owner (unwrap_or (at a owner) 0 + gain)) (put b owner 0) (keys_put a b h owner
    (unwrap_or (at a owner) 0 + gain) 0)
keys_from (event.Offset debt coll total rise ∷ es) a b h = keys_from es a b h

pub paid_keys : (events : List PoolEvent) → keys_of (paid_table events) ≡ owners_of events
paid_keys events = keys_from events [] [] refl

-- ---- the rows

ascends_from : (events : List PoolEvent) (table : Table ℕ) → Ascends table → Ascends (fold with_gain table events)
ascends_from [] table h = h
ascends_from (event.Own owner put_in out gain amount ∷ es) table h =
    ascends_from es (put table owner (unwrap_or (at table owner) 0 + gain)) (put-ascends table owner
    (unwrap_or (at table owner) 0 + gain) h)
ascends_from (event.Offset debt coll total rise ∷ es) table h = ascends_from es table h

abbrev IsFoundIn : Table ℕ → ℕ × ℕ → Type 0
IsFoundIn table row = at table row.0 ≡ Some row.1

found_further : (e : ℕ × ℕ) (table rest : Table ℕ) → AllByRecursion (λ y. nat_cmp e.0 y ≡ Less) (keys_of rest)
    → AllByRecursion (IsFoundIn table) rest → AllByRecursion (IsFoundIn (e ∷ table)) rest
found_further e table [] low h = tt
found_further e table (f ∷ fs) low h = (
  ap (λ b. cond b (Some e.1) (at table f.0)) (away e.0 f.0 low.0)
      ∙ h.0,
  found_further e table fs low.1 h.1,
) where
  away : (j k : ℕ) → nat_cmp j k ≡ Less → is_eq (nat_cmp k j) ≡ false
  away j k l = grind (arith, nat_tests, l)

found : (table : Table ℕ) → Ascends table → AllByRecursion (IsFoundIn table) table
found [] s = tt
found (e ∷ es) s = (
  ap (λ b. cond b (Some e.1) (at es e.0)) (itself e.0),
  found_further e es es (sorted_head nat_cmp e.0 (keys_of es) s)
      (found es (sorted_tail nat_cmp e.0 (keys_of es) s)),
) where
  itself : (k : ℕ) → is_eq (nat_cmp k k) ≡ true
  itself k = grind (arith, nat_tests)

-- each row of a table has what the account was paid
abbrev pub ArePaid : List PoolEvent → Table ℕ → Type 0
ArePaid events table = AllByRecursion (λ (row : ℕ × ℕ). row.1 ≡ gains_paid_to row.0 events) table

paid_rows : (events : List PoolEvent) (table : Table ℕ) → AllByRecursion (IsFoundIn (paid_table events)) table
    → ArePaid events table
paid_rows events [] h = tt
paid_rows events (row ∷ rows) h = (sym (ap (λ o. unwrap_or o 0) h.0) ∙ paid_is row.0 events, paid_rows events rows h.1)

all_paid : (events : List PoolEvent) → ArePaid events (paid_table events)
unfolding IsStrictlySortedBy
all_paid events = paid_rows events (paid_table events) (found (paid_table events) (ascends_from events [] tt))

module _ (s : State) (events : List PoolEvent) where
  by_keys : (table : Table ℕ) → ArePaid events table
      → map (paid_row s) table ≡ map (engine_row s events) (keys_of table)
  by_keys [] h = refl
  by_keys (row ∷ rows) h =
      ap (λ n. record { account = row.0; balance = balance_of s row.0; gain = gain_of s row.0 + n }
      ∷ map (paid_row s) rows) h.0
      ∙ ap (λ (more : List EngineRow). engine_row s events row.0 ∷ more) (by_keys rows h.1)

  pub rows_are : map (paid_row s) (paid_table events) ≡ engine_rows s events
  rows_are = by_keys (paid_table events) (all_paid events) ∙ ap (λ (ks : List ℕ). map (engine_row s events) ks)
      (paid_keys events)

-- ---- in range

AreBelow : ℕ → Table ℕ → Type 0
AreBelow n table = AllByRecursion (λ k. k < n) (keys_of table)

below_put : (n : ℕ) (table : Table ℕ) (key x : ℕ) → key < n → AreBelow n table → AreBelow n (put table key x)
unfolding AreBelow
below_put n [] key x l h = (l, tt)
below_put n (e ∷ es) key x l h = by (nat_cmp key e.0) (below_put n es key x l h.1) where
  by : (o : Ordering) → AllByRecursion (λ k. k < n) (keys_of (put es key x))
      → AllByRecursion (λ k. k < n) (keys_of (match_ordering o ((key, x) ∷ e ∷ es) ((e.0, x) ∷ es) (e ∷ put es key x)))
  by Less more = (l, h)
  by Equal more = h
  by Greater more = (h.0, more)

below_from : (n : ℕ) (events : List PoolEvent) (table : Table ℕ) → AreOwnedBelow n events → AreBelow n table
    → AreBelow n (fold with_gain table events)
below_from n [] table o h = h
below_from n (event.Own owner put_in out gain amount ∷ es) table o h =
    below_from n es (put table owner (unwrap_or (at table owner) 0 + gain)) o.1 (below_put n table owner
    (unwrap_or (at table owner) 0 + gain) o.0 h)
below_from n (event.Offset debt coll total rise ∷ es) table o h = below_from n es table o.1 h

module _ (core : Core) (s : State) (stands : StandsFor core s) (events : List PoolEvent) (fits : (k : ℕ) → k < ACCOUNTS
    → gain_of s k + gains_paid_to k events < 2 ^ 64) where
  pay_rows : (table : Table ℕ) → AreBelow ACCOUNTS table → ArePaid events table → AllByRecursion (Pays core) table
  unfolding AreBelow
  pay_rows [] b p = tt
  pay_rows (row ∷ rows) b p = (
    record {
      range = b.0;
      state = s;
      stands = stands;
      fits = subst (λ n. gain_of s row.0 + n
          < 2 ^ 64) (sym p.0) (fits row.0 b.0);
    },
    pay_rows rows b.1 p.1,
  )

  pub all_pay : AreOwnedBelow ACCOUNTS events → AllByRecursion (Pays core) (paid_table events)
  unfolding AreBelow
  all_pay owners = pay_rows (paid_table events) (below_from ACCOUNTS events [] owners tt) (all_paid events)
