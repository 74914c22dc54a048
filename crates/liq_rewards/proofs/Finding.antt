-- The row of an account among all.
use Rattle.std.proofs.Common.{◌≡◌, ℕ, zero, suc, ◌+◌, ◌-◌, ◌*◌, ◌<◌, ◌≤◌, Bool, true, false, cond, List, [], ◌∷◌, ◌++◌, length, map, get_or, set, refl, ap, sym, ◌∙◌, subst, arith, inl, inr, Some, None, Option, ◌⊎◌}
use Rattle.std.specs.Prelude.{◌==◌, ◌||◌, nat_lt, is_some, IfSome}
use Rattle.std.specs.List.{AllByRecursion}
use Rattle.std.proofs.lemmas.Bool.Decides.{nat_tests}
use Rattle.std.proofs.lemmas.List.{get_or-map, get_or_append_left, get_or_push, length-map, length-append}
use Rattle.std.proofs.Math.Seq.{map-set_same}
use Rattle.liq_tables.specs.Rows.{is_used_amount}
use Rattle.liq_tables.specs.WithRoom.{written}
use Rattle.liq_types.specs.Allowance.{cost_of}
use Rattle.liq_types.specs.Tables.{Table, at, put, without}
use Rattle.liq_types.proofs.Lookups.{at-put_same, at-put_other}
use Rattle.liq_types.specs.declared.events.PoolEvent.{PoolEvent}
use Rattle.liq_types.specs.declared.events.PoolEvent.TheVariants as event
use Rattle.liq_stability.specs.declared.words.PoolWords.{PoolWords}
use Rattle.liq_rewards.specs.declared.earner.Earner.{Earner}
use Rattle.liq_rewards.specs.declared.rows.Row.{Row}
use Rattle.liq_rewards.specs.declared.sharing.Sharing.{Sharing}
use Rattle.liq_rewards.specs.Earner.{no_earner, cost_now, earner_after, owned_by}
use Rattle.liq_rewards.specs.Kept.{earner_in, has_row}
use Rattle.liq_rewards.specs.Rows.{no_row, now_of, changed_by, accounts_of, row_at, IsRowOf, IsOwnBy, AreFound, AreRows}
use Rattle.liq_rewards.proofs.Keeping.{account-after}

itself : (a b : ℕ) → a ≡ b → (a == b) ≡ true
itself a b e = grind (arith, nat_tests, e)

other : (a b : ℕ) → (a ≡ b → ⊥) → (a == b) ≡ false
other a b apart = by (a == b) refl where
  by : (t : Bool) → (a == b) ≡ t → t ≡ false
  by false e = refl
  by true e = absurd (apart (grind (arith, nat_tests, e)))

-- no row is the account's
abbrev pub HasNone : List Row → ℕ → Type 0
HasNone rows account = (place : ℕ) → IsRowOf rows account place → ⊥

-- this row is the account's, and no other is
abbrev pub IsOnly : List Row → ℕ → ℕ → Type 0
IsOnly rows account place = (other : ℕ) → IsRowOf rows account other → other ≡ place

behind : (row : Row) (rows : List Row) (account place : ℕ) → IsRowOf rows account place
    → IsRowOf (row ∷ rows) account (suc place)
behind row rows account place h = record { within = omega (arith, h.within); owner = h.owner }

first_other : (row : Row) (rows : List Row) (account : ℕ) → HasNone (row ∷ rows) account
    → (row.earner.account == account) ≡ false
first_other row rows account none = other row.earner.account account (λ e. none 0 (record {
  within = omega arith;
  owner = e;
}))

module _ (words : PoolWords) (offsets : ℕ) where
  pub row_found : (rows : List Row) (account place : ℕ) → IsRowOf rows account place
      → has_row (map (now_of words offsets) rows) account ≡ true
  row_found [] account place h = absurd (let w = h.within in omega (arith, w))
  row_found (row ∷ rows) account zero h = ap (λ b. b || has_row (map (now_of words offsets) rows) account)
      (itself row.earner.account account h.owner)
  row_found (row ∷ rows) account (suc place) h = by (row.earner.account == account) (row_found rows account place
      (record { within = (let w = h.within in omega (arith, w)); owner = h.owner })) where
        by : (b : Bool) → has_row (map (now_of words offsets) rows) account ≡ true
            → (b || has_row (map (now_of words offsets) rows) account) ≡ true
        by true h = refl
        by false h = h

  pub none_found : (rows : List Row) (account : ℕ) → HasNone rows account
      → has_row (map (now_of words offsets) rows) account ≡ false
  none_found [] account none = refl
  none_found (row ∷ rows) account none =
      ap (λ b. b || has_row (map (now_of words offsets) rows) account) (first_other row rows account none)
      ∙ none_found rows account (λ place h. none (suc place) (behind row rows account place h))

  pub earner_none : (rows : List Row) (account : ℕ) → HasNone rows account
      → earner_in (map (now_of words offsets) rows) account ≡ no_earner account
  earner_none [] account none = refl
  earner_none (row ∷ rows) account none =
      ap (λ b. cond b (now_of words offsets row) (earner_in (map (now_of words offsets) rows) account))
      (first_other row rows account none)
      ∙ earner_none rows account (λ place h. none (suc place) (behind row rows account place h))

  pub earner_found : (rows : List Row) (account place : ℕ) → IsRowOf rows account place → IsOnly rows account place
      → earner_in (map (now_of words offsets) rows) account ≡ now_of words offsets (row_at rows place)
  earner_found [] account place h only = absurd (let w = h.within in omega (arith, w))
  earner_found (row ∷ rows) account zero h only =
      ap (λ b. cond b (now_of words offsets row) (earner_in (map (now_of words offsets) rows) account))
      (itself row.earner.account account h.owner)
  earner_found (row ∷ rows) account (suc place) h only =
      ap (λ b. cond b (now_of words offsets row) (earner_in (map (now_of words offsets) rows) account))
      (other row.earner.account account (λ e. absurd (let at = only 0 (record { within = omega arith; owner = e })
      in omega (arith, at))))
      ∙ earner_found rows account place (record { within = (let w = h.within in omega (arith, w)); owner = h.owner })
      (λ q k. (let at = only (suc q) (behind row rows account q k) in omega (arith, at)))

  -- ---- what an event changes

  -- a row that has all counted offsets in it is the account as of now
  now_same : (row : Row) → offsets - row.counted ≡ 0 → now_of words offsets row ≡ row.earner
  now_same row none = ap (λ n. record row.earner { weight = n }) (by (offsets - row.counted) (cost_now row.earner words)
      row.earner.weight none) where
        by : (since cost weight : ℕ) → since ≡ 0 → weight + since * cost ≡ weight
        by since cost weight e = ap (λ n. weight + n * cost) e ∙ omega arith

  pub none_changes : (rows : List Row) (owner put out gain left : ℕ) → HasNone rows owner
      → map (earner_after words None (event.Own owner put out gain left)) (map (now_of words offsets) rows)
      ≡ map (now_of words offsets) rows
  none_changes [] owner put out gain left none = refl
  none_changes (row ∷ rows) owner put out gain left none =
      let x = now_of words offsets row in
      ap (λ (y : Earner). y ∷ map (earner_after words None (event.Own owner put out gain left))
      (map (now_of words offsets) rows))
      (ap (λ b. cond b (owned_by x words left) x) (other owner row.earner.account
      (λ e. none 0 (record { within = omega arith; owner = sym e }))))
      ∙ ap (λ (ys : List Earner). x ∷ ys) (none_changes rows owner put out gain left (λ place h. none (suc place)
      (behind row rows owner place h)))

  pub one_changes : (rows : List Row) (owner put out gain left place : ℕ) → IsRowOf rows owner place
      → IsOnly rows owner place
      → let ev : PoolEvent = event.Own owner put out gain left in
      map (now_of words offsets) (set rows place (changed_by words None ev offsets offsets (row_at rows place)))
      ≡ map (earner_after words None ev) (map (now_of words offsets) rows)
  one_changes [] owner put out gain left place h only = absurd (let w = h.within in omega (arith, w))
  one_changes (row ∷ rows) owner put out gain left zero h only =
      let ev : PoolEvent = event.Own owner put out gain left in
      ap (λ (y : Earner). y ∷ map (now_of words offsets) rows) (now_same (changed_by words None ev offsets offsets row)
      (omega arith))
      ∙ ap (λ (ys : List Earner). earner_after words None ev (now_of words offsets row) ∷ ys)
      (sym (none_changes rows owner put out gain left (λ q k. absurd (let at = only (suc q) (behind row rows owner q k)
      in omega (arith, at)))))
  one_changes (row ∷ rows) owner put out gain left (suc place) h only =
      let ev : PoolEvent = event.Own owner put out gain left in
      let x = now_of words offsets row in
      ap (λ (ys : List Earner). x ∷ ys) (one_changes rows owner put out gain left place
      (record { within = (let w = h.within in omega (arith, w)); owner = h.owner })
      (λ q k. (let at = only (suc q) (behind row rows owner q k) in omega (arith, at))))
      ∙ ap (λ (y : Earner). y ∷ map (earner_after words None ev) (map (now_of words offsets) rows))
      (sym (ap (λ b. cond b (owned_by x words left) x) (other owner row.earner.account
      (λ e. absurd (let at = only 0 (record { within = omega arith; owner = sym e }) in omega (arith, at))))))

  pub one_counts : (rows : List Row) (debt coll total rise : ℕ) → AllByRecursion (λ row. row.counted ≤ offsets) rows
      → map (now_of words (offsets + 1)) rows ≡ map (earner_after words None (event.Offset debt coll total rise))
      (map (now_of words offsets) rows)
  one_counts [] debt coll total rise h = refl
  one_counts (row ∷ rows) debt coll total rise h =
      ap (λ (y : Earner). y ∷ map (now_of words (offsets + 1)) rows) (ap (λ n. record row.earner { weight = n })
      (by offsets row.counted (cost_now row.earner words) row.earner.weight h.0))
      ∙ ap (λ (ys : List Earner). earner_after words None (event.Offset debt coll total rise) (now_of words offsets row)
      ∷ ys) (one_counts rows debt coll total rise h.1) where
        by : (offsets counted cost weight : ℕ) → counted ≤ offsets → weight + (offsets + 1 - counted) * cost
            ≡ weight + (offsets - counted) * cost + cost
        by offsets counted cost weight low =
            let more : offsets + 1 - counted ≡ suc (offsets - counted) = omega (arith, low) in
            ap (λ n. weight + n * cost) more ∙ omega arith

  pub all_change : (next : PoolWords) (sharing : Option Sharing) (ev : PoolEvent) (rows : List Row)
      → map (now_of next 0) (map (changed_by words sharing ev offsets 0) rows) ≡ map (earner_after words sharing ev)
      (map (now_of words offsets) rows)
  all_change next sharing ev [] = refl
  all_change next sharing ev (row ∷ rows) =
      ap (λ (y : Earner). y ∷ map (now_of next 0) (map (changed_by words sharing ev offsets 0) rows))
      (alike (changed_by words sharing ev offsets 0 row) refl)
      ∙ ap (λ (ys : List Earner). earner_after words sharing ev (now_of words offsets row) ∷ ys)
      (all_change next sharing ev rows) where
        alike : (row : Row) → row.counted ≡ 0 → now_of next 0 row ≡ row.earner
        alike row e = ap (λ n. record row.earner { weight = n }) (by (0 - row.counted) (cost_now row.earner next)
            row.earner.weight (omega arith)) where
              by : (since cost weight : ℕ) → since ≡ 0 → weight + since * cost ≡ weight
              by since cost weight e = ap (λ n. weight + n * cost) e ∙ omega arith

-- the words count by their place
pub place_counts : (words next : PoolWords) (offsets : ℕ) (rows : List Row) → next.epoch ≡ words.epoch
    → next.scale ≡ words.scale → map (now_of next offsets) rows ≡ map (now_of words offsets) rows
place_counts words next offsets [] e s = refl
place_counts words next offsets (row ∷ rows) e s =
    let x = row.earner in
    ap (λ (y : Earner). y ∷ map (now_of next offsets) rows)
    (ap (λ n. record x {
      weight = x.weight + (offsets - row.counted) * cost_of x.amount (x.epoch, x.scale) (
        n,
        next.scale,
      );
    }) e
    ∙ ap (λ n. record x {
      weight = x.weight + (offsets - row.counted) * cost_of x.amount (
        x.epoch,
        x.scale,
      ) (words.epoch, n);
    }) s)
    ∙ ap (λ (ys : List Earner). now_of words offsets row ∷ ys) (place_counts words next offsets rows e s)

-- ---- numbers that lead to rows

clash : {A : Type 0} (o : Option A) (a : A) → o ≡ Some a → o ≡ None → ⊥
clash None a h k = cc
clash (Some b) a h k = cc

the : {a b : ℕ} → Some a ≡ Some b → a ≡ b
the h = cc

account_at : (rows : List Row) (place : ℕ) → place < length rows → get_or (accounts_of rows) place 0
    ≡ (row_at rows place).earner.account
account_at rows place low = get_or-map (λ (row : Row). row.earner.account) rows place (no_row 0) 0 low

module _ (numbers : Table ℕ) (rows : List Row) (h : AreFound numbers (accounts_of rows)) where
  as_many : length (accounts_of rows) ≡ length rows
  as_many = length-map rows (λ (row : Row). row.earner.account)

  pub number_is : (account place : ℕ) → IsRowOf rows account place → at numbers account ≡ Some (place + 1)
  number_is account place k =
      subst (λ a. at numbers a ≡ Some (place + 1)) (account_at rows place k.within
      ∙ k.owner) (h.each place (let w = k.within in omega (arith, w, as_many)))

  pub is_row : (account number : ℕ) → at numbers account ≡ Some number → IsRowOf rows account (number - 1)
  is_row account number is =
      let least = h.least account number is in
      let most = h.most account number is in
      let low : number - 1 < length rows = omega (arith, least, most, as_many) in
      record { within = low; owner = sym (account_at rows (number - 1) low) ∙ h.back account number is }

  pub has_none : (account : ℕ) → at numbers account ≡ None → HasNone rows account
  has_none account none place k = clash (at numbers account) (place + 1) (number_is account place k) none

  pub is_only : (account place : ℕ) → IsRowOf rows account place → IsOnly rows account place
  is_only account place k other l =
      let same : other + 1 ≡ place + 1 = the (sym (number_is account other l) ∙ number_is account place k) in
      omega (arith, same)

-- ---- that they still do

accounts_changed : (words : PoolWords) (sharing : Option Sharing) (ev : PoolEvent) (offsets counted : ℕ)
    (rows : List Row) → accounts_of (map (changed_by words sharing ev offsets counted) rows) ≡ accounts_of rows
accounts_changed words sharing ev offsets counted [] = refl
accounts_changed words sharing ev offsets counted (row ∷ rows) =
    ap (λ n. n ∷ accounts_of (map (changed_by words sharing ev offsets counted) rows)) (account-after words sharing ev
    (now_of words offsets row))
    ∙ ap (λ (ns : List ℕ). row.earner.account ∷ ns) (accounts_changed words sharing ev offsets counted rows)

pub rows_changed : (numbers : Table ℕ) (words : PoolWords) (sharing : Option Sharing) (ev : PoolEvent) (offsets : ℕ)
    (rows : List Row) → AreRows numbers offsets rows
    → AreRows numbers 0 (map (changed_by words sharing ev offsets 0) rows)
rows_changed numbers words sharing ev offsets rows h = record {
  found = subst (λ (ns : List ℕ). AreFound numbers ns) (sym (accounts_changed words sharing ev offsets 0 rows)) h.found;
  counted = all rows;
} where
  all : (rows : List Row) → AllByRecursion (λ row. row.counted ≤ 0) (map (changed_by words sharing ev offsets 0) rows)
  all [] = tt
  all (row ∷ rows) = (omega arith, all rows)

pub row_changed : (numbers : Table ℕ) (words : PoolWords) (ev : PoolEvent) (offsets : ℕ) (rows : List Row) (place : ℕ)
    → AreRows numbers offsets rows
    → AreRows numbers offsets (set rows place (changed_by words None ev offsets offsets (row_at rows place)))
row_changed numbers words ev offsets rows place h = record {
  found = subst (λ (ns : List ℕ). AreFound numbers ns) (sym (map-set_same (λ (row : Row). row.earner.account) rows place
      (changed_by words None ev offsets offsets (row_at rows place)) (no_row 0) (account-after words None ev
      (now_of words offsets (row_at rows place))))) h.found;
  counted = all rows place (changed_by words None ev offsets offsets (row_at rows place)) (omega arith) h.counted;
} where
  all : (rows : List Row) (place : ℕ) (row : Row) → row.counted ≤ offsets
      → AllByRecursion (λ row. row.counted ≤ offsets) rows
      → AllByRecursion (λ row. row.counted ≤ offsets) (set rows place row)
  all [] place row low h = tt
  all (r ∷ rows) zero row low h = (low, h.1)
  all (r ∷ rows) (suc place) row low h = (h.0, all rows place row low h.1)

module _ (numbers : Table ℕ) (accounts : List ℕ) (h : AreFound numbers accounts) (account : ℕ)
    (none : at numbers account ≡ None) where
  last_each : (place : ℕ) → place < length (accounts ++ account ∷ [])
      → at (put numbers account (length accounts + 1)) (get_or (accounts ++ account ∷ []) place 0) ≡ Some (place + 1)
  last_each place low = by (nat_lt place (length accounts)) refl where
    by : (b : Bool) → nat_lt place (length accounts) ≡ b
        → at (put numbers account (length accounts + 1)) (get_or (accounts ++ account ∷ []) place 0) ≡ Some (place + 1)
    by true e =
        let within : place < length accounts = grind (arith, nat_tests, e) in
        let a = get_or accounts place 0 in
        let is : at numbers a ≡ Some (place + 1) = h.each place within in
        let apart : (account == a) ≡ false = other account a (λ e. clash (at numbers a) (place + 1) is
        (subst (λ q. at numbers q ≡ None) e none)) in
        ap (at (put numbers account (length accounts + 1))) (get_or_append_left accounts (account ∷ []) 0 place within)
        ∙ at-put_other numbers account (length accounts + 1) a apart ∙ is
    by false e =
        let long = length-append accounts (account ∷ []) in
        let end : length accounts ≡ place = grind (arith, nat_tests, e, low, long) in
        ap (at (put numbers account (length accounts + 1))) (get_or_push accounts account 0 place end)
        ∙ at-put_same numbers account (length accounts + 1) ∙ ap (λ n. Some (n + 1)) end

  -- what is found is the last, or was found before
  found_last : (q number : ℕ) → at (put numbers account (length accounts + 1)) q ≡ Some number
      → ((q ≡ account) × (number ≡ length accounts + 1)) ⊎ (at numbers q ≡ Some number)
  found_last q number is = by (account == q) refl where
    by : (b : Bool) → (account == q) ≡ b → ((q ≡ account) × (number ≡ length accounts + 1))
        ⊎ (at numbers q ≡ Some number)
    by true e =
        let same : q ≡ account = grind (arith, nat_tests, e) in
        inl (
          same,
          the (sym is ∙ ap (at (put numbers account (length accounts + 1))) same
              ∙ at-put_same numbers account (length accounts + 1)),
        )
    by false e = inr (sym (at-put_other numbers account (length accounts + 1) q e) ∙ is)

  pub one_more : AreFound (put numbers account (length accounts + 1)) (accounts ++ account ∷ [])
  one_more =
      let long : length (accounts ++ account ∷ []) ≡ length accounts + 1 = length-append accounts (account ∷ []) in
      record {
        each = last_each;
        least = λ q number is. elim (found_last q number is) [
          | inl k ↦ omega (arith, k.1)
          | inr k ↦ h.least q number k
        ];
        most = λ q number is. elim (found_last q number is) [
          | inl k ↦ omega (arith, k.1, long)
          | inr k ↦ (let most = h.most q number k in omega (arith, most, long))
        ];
        back = λ q number is. elim (found_last q number is) [
          | inl k ↦ get_or_push accounts account 0 (number - 1) (omega (arith, k.1)) ∙ sym k.0
          | inr k ↦ (let least = h.least q number k in let most = h.most q number k
              in get_or_append_left accounts (account ∷ []) 0 (number - 1) (omega (arith, least, most))
              ∙ h.back q number k)
        ];
      }

pub row_added : (numbers : Table ℕ) (offsets : ℕ) (rows : List Row) (account number : ℕ) → AreRows numbers offsets rows
    → at numbers account ≡ None → number ≡ length rows + 1
    → AreRows (written is_used_amount numbers account number) offsets (rows ++ no_row account ∷ [])
row_added numbers offsets rows account number h none is =
    subst (λ n. AreRows (written is_used_amount numbers account n) offsets (rows ++ no_row account ∷ [])) (sym is)
    (record {
      found = subst (λ b. AreFound (cond b (put numbers account (length rows + 1)) (without numbers account))
          (accounts_of (rows ++ no_row account ∷ []))) (sym (used (length rows)))
          (subst (λ (ns : List ℕ). AreFound (put numbers account (length rows + 1)) ns) (sym (accounts-more rows))
          (subst (λ n. AreFound (put numbers account (n + 1)) (accounts_of rows ++ account ∷ []))
          (length-map rows (λ (row : Row). row.earner.account)) (one_more numbers (accounts_of rows) h.found account
          none)));
      counted = all rows h.counted;
    }) where
      used : (n : ℕ) → is_used_amount (n + 1) ≡ true
      used n = grind (arith, nat_tests)

      accounts-more : (rows : List Row) → accounts_of (rows ++ no_row account ∷ []) ≡ accounts_of rows ++ account ∷ []
      accounts-more [] = refl
      accounts-more (row ∷ rows) = ap (λ (ns : List ℕ). row.earner.account ∷ ns) (accounts-more rows)

      all : (rows : List Row) → AllByRecursion (λ row. row.counted ≤ offsets) rows
          → AllByRecursion (λ row. row.counted ≤ offsets) (rows ++ no_row account ∷ [])
      all [] h = (omega arith, tt)
      all (row ∷ rows) h = (h.0, all rows h.1)

-- ---- what a search tells

pub told : (words : PoolWords) (offsets : ℕ) (rows : List Row) (account : ℕ) (o : Option ℕ)
    → IfSome o (IsRowOf rows account) → (o ≡ None → HasNone rows account)
    → is_some o ≡ has_row (map (now_of words offsets) rows) account
told words offsets rows account None found none = sym (none_found words offsets rows account (none refl))
told words offsets rows account (Some place) found none = sym (row_found words offsets rows account place found)

-- an account without a row has no number
pub no_number : (words : PoolWords) (numbers : Table ℕ) (offsets : ℕ) (rows : List Row) (account : ℕ)
    → AreFound numbers (accounts_of rows) → has_row (map (now_of words offsets) rows) account ≡ false
    → at numbers account ≡ None
no_number words numbers offsets rows account h absent = by (at numbers account) refl where
  not_both : (b : Bool) → b ≡ true → b ≡ false → ⊥
  not_both b h k = cc

  by : (o : Option ℕ) → at numbers account ≡ o → o ≡ None
  by None e = refl
  by (Some number) e = absurd (not_both (has_row (map (now_of words offsets) rows) account)
      (row_found words offsets rows account (number - 1) (is_row numbers rows h account number e)) absent)

-- ---- a row that is found

pub any_default : (rows : List Row) (place : ℕ) (d : Row) → place < length rows
    → get_or rows place d ≡ row_at rows place
any_default [] place d low = absurd (omega (arith, low))
any_default (row ∷ rows) zero d low = refl
any_default (row ∷ rows) (suc place) d low = any_default rows place d (omega (arith, low))

module _ (words : PoolWords) (numbers : Table ℕ) (offsets : ℕ) (rows : List Row) (h : AreRows numbers offsets rows)
    (account place : ℕ) (k : IsRowOf rows account place) where
  pub here : earner_in (map (now_of words offsets) rows) account ≡ now_of words offsets (row_at rows place)
  here = earner_found words offsets rows account place k (is_only numbers rows h.found account place k)

  pub own_changes : (ev : PoolEvent) → IsOwnBy ev account
      → map (now_of words offsets) (set rows place (changed_by words None ev offsets offsets (row_at rows place)))
      ≡ map (earner_after words None ev) (map (now_of words offsets) rows)
  own_changes (event.Own owner put out gain left) own =
      let j : IsRowOf rows owner place = record { within = k.within; owner = k.owner ∙ sym own } in
      one_changes words offsets rows owner put out gain left place j (is_only numbers rows h.found owner place j)
  own_changes (event.Offset debt coll total rise) own = absurd own

pub offset_changes : (words next : PoolWords) (sharing : Option Sharing) (ev : PoolEvent) (offsets : ℕ)
    (rows : List Row) (debt coll total rise : ℕ) → AllByRecursion (λ row. row.counted ≤ offsets) rows
    → is_some sharing ≡ false → (next.epoch ≡ words.epoch) × (next.scale ≡ words.scale)
    → ev ≡ event.Offset debt coll total rise
    → map (now_of next (offsets + 1)) rows ≡ map (earner_after words sharing ev) (map (now_of words offsets) rows)
offset_changes words next None ev offsets rows debt coll total rise h none place is =
    place_counts words next (offsets + 1) rows place.0 place.1 ∙ one_counts words offsets rows debt coll total rise h
    ∙ ap (λ (e : PoolEvent). map (earner_after words None e) (map (now_of words offsets) rows)) (sym is)
offset_changes words next (Some sharing) ev offsets rows debt coll total rise h none place is = absurd cc
