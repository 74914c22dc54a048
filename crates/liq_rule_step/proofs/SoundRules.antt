-- The rules of an image one by one, and what a payment and a counted command leave of them.
use Rattle.std.proofs.Common.{◌≡◌, ℕ, ◌+◌, ◌*◌, ◌≤◌, ◌<◌, Bool, true, false, cond, nat_le, nat_lt, List, [], ◌∷◌, refl, ap, ◌∙◌, arith, Some, None}
use Rattle.std.specs.Prelude.{◌==◌, ◌&&◌, IsTrue, length, sum, sum_by}
use Rattle.std.specs.List.{AllByRecursion, list_all}
use Rattle.std.specs.Map.{keys_of, values_of}
use Rattle.std.specs.Ordering.{nat_cmp, match_ordering}
use Rattle.std.specs.declared.cmp.Ordering.{Ordering}
use Rattle.std.specs.declared.cmp.Ordering.TheVariants.{Less, Equal, Greater}
use Rattle.std.proofs.lemmas.Bool.Decides.{nat_tests}
use Rattle.liq_types.specs.declared.amounts.TheConstants.{RESERVE, RECORDS_MOST, ACCOUNTS}
use Rattle.liq_types.specs.declared.figures.Client.{Client}
use Rattle.liq_types.specs.declared.image.Image.{Image}
use Rattle.liq_types.specs.Soundness.{has_ranges, has_accounts, has_keys_in_range, has_coll_at_home, has_lusd_at_home, has_surplus_at_home, has_sound_troves, has_troves_added_up, is_backed, has_sound_words, has_sound_deposits, has_sound_clients, is_sound_client, coll_homes, lusd_homes, places_most, soundness, first_failing, HasTables, IsClientRow, IsSoundImage}
use Rattle.liq_types.specs.Tables.{Table, put}
use Rattle.liq_types.proofs.Ascending.{put-ascends}
use Rattle.liq_types.specs.declared.figures.Trove.{Trove}
use Rattle.liq_rule_step.specs.Identities.{IsAtHome}
use Rattle.std.proofs.lemmas.Bool.{and_from}

-- ---- all rules

abbrev Passes : ℕ × Bool → Type 0
Passes rule = rule.1 ≡ true

passing : (rules : List (ℕ × Bool)) → first_failing rules ≡ None → AllByRecursion Passes rules
passing [] h = tt
passing (rule ∷ rules) h = by rule.1 h (passing rules) where
  by : (b : Bool) → cond b (first_failing rules) (Some rule.0) ≡ None → (first_failing rules ≡ None
      → AllByRecursion Passes rules) → (b ≡ true) × AllByRecursion Passes rules
  by true e more = (refl, more e)
  by false e more = cc

passed : (rules : List (ℕ × Bool)) → AllByRecursion Passes rules → first_failing rules ≡ None
passed [] h = refl
passed (rule ∷ rules) h = ap (λ b. cond b (first_failing rules) (Some rule.0)) h.0 ∙ passed rules h.1

-- the eleven rules
pub record Meets (i : Image) (records : ℕ) : Type 0 where
  pub ranges : has_ranges i records ≡ true
  pub accounts : has_accounts i ≡ true
  pub coll : has_coll_at_home i ≡ true
  pub lusd : has_lusd_at_home i ≡ true
  pub surplus : has_surplus_at_home i ≡ true
  pub troves : has_sound_troves i ≡ true
  pub added : has_troves_added_up i ≡ true
  pub backed : is_backed i ≡ true
  pub words : has_sound_words i records ≡ true
  pub deposits : has_sound_deposits i ≡ true
  pub clients : has_sound_clients i ≡ true

pub meets : (i : Image) (records : ℕ) → IsSoundImage i records → Meets i records
meets i records h =
    let all = passing (soundness i records) h.rules in
    record {
      ranges = all.0;
      accounts = all.1.0;
      coll = all.1.1.0;
      lusd = all.1.1.1.0;
      surplus = all.1.1.1.1.0;
      troves = all.1.1.1.1.1.0;
      added = all.1.1.1.1.1.1.0;
      backed = all.1.1.1.1.1.1.1.0;
      words = all.1.1.1.1.1.1.1.1.0;
      deposits = all.1.1.1.1.1.1.1.1.1.0;
      clients = all.1.1.1.1.1.1.1.1.1.1.0;
    }

pub sound_of : (i : Image) (records : ℕ) → Meets i records → HasTables i → IsSoundImage i records
sound_of i records h tables =
    record {
      rules = passed (soundness i records) (
        h.ranges,
        (
          h.accounts,
          (h.coll, (h.lusd, (h.surplus, (h.troves, (h.added, (h.backed, (h.words, (h.deposits, (h.clients, tt))))))))),
        ),
      );
      tables = tables;
    }

-- ---- and_from of two

pub both_first : (a b : Bool) → (a && b) ≡ true → a ≡ true
both_first true b h = refl
both_first false b h = cc

pub both_second : (a b : Bool) → (a && b) ≡ true → b ≡ true
both_second true b h = h
both_second false b h = cc

-- the second is exchanged
other_second : (a b c : Bool) → (a && b) ≡ true → c ≡ true → (a && c) ≡ true
other_second a b c h k = and_from a c (both_first a b h) k

-- what is conserved
pub sound_at_home : (i : Image) (records : ℕ) → IsSoundImage i records → IsAtHome i
sound_at_home i records h =
    let all = meets i records h in
    let lusd = both_first _ (i.reserve == RESERVE * length i.troves) all.lusd in
    let added = both_first _ (nat_le i.snap_stakes i.snap_coll) (both_first _ _ all.added) in
    let debt_total : (i.active_debt + i.default_debt == lusd_homes i) ≡ true = both_second _ _ lusd in
    let reserve : (i.reserve == RESERVE * length i.troves) ≡ true = both_second _ _ all.lusd in
    let coll : (i.active_coll == sum_by (λ (t : Trove). t.coll) (values_of i.troves)) ≡ true =
    both_second _ _ (both_first _ _ added) in
    let debt : (i.active_debt == sum_by (λ (t : Trove). t.debt) (values_of i.troves)) ≡ true = both_second _ _ added in
    record {
      coll = equal i.brought (coll_homes i) all.coll;
      lusd = equal (i.active_debt + i.default_debt) (lusd_homes i) debt_total;
      reserve = equal i.reserve (RESERVE * length i.troves) reserve;
      active_coll = equal i.active_coll (sum_by (λ (t : Trove). t.coll) (values_of i.troves)) coll;
      active_debt = equal i.active_debt (sum_by (λ (t : Trove). t.debt) (values_of i.troves)) debt;
      surplus = equal i.surplus (sum (values_of i.surplus_rows)) all.surplus;
    } where
      equal : (a b : ℕ) → (a == b) ≡ true → a ≡ b
      equal a b e = grind (arith, nat_tests, e)

-- ---- rows that are all of a kind

list_of : {X : Type 0} (test : X → Bool) (xs : List X) → list_all test xs ≡ true
    → AllByRecursion (λ x. test x ≡ true) xs
list_of test [] h = tt
list_of test (x ∷ xs) h = (
  both_first (test x) (list_all test xs) h,
  list_of test xs (both_second (test x) (list_all test xs) h),
)

list_from : {X : Type 0} (test : X → Bool) (xs : List X) → AllByRecursion (λ x. test x ≡ true) xs
    → list_all test xs ≡ true
list_from test [] h = refl
list_from test (x ∷ xs) h = and_from (test x) (list_all test xs) h.0 (list_from test xs h.1)

module _ {X : Type 0} where
  keys-put : (P : ℕ → Type 0) (table : Table X) (key : ℕ) (x : X) → P key → AllByRecursion P (keys_of table)
      → AllByRecursion P (keys_of (put table key x))
  keys-put P [] key x p h = (p, tt)
  keys-put P (e ∷ es) key x p h = by (nat_cmp key e.0) (keys-put P es key x p h.1) where
    by : (o : Ordering) → AllByRecursion P (keys_of (put es key x))
        → AllByRecursion P (keys_of (match_ordering o ((key, x) ∷ e ∷ es) ((e.0, x) ∷ es) (e ∷ put es key x)))
    by Less more = (p, h)
    by Equal more = h
    by Greater more = (h.0, more)

  values-put : (P : X → Type 0) (table : Table X) (key : ℕ) (x : X) → P x → AllByRecursion P (values_of table)
      → AllByRecursion P (values_of (put table key x))
  values-put P [] key x p h = (p, tt)
  values-put P (e ∷ es) key x p h = by (nat_cmp key e.0) (values-put P es key x p h.1) where
    by : (o : Ordering) → AllByRecursion P (values_of (put es key x))
        → AllByRecursion P (values_of (match_ordering o ((key, x) ∷ e ∷ es) ((e.0, x) ∷ es) (e ∷ put es key x)))
    by Less more = (p, h)
    by Equal more = (p, h.1)
    by Greater more = (h.0, more)

  in_range : (key : ℕ) → nat_lt key ACCOUNTS ≡ true → (table : Table X) (x : X) → has_keys_in_range table ≡ true
      → has_keys_in_range (put table key x) ≡ true
  in_range key k table x h =
      list_from (λ q. nat_lt q ACCOUNTS) (keys_of (put table key x))
      (keys-put (λ q. nat_lt q ACCOUNTS ≡ true) table key x k (list_of (λ q. nat_lt q ACCOUNTS) (keys_of table) h))

  -- a row more, at a number in range
  pub put_in_range : (table : Table X) (key : ℕ) (x : X) → key < ACCOUNTS → IsTrue (has_keys_in_range table)
      → IsTrue (has_keys_in_range (put table key x))
  put_in_range table key x k h = in_range key (grind (arith, nat_tests, k)) table x h

-- ---- a command that is counted, and its reply kept

middle : (w x y z v : Bool) → (((w && x) && y) && z) ≡ true → v ≡ true → (((w && v) && y) && z) ≡ true
middle w true y z v h k = ap (λ b. ((w && b) && y) && z) k ∙ h
middle true false y z v h k = cc
middle false false y z v h k = cc

module _ (i : Image) (records client : ℕ) (row : Client) (sound : IsSoundImage i records) (inside : client
    < ACCOUNTS) (few : records < RECORDS_MOST) (kept : IsClientRow row) (shown : is_sound_client row ≡ true) where
  noted : Image
  noted = record i { clients = put i.clients client row }

  before : Meets i records
  before = meets i records sound

  counted : nat_le (records + 1) RECORDS_MOST ≡ true
  counted = grind (arith, nat_tests, few)

  more : places_most i.generation records ≤ places_most i.generation (records + 1)
  more = omega arith

  still : (n : ℕ) → nat_le n (places_most i.generation records) ≡ true
      → nat_le n (places_most i.generation (records + 1)) ≡ true
  still n h =
      let small : n ≤ places_most i.generation records = grind (arith, nat_tests, h) in
      let large : n ≤ places_most i.generation (records + 1) = omega (arith, small, more) in
      grind (arith, nat_tests, large)

  words_still : (a e : Bool)
      → (((a && nat_le i.scale (places_most i.generation records)) && nat_le i.epoch (places_most i.generation records))
      && e) ≡ true
      → (((a && nat_le i.scale (places_most i.generation (records + 1))) && nat_le i.epoch (places_most i.generation
      (records + 1))) && e) ≡ true
  words_still a e h =
      let three = both_first ((a && nat_le i.scale (places_most i.generation records)) && nat_le i.epoch
      (places_most i.generation records)) e h in
      let two = both_first (a && nat_le i.scale (places_most i.generation records))
      (nat_le i.epoch (places_most i.generation records)) three in
      let scale = still i.scale (both_second a (nat_le i.scale (places_most i.generation records)) two) in
      let epoch = still i.epoch (both_second (a && nat_le i.scale (places_most i.generation records))
      (nat_le i.epoch (places_most i.generation records)) three) in
      and_from _ e (and_from _ _ (and_from a _ (both_first a _ two) scale) epoch) (both_second _ e h)

  counted_rules : Meets noted (records + 1)
  unfolding noted
  counted_rules =
      record {
        ranges = middle _ _ _ _ _ before.ranges counted;
        accounts = other_second _ _ _ before.accounts (put_in_range i.clients client row inside
            (both_second _ _ before.accounts));
        coll = before.coll;
        lusd = before.lusd;
        surplus = before.surplus;
        troves = before.troves;
        added = before.added;
        backed = before.backed;
        words = words_still _ _ before.words;
        deposits = before.deposits;
        clients =
            list_from is_sound_client (values_of (put i.clients client row))
            (values-put (λ (c : Client). is_sound_client c ≡ true) i.clients client row shown (list_of is_sound_client
            (values_of i.clients) before.clients));
      }

  pub noted_sound : IsSoundImage (record i { clients = put i.clients client row }) (records + 1)
  unfolding noted
  noted_sound =
      sound_of noted (records + 1) counted_rules
      (record {
        wallets = sound.tables.wallets;
        used_wallets = sound.tables.used_wallets;
        troves = sound.tables.troves;
        surplus = sound.tables.surplus;
        some_surplus = sound.tables.some_surplus;
        finished = sound.tables.finished;
        some_finished = sound.tables.some_finished;
        deposits = sound.tables.deposits;
        some_deposits = sound.tables.some_deposits;
        clients = put-ascends i.clients client row sound.tables.clients;
        client_rows = values-put IsClientRow i.clients client row kept sound.tables.client_rows;
      })
