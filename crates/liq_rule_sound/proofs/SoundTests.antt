-- The tests of an image's rules say just what stands of the state: in both directions.
use Rattle.std.proofs.Common.{◌≡◌, ℕ, ◌+◌, ◌-◌, ◌*◌, ◌≤◌, ◌<◌, Bool, true, false, inl, inr, List, [], ◌∷◌, refl, sym, subst, arith, nat_lt, nat_le, length}
use Rattle.std.specs.Prelude.{◌==◌, ◌&&◌, ◌||◌, not, sum, sum_by}
use Rattle.std.specs.List.{AllByRecursion, list_all}
use Rattle.std.specs.Map.{keys_of, values_of}
use Rattle.std.proofs.lemmas.Bool.Decides.{nat_tests}
use Rattle.liq_types.specs.declared.amounts.TheConstants.{LIM, LIM_OF_VERSION_1, ACCOUNTS, RECORDS_MOST, ONE, OFFSET_MOST, P_OPENING, P_LEAST, PRICE_LEAST, PRICE_MOST, MINUTE_MOST, GENERATIONS_MOST, RESERVE, MIN_NET, SUM_MOST}
use Rattle.liq_types.specs.declared.figures.Wallet.{Wallet}
use Rattle.liq_types.specs.declared.figures.Client.{Client}
use Rattle.liq_types.specs.declared.figures.Trove.{Trove}
use Rattle.liq_types.specs.declared.figures.Deposit.{Deposit}
use Rattle.liq_types.specs.declared.image.Image.{Image}
use Rattle.liq_types.specs.Image.{IsLimit}
use Rattle.liq_types.specs.Soundness.{has_ranges, is_limit, has_keys_in_range, is_sound_trove, has_sound_words, is_sound_deposit, is_sound_client, is_before, places_most, HasTables, IsSoundImage, IsClientRow}
use Rattle.liq_types.specs.State.{State, is_used_wallet}
use Rattle.liq_types.specs.Tables.{EpochScale, Table}
use Rattle.liq_types.specs.WellFormed.{stakes_in}
use Rattle.liq_types.proofs.MapRows.{map-length}
use Rattle.std.proofs.lemmas.Map.Made.{keys_of-map_values}
use Rattle.liq_troves.specs.Standing.{TroveStands, TrovesStand, books_of}
use Rattle.liq_troves.specs.StakeSums.{trove_row}
use Rattle.liq_stability.specs.Position.{words_of, deposit_row}
use Rattle.liq_rule_step.specs.Image.{image}
use Rattle.liq_rule_sound.specs.SoundState.{IsSoundState}
use Rattle.liq_rule_sound.proofs.SoundFacts.{KeysBelow, ClientStands, Stands, Balanced, Limited, balanced_by, InRange, Homes, in_order}
use Rattle.liq_rule_sound.proofs.SoundPool.{PoolStands, DepositStands, FinishedStands, part_of, sum_in}
use Rattle.std.proofs.lemmas.Bool.{and_parts, and_from, leb-true, le-leb, ltb-true, lt-ltb, eqb-true, eq-eqb}
use Rattle.liq_stability.proofs.Tests.{before_in, before_tested, up_to_in, up_to_tested}
use Rattle.liq_rule_step.proofs.SoundRules.{Meets, meets, sound_of}

-- ---- what a sound state has, as facts

pub record SoundFacts (s : State) : Type 0 where
  pub stands : Stands LIM s
  pub balanced : Balanced LIM s
  pub limited : Limited s
  pub ranges : InRange s
  pub records : s.records ≤ RECORDS_MOST
  pub scale : (words_of s).scale ≤ places_most s.generation s.records
  pub epoch : (words_of s).epoch ≤ places_most s.generation s.records

-- ---- tests

module _ {K X : Type 0} where
  -- from a test of each value to the rows, and back
  rows_pass : (test : X → Bool) (P : X → Type 0) → ((x : X) → test x ≡ true → P x) → (table : List (K × X))
      → list_all test (values_of table) ≡ true → AllByRecursion (λ (row : K × X). P row.1) table
  rows_pass test P read [] h = tt
  rows_pass test P read (e ∷ es) h =
      let parts = and_parts (test e.1) (list_all test (values_of es)) h in
      (read e.1 parts.0, rows_pass test P read es parts.1)

  pass_rows : (test : X → Bool) (P : X → Type 0) → ((x : X) → P x → test x ≡ true) → (table : List (K × X))
      → AllByRecursion (λ (row : K × X). P row.1) table → list_all test (values_of table) ≡ true
  pass_rows test P made [] h = refl
  pass_rows test P made (e ∷ es) h = and_from (test e.1) (list_all test (values_of es)) (made e.1 h.0)
      (pass_rows test P made es h.1)

  -- what holds of each value of a table holds of each row
  rows_have : (P : X → Type 0) (table : List (K × X)) → AllByRecursion P (values_of table)
      → AllByRecursion (λ (row : K × X). P row.1) table
  rows_have P [] h = tt
  rows_have P (e ∷ es) h = (h.0, rows_have P es h.1)

  have_rows : (P : X → Type 0) (table : List (K × X)) → AllByRecursion (λ (row : K × X). P row.1) table
      → AllByRecursion P (values_of table)
  have_rows P [] h = tt
  have_rows P (e ∷ es) h = (h.0, have_rows P es h.1)

  rows_to : (P Q : X → Type 0) → ((x : X) → P x → Q x) → (table : List (K × X))
      → AllByRecursion (λ (row : K × X). P row.1) table → AllByRecursion (λ (row : K × X). Q row.1) table
  rows_to P Q more [] h = tt
  rows_to P Q more (e ∷ es) h = (more e.1 h.0, rows_to P Q more es h.1)

list_pass : {X : Type 0} (test : X → Bool) (P : X → Type 0) → ((x : X) → test x ≡ true → P x) → (xs : List X)
    → list_all test xs ≡ true → AllByRecursion P xs
list_pass test P read [] h = tt
list_pass test P read (x ∷ xs) h =
    let parts = and_parts (test x) (list_all test xs) h in
    (read x parts.0, list_pass test P read xs parts.1)

pass_list : {X : Type 0} (test : X → Bool) (P : X → Type 0) → ((x : X) → P x → test x ≡ true) → (xs : List X)
    → AllByRecursion P xs → list_all test xs ≡ true
pass_list test P made [] h = refl
pass_list test P made (x ∷ xs) h = and_from (test x) (list_all test xs) (made x h.0) (pass_list test P made xs h.1)

keys_pass : {X : Type 0} (table : Table X) → has_keys_in_range table ≡ true → KeysBelow table
keys_pass table h = list_pass (λ key. nat_lt key ACCOUNTS) (λ key. key < ACCOUNTS) (λ key. ltb-true key ACCOUNTS)
    (keys_of table) h

pass_keys : {X : Type 0} (table : Table X) → KeysBelow table → has_keys_in_range table ≡ true
pass_keys table h = pass_list (λ key. nat_lt key ACCOUNTS) (λ key. key < ACCOUNTS) (λ key. lt-ltb key ACCOUNTS)
    (keys_of table) h

-- ---- from the tests to the facts

limit_true : (limit : ℕ) → is_limit limit ≡ true → IsLimit limit
limit_true limit h = by (limit == LIM_OF_VERSION_1) refl h where
  by : (b : Bool) → (limit == LIM_OF_VERSION_1) ≡ b → (b || limit == LIM) ≡ true → IsLimit limit
  by true lesser k = inl (eqb-true limit LIM_OF_VERSION_1 lesser)
  by false lesser k = inr (eqb-true limit LIM k)

true_limit : (limit : ℕ) → IsLimit limit → is_limit limit ≡ true
true_limit limit (inl lesser) = grind (arith, nat_tests, lesser)
true_limit limit (inr greater) = grind (arith, nat_tests, greater)

trove_true : (coll debt : ℕ) (t : Trove) → is_sound_trove coll debt t ≡ true → TroveStands coll debt t
trove_true coll debt t h =
    record {
      some = grind (arith, nat_tests, h);
      within = grind (arith, nat_tests, h);
      debt = grind (
        arith,
        nat_tests,
        h,
      );
      mark_coll = grind (arith, nat_tests, h);
      mark_debt = grind (arith, nat_tests, h);
    }

true_trove : (coll debt : ℕ) (t : Trove) → TroveStands coll debt t → is_sound_trove coll debt t ≡ true
true_trove coll debt t h =
    let a = le-leb 1 t.stake h.some in
    let b = le-leb t.stake t.coll h.within in
    let c = le-leb (RESERVE + MIN_NET) t.debt h.debt in
    let d = le-leb t.mark_coll coll h.mark_coll in
    let e = le-leb t.mark_debt debt h.mark_debt in
    and_from _ _ (and_from _ _ (and_from _ _ (and_from _ _ a b) c) d) e

deposit_true : (now : EpochScale) (sum : ℕ) (finished : List (EpochScale × ℕ)) (d : Deposit) → 1 ≤ d.amount
    → (nat_le d.amount LIM && is_sound_deposit now (sum_in now sum finished (d.epoch, d.scale)) d) ≡ true
    → DepositStands LIM now sum finished d
deposit_true now sum finished d some h =
    let amount = and_parts (nat_le d.amount LIM) _ h in
    let within = and_parts _ (nat_le d.sum (sum_in now sum finished (d.epoch, d.scale))) amount.1 in
    let place = and_parts _ (not (is_before now (d.epoch, d.scale))) within.0 in
    let product = and_parts (nat_le P_LEAST d.p) (nat_le d.p P_OPENING) place.0 in
    record {
      some = some;
      amount = leb-true d.amount LIM amount.0;
      least_p = leb-true P_LEAST d.p product.0;
      most_p = leb-true d.p P_OPENING product.1;
      place = up_to_in now (d.epoch, d.scale) place.1;
      within = leb-true d.sum (sum_in now sum finished (d.epoch, d.scale)) within.1;
    }

true_deposit : (now : EpochScale) (sum : ℕ) (finished : List (EpochScale × ℕ)) (d : Deposit)
    → DepositStands LIM now sum finished d
    → (nat_le d.amount LIM && is_sound_deposit now (sum_in now sum finished (d.epoch, d.scale)) d) ≡ true
true_deposit now sum finished d h =
    and_from (nat_le d.amount LIM) _ (le-leb d.amount LIM h.amount)
    (and_from _ (nat_le d.sum (sum_in now sum finished (d.epoch, d.scale)))
    (and_from _ (not (is_before now (d.epoch, d.scale))) (and_from (nat_le P_LEAST d.p) (nat_le d.p P_OPENING)
    (le-leb P_LEAST d.p h.least_p) (le-leb d.p P_OPENING h.most_p)) (up_to_tested now (d.epoch, d.scale) h.place))
    (le-leb d.sum (sum_in now sum finished (d.epoch, d.scale)) h.within))

deposits_true : (now : EpochScale) (sum : ℕ) (finished : List (EpochScale × ℕ)) (table : Table Deposit)
    → AllByRecursion (λ (d : Deposit). 1 ≤ d.amount) (values_of table)
    → list_all (λ (d : Deposit). nat_le d.amount LIM && is_sound_deposit now (sum_in now sum finished (
      d.epoch,
      d.scale,
    )) d) (values_of table) ≡ true
    → AllByRecursion (λ (row : ℕ × Deposit). DepositStands LIM now sum finished row.1) table
deposits_true now sum finished [] some h = tt
deposits_true now sum finished (e ∷ es) some h =
    let parts = and_parts (nat_le e.1.amount LIM && is_sound_deposit now (sum_in now sum finished (
      e.1.epoch,
      e.1.scale,
    )) e.1) _ h in
    (deposit_true now sum finished e.1 some.0 parts.0, deposits_true now sum finished es some.1 parts.1)

finished_true : (now : EpochScale) (table : List (EpochScale × ℕ)) → AllByRecursion (λ n. 1 ≤ n) (values_of table)
    → list_all (λ (row : EpochScale × ℕ). nat_le row.1 (OFFSET_MOST * P_OPENING) && is_before row.0 now) table ≡ true
    → AllByRecursion (FinishedStands now) table
finished_true now [] some h = tt
finished_true now (e ∷ es) some h =
    let parts = and_parts (nat_le e.1 (OFFSET_MOST * P_OPENING) && is_before e.0 now) _ h in
    let here = and_parts (nat_le e.1 (OFFSET_MOST * P_OPENING)) (is_before e.0 now) parts.0 in (
      record { some = some.0; most = leb-true e.1 (OFFSET_MOST * P_OPENING) here.0; before = before_in e.0 now here.1 },
      finished_true now es some.1 parts.1,
    )

true_finished : (now : EpochScale) (table : List (EpochScale × ℕ)) → AllByRecursion (FinishedStands now) table
    → list_all (λ (row : EpochScale × ℕ). nat_le row.1 (OFFSET_MOST * P_OPENING) && is_before row.0 now) table ≡ true
true_finished now [] h = refl
true_finished now (e ∷ es) h =
    and_from (nat_le e.1 (OFFSET_MOST * P_OPENING) && is_before e.0 now) _
    (and_from (nat_le e.1 (OFFSET_MOST * P_OPENING)) (is_before e.0 now) (le-leb e.1 (OFFSET_MOST * P_OPENING) h.0.most)
    (before_tested e.0 now h.0.before))
    (true_finished now es h.1)

finished_some : (now : EpochScale) (table : List (EpochScale × ℕ)) → AllByRecursion (FinishedStands now) table
    → AllByRecursion (λ n. 1 ≤ n) (values_of table)
finished_some now [] h = tt
finished_some now (e ∷ es) h = (h.0.some, finished_some now es h.1)

clients_true : (table : Table Client) → AllByRecursion IsClientRow (values_of table)
    → list_all is_sound_client (values_of table) ≡ true
    → AllByRecursion (λ (row : ℕ × Client). ClientStands row.1) table
clients_true [] h k = tt
clients_true (e ∷ es) h k =
    let parts = and_parts (is_sound_client e.1) (list_all is_sound_client (values_of es)) k in
    (record { row = h.0; kept = parts.0 }, clients_true es h.1 parts.1)

module _ (s : State) (f : IsSoundState s) where
  p : Meets (image s) s.records
  p = meets (image s) s.records f.sound

  range_facts : has_ranges (image s) s.records ≡ true → InRange s × (s.records ≤ RECORDS_MOST) × (s.brought ≤ s.limit)
  range_facts h = (
    record {
      price_least = grind (arith, nat_tests, h);
      price_most = grind (arith, nat_tests, h);
      minute = grind (arith, nat_tests, h);
      fee_minute = grind (arith, nat_tests, h);
      base = grind (arith, nat_tests, h);
      first_generation = grind (arith, nat_tests, h);
      last_generation = grind (arith, nat_tests, h);
      limit = limit_true s.limit (and_parts _ (is_limit s.limit) (and_parts _ (nat_le s.brought s.limit) h).0).1;
    },
    grind (arith, nat_tests, h),
    grind (arith, nat_tests, h),
  )

  troves_facts : TrovesStand (books_of s)
  troves_facts =
      let debt_sum = and_parts _ (nat_le (image s).sum_debt SUM_MOST) p.troves in
      let coll_sum = and_parts (list_all (is_sound_trove (image s).sum_coll (image s).sum_debt)
      (values_of (image s).troves)) (nat_le (image s).sum_coll SUM_MOST) debt_sum.0 in
      let both = and_parts _ _ p.added in
      let snap = and_parts _ (nat_le (image s).snap_stakes (image s).snap_coll) both.0 in
      let debts = and_parts _ ((image s).active_debt == sum_by (λ (t : Trove). t.debt) (values_of (image s).troves))
      snap.0 in
      let colls = and_parts ((image s).stakes == sum_by (λ (t : Trove). t.stake) (values_of (image s).troves))
      ((image s).active_coll == sum_by (λ (t : Trove). t.coll) (values_of (image s).troves)) debts.0 in
      let backed = and_parts _ _ p.backed in
      let words = both.1 in
      record {
        ascend = f.sound.tables.troves;
        each = rows_pass (is_sound_trove (image s).sum_coll (image s).sum_debt) (TroveStands (image s).sum_coll
            (image s).sum_debt) (trove_true (image s).sum_coll (image s).sum_debt) (image s).troves coll_sum.0;
        sum_coll = leb-true _ _ coll_sum.1;
        sum_debt = leb-true _ _ debt_sum.1;
        stakes = eqb-true _ _ colls.0;
        active_coll = eqb-true _ _ colls.1;
        active_debt = eqb-true _ _ debts.1;
        snap = leb-true _ _ snap.1;
        snap_none = λ none. grind (arith, nat_tests, words, none);
        due_coll = leb-true _ _ backed.0;
        due_debt = leb-true _ _ backed.1;
      }

  words_parts : has_sound_words (image s) s.records ≡ true → PoolStands LIM (part_of (image s))
      × ((words_of s).scale ≤ places_most s.generation s.records)
      × ((words_of s).epoch ≤ places_most s.generation s.records)
  words_parts h =
      let i = image s in
      let rows = and_parts _ (list_all (λ (row : EpochScale × ℕ). nat_le row.1
      (OFFSET_MOST * P_OPENING) && is_before row.0
      (i.epoch, i.scale)) i.finished) h in
      let epoch = and_parts _ (nat_le i.epoch (places_most i.generation s.records)) rows.0 in
      let scale = and_parts _ (nat_le i.scale (places_most i.generation s.records)) epoch.0 in
      let sum = and_parts _ (nat_le i.sum (OFFSET_MOST * (P_OPENING - i.p))) scale.0 in
      let product = and_parts (nat_le P_LEAST i.p) (nat_le i.p P_OPENING) sum.0 in
      let highest = leb-true i.p P_OPENING product.1 in
      let beside = leb-true i.sum (OFFSET_MOST * (P_OPENING - i.p)) sum.1 in (
        record {
          least = leb-true P_LEAST i.p product.0;
          highest = highest;
          sum = omega (arith, beside, highest);
          finished = finished_true (i.epoch, i.scale) i.finished f.sound.tables.some_finished rows.1;
          ordered = f.sound.tables.finished;
          ascend = f.sound.tables.deposits;
          deposits = deposits_true (i.epoch, i.scale) i.sum i.finished i.deposits f.sound.tables.some_deposits
              p.deposits;
        },
        leb-true i.scale (places_most i.generation s.records) scale.1,
        leb-true i.epoch (places_most i.generation s.records) epoch.1,
      )

  stands_facts : Stands LIM s
  stands_facts =
      let clients = and_parts _ (has_keys_in_range (image s).clients) p.accounts in
      let deposits = and_parts _ (has_keys_in_range (image s).deposits) clients.0 in
      let surplus = and_parts _ (has_keys_in_range (image s).surplus_rows) deposits.0 in
      let first = and_parts (has_keys_in_range (image s).wallets) (has_keys_in_range (image s).troves) surplus.0 in
      record {
        formed = f.formed;
        troves = troves_facts;
        pool = (words_parts p.words).0;
        trove_keys = subst (λ (keys : List ℕ). AllByRecursion (λ key. key < ACCOUNTS) keys) (keys_of-map_values
            (trove_row s) s.troves) (keys_pass (image s).troves first.1);
        rows = record {
          spread = f.spread;
          wallets = record {
            ascend = f.sound.tables.wallets;
            keys = keys_pass s.wallets first.0;
            used = rows_have (λ (w : Wallet). is_used_wallet w ≡ true) s.wallets f.sound.tables.used_wallets;
          };
          surplus = record {
            ascend = f.sound.tables.surplus;
            keys = keys_pass s.surplus_rows surplus.1;
            some = rows_have (λ n. 1 ≤ n) s.surplus_rows f.sound.tables.some_surplus;
          };
          deposit_keys = subst (λ (keys : List ℕ). AllByRecursion (λ key. key < ACCOUNTS) keys) (keys_of-map_values
              (deposit_row s) s.deposits) (keys_pass (image s).deposits deposits.1);
          clients = record {
            ascend = f.sound.tables.clients;
            keys = keys_pass s.clients clients.1;
            stand = clients_true s.clients f.sound.tables.client_rows p.clients;
          };
        };
      }

  homes_facts : Homes s × (s.active_debt + s.default_debt ≤ s.limit)
  homes_facts =
      let reserve = and_parts _ (s.reserve == RESERVE * length (image s).troves) p.lusd in
      let lusd = and_parts (nat_le (s.active_debt + s.default_debt) s.limit) _ reserve.0 in
      let most = leb-true (s.active_debt + s.default_debt) s.limit lusd.0 in
      let count = map-length (trove_row s) s.troves in
      let kept : s.reserve ≡ RESERVE * length (image s).troves = eqb-true _ _ reserve.1 in (
        record {
          coll = eqb-true _ _ p.coll;
          lusd = eqb-true _ _ lusd.1;
          reserve = omega (arith, kept, count);
          surplus = eqb-true _ _ p.surplus;
        },
        most,
      )

  pub sound_facts : SoundFacts s
  sound_facts =
      let ranges = range_facts p.ranges in
      let words = words_parts p.words in
      let limited : Limited s = record { coll = ranges.2; debt = homes_facts.1 } in
      record {
        stands = stands_facts;
        balanced = balanced_by s homes_facts.0 limited ranges.0.limit;
        limited = limited;
        ranges = ranges.0;
        records = ranges.1;
        scale = words.1;
        epoch = words.2;
      }

-- ---- and back

module _ (s : State) (f : SoundFacts s) where
  t : TrovesStand (books_of s)
  t = f.stands.troves

  passes : Meets (image s) s.records
  passes =
      let i = image s in
      let h = f.stands in
      let c = f.balanced.homes in
      let r = f.ranges in
      let count = map-length (trove_row s) s.troves in
      let places = places_most s.generation s.records in
      record {
        ranges =
            and_from _ _
            (and_from _ _
            (and_from _ _ (and_from _ _ (and_from _ _ (and_from _ _ (and_from _ _ (and_from _ _ (and_from _ _
            (le-leb PRICE_LEAST s.price r.price_least) (le-leb s.price PRICE_MOST r.price_most))
            (le-leb s.minute MINUTE_MOST r.minute)) (le-leb s.fee_minute s.minute r.fee_minute))
            (le-leb s.base ONE r.base))
            (le-leb 1 s.generation r.first_generation)) (le-leb s.generation GENERATIONS_MOST r.last_generation))
            (le-leb s.records RECORDS_MOST f.records)) (true_limit s.limit r.limit))
            (le-leb s.brought s.limit f.limited.coll);
        accounts =
            and_from _ _ (and_from _ _ (and_from _ _ (and_from _ _ (pass_keys s.wallets h.wallets.keys)
            (pass_keys i.troves (subst (λ (keys : List ℕ). AllByRecursion (λ key. key < ACCOUNTS) keys)
            (sym (keys_of-map_values (trove_row s) s.troves)) h.trove_keys)))
            (pass_keys s.surplus_rows h.surplus.keys))
            (pass_keys i.deposits (subst (λ (keys : List ℕ). AllByRecursion (λ key. key < ACCOUNTS) keys)
            (sym (keys_of-map_values (deposit_row s) s.deposits)) h.deposit_keys)))
            (pass_keys s.clients h.clients.keys);
        coll = eq-eqb _ _ c.coll;
        lusd = and_from _ _ (and_from _ _ (le-leb _ s.limit f.limited.debt) (eq-eqb _ _ c.lusd))
            (eq-eqb s.reserve (RESERVE * length i.troves) (omega (arith, c.reserve, count)));
        surplus = eq-eqb _ _ c.surplus;
        troves = and_from _ _ (and_from _ _ (pass_rows (is_sound_trove i.sum_coll i.sum_debt)
            (TroveStands i.sum_coll i.sum_debt) (true_trove i.sum_coll i.sum_debt) i.troves t.each)
            (le-leb i.sum_coll SUM_MOST t.sum_coll)) (le-leb i.sum_debt SUM_MOST t.sum_debt);
        added =
            and_from _ _ (and_from _ _ (and_from _ _ (and_from _ _ (eq-eqb _ _ t.stakes) (eq-eqb _ _ t.active_coll))
            (eq-eqb _ _ t.active_debt)) (le-leb i.snap_stakes i.snap_coll t.snap))
            (snap_words (i.snap_stakes == 0) refl);
        backed = and_from _ _ (le-leb _ _ t.due_coll) (le-leb _ _ t.due_debt);
        words =
            and_from _ _ (and_from _ _ (and_from _ _ (and_from _ _ (and_from _ _ (le-leb P_LEAST i.p h.pool.least)
            (le-leb i.p P_OPENING h.pool.highest))
            (le-leb i.sum (OFFSET_MOST * (P_OPENING - i.p)) (omega (arith, h.pool.sum, h.pool.highest))))
            (le-leb i.scale places f.scale)) (le-leb i.epoch places f.epoch))
            (true_finished (i.epoch, i.scale) i.finished h.pool.finished);
        deposits = pass_rows (λ (d : Deposit). nat_le d.amount LIM && is_sound_deposit (i.epoch, i.scale)
            (sum_in (i.epoch, i.scale) i.sum i.finished (d.epoch, d.scale)) d) (DepositStands LIM (
              i.epoch,
              i.scale,
            ) i.sum i.finished) (true_deposit (i.epoch, i.scale) i.sum i.finished) i.deposits h.pool.deposits;
        clients = pass_rows is_sound_client ClientStands (λ c k. k.kept) s.clients h.clients.stand;
      }
    where
      snap_words : (b : Bool) → (s.snap_stakes == 0) ≡ b
          → (s.snap_stakes == 0 && s.snap_coll == 0 || nat_lt 0 s.snap_stakes && nat_lt 0 s.snap_coll) ≡ true
      snap_words true e =
          let none : s.snap_stakes ≡ 0 = eqb-true s.snap_stakes 0 e in
          let other : s.snap_coll ≡ 0 = t.snap_none none in
          grind (arith, nat_tests, none, other)
      snap_words false e =
          let less = t.snap in
          grind (arith, nat_tests, e, less)

  tables : HasTables (image s)
  tables =
      let i = image s in
      let h = f.stands in
      record {
        wallets = h.wallets.ascend;
        used_wallets = have_rows (λ (w : Wallet). is_used_wallet w ≡ true) s.wallets h.wallets.used;
        troves = t.ascend;
        surplus = h.surplus.ascend;
        some_surplus = have_rows (λ n. 1 ≤ n) s.surplus_rows h.surplus.some;
        finished = h.pool.ordered;
        some_finished = finished_some (i.epoch, i.scale) i.finished h.pool.finished;
        deposits = h.pool.ascend;
        some_deposits = have_rows (λ (d : Deposit). 1 ≤ d.amount) i.deposits (rows_to (DepositStands LIM (
          i.epoch,
          i.scale,
        ) i.sum i.finished) (λ d. 1 ≤ d.amount) (λ d k. k.some) i.deposits h.pool.deposits);
        clients = h.clients.ascend;
        client_rows = have_rows IsClientRow s.clients (rows_to ClientStands IsClientRow (λ c k. k.row) s.clients
            h.clients.stand);
      }

  pub facts_sound : IsSoundState s
  facts_sound =
      record {
        formed = f.stands.formed;
        ordered = in_order s f.stands;
        sound = sound_of (image s) s.records passes tables;
        spread = f.stands.spread;
      }

-- ---- read off an image

pub finished_rows : (i : Image) (records : ℕ) → IsSoundImage i records
    → AllByRecursion (FinishedStands (i.epoch, i.scale)) i.finished
finished_rows i records h =
    let words = (meets i records h).words in
    let rows = and_parts _ (list_all (λ (row : EpochScale × ℕ). nat_le row.1
    (OFFSET_MOST * P_OPENING) && is_before row.0
    (i.epoch, i.scale)) i.finished) words in
    finished_true (i.epoch, i.scale) i.finished h.tables.some_finished rows.1

pub stakes_added : (i : Image) (records : ℕ) → IsSoundImage i records → i.stakes ≡ stakes_in i
stakes_added i records h =
    let both = and_parts _ _ (meets i records h).added in
    let snap = and_parts _ (nat_le i.snap_stakes i.snap_coll) both.0 in
    let debts = and_parts _ (i.active_debt == sum_by (λ (t : Trove). t.debt) (values_of i.troves)) snap.0 in
    let colls = and_parts (i.stakes == stakes_in i) (i.active_coll == sum_by (λ (t : Trove). t.coll)
    (values_of i.troves)) debts.0 in
    eqb-true i.stakes (stakes_in i) colls.0
