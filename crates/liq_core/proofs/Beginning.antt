-- What a sound image gives the parts of a protocol that begins with it.
use Rattle.std.proofs.Common.{◌≡◌, ℕ, ◌≤◌, Bool, true, false, List, [], ◌∷◌, refl, ap, sym, ◌∙◌, arith, nat_le, nat_lt}
use Rattle.std.specs.Prelude.{◌==◌, ◌&&◌, ◌||◌, not, sum_by}
use Rattle.std.specs.List.{AllByRecursion, list_all}
use Rattle.std.specs.List.Sorted.{IsStrictlySortedBy}
use Rattle.std.specs.Map.{keys_of, values_of}
use Rattle.std.specs.Ordering.{nat_cmp, is_eq}
use Rattle.std.specs.declared.cmp.Ordering.TheVariants.{Less}
use Rattle.std.proofs.lemmas.Bool.{and_parts, leb-true, eqb-true, eqb-false}
use Rattle.std.proofs.lemmas.Bool.Decides.{nat_tests}
use Rattle.liq_types.specs.declared.amounts.TheConstants.{LIM, SUM_MOST}
use Rattle.liq_types.specs.declared.figures.Deposit.{Deposit}
use Rattle.liq_types.specs.declared.figures.Trove.{Trove}
use Rattle.liq_types.specs.declared.figures.Wallet.{Wallet}
use Rattle.liq_types.specs.declared.image.Image.{Image}
use Rattle.liq_types.specs.Product.{start_sum}
use Rattle.liq_types.specs.Soundness.{HasTables, IsClientRow, IsSoundImage, is_product, is_sound_deposit, is_sound_trove, is_sum_beside, places_most}
use Rattle.liq_types.specs.State.{started, is_used_client, is_used_wallet}
use Rattle.liq_types.specs.Tables.{Table, rows}
use Rattle.liq_types.specs.WellFormed.{Ascends}
use Rattle.liq_types.proofs.Places.{nat_cmp-eq}
use Rattle.liq_tables.specs.Rows.{is_used_amount, is_used_deposit}
use Rattle.liq_tables.proofs.Filling.{rows_all}
use Rattle.liq_troves.specs.Kept.{AreSoundRows}
use Rattle.liq_order.specs.Listed.{AreDistinct, IsAbsent}
use Rattle.liq_order.specs.Order.{ranks}
use Rattle.liq_stability.specs.Kept.{IsSoundPool, IsSoundDeposit, is_sound_sum}
use Rattle.liq_rule_step.proofs.AlikeReads.{sums_by}
use Rattle.liq_rule_step.proofs.SoundRules.{Meets, meets, sound_at_home}
use Rattle.liq_rule_step.specs.Identities.{IsAtHome}
use Rattle.liq_rule_sound.proofs.SoundStart.{started_with}
use Rattle.liq_rule_sound.proofs.SoundTests.{SoundFacts, sound_facts}
use Rattle.liq_core.specs.Parts.{HasKey, words_by}

-- ---- rows

module _ {K X : Type 0} where
  rows_true : (test : X → Bool) (table : List (K × X)) → list_all test (values_of table) ≡ true
      → AllByRecursion (λ (row : K × X). test row.1 ≡ true) table
  rows_true test [] h = tt
  rows_true test (e ∷ es) h = let parts = and_parts (test e.1) (list_all test (values_of es)) h
      in (parts.0, rows_true test es parts.1)

  list_true : (test : K × X → Bool) (table : List (K × X)) → list_all test table ≡ true
      → AllByRecursion (λ (row : K × X). test row ≡ true) table
  list_true test [] h = tt
  list_true test (e ∷ es) h = let parts = and_parts (test e) (list_all test es) h
      in (parts.0, list_true test es parts.1)

  -- from what a fact of each value tells to what its row is
  rows_used : (P : X → Type 0) (test : X → Bool) → ((x : X) → P x → test x ≡ true) → (table : List (K × X))
      → AllByRecursion P (values_of table) → AllByRecursion (λ (row : K × X). test row.1 ≡ true) table
  rows_used P test made [] h = tt
  rows_used P test made (e ∷ es) h = (made e.1 h.0, rows_used P test made es h.1)

is_some : (n : ℕ) → 1 ≤ n → not (n == 0) ≡ true
is_some n h = grind (arith, nat_tests, h)

-- no client's row is empty
pub clients_used : (i : Image) → HasTables i → rows is_used_client i.clients ≡ i.clients
clients_used i h = rows_all is_used_client i.clients (rows_used IsClientRow is_used_client
    (λ c k. is_some c.last k.last) i.clients h.client_rows)

-- ---- each account once

others_absent : (account : ℕ) (table : Table Trove) → AllByRecursion (λ key. nat_cmp account key ≡ Less) (keys_of table)
    → IsAbsent account (ranks table)
others_absent account [] h = tt
others_absent account (row ∷ others) h = (λ same. other same h.0, others_absent account others h.1) where
  other : row.0 ≡ account → nat_cmp account row.0 ≡ Less → ⊥
  other same less = eqb-false account row.0 (sym (nat_cmp-eq account row.0) ∙ ap is_eq less) (sym same)

pub ranks_once : (table : Table Trove) → Ascends table → AreDistinct (ranks table)
unfolding IsStrictlySortedBy
ranks_once [] h = tt
ranks_once (row ∷ others) h = (others_absent row.0 others h.0, ranks_once others h.1)

-- ---- of a sound image

has_key : (coll debt : ℕ) (t : Trove) → debt ≤ SUM_MOST → is_sound_trove coll debt t ≡ true → HasKey t
has_key coll debt t most h = let less : t.mark_debt ≤ debt = grind (arith, nat_tests, h)
    in record { stake = grind (arith, nat_tests, h); mark = omega (arith, less, most) }

both_none : (a b : ℕ) → (a == 0 && b == 0 || nat_lt 0 a && nat_lt 0 b) ≡ true → (a == 0) ≡ (b == 0)
both_none a b h = by (a == 0) (b == 0) refl refl where
  by : (x y : Bool) → (a == 0) ≡ x → (b == 0) ≡ y → x ≡ y
  by true true e k = refl
  by true false e k = grind (arith, nat_tests, e, k, h)
  by false true e k = grind (arith, nat_tests, e, k, h)
  by false false e k = refl

-- no table has an empty row
module _ (i : Image) (h : HasTables i) where
  pub wallets_again : rows is_used_wallet i.wallets ≡ i.wallets
  wallets_again = rows_all is_used_wallet i.wallets (rows_used (λ (w : Wallet). is_used_wallet w ≡ true) is_used_wallet
      (λ w k. k) i.wallets h.used_wallets)

  pub surplus_again : rows is_used_amount i.surplus_rows ≡ i.surplus_rows
  surplus_again = rows_all is_used_amount i.surplus_rows (rows_used (λ n. 1 ≤ n) is_used_amount is_some i.surplus_rows
      h.some_surplus)

  pub deposits_again : rows is_used_deposit i.deposits ≡ i.deposits
  deposits_again = rows_all is_used_deposit i.deposits (rows_used (λ (d : Deposit). 1 ≤ d.amount) is_used_deposit
      (λ d k. is_some d.amount k) i.deposits h.some_deposits)

-- of an image that is sound beside so many records
module _ (i : Image) (records : ℕ) (h : IsSoundImage i records) where
  all : Meets i records
  all = meets i records h

  home : IsAtHome i
  home = sound_at_home i records h

  facts : SoundFacts (record (started i) { records = records })
  facts = sound_facts (record (started i) { records = records }) (started_with i records h)

  pub rows_sound : AreSoundRows i.troves (sums_by i)
  rows_sound =
      let debt_sum = and_parts _ (nat_le i.sum_debt SUM_MOST) all.troves in
      let coll_sum = and_parts (list_all (is_sound_trove i.sum_coll i.sum_debt) (values_of i.troves))
      (nat_le i.sum_coll SUM_MOST) debt_sum.0 in
      let both = and_parts _ _ all.added in
      let snap = and_parts _ (nat_le i.snap_stakes i.snap_coll) both.0 in
      let debts = and_parts _ (i.active_debt == sum_by (λ (t : Trove). t.debt) (values_of i.troves)) snap.0 in
      let colls = and_parts (i.stakes == sum_by (λ (t : Trove). t.stake) (values_of i.troves)) (i.active_coll
      == sum_by (λ (t : Trove). t.coll) (values_of i.troves)) debts.0 in
      let limit = facts.balanced.coll_limit in
      let coll = home.coll in
      let active = home.active_coll in
      record {
        ascend = h.tables.troves;
        each = rows_true (is_sound_trove i.sum_coll i.sum_debt) i.troves coll_sum.0;
        sum_coll = leb-true _ _ coll_sum.1;
        sum_debt = leb-true _ _ debt_sum.1;
        stakes = eqb-true _ _ colls.0;
        snap = leb-true _ _ snap.1;
        snap_both = both_none i.snap_stakes i.snap_coll both.1;
        limit = omega (arith, limit, coll, active);
      }

  pub have_keys : AllByRecursion (λ (row : ℕ × Trove). HasKey row.1) i.troves
  have_keys = keyed i.troves rows_sound.each where
    keyed : (table : Table Trove) → AllByRecursion (λ (row : ℕ × Trove). is_sound_trove i.sum_coll i.sum_debt row.1
        ≡ true) table → AllByRecursion (λ (row : ℕ × Trove). HasKey row.1) table
    keyed [] k = tt
    keyed (e ∷ es) k = (has_key i.sum_coll i.sum_debt e.1 rows_sound.sum_debt k.0, keyed es k.1)

  deposit_sound : (d : Deposit)
      → (nat_le d.amount LIM && is_sound_deposit (i.epoch, i.scale) (start_sum i (d.epoch, d.scale)) d) ≡ true
      → IsSoundDeposit (i.epoch, i.scale) (start_sum i (d.epoch, d.scale)) d
  deposit_sound d k =
      let parts = and_parts (nat_le d.amount LIM) (is_sound_deposit (i.epoch, i.scale) (start_sum i (
        d.epoch,
        d.scale,
      )) d) k in
      record { amount = leb-true d.amount LIM parts.0; sound = parts.1 }

  each_deposit : (table : Table Deposit)
      → AllByRecursion (λ (row : ℕ × Deposit). (nat_le row.1.amount LIM && is_sound_deposit (i.epoch, i.scale)
      (start_sum i (row.1.epoch, row.1.scale)) row.1) ≡ true) table
      → AllByRecursion (λ (row : ℕ × Deposit). IsSoundDeposit (i.epoch, i.scale) (start_sum i (
        row.1.epoch,
        row.1.scale,
      )) row.1) table
  each_deposit [] k = tt
  each_deposit (e ∷ es) k = (deposit_sound e.1 k.0, each_deposit es k.1)

  pub pool_sound : IsSoundPool (words_by i) i.finished i.deposits
  pool_sound =
      let sums = and_parts _ (list_all (is_sound_sum (i.epoch, i.scale)) i.finished) all.words in
      let epoch = and_parts _ (nat_le i.epoch (places_most i.generation records)) sums.0 in
      let scale = and_parts _ (nat_le i.scale (places_most i.generation records)) epoch.0 in
      let sum = and_parts (is_product i.p) (is_sum_beside i.sum i.p) scale.0 in
      let coll_limit = facts.balanced.coll_limit in
      let debt_limit = facts.balanced.debt_limit in
      let coll = home.coll in
      let lusd = home.lusd in
      record {
        product = sum.0;
        sum = sum.1;
        sums = list_true (is_sound_sum (i.epoch, i.scale)) i.finished sums.1;
        places = h.tables.finished;
        each =
            each_deposit i.deposits
            (rows_true (λ (d : Deposit). nat_le d.amount LIM && is_sound_deposit (i.epoch, i.scale)
            (start_sum i (d.epoch, d.scale)) d) i.deposits all.deposits);
        accounts = h.tables.deposits;
        total = omega (arith, debt_limit, lusd);
        coll = omega (arith, coll_limit, coll);
      }
