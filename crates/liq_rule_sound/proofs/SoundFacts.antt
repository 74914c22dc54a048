-- What stands of a sound state, topic by topic, and that each change of a state keeps it, also in the middle of a verb.
-- What is conserved holds after a whole verb only, and is told beside it.
use Rattle.std.proofs.Common.{◌≡◌, ℕ, ◌+◌, ◌-◌, ◌*◌, ◌^◌, ◌≤◌, ◌<◌, Bool, true, false, cond, inl, inr, List, [], ◌∷◌, ◌++◌, refl, ap, sym, ◌∙◌, subst, arith, Some, None, Option}
use Rattle.std.specs.Prelude.{◌==◌, unwrap_or, option_map, sum}
use Rattle.std.specs.BTreeMap.{is_at}
use Rattle.std.specs.Cmp.{nat_cmp_total}
use Rattle.std.specs.List.{AllByRecursion}
use Rattle.std.specs.List.Sorted.{IsStrictlySortedBy}
use Rattle.std.specs.Map.{keys_of, values_of}
use Rattle.std.specs.Ordering.{nat_cmp, is_eq, match_ordering}
use Rattle.std.specs.declared.cmp.Ordering.{Ordering}
use Rattle.std.specs.declared.cmp.Ordering.TheVariants.{Less, Equal, Greater}
use Rattle.std.proofs.lemmas.Bool.Decides.{nat_tests}
use Rattle.std.proofs.lemmas.Map.Entries.{sum_by-remove_entry, sum_by-insert_entry}
use Rattle.std.proofs.lemmas.Map.Made.{keys_of-map_values}
use Rattle.liq_types.specs.declared.amounts.TheConstants.{ACCOUNTS, OFFSET_MOST, RISES_MOST, SUM_MOST, RESERVE, MIN_NET, ONE, PRICE_LEAST, PRICE_MOST, MINUTE_MOST, GENERATIONS_MOST, LIM}
use Rattle.liq_types.specs.declared.figures.Wallet.{Wallet}
use Rattle.liq_types.specs.declared.figures.Client.{Client}
use Rattle.liq_types.specs.Image.{IsLimit}
use Rattle.liq_types.specs.Payments.{credited, charged, surplus_added, surplus_taken}
use Rattle.liq_types.specs.Product.{ScaledProduct}
use Rattle.liq_types.specs.Soundness.{IsClientRow, is_sound_client, coll_homes, lusd_homes}
use Rattle.liq_types.specs.State.{State, TroveEntry, DepositEntry, Redistribution, is_used_wallet, wallet_of, surplus_in, with_wallet, with_surplus}
use Rattle.liq_types.specs.Tables.{Table, at, put, without}
use Rattle.liq_types.specs.Totals.{pool_total, stakes_of, trove_count}
use Rattle.liq_types.specs.WellFormed.{Ascends, IsWellFormed, TablesAscend}
use Rattle.liq_types.proofs.Ascending.{wallet-ascends, surplus-ascends}
use Rattle.liq_types.proofs.MapRows.{all-put, all-without, map-length, at-map}
use Rattle.liq_troves.specs.Own.{lifted_entry, lifted, placed, redistributed, snapped}
use Rattle.liq_troves.specs.Rows.{sum_after}
use Rattle.liq_troves.specs.Standing.{TrovesStand, HadStakes, books_of}
use Rattle.liq_troves.specs.StakeSums.{sums_now, trove_row, trove_rows}
use Rattle.liq_troves.proofs.BooksOf.{lift_books, place_books, spread_books}
use Rattle.liq_troves.proofs.Standing.{lift_stands, place_stands, spread_stands, snap_stands}
use Rattle.liq_stability.specs.Own.{owned, offset, amount_after}
use Rattle.liq_stability.specs.Position.{balance_of, deposit_row, words_of}
use Rattle.liq_rule_step.specs.Image.{image}
use Rattle.liq_rule_sound.specs.SoundState.{AreSetSince}
use Rattle.liq_rule_step.specs.Identities.{IsConserved}
use Rattle.liq_rule_step.proofs.AlikeChanges.{formed-lifted, formed-placed, formed-redistributed, formed-owned, formed-offset}
use Rattle.liq_rule_sound.proofs.SoundPool.{PoolStands, part_of, owned_stands, offset_stands}
use Rattle.liq_types.proofs.Lookups.{same_key}

-- ---- keys

abbrev pub KeysBelow : {X : Type 0} → Table X → Type 0
KeysBelow table = AllByRecursion (λ key. key < ACCOUNTS) (keys_of table)

module _ {X : Type 0} where
  pub keys_put : (table : Table X) (key : ℕ) (x : X) → key < ACCOUNTS → KeysBelow table → KeysBelow (put table key x)
  keys_put [] key x k h = (k, tt)
  keys_put (e ∷ es) key x k h = by (nat_cmp key e.0) (keys_put es key x k h.1) where
    by : (o : Ordering) → KeysBelow (put es key x)
        → KeysBelow (match_ordering o ((key, x) ∷ e ∷ es) ((e.0, x) ∷ es) (e ∷ put es key x))
    by Less more = (k, h)
    by Equal more = h
    by Greater more = (h.0, more)

  pub keys_without : (table : Table X) (key : ℕ) → KeysBelow table → KeysBelow (without table key)
  keys_without [] key h = tt
  keys_without (e ∷ es) key h = by (is_eq (nat_cmp key e.0)) (keys_without es key h.1) where
    by : (b : Bool) → KeysBelow (without es key) → KeysBelow (cond b es (e ∷ without es key))
    by true more = h.1
    by false more = (h.0, more)

-- ---- rows

pub record WalletRows (table : Table Wallet) : Type 0 where
  pub ascend : Ascends table
  pub keys : KeysBelow table
  pub used : AllByRecursion (λ (row : ℕ × Wallet). is_used_wallet row.1 ≡ true) table

pub record SurplusRows (table : Table ℕ) : Type 0 where
  pub ascend : Ascends table
  pub keys : KeysBelow table
  pub some : AllByRecursion (λ (row : ℕ × ℕ). 1 ≤ row.1) table

pub record ClientStands (c : Client) : Type 0 where
  pub row : IsClientRow c
  pub kept : is_sound_client c ≡ true

pub record ClientRows (table : Table Client) : Type 0 where
  pub ascend : Ascends table
  pub keys : KeysBelow table
  pub stand : AllByRecursion (λ (row : ℕ × Client). ClientStands row.1) table

pub wallet_rows : (table : Table Wallet) (account : ℕ) (w : Wallet) → account < ACCOUNTS → WalletRows table
    → WalletRows (with_wallet table account w)
wallet_rows table account w k h =
    record {
      ascend = wallet-ascends table account w h.ascend;
      keys = keys (is_used_wallet w);
      used = used (is_used_wallet w) refl;
    }
  where
    keys : (b : Bool) → KeysBelow (cond b (put table account w) (without table account))
    keys true = keys_put table account w k h.keys
    keys false = keys_without table account h.keys

    used : (b : Bool) → is_used_wallet w ≡ b → AllByRecursion (λ (row : ℕ × Wallet). is_used_wallet row.1
        ≡ true) (cond b (put table account w) (without table account))
    used true e = all-put (λ (x : Wallet). is_used_wallet x ≡ true) table account w e h.used
    used false e = all-without (λ (x : Wallet). is_used_wallet x ≡ true) table account h.used

pub surplus_rows : (table : Table ℕ) (account coll : ℕ) → account < ACCOUNTS → SurplusRows table
    → SurplusRows (with_surplus table account coll)
surplus_rows table account coll k h =
    record {
      ascend = surplus-ascends table account coll h.ascend;
      keys = keys (coll == 0);
      some = some (coll == 0) refl;
    }
  where
    keys : (b : Bool) → KeysBelow (cond b (without table account) (put table account coll))
    keys true = keys_without table account h.keys
    keys false = keys_put table account coll k h.keys

    not_none : (coll == 0) ≡ false → 1 ≤ coll
    not_none e = grind (arith, nat_tests, e)

    some : (b : Bool) → (coll == 0) ≡ b
        → AllByRecursion (λ (row : ℕ × ℕ). 1 ≤ row.1) (cond b (without table account) (put table account coll))
    some true e = all-without (λ n. 1 ≤ n) table account h.some
    some false e = all-put (λ n. 1 ≤ n) table account coll (not_none e) h.some

-- ---- what stands of a state

-- what stands of the rows beside the troves, told of their tables alone
pub record RowsStand (redistributions : List Redistribution) (held : Table Wallet) (owed : Table ℕ)
    (deposits : Table DepositEntry) (told : Table Client) : Type 0 where
  pub spread : HadStakes redistributions
  pub wallets : WalletRows held
  pub surplus : SurplusRows owed
  pub deposit_keys : KeysBelow deposits
  pub clients : ClientRows told

abbrev pub RowsOf : State → Type 0
RowsOf s = RowsStand s.redistributions s.wallets s.surplus_rows s.deposits s.clients

pub record Stands (most : ℕ) (s : State) : Type 0 where
  pub formed : IsWellFormed s
  pub troves : TrovesStand (books_of s)
  pub pool : PoolStands most (part_of (image s))
  pub trove_keys : KeysBelow s.troves
  pub rows : RowsOf s
  pub open rows use *

-- what is conserved, but for what the active pool is of the troves
pub record Homes (s : State) : Type 0 where
  pub coll : s.brought ≡ coll_homes (image s)
  pub lusd : s.active_debt + s.default_debt ≡ lusd_homes (image s)
  pub reserve : s.reserve ≡ RESERVE * trove_count s
  pub surplus : s.surplus ≡ sum (values_of s.surplus_rows)

-- the same, within the limit
pub record Balanced (most : ℕ) (s : State) : Type 0 where
  pub homes : Homes s
  pub coll_limit : s.brought ≤ most
  pub debt_limit : s.active_debt + s.default_debt ≤ most

-- told of the words alone, so that it stands of every state that has them
pub record AreInRange (price now paid_at rate generation most : ℕ) : Type 0 where
  pub price_least : PRICE_LEAST ≤ price
  pub price_most : price ≤ PRICE_MOST
  pub minute : now ≤ MINUTE_MOST
  pub fee_minute : paid_at ≤ now
  pub base : rate ≤ ONE
  pub first_generation : 1 ≤ generation
  pub last_generation : generation ≤ GENERATIONS_MOST
  pub limit : IsLimit most

abbrev pub InRange : State → Type 0
InRange s = AreInRange s.price s.minute s.fee_minute s.base s.generation s.limit

-- what is inside, by the state's own limit
pub record Limited (s : State) : Type 0 where
  pub coll : s.brought ≤ s.limit
  pub debt : s.active_debt + s.default_debt ≤ s.limit

-- what a call finds: all amounts are within the greater limit, and what is inside is within the state's own
pub record Finds (s : State) : Type 0 where
  pub stands : Stands LIM s
  pub balanced : Balanced LIM s
  pub limited : Limited s
  pub ranges : InRange s

pub limit_most : (limit : ℕ) → IsLimit limit → limit ≤ LIM
limit_most limit (inl lesser) = omega (arith, lesser)
limit_most limit (inr greater) = omega (arith, greater)

-- what is within a state's own limit is within the greater one
pub balanced_by : (s : State) → Homes s → Limited s → IsLimit s.limit → Balanced LIM s
balanced_by s homes own limit =
    let most = limit_most s.limit limit in
    record { homes = homes; coll_limit = omega (arith, own.coll, most); debt_limit = omega (arith, own.debt, most) }

-- ---- tables in order

pub trove_table : (s : State) → Ascends (trove_rows s) → Ascends s.troves
trove_table s h = subst (λ (keys : List ℕ). IsStrictlySortedBy nat_cmp keys)
    (keys_of-map_values (trove_row s) s.troves) h

pub in_order : {most : ℕ} (s : State) → Stands most s → TablesAscend s
in_order s h = (
  h.wallets.ascend,
  trove_table s h.troves.ascend,
  h.surplus.ascend,
  deposit_table h.pool.ascend,
  h.clients.ascend,
) where
  deposit_table : Ascends (part_of (image s)).deposits → Ascends s.deposits
  deposit_table k = subst (λ (keys : List ℕ). IsStrictlySortedBy nat_cmp keys)
      (keys_of-map_values (deposit_row s) s.deposits) k

-- ---- payments

-- other wallets, and another surplus of the owners
rows_stand : {most : ℕ} (s : State) (wallets : Table Wallet) (total : ℕ) (rows : Table ℕ) → WalletRows wallets
    → SurplusRows rows → Stands most s
    → Stands most (record s { wallets = wallets; surplus = total; surplus_rows = rows })
rows_stand s wallets total rows w r h =
    record {
      formed = h.formed;
      troves = h.troves;
      pool = h.pool;
      trove_keys = h.trove_keys;
      rows = record { spread = h.spread; wallets = w; surplus = r; deposit_keys = h.deposit_keys; clients = h.clients };
    }

module _ {most : ℕ} (s : State) (account : ℕ) (k : account < ACCOUNTS) (h : Stands most s) where
  wallet_stands : (w : Wallet) → Stands most (record s { wallets = with_wallet s.wallets account w })
  wallet_stands w = rows_stand s (with_wallet s.wallets account w) s.surplus s.surplus_rows
      (wallet_rows s.wallets account w k h.wallets) h.surplus h

  pub paid_stands : (coll lusd : ℕ) → Stands most (credited s account coll lusd)
  paid_stands coll lusd = wallet_stands (record {
    coll = (wallet_of s account).coll + coll;
    lusd = (wallet_of s account).lusd + lusd;
  })

  pub charged_stands : (coll lusd : ℕ) → Stands most (charged s account coll lusd)
  charged_stands coll lusd = wallet_stands (record {
    coll = (wallet_of s account).coll - coll;
    lusd = (wallet_of s account).lusd - lusd;
  })

  surplus_stands : (total coll : ℕ)
      → Stands most (record s { surplus = total; surplus_rows = with_surplus s.surplus_rows account coll })
  surplus_stands total coll = rows_stand s s.wallets total (with_surplus s.surplus_rows account coll) h.wallets
      (surplus_rows s.surplus_rows account coll k h.surplus) h

  pub added_stands : (coll : ℕ) → Stands most (surplus_added s account coll)
  added_stands coll = surplus_stands (s.surplus + coll) (surplus_in s.surplus_rows account + coll)

  pub taken_stands : Stands most (surplus_taken s account)
  taken_stands = surplus_stands (s.surplus - surplus_in s.surplus_rows account) 0

-- ---- troves

lifted_keys : (s : State) (account : ℕ) (o : Option TroveEntry) → KeysBelow s.troves
    → KeysBelow (lifted_entry s account o).troves
lifted_keys s account None h = h
lifted_keys s account (Some t) h = keys_without s.troves account h

-- a trove that leaves touches neither the pool nor other rows
lifted_keeps : {most : ℕ} (s : State) (account : ℕ) (o : Option TroveEntry) → PoolStands most (part_of (image s))
    × RowsOf s → PoolStands most (part_of (image (lifted_entry s account o))) × RowsOf (lifted_entry s account o)
lifted_keeps s account None h = h
lifted_keeps s account (Some t) h = h

pub lifted_stands : {most : ℕ} (s : State) (account : ℕ) → Stands most s → Stands most (lifted s account)
lifted_stands s account h =
    let kept = lifted_keeps s account (at s.troves account) (h.pool, h.rows) in
    record {
      formed = formed-lifted s account h.formed;
      troves = subst TrovesStand (sym (lift_books s account)) (lift_stands (books_of s) account h.troves);
      pool = kept.0;
      trove_keys = lifted_keys s account (at s.troves account) h.trove_keys;
      rows = kept.1;
    }

no_row : (s : State) (account : ℕ) → at s.troves account ≡ None → at (trove_rows s) account ≡ None
no_row s account none = at-map (trove_row s) s.troves account
    ∙ ap (λ (o : Option TroveEntry). option_map (trove_row s) o) none

pub placed_stands : {most : ℕ} (s : State) (account coll debt : ℕ) → account < ACCOUNTS → at s.troves account ≡ None
    → 1 ≤ coll → RESERVE + MIN_NET ≤ debt → Stands most s → Stands most (placed s account coll debt)
placed_stands s account coll debt k none some enough h =
    record {
      formed = formed-placed s account coll debt h.formed;
      troves = subst TrovesStand (sym (place_books s account coll debt)) (place_stands (books_of s) account coll debt
          (no_row s account none) some enough h.troves);
      pool = h.pool;
      trove_keys = keys_put s.troves account _ k h.trove_keys;
      rows = h.rows;
    }

all_after : (rs : List Redistribution) (r : Redistribution) → 1 ≤ r.stakes → HadStakes rs → HadStakes (rs ++ r ∷ [])
all_after [] r some h = (some, tt)
all_after (x ∷ rs) r some h = (h.0, all_after rs r some h.1)

pub redistributed_stands : {most : ℕ} (s : State) (coll debt : ℕ) → 1 ≤ stakes_of s
    → sum_after (sums_now s).coll coll (stakes_of s) ≤ SUM_MOST → sum_after (sums_now s).debt debt (stakes_of s)
    ≤ SUM_MOST → Stands most s → Stands most (redistributed s coll debt)
redistributed_stands s coll debt some coll_fits debt_fits h =
    record {
      formed = formed-redistributed s coll debt h.formed;
      troves = subst TrovesStand (sym (spread_books s coll debt h.formed.1))
          (spread_stands (books_of s) coll debt coll_fits debt_fits h.troves);
      pool = h.pool;
      trove_keys = h.trove_keys;
      rows = record {
        spread = all_after s.redistributions _ some h.spread;
        wallets = h.wallets;
        surplus = h.surplus;
        deposit_keys = h.deposit_keys;
        clients = h.clients;
      };
    }

pub snapped_stands : {most : ℕ} (s : State) → 1 ≤ stakes_of s → Stands most s → Stands most (snapped s)
snapped_stands s some h =
    record {
      formed = h.formed;
      troves = snap_stands (books_of s) some h.troves;
      pool = h.pool;
      trove_keys = h.trove_keys;
      rows = h.rows;
    }

-- ---- the Stability Pool

deposit_keys_kept : (b : Bool) (table : Table DepositEntry) (account : ℕ) (d : DepositEntry) → account < ACCOUNTS
    → KeysBelow table → KeysBelow (cond b (without table account) (put table account d))
deposit_keys_kept true table account d k h = keys_without table account h
deposit_keys_kept false table account d k h = keys_put table account d k h

pub owned_keeps : {most : ℕ} (s : State) (account put_in out : ℕ) → account < ACCOUNTS → out ≤ balance_of s account
    → amount_after s account put_in out ≤ most → Stands most s → Stands most (owned s account put_in out)
owned_keeps {most} s account put_in out k within fits h =
    record {
      formed = formed-owned s account put_in out within h.formed;
      troves = h.troves;
      pool = owned_stands most s account put_in out fits h.pool;
      trove_keys = h.trove_keys;
      rows = record {
        spread = h.spread;
        wallets = h.wallets;
        surplus = h.surplus;
        deposit_keys = deposit_keys_kept _ s.deposits account _ k h.deposit_keys;
        clients = h.clients;
      };
    }

pub offset_keeps : {most : ℕ} → most ≤ 10 ^ (9 * RISES_MOST) → (s : State) (debt coll : ℕ) → 1 ≤ debt
    → debt ≤ pool_total s → pool_total s ≤ most → coll ≤ OFFSET_MOST * debt → Stands most s
    → Stands most (offset s debt coll)
offset_keeps {most} served s debt coll some within limit less h =
    record {
      formed = formed-offset s debt coll within h.formed;
      troves = h.troves;
      pool = offset_stands most served s debt coll h.formed some within limit h.pool less;
      trove_keys = h.trove_keys;
      rows = h.rows;
    }

-- ---- what is conserved

pub conserved_by : {most : ℕ} (s : State) → Stands most s → Homes s → IsConserved s
conserved_by s h k =
    let count = map-length (trove_row s) s.troves in
    record {
      coll = k.coll;
      lusd = k.lusd;
      reserve = omega (arith, k.reserve, count);
      active_coll = h.troves.active_coll;
      active_debt = h.troves.active_debt;
      surplus = k.surplus;
    }

-- ---- words that neither troves nor the pool read

pub reserve_stands : {most : ℕ} (s : State) (reserve : ℕ) → Stands most s → Stands most (record s { reserve = reserve })
reserve_stands s reserve h =
    record { formed = h.formed; troves = h.troves; pool = h.pool; trove_keys = h.trove_keys; rows = h.rows }

pub fees_stand : {most : ℕ} (s : State) (base fee_minute fee_coll fee_lusd : ℕ) → Stands most s
    → Stands most (record s { base = base; fee_minute = fee_minute; fee_coll = fee_coll; fee_lusd = fee_lusd })
fees_stand s base fee_minute fee_coll fee_lusd h =
    record { formed = h.formed; troves = h.troves; pool = h.pool; trove_keys = h.trove_keys; rows = h.rows }

pub words_stand : {most : ℕ} (s : State) (price minute brought : ℕ) → Stands most s
    → Stands most (record s { price = price; minute = minute; brought = brought })
words_stand s price minute brought h =
    record { formed = h.formed; troves = h.troves; pool = h.pool; trove_keys = h.trove_keys; rows = h.rows }

-- ---- what a verb leaves

-- all but what stands of tables; the pool's place moves by so many steps at most
pub record Rest (few : ℕ) (s t : State) : Type 0 where
  pub homes : Homes t
  pub limited : Limited t
  pub ranges : InRange t
  pub scale : (words_of t).scale ≤ (words_of s).scale + few
  pub epoch : (words_of t).epoch ≤ (words_of s).epoch + few
  pub generation : t.generation ≡ s.generation
  pub records : t.records ≡ s.records
  pub clients : t.clients ≡ s.clients
  -- it keeps a snapshot within the limit, and troves that were set since the start
  pub snap : s.snap_coll ≤ LIM → t.snap_coll ≤ LIM
  pub marks : AreSetSince s.troves → AreSetSince t.troves

-- a verb that keeps the pool's place, the counts and the snapshot
pub rest_in_place : (s t : State) → Homes t → t.brought ≤ t.limit → t.active_debt + t.default_debt ≤ t.limit → InRange t
    → words_of t ≡ words_of s → t.generation ≡ s.generation → t.records ≡ s.records → t.clients ≡ s.clients
    → t.snap_coll ≡ s.snap_coll → (AreSetSince s.troves → AreSetSince t.troves) → Rest 0 s t
rest_in_place s t homes coll debt ranges words generation records clients snap marks =
    let scale = ap (λ (v : ScaledProduct). v.scale) words in
    let epoch = ap (λ (v : ScaledProduct). v.epoch) words in
    record {
      homes = homes;
      limited = record { coll = coll; debt = debt };
      ranges = ranges;
      scale = omega (arith, scale);
      epoch = omega (arith, epoch);
      generation = generation;
      records = records;
      clients = clients;
      snap = λ n. omega (arith, snap, n);
      marks = marks;
    }

pub record Leaves (few : ℕ) (s t : State) : Type 0 where
  pub stands : Stands LIM t
  pub rest : Rest few s t

-- the homes, of what is conserved
pub homes_of : (s : State) → IsConserved s → Homes s
homes_of s h =
    let count = map-length (trove_row s) s.troves in
    record { coll = h.coll; lusd = h.lusd; reserve = omega (arith, h.reserve, count); surplus = h.surplus }

-- ---- rules that refuse nothing

pub key_below : {X : Type 0} (table : Table X) (key : ℕ) (x : X) → at table key ≡ Some x → KeysBelow table
    → key < ACCOUNTS
key_below [] key x h k = cc
key_below (e ∷ es) key x h k = by (is_eq (nat_cmp key e.0)) refl h (key_below es key x) where
  by : (b : Bool) → is_eq (nat_cmp key e.0) ≡ b → cond b (Some e.1) (at es key) ≡ Some x → (at es key ≡ Some x
      → KeysBelow es → key < ACCOUNTS) → key < ACCOUNTS
  by true is g more = let same = same_key key e.0 is in omega (arith, same, k.0)
  by false is g more = more g k.1

-- collateral that is added to an owner's surplus
pub surplus_sum : (table : Table ℕ) (account coll : ℕ) → Ascends table
    → sum (values_of (with_surplus table account (surplus_in table account + coll))) ≡ sum (values_of table) + coll
surplus_sum table account coll a =
    by (surplus_in table account + coll == 0) refl where
      read : (o : Option ℕ) → unwrap_or (option_map (λ (n : ℕ). n) o) 0 ≡ unwrap_or o 0
      read None = refl
      read (Some n) = refl

      by : (b : Bool) → (surplus_in table account + coll == 0) ≡ b
          → sum (values_of (cond b (without table account) (put table account (surplus_in table account + coll))))
          ≡ sum (values_of table) + coll
      by true e =
          let left = sum_by-remove_entry (λ (n : ℕ). n) (is_at (nat_cmp account)) table in
          let had = read (at table account) in
          let none : surplus_in table account + coll ≡ 0 = grind (arith, nat_tests, e) in
          omega (arith, left, had, none)
      by false e =
          let more = sum_by-insert_entry (λ (n : ℕ). n) nat_cmp_total table account (surplus_in table account + coll) a
          in
          let had = read (at table account) in
          omega (arith, more, had)

-- ---- one change after another

pub finds_after : {few : ℕ} (s t : State) → Leaves few s t → Finds t
finds_after s t h =
    record {
      stands = h.stands;
      balanced = balanced_by t h.rest.homes h.rest.limited h.rest.ranges.limit;
      limited = h.rest.limited;
      ranges = h.rest.ranges;
    }

pub leaves_itself : (s : State) → Finds s → Leaves 0 s s
leaves_itself s f =
    record {
      stands = f.stands;
      rest = rest_in_place s s f.balanced.homes f.limited.coll f.limited.debt f.ranges refl refl refl refl refl
          (λ k. k);
    }

pub leaves_then : (few more many : ℕ) (r s t : State) → few + more ≤ many → Leaves few r s → Leaves more s t
    → Leaves many r t
leaves_then few more many r s t k g h =
    let a = g.rest in
    let b = h.rest in
    record {
      stands = h.stands;
      rest = record {
        homes = b.homes;
        limited = b.limited;
        ranges = b.ranges;
        scale = omega (arith, a.scale, b.scale, k);
        epoch = omega (arith, a.epoch, b.epoch, k);
        generation = b.generation ∙ a.generation;
        records = b.records ∙ a.records;
        clients = b.clients ∙ a.clients;
        snap = λ n. b.snap (a.snap n);
        marks = λ n. b.marks (a.marks n);
      };
    }

pub leaves_more : (few many : ℕ) (s t : State) → few ≤ many → Leaves few s t → Leaves many s t
leaves_more few many s t k h = leaves_then few 0 many s t t (omega (arith, k)) h (leaves_itself t (finds_after s t h))
