-- What payments do to the sum of the wallets.
use Rattle.std.proofs.Common.{◌≡◌, ℕ, ◌+◌, ◌-◌, ◌≤◌, Bool, true, false, cond, refl, ap, sym, ◌∙◌, arith, Some, None, Option}
use Rattle.std.specs.Prelude.{unwrap_or, option_map, sum_by, ◌≢◌}
use Rattle.std.specs.List.Sorted.{IsStrictlySortedBy}
use Rattle.std.specs.BTreeMap.{is_at}
use Rattle.std.specs.Map.{keys_of, values_of}
use Rattle.std.specs.Ordering.{nat_cmp}
use Rattle.std.proofs.lemmas.Bool.Decides.{nat_tests}
use Rattle.std.proofs.lemmas.Map.Entries.{sum_by-remove_entry}
use Rattle.liq_types.specs.declared.figures.Wallet.{Wallet}
use Rattle.liq_types.specs.Payments.{credited, charged}
use Rattle.liq_types.specs.State.{State, no_wallet, is_used_wallet, with_wallet, wallet_of}
use Rattle.liq_types.specs.Tables.{Table, at, put, without}
use Rattle.liq_rule_step.specs.Identities.{wallets_coll, wallets_lusd, WalletsAscend}
use Rattle.liq_types.proofs.UsedRows.{sum_by-put}
use Rattle.liq_rule_step.proofs.Rows.{at-put_same, at-put_other, at-without_same, at-without_other}
use Rattle.liq_types.proofs.Tests.{unused}

pub read_or : (f : Wallet → ℕ) → f no_wallet ≡ 0 → (o : Option Wallet) → unwrap_or (option_map f o) 0
    ≡ f (unwrap_or o no_wallet)
read_or f z None = sym z
read_or f z (Some w) = refl

-- a wallet is exchanged for another
pub exchanged : (f : Wallet → ℕ) → f no_wallet ≡ 0 → ((w : Wallet) → is_used_wallet w ≡ false → f w ≡ 0)
    → (table : Table Wallet) (account : ℕ) (w : Wallet) → IsStrictlySortedBy nat_cmp (keys_of table)
    → sum_by f (values_of (with_wallet table account w)) + f (unwrap_or (at table account) no_wallet)
    ≡ sum_by f (values_of table) + f w
exchanged f z unused table account w s = by (is_used_wallet w) refl where
  by : (b : Bool) → is_used_wallet w ≡ b → sum_by f (values_of (cond b (put table account w) (without table account)))
      + f (unwrap_or (at table account) no_wallet) ≡ sum_by f (values_of table) + f w
  by true e = sum_by-put f table account w no_wallet z s
  by false e =
      let left = sum_by-remove_entry f (is_at (nat_cmp account)) table in
      let had = read_or f z (at table account) in
      let none = unused w e in
      omega (arith, left, had, none)

pub unused_coll : (w : Wallet) → is_used_wallet w ≡ false → w.coll ≡ 0
unused_coll w h = grind (arith, nat_tests, h)

pub unused_lusd : (w : Wallet) → is_used_wallet w ≡ false → w.lusd ≡ 0
unused_lusd w h = grind (arith, nat_tests, h)

module _ (s : State) (account coll lusd : ℕ) (ascend : WalletsAscend s) where
  pub paid_coll : wallets_coll (credited s account coll lusd) ≡ wallets_coll s + coll
  paid_coll =
      let moved = exchanged (λ (w : Wallet). w.coll) refl unused_coll s.wallets account
      (record { coll = (wallet_of s account).coll + coll; lusd = (wallet_of s account).lusd + lusd }) ascend in
      omega (arith, moved)

  pub paid_lusd : wallets_lusd (credited s account coll lusd) ≡ wallets_lusd s + lusd
  paid_lusd =
      let moved = exchanged (λ (w : Wallet). w.lusd) refl unused_lusd s.wallets account
      (record { coll = (wallet_of s account).coll + coll; lusd = (wallet_of s account).lusd + lusd }) ascend in
      omega (arith, moved)

  pub charged_coll : coll ≤ (wallet_of s account).coll → wallets_coll (charged s account coll lusd) + coll
      ≡ wallets_coll s
  charged_coll enough =
      let moved = exchanged (λ (w : Wallet). w.coll) refl unused_coll s.wallets account
      (record { coll = (wallet_of s account).coll - coll; lusd = (wallet_of s account).lusd - lusd }) ascend in
      omega (arith, moved, enough)

  pub charged_lusd : lusd ≤ (wallet_of s account).lusd → wallets_lusd (charged s account coll lusd) + lusd
      ≡ wallets_lusd s
  charged_lusd enough =
      let moved = exchanged (λ (w : Wallet). w.lusd) refl unused_lusd s.wallets account
      (record { coll = (wallet_of s account).coll - coll; lusd = (wallet_of s account).lusd - lusd }) ascend in
      omega (arith, moved, enough)

-- ---- whose wallet it is

pub wallet_here : (table : Table Wallet) (account : ℕ) (w : Wallet) → IsStrictlySortedBy nat_cmp (keys_of table)
    → unwrap_or (at (with_wallet table account w) account) no_wallet ≡ w
wallet_here table account w s = by (is_used_wallet w) refl where
  by : (b : Bool) → is_used_wallet w ≡ b → unwrap_or (at (cond b (put table account w) (without table account)) account)
      no_wallet ≡ w
  by true e = ap (λ (o : Option Wallet). unwrap_or o no_wallet) (at-put_same table account w)
  by false e = ap (λ (o : Option Wallet). unwrap_or o no_wallet) (at-without_same table account s) ∙ sym (unused w e)

pub wallet_other : (table : Table Wallet) (account q : ℕ) (w : Wallet) → q ≢ account
    → unwrap_or (at (with_wallet table account w) q) no_wallet ≡ unwrap_or (at table q) no_wallet
wallet_other table account q w n = by (is_used_wallet w) where
  by : (b : Bool) → unwrap_or (at (cond b (put table account w) (without table account)) q) no_wallet
      ≡ unwrap_or (at table q) no_wallet
  by true = ap (λ (o : Option Wallet). unwrap_or o no_wallet) (at-put_other table account q w n)
  by false = ap (λ (o : Option Wallet). unwrap_or o no_wallet) (at-without_other table account q n)
