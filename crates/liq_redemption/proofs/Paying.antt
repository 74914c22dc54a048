-- What is left in the redeemer's wallet.
use Rattle.std.proofs.Common.{◌≡◌, ℕ, ◌-◌, ◌≤◌, Bool, true, false, cond, sym, ap, ◌∙◌, subst, Option, arith, nat_lt, [], ◌∷◌}
use Rattle.std.specs.Prelude.{unwrap_or}
use Rattle.std.proofs.lemmas.Bool.Decides.{nat_tests}
use Rattle.liq_types.specs.declared.figures.Wallet.{Wallet}
use Rattle.liq_types.specs.declared.replies.Refusal.{Refusal}
use Rattle.liq_types.specs.Payments.{charged_in}
use Rattle.liq_types.specs.State.{is_used_wallet, no_wallet, wallet_in}
use Rattle.liq_types.specs.Tables.{Table, put, without}
use Rattle.liq_types.specs.WellFormed.{Ascends}
use Rattle.liq_types.proofs.Lookups.{at-put_same, at-without_same}
use Rattle.liq_ledger.specs.Refusals.{charging, ruled}

-- no refusal comes where neither condition holds
none_comes : (first second : Bool) (x y : Refusal) → first ≡ false → second ≡ false
    → ruled ((first, x) ∷ (second, y) ∷ []) ≡ ruled []
none_comes first second x y f s =
    ap (λ b. ruled ((b, x) ∷ (second, y) ∷ [])) f ∙ ap (λ b. ruled ((b, y) ∷ [])) s

-- LUSD that is there can be charged
pub charges : (wallet : Wallet) (lusd : ℕ) → lusd ≤ wallet.lusd → ruled (charging wallet 0 lusd) ≡ ruled []
charges wallet lusd h = none_comes (nat_lt wallet.coll 0) (nat_lt wallet.lusd lusd) _ _ none enough where
  none : nat_lt wallet.coll 0 ≡ false
  none = grind (arith, nat_tests)

  enough : nat_lt wallet.lusd lusd ≡ false
  enough = grind (arith, nat_tests, h)

pub record IsLess (wallet had : Wallet) : Type 0 where
  pub coll : wallet.coll ≤ had.coll
  pub lusd : wallet.lusd ≤ had.lusd

-- a wallet that was charged has no more than before
pub charged_less : (wallets : Table Wallet) (account lusd : ℕ) → Ascends wallets
    → IsLess (wallet_in (charged_in wallets account 0 lusd) account) (wallet_in wallets account)
charged_less wallets account lusd h = by (is_used_wallet left) where
  had : Wallet
  had = wallet_in wallets account

  left : Wallet
  left = record { coll = had.coll - 0; lusd = had.lusd - lusd }

  less : IsLess left had
  less = record { coll = omega arith; lusd = omega arith }

  by : (b : Bool) → IsLess (wallet_in (cond b (put wallets account left) (without wallets account)) account) had
  by true = subst (λ (o : Option Wallet). IsLess (unwrap_or o no_wallet) had)
      (sym (at-put_same wallets account left)) less
  by false = subst (λ (o : Option Wallet). IsLess (unwrap_or o no_wallet) had) (sym (at-without_same wallets account h))
      (record { coll = omega arith; lusd = omega arith })
