-- What is read of two states with the same image is the same.
use Rattle.std.proofs.Common.{◌≡◌, ℕ, ◌+◌, ◌-◌, refl, ap, sym, ◌∙◌, Some, None, Option, length}
use Rattle.std.specs.Prelude.{option_map, unwrap_or, is_some, is_none}
use Rattle.liq_types.specs.declared.image.Image.{Image}
use Rattle.liq_types.specs.State.{State, no_wallet, no_client, wallet_of, client_of, surplus_of}
use Rattle.liq_types.specs.Tables.{at}
use Rattle.liq_types.specs.Totals.{market_of, trove_count, pool_total}
use Rattle.liq_troves.specs.StakeSums.{sums_now, trove_row, entire_of}
use Rattle.liq_troves.specs.declared.sums.Sums.{Sums}
use Rattle.liq_troves.specs.Rows.{entire_in}
use Rattle.liq_order.specs.Order.{order_by, trove_order, last_account, last_trove}
use Rattle.liq_stability.specs.Position.{balance_of, gain_of, deposit_row}
use Rattle.liq_stability.specs.Own.{amount_after}
use Rattle.liq_rule_step.specs.Image.{image}
use Rattle.liq_types.specs.WellFormed.{IsWellFormed}
use Rattle.liq_types.proofs.MapRows.{at-map, map-length}
use Rattle.liq_rule_step.proofs.Alike.{balance_row, gain_row, balance-image, gain-image}

-- the same image and records, of states that the rules may reach
pub record Alike (s t : State) : Type 0 where
  pub image : image s ≡ image t
  pub records : s.records ≡ t.records
  pub left : IsWellFormed s
  pub right : IsWellFormed t

module _ {s t : State} (h : Alike s t) where
  pub wallet_alike : (account : ℕ) → wallet_of s account ≡ wallet_of t account
  wallet_alike account = ap (λ (i : Image). unwrap_or (at i.wallets account) no_wallet) h.image

  pub client_alike : (client : ℕ) → client_of s client ≡ client_of t client
  client_alike client = ap (λ (i : Image). unwrap_or (at i.clients client) no_client) h.image

  pub surplus_alike : (account : ℕ) → surplus_of s account ≡ surplus_of t account
  surplus_alike account = ap (λ (i : Image). unwrap_or (at i.surplus_rows account) 0) h.image

  pub count_alike : trove_count s ≡ trove_count t
  count_alike =
      sym (map-length (trove_row s) s.troves) ∙ ap (λ (i : Image). length i.troves) h.image
      ∙ map-length (trove_row t) t.troves

  pub market_alike : market_of s ≡ market_of t
  market_alike =
      ap (λ (i : Image). record {
        price = i.price;
        minute = i.minute;
        base = i.base;
        fee_minute = i.fee_minute;
        limit = i.limit;
        total_coll = i.active_coll + i.default_coll;
        total_debt = i.active_debt + i.default_debt;
        troves = trove_count s;
      }) h.image
      ∙ ap (λ n. record (market_of t) { troves = n }) count_alike

  pub sums_alike : sums_now s ≡ sums_now t
  sums_alike = ap (λ (i : Image). record { coll = i.sum_coll; debt = i.sum_debt }) h.image

  pub pool_total_alike : pool_total s ≡ pool_total t
  pool_total_alike = ap (λ (i : Image). i.total) h.image

-- ---- troves

-- what an image keeps beside its troves
abbrev pub sums_by : Image → Sums
sums_by i =
    record {
      coll = i.sum_coll;
      debt = i.sum_debt;
      stakes = i.stakes;
      snap_stakes = i.snap_stakes;
      snap_coll = i.snap_coll;
    }

pub entire_alike : {s t : State} → Alike s t → (account : ℕ) → entire_of s account ≡ entire_of t account
entire_alike h account = ap (λ (i : Image). entire_in (sums_by i) i.troves account) h.image

pub some-map : {X Y : Type 0} (f : X → Y) (o : Option X) → is_some (option_map f o) ≡ is_some o
some-map f None = refl
some-map f (Some x) = refl

pub none-map : {X Y : Type 0} (f : X → Y) (o : Option X) → is_none (option_map f o) ≡ is_none o
none-map f None = refl
none-map f (Some x) = refl

pub exists_alike : {s t : State} → Alike s t → (account : ℕ) → is_some (at s.troves account)
    ≡ is_some (at t.troves account)
exists_alike {s} {t} h account =
    sym (some-map (trove_row s) (at s.troves account)) ∙ ap is_some (sym (at-map (trove_row s) s.troves account))
    ∙ ap (λ (i : Image). is_some (at i.troves account)) h.image
    ∙ ap is_some (at-map (trove_row t) t.troves account) ∙ some-map (trove_row t) (at t.troves account)

-- ---- the order

pub order_alike : {s t : State} → Alike s t → trove_order s ≡ trove_order t
order_alike h = ap (λ (i : Image). order_by i.troves) h.image

pub last_alike : {s t : State} → Alike s t → last_trove s ≡ last_trove t
last_alike h = ap last_account (order_alike h)

-- ---- the Stability Pool

pub balance_alike : {s t : State} → Alike s t → (account : ℕ) → balance_of s account ≡ balance_of t account
balance_alike {s} {t} h account =
    balance-image s account ∙ ap (λ (i : Image). balance_row i (at i.deposits account)) h.image
    ∙ sym (balance-image t account)

pub gain_alike : {s t : State} → Alike s t → (account : ℕ) → gain_of s account ≡ gain_of t account
gain_alike {s} {t} h account =
    gain-image s h.left account ∙ ap (λ (i : Image). gain_row i (at i.deposits account)) h.image
    ∙ sym (gain-image t h.right account)

pub amount_alike : {s t : State} → Alike s t → (account put_in out : ℕ) → amount_after s account put_in out
    ≡ amount_after t account put_in out
amount_alike h account put_in out = ap (λ n. n + put_in - out) (balance_alike h account)

pub no_deposit_alike : {s t : State} → Alike s t → (account : ℕ) → is_none (at s.deposits account)
    ≡ is_none (at t.deposits account)
no_deposit_alike {s} {t} h account =
    sym (none-map (deposit_row s) (at s.deposits account))
    ∙ ap is_none (sym (at-map (deposit_row s) s.deposits account))
    ∙ ap (λ (i : Image). is_none (at i.deposits account)) h.image
    ∙ ap is_none (at-map (deposit_row t) t.deposits account) ∙ none-map (deposit_row t) (at t.deposits account)
