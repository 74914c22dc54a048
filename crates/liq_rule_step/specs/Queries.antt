-- What each query answers.
use Rattle.std.specs.Prelude.{ℕ, ◌+◌, nat_le, min, Option, Some, None, List, [], ◌∷◌, if◌then◌else◌}
use Rattle.liq_types.specs.declared.amounts.TheConstants.{ACCOUNTS, NUMBER_MOST}
use Rattle.liq_types.specs.declared.replies.Info.{Info}
use Rattle.liq_types.specs.declared.replies.Info.TheVariants as info
use Rattle.liq_types.specs.declared.replies.Refusal.TheVariants.{AccountRange}
use Rattle.liq_types.specs.declared.replies.Reply.{Reply}
use Rattle.liq_types.specs.declared.replies.Reply.TheVariants.{Told, No}
use Rattle.liq_types.specs.declared.requests.Query.{Query}
use Rattle.liq_types.specs.declared.requests.Query.TheVariants as query
use Rattle.liq_types.specs.State.{State, TroveEntry, DepositEntry, wallet_of, client_of}
use Rattle.liq_types.specs.Tables.{at}
use Rattle.liq_types.specs.Totals.{market_of, is_recovery, total_coll, total_debt, trove_count, stakes_of, pool_total, pool_coll}
use Rattle.liq_troves.specs.StakeSums.{entire}
use Rattle.liq_stability.specs.Position.{balance_of, gain_of}

-- the number of a client's next new command, as it is printed
abbrev pub next_number : State → ℕ → ℕ
next_number s client = min ((client_of s client).last + 1) NUMBER_MOST

abbrev pub trove_info : State → Option TroveEntry → Info
trove_info s None = info.NoTrove
trove_info s (Some t) = info.Trove (entire s t).0 (entire s t).1 t.stake

abbrev pub deposit_info : State → ℕ → Option DepositEntry → Info
deposit_info s account None = info.NoDeposit
deposit_info s account (Some d) = info.Deposit (balance_of s account) (gain_of s account)

abbrev pub pools : State → List ℕ
pools s =
    s.active_coll
    ∷ s.active_debt
    ∷ s.default_coll
    ∷ s.default_debt
    ∷ s.reserve
    ∷ s.surplus
    ∷ s.fee_coll
    ∷ s.fee_lusd
    ∷ pool_total s
    ∷ pool_coll s
    ∷ []

-- 1 in Recovery Mode
abbrev pub mode : State → ℕ
mode s = if is_recovery (market_of s) then 1 else 0

abbrev pub system : State → List ℕ
system s =
    s.price
    ∷ s.minute
    ∷ s.base
    ∷ s.fee_minute
    ∷ mode s
    ∷ trove_count s
    ∷ stakes_of s
    ∷ total_coll s
    ∷ total_debt s
    ∷ s.records
    ∷ []

abbrev pub unless_out_of_range : ℕ → Reply → Reply
unless_out_of_range account reply = if nat_le ACCOUNTS account then No (AccountRange account)
    else reply

abbrev pub answer : State → Query → Reply
answer s (query.Wallet account) =
    let w = wallet_of s account in
    unless_out_of_range account (Told (info.Wallet w.coll w.lusd))
answer s (query.Trove account) =
    unless_out_of_range account (Told (trove_info s (at s.troves account)))
answer s (query.Deposit account) =
    unless_out_of_range account (Told (deposit_info s account (at s.deposits account)))
answer s query.Pools = Told (info.Pools (pools s))
answer s query.System = Told (info.System (system s))
answer s (query.NextNumber client) =
    unless_out_of_range client (Told (info.Next (next_number s client)))
