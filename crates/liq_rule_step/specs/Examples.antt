-- Worked examples: requests from the opening on, and the replies to them. Client 1 makes them, with
-- numbers that ascend.
use Rattle.std.specs.Prelude.{ℕ, List, [], ◌∷◌, ◌++◌}
use Rattle.liq_types.specs.declared.events.PoolEvent.{PoolEvent}
use Rattle.liq_types.specs.declared.events.PoolEvent.TheVariants.{Own, Offset}
use Rattle.liq_types.specs.declared.replies.Info.TheVariants as info
use Rattle.liq_types.specs.declared.replies.Refusal.TheVariants.{AmountLimit, AccountRange, FeeOver, NetDebtLow, RatioLow, RecoveryForbids, LastTrove, NoDeposit, TroveUnder, PoolTooSmall, Bootstrap, NoSurplus, OutOfTurn, ShortCollateral, AmountZero, FeeBound, PriceRange}
use Rattle.liq_types.specs.declared.replies.Reply.{Reply}
use Rattle.liq_types.specs.declared.replies.Reply.TheVariants.{Said, Told, No}
use Rattle.liq_types.specs.declared.requests.Call.{Call}
use Rattle.liq_types.specs.declared.requests.Call.TheVariants.{Price, Advance, Fund, Send, Open, Adjust, Close, Provide, Withdraw, GainToTrove, Liquidate, LiquidateLowest, Redeem, Claim, Rotate, Take}
use Rattle.liq_types.specs.declared.requests.Query.TheVariants as query
use Rattle.liq_types.specs.declared.requests.Request.{Request}
use Rattle.liq_types.specs.declared.requests.Request.TheVariants.{Do, Ask}
use Rattle.liq_rule_step.specs.Rules.{six}
use Rattle.liq_rule_step.specs.Verbs.{no_hint}

abbrev pub by_one : ℕ → Call → Request
by_one number call = Do (record { client = 1; number = number; call = call })

abbrev pub said : ℕ → List ℕ → Reply
said kind shown = Said (record { kind = kind; values = six shown })

abbrev pub a_trove_opens : List Request
a_trove_opens =
    by_one 1 (Fund 1 10000000000)
    ∷ by_one 2 (Open 1 10000000000 4000000000 1000000000000000000 no_hint)
    ∷ Ask (query.Trove 1)
    ∷ []

abbrev pub a_trove_opens_replies : List Reply
a_trove_opens_replies =
    said 3 []
    ∷ said 6 (4220000000 ∷ 20000000 ∷ [])
    ∷ Told (info.Trove 10000000000 4220000000 10000000000)
    ∷ []

abbrev pub too_little_debt : List Request
too_little_debt =
    by_one 1 (Fund 1 10000000000)
    ∷ by_one 2 (Open 1 10000000000 1791040000 1000000000000000000 no_hint)
    ∷ []

abbrev pub too_little_debt_replies : List Reply
too_little_debt_replies =
    said 3 []
    ∷ No (NetDebtLow 1799995200 1800000000)
    ∷ []

abbrev pub both_ratios_exact : List Request
both_ratios_exact =
    by_one 1 (Fund 1 4199000000)
    ∷ by_one 2 (Fund 2 2431000000)
    ∷ by_one 3 (Open 1 4199000000 2000000000 1000000000000000000 no_hint)
    ∷ by_one 4 (Open 2 2431000000 2000000000 1000000000000000000 no_hint)
    ∷ []

abbrev pub both_ratios_exact_replies : List Reply
both_ratios_exact_replies =
    said 3 []
    ∷ said 3 []
    ∷ said 6 (2210000000 ∷ 10000000 ∷ [])
    ∷ said 6 (2210000000 ∷ 10000000 ∷ [])
    ∷ []

abbrev pub a_gwei_too_little : List Request
a_gwei_too_little =
    by_one 1 (Fund 1 4199000000)
    ∷ by_one 2 (Fund 2 2430999999)
    ∷ by_one 3 (Open 1 4199000000 2000000000 1000000000000000000 no_hint)
    ∷ by_one 4 (Open 2 2430999999 2000000000 1000000000000000000 no_hint)
    ∷ []

abbrev pub a_gwei_too_little_replies : List Reply
a_gwei_too_little_replies =
    said 3 []
    ∷ said 3 []
    ∷ said 6 (2210000000 ∷ 10000000 ∷ [])
    ∷ No (RatioLow 243099999900000000000 243100000000000000000)
    ∷ []

-- two troves, one of whose owners provides, and a price that leaves the other one below the least
-- ratio
abbrev pub price_falls : List Request
price_falls =
    by_one 1 (Fund 1 10000000000)
    ∷ by_one 2 (Open 1 10000000000 4000000000 1000000000000000000 no_hint)
    ∷ by_one 3 (Fund 2 100000000000)
    ∷ by_one 4 (Open 2 100000000000 4000000000 1000000000000000000 no_hint)
    ∷ by_one 5 (Provide 2 4000000000)
    ∷ by_one 6 (Price 460000000)
    ∷ []

abbrev pub price_falls_replies : List Reply
price_falls_replies =
    said 3 []
    ∷ said 6 (4220000000 ∷ 20000000 ∷ [])
    ∷ said 3 []
    ∷ said 6 (4220000000 ∷ 20000000 ∷ [])
    ∷ said 9 (4000000000 ∷ 0 ∷ [])
    ∷ said 1 []
    ∷ []

abbrev pub pool_and_others : List Request
pool_and_others =
    price_falls
    ++ by_one 7 (Liquidate 3 1)
    ∷ Ask (query.Trove 2)
    ∷ Ask (query.Deposit 2)
    ∷ Ask query.Pools
    ∷ Ask (query.Wallet 3)
    ∷ by_one 8 (GainToTrove 2 no_hint)
    ∷ []

abbrev pub pool_and_others_replies : List Reply
pool_and_others_replies =
    price_falls_replies
    ++ said 12 (50000000 ∷ 4000000000 ∷ 9431279620 ∷ 220000000 ∷ 518720380 ∷ 0 ∷ [])
    ∷ Told (info.Trove 100518720380 4440000000 100000000000)
    ∷ Told (info.Deposit 0 9431279620)
    ∷ Told (info.Pools (100000000000 ∷ 4220000000 ∷ 518720380 ∷ 220000000 ∷ 200000000 ∷ 0 ∷ 0
    ∷ 40000000 ∷ 0 ∷ 9431279620 ∷ []))
    ∷ Told (info.Wallet 50000000 200000000)
    ∷ said 11 (9431279620 ∷ 109950000000 ∷ [])
    ∷ []

abbrev pub in_and_out : List Request
in_and_out =
    by_one 1 (Fund 1 10000000000)
    ∷ by_one 2 (Open 1 10000000000 4000000000 1000000000000000000 no_hint)
    ∷ by_one 3 (Provide 1 7)
    ∷ by_one 4 (Withdraw 1 1000000000000000000)
    ∷ by_one 5 (Withdraw 1 1000000000000000000)
    ∷ []

abbrev pub in_and_out_replies : List Reply
in_and_out_replies =
    said 3 []
    ∷ said 6 (4220000000 ∷ 20000000 ∷ [])
    ∷ said 9 (7 ∷ 0 ∷ [])
    ∷ said 10 (7 ∷ 0 ∷ [])
    ∷ No (NoDeposit 1)
    ∷ []

abbrev pub trove_under : List Request
trove_under =
    price_falls
    ++ by_one 7 (Withdraw 2 1)
    ∷ by_one 7 (Withdraw 2 0)
    ∷ []

abbrev pub trove_under_replies : List Reply
trove_under_replies =
    price_falls_replies
    ++ No (TroveUnder 1 460000000000000000000 464200000000000000000)
    ∷ said 10 (0 ∷ 0 ∷ [])
    ∷ []

abbrev pub at_the_whole : List Request
at_the_whole =
    by_one 1 (Fund 1 8440000000)
    ∷ by_one 2 (Fund 2 12660000000)
    ∷ by_one 3 (Open 1 8440000000 4000000000 1000000000000000000 no_hint)
    ∷ by_one 4 (Open 2 12660000000 4000000000 1000000000000000000 no_hint)
    ∷ by_one 5 (Provide 2 4000000000)
    ∷ by_one 6 (Price 500000000)
    ∷ by_one 7 (Adjust 2 0 1 0 0 0 no_hint)
    ∷ by_one 7 (Liquidate 3 1)
    ∷ Ask (query.Trove 2)
    ∷ []

abbrev pub at_the_whole_replies : List Reply
at_the_whole_replies =
    said 3 []
    ∷ said 3 []
    ∷ said 6 (4220000000 ∷ 20000000 ∷ [])
    ∷ said 6 (4220000000 ∷ 20000000 ∷ [])
    ∷ said 9 (4000000000 ∷ 0 ∷ [])
    ∷ said 1 []
    ∷ No (RecoveryForbids 1055000000000000000000 1266000000000000000000)
    ∷ said 12 (42200000 ∷ 0 ∷ 0 ∷ 4220000000 ∷ 8397800000 ∷ 0 ∷ [])
    ∷ Told (info.Trove 21057799999 8439999999 12660000000)
    ∷ []

abbrev pub pool_too_small : List Request
pool_too_small =
    by_one 1 (Fund 1 8440000000)
    ∷ by_one 2 (Fund 2 12660000000)
    ∷ by_one 3 (Open 1 8440000000 4000000000 1000000000000000000 no_hint)
    ∷ by_one 4 (Open 2 12660000000 4000000000 1000000000000000000 no_hint)
    ∷ by_one 5 (Send 1 2 220000000)
    ∷ by_one 6 (Provide 2 4219999999)
    ∷ by_one 7 (Price 550000000)
    ∷ by_one 8 (Liquidate 3 1)
    ∷ by_one 8 (Provide 2 1)
    ∷ by_one 9 (Liquidate 3 1)
    ∷ []

abbrev pub pool_too_small_replies : List Reply
pool_too_small_replies =
    said 3 []
    ∷ said 3 []
    ∷ said 6 (4220000000 ∷ 20000000 ∷ [])
    ∷ said 6 (4220000000 ∷ 20000000 ∷ [])
    ∷ said 5 []
    ∷ said 9 (4219999999 ∷ 0 ∷ [])
    ∷ said 1 []
    ∷ No (PoolTooSmall 4219999999 4220000000)
    ∷ said 9 (4220000000 ∷ 0 ∷ [])
    ∷ said 12 (42200000 ∷ 4220000000 ∷ 8397800000 ∷ 0 ∷ 0 ∷ 0 ∷ [])
    ∷ []

-- two troves, of which one could be taken over in Recovery Mode
abbrev pub pool_is_filled : List Request
pool_is_filled =
    by_one 1 (Fund 1 8440000000)
    ∷ by_one 2 (Fund 2 12660000000)
    ∷ by_one 3 (Open 1 8440000000 4000000000 1000000000000000000 no_hint)
    ∷ by_one 4 (Open 2 12660000000 4000000000 1000000000000000000 no_hint)
    ∷ by_one 5 (Send 1 2 220000000)
    ∷ by_one 6 (Provide 2 4220000000)
    ∷ by_one 7 (Price 560000000)
    ∷ []

abbrev pub pool_is_filled_replies : List Reply
pool_is_filled_replies =
    said 3 []
    ∷ said 3 []
    ∷ said 6 (4220000000 ∷ 20000000 ∷ [])
    ∷ said 6 (4220000000 ∷ 20000000 ∷ [])
    ∷ said 5 []
    ∷ said 9 (4220000000 ∷ 0 ∷ [])
    ∷ said 1 []
    ∷ []

abbrev pub capped_lowest : List Request
capped_lowest =
    pool_is_filled
    ++ by_one 8 (LiquidateLowest 3 5)
    ∷ by_one 9 (Claim 1)
    ∷ by_one 10 (Claim 1)
    ∷ []

abbrev pub capped_lowest_replies : List Reply
capped_lowest_replies =
    pool_is_filled_replies
    ++ said 13 (1 ∷ 41446428 ∷ 4220000000 ∷ 8247839286 ∷ [])
    ∷ said 15 (150714286 ∷ [])
    ∷ No (NoSurplus 1)
    ∷ []

abbrev pub capped_single : List Request
capped_single =
    pool_is_filled
    ++ by_one 8 (Liquidate 3 1)
    ∷ []

abbrev pub capped_single_replies : List Reply
capped_single_replies =
    pool_is_filled_replies
    ++ said 12 (41446428 ∷ 4220000000 ∷ 8247839286 ∷ 0 ∷ 0 ∷ 150714286 ∷ [])
    ∷ []

-- two troves, and the first minute at which LUSD may be redeemed
abbrev pub bootstrap_ends : List Request
bootstrap_ends =
    by_one 1 (Fund 1 8440000000)
    ∷ by_one 2 (Fund 2 12660000000)
    ∷ by_one 3 (Open 1 8440000000 4000000000 1000000000000000000 no_hint)
    ∷ by_one 4 (Open 2 12660000000 4000000000 1000000000000000000 no_hint)
    ∷ by_one 5 (Send 1 2 4000000000)
    ∷ by_one 6 (Advance 20159)
    ∷ by_one 7 (Redeem 2 5000000000 1000000000000000000 no_hint)
    ∷ by_one 7 (Advance 1)
    ∷ []

abbrev pub bootstrap_ends_replies : List Reply
bootstrap_ends_replies =
    said 3 []
    ∷ said 3 []
    ∷ said 6 (4220000000 ∷ 20000000 ∷ [])
    ∷ said 6 (4220000000 ∷ 20000000 ∷ [])
    ∷ said 5 []
    ∷ said 2 (20159 ∷ [])
    ∷ No (Bootstrap 20159 20160)
    ∷ said 2 (20160 ∷ [])
    ∷ []

abbrev pub redemption : List Request
redemption =
    bootstrap_ends
    ++ by_one 8 (Redeem 2 5000000000 1000000000000000000 no_hint)
    ∷ by_one 9 (Claim 1)
    ∷ by_one 10 (Fund 3 10000000000)
    ∷ by_one 11 (Open 3 10000000000 2000000000 5000000000000000 no_hint)
    ∷ by_one 11 (Open 3 10000000000 2000000000 1000000000000000000 no_hint)
    ∷ []

abbrev pub redemption_replies : List Reply
redemption_replies =
    bootstrap_ends_replies
    ++ said 14 (5000000000 ∷ 5000000000 ∷ 1506042654 ∷ 296208530805687203 ∷ [])
    ∷ said 15 (4420000000 ∷ [])
    ∷ said 3 []
    ∷ No (FeeOver 100000000000000000000000000 10000000000000000000000000)
    ∷ said 6 (2300000000 ∷ 100000000 ∷ [])
    ∷ []

abbrev pub redemption_stops : List Request
redemption_stops =
    bootstrap_ends
    ++ by_one 8 (Redeem 2 6241000000 1000000000000000000 no_hint)
    ∷ []

abbrev pub redemption_stops_replies : List Reply
redemption_stops_replies =
    bootstrap_ends_replies
    ++ said 14 (4020000000 ∷ 4020000000 ∷ 977469668 ∷ 238151658767772511 ∷ [])
    ∷ []

abbrev pub numbers : List Request
numbers =
    by_one 1 (Fund 1 5)
    ∷ by_one 1 (Fund 1 5)
    ∷ by_one 3 (Fund 1 5)
    ∷ Ask (query.Wallet 1)
    ∷ []

abbrev pub numbers_replies : List Reply
numbers_replies =
    said 3 []
    ∷ said 3 []
    ∷ No (OutOfTurn 2)
    ∷ Told (info.Wallet 5 0)
    ∷ []

abbrev pub last_trove : List Request
last_trove =
    by_one 1 (Fund 1 10000000000)
    ∷ by_one 2 (Open 1 10000000000 4000000000 1000000000000000000 no_hint)
    ∷ by_one 3 (Close 1)
    ∷ by_one 3 (Liquidate 2 1)
    ∷ by_one 3 (LiquidateLowest 2 1)
    ∷ []

abbrev pub last_trove_replies : List Reply
last_trove_replies =
    said 3 []
    ∷ said 6 (4220000000 ∷ 20000000 ∷ [])
    ∷ No (LastTrove 1)
    ∷ No (LastTrove 1)
    ∷ No (LastTrove 1)
    ∷ []

abbrev pub limits : List Request
limits =
    by_one 1 (Fund 1 10000000000000000000)
    ∷ by_one 2 (Fund 1 1)
    ∷ by_one 2 (Fund 1048576 1)
    ∷ []

abbrev pub limits_replies : List Reply
limits_replies =
    said 3 []
    ∷ No (AmountLimit 10000000000000000001 10000000000000000000)
    ∷ No (AccountRange 1048576)
    ∷ []

abbrev pub bringing_in : List Request
bringing_in =
    by_one 1 (Fund 1 10000000000)
    ∷ Ask (query.Wallet 1)
    ∷ Ask (query.NextNumber 1)
    ∷ []

abbrev pub bringing_in_replies : List Reply
bringing_in_replies =
    said 3 []
    ∷ Told (info.Wallet 10000000000 0)
    ∷ Told (info.Next 2)
    ∷ []

abbrev pub nothing_yet : List Request
nothing_yet =
    Ask query.System
    ∷ Ask query.Pools
    ∷ []

abbrev pub nothing_yet_replies : List Reply
nothing_yet_replies =
    Told (info.System (1000000000 ∷ 0 ∷ 0 ∷ 0 ∷ 0 ∷ 0 ∷ 0 ∷ 0 ∷ 0 ∷ 0 ∷ []))
    ∷ Told (info.Pools (0 ∷ 0 ∷ 0 ∷ 0 ∷ 0 ∷ 0 ∷ 0 ∷ 0 ∷ 0 ∷ 0 ∷ []))
    ∷ []

abbrev pub rotation : List Request
rotation =
    by_one 1 (Fund 1 10000000000)
    ∷ by_one 2 Rotate
    ∷ Ask query.System
    ∷ []

abbrev pub rotation_replies : List Reply
rotation_replies =
    said 3 []
    ∷ said 16 (2 ∷ [])
    ∷ Told (info.System (1000000000 ∷ 0 ∷ 0 ∷ 0 ∷ 0 ∷ 0 ∷ 0 ∷ 0 ∷ 0 ∷ 0 ∷ []))
    ∷ []

abbrev pub taking_out : List Request
taking_out =
    by_one 1 (Fund 1 5)
    ∷ by_one 2 (Take 1 6)
    ∷ by_one 2 (Take 1 0)
    ∷ by_one 2 (Take 1 5)
    ∷ Ask (query.Wallet 1)
    ∷ []

abbrev pub taking_out_replies : List Reply
taking_out_replies =
    said 3 []
    ∷ No (ShortCollateral 6 5)
    ∷ No AmountZero
    ∷ said 4 []
    ∷ Told (info.Wallet 0 0)
    ∷ []

abbrev pub time_and_bounds : List Request
time_and_bounds =
    by_one 1 (Advance 0)
    ∷ by_one 1 (Advance 1000000000001)
    ∷ by_one 1 (Fund 1 10000000000)
    ∷ by_one 2 (Open 1 10000000000 4000000000 4999999999999999 no_hint)
    ∷ by_one 2 (Price 99999999)
    ∷ by_one 2 (Advance 3)
    ∷ []

abbrev pub time_and_bounds_replies : List Reply
time_and_bounds_replies =
    No AmountZero
    ∷ No (AmountLimit 1000000000001 1000000000000)
    ∷ said 3 []
    ∷ No (FeeBound 4999999999999999 5000000000000000)
    ∷ No (PriceRange 99999999)
    ∷ said 2 (3 ∷ [])
    ∷ []

-- what the commands on the Stability Pool and the other trove do to the pool
abbrev pub pool_and_others_events : List PoolEvent
pool_and_others_events =
    Own 2 4000000000 0 0 4000000000
    ∷ Offset 4000000000 9431279620 4000000000 0
    ∷ Own 2 0 0 9431279620 0
    ∷ []
