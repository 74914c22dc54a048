-- Worked examples of borrowing: troves are adjusted and closed, and every refusal that their owners
-- can meet.
use Rattle.std.specs.Prelude.{List, [], ◌∷◌}
use Rattle.liq_types.specs.declared.replies.Refusal.TheVariants.{ShortCollateral, ShortTokens, TroveExists, NoTrove, NetDebtLow, RatioLow, SystemRatioLow, RatioFalls, BothWays, NoChange, NoGain, NotLiquidatable}
use Rattle.liq_types.specs.declared.replies.Reply.{Reply}
use Rattle.liq_types.specs.declared.replies.Reply.TheVariants.{No}
use Rattle.liq_types.specs.declared.requests.Call.TheVariants.{Price, Fund, Send, Open, Adjust, Close, Provide, GainToTrove, Liquidate}
use Rattle.liq_types.specs.declared.requests.Request.{Request}
use Rattle.liq_rule_step.specs.Examples.{by_one, said}
use Rattle.liq_rule_step.specs.Verbs.{no_hint}

abbrev pub adjusting_and_closing : List Request
adjusting_and_closing =
    by_one 1 (Fund 1 10000000000)
    ∷ by_one 2 (Fund 2 10000000000)
    ∷ by_one 3 (Open 1 5000000000 2000000000 1000000000000000000 no_hint)
    ∷ by_one 4 (Open 1 1 1 1000000000000000000 no_hint)
    ∷ by_one 4 (Open 2 5000000000 2000000000 1000000000000000000 no_hint)
    ∷ by_one 5 (Adjust 3 1 0 0 0 0 no_hint)
    ∷ by_one 5 (Adjust 1 1 1 0 0 0 no_hint)
    ∷ by_one 5 (Adjust 1 0 0 1 1 1000000000000000000 no_hint)
    ∷ by_one 5 (Adjust 1 0 0 0 0 0 no_hint)
    ∷ by_one 5 (Adjust 1 0 0 0 2000000001 0 no_hint)
    ∷ by_one 5 (Adjust 1 0 2000000000 0 0 0 no_hint)
    ∷ by_one 6 (Adjust 1 1000000000 0 1000000000 0 1000000000000000000 no_hint)
    ∷ by_one 7 (Adjust 2 0 1000000000 0 100000000 0 no_hint)
    ∷ by_one 8 (Send 2 1 1)
    ∷ by_one 9 (Close 1)
    ∷ by_one 9 (Send 2 1 1000000000)
    ∷ by_one 10 (Close 1)
    ∷ []

abbrev pub adjusting_and_closing_replies : List Reply
adjusting_and_closing_replies =
    said 3 []
    ∷ said 3 []
    ∷ said 6 (2210000000 ∷ 10000000 ∷ [])
    ∷ No (TroveExists 1)
    ∷ said 6 (2210000000 ∷ 10000000 ∷ [])
    ∷ No (NoTrove 3)
    ∷ No (BothWays 1 1)
    ∷ No (BothWays 1 1)
    ∷ No NoChange
    ∷ No (ShortTokens 2000000001 2000000000)
    ∷ said 7 (3000000000 ∷ 2210000000 ∷ 0 ∷ [])
    ∷ said 7 (4000000000 ∷ 3215000000 ∷ 5000000 ∷ [])
    ∷ said 7 (4000000000 ∷ 2110000000 ∷ 0 ∷ [])
    ∷ said 5 []
    ∷ No (ShortTokens 3015000000 3000000001)
    ∷ said 5 []
    ∷ said 8 (3015000000 ∷ 4000000000 ∷ [])
    ∷ []

abbrev pub adjusting_to_limits : List Request
adjusting_to_limits =
    by_one 1 (Fund 1 20000000000)
    ∷ by_one 2 (Fund 2 30000000000)
    ∷ by_one 3 (Open 1 10000000000 4000000000 1000000000000000000 no_hint)
    ∷ by_one 4 (Open 1 10000000000 4000000000 1000000000000000000 no_hint)
    ∷ by_one 4 (Open 2 15000000000 4000000000 1000000000000000000 no_hint)
    ∷ by_one 5 (Adjust 3 1 0 0 0 0 no_hint)
    ∷ by_one 5 (Adjust 1 1 1 0 0 0 no_hint)
    ∷ by_one 5 (Adjust 1 0 0 1 1 1000000000000000000 no_hint)
    ∷ by_one 5 (Adjust 1 0 0 0 0 0 no_hint)
    ∷ by_one 5 (Adjust 1 0 10000000001 0 0 0 no_hint)
    ∷ by_one 5 (Adjust 1 0 0 0 2221000000 0 no_hint)
    ∷ by_one 5 (Adjust 1 0 0 0 4000000001 0 no_hint)
    ∷ by_one 5 (Adjust 1 0 0 13000000000 0 1000000000000000000 no_hint)
    ∷ by_one 5 (Adjust 1 0 1000000000 500000000 0 1000000000000000000 no_hint)
    ∷ by_one 6 (Adjust 2 500000000 0 0 100000000 0 no_hint)
    ∷ by_one 7 (Close 2)
    ∷ by_one 7 (Send 1 2 1000000000)
    ∷ by_one 8 (Close 2)
    ∷ []

abbrev pub adjusting_to_limits_replies : List Reply
adjusting_to_limits_replies =
    said 3 []
    ∷ said 3 []
    ∷ said 6 (4220000000 ∷ 20000000 ∷ [])
    ∷ No (TroveExists 1)
    ∷ said 6 (4220000000 ∷ 20000000 ∷ [])
    ∷ No (NoTrove 3)
    ∷ No (BothWays 1 1)
    ∷ No (BothWays 1 1)
    ∷ No NoChange
    ∷ No (ShortCollateral 10000000001 10000000000)
    ∷ No (NetDebtLow 1799000000 1800000000)
    ∷ No (ShortTokens 4000000001 4000000000)
    ∷ No (RatioLow 1000000000000000000000 1901350000000000000000)
    ∷ said 7 (9000000000 ∷ 4722500000 ∷ 2500000 ∷ [])
    ∷ said 7 (15500000000 ∷ 4120000000 ∷ 0 ∷ [])
    ∷ No (ShortTokens 3920000000 3900000000)
    ∷ said 5 []
    ∷ said 8 (3920000000 ∷ 15500000000 ∷ [])
    ∷ []

abbrev pub totals_too_low : List Request
totals_too_low =
    by_one 1 (Fund 1 10000000000)
    ∷ by_one 2 (Open 1 10000000000 4000000000 1000000000000000000 no_hint)
    ∷ by_one 3 (Adjust 1 0 4000000000 0 0 0 no_hint)
    ∷ by_one 3 (Provide 1 5)
    ∷ by_one 4 (GainToTrove 1 no_hint)
    ∷ []

abbrev pub totals_too_low_replies : List Reply
totals_too_low_replies =
    said 3 []
    ∷ said 6 (4220000000 ∷ 20000000 ∷ [])
    ∷ No (SystemRatioLow 600000000000000000000 633000000000000000000)
    ∷ said 9 (5 ∷ 0 ∷ [])
    ∷ No (NoGain 1)
    ∷ []

abbrev pub ratio_falls : List Request
ratio_falls =
    by_one 1 (Fund 1 8440000000)
    ∷ by_one 2 (Fund 2 20000000000)
    ∷ by_one 3 (Open 1 8440000000 4000000000 1000000000000000000 no_hint)
    ∷ by_one 4 (Open 2 20000000000 4000000000 1000000000000000000 no_hint)
    ∷ by_one 5 (Price 440000000)
    ∷ by_one 6 (Adjust 2 0 0 1 0 1000000000000000000 no_hint)
    ∷ by_one 6 (Liquidate 3 2)
    ∷ []

abbrev pub ratio_falls_replies : List Reply
ratio_falls_replies =
    said 3 []
    ∷ said 3 []
    ∷ said 6 (4220000000 ∷ 20000000 ∷ [])
    ∷ said 6 (4220000000 ∷ 20000000 ∷ [])
    ∷ said 1 []
    ∷ No (RatioFalls 84400000000000000000 84400000020000000000)
    ∷ No (NotLiquidatable 20000000000 4220000000 440000000 28440000000 8440000000)
    ∷ []
