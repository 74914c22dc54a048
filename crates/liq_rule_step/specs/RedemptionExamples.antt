-- Worked examples of redemption: every refusal that a redeemer can meet, and a trove that is cut
-- first and liquidated then.
use Rattle.std.specs.Prelude.{List, [], ◌∷◌}
use Rattle.liq_types.specs.declared.replies.Refusal.TheVariants.{NoTrove, RatioLow, NoGain, NotLiquidatable, SystemUnder, NothingRedeemed, FeeEatsAll}
use Rattle.liq_types.specs.declared.replies.Reply.{Reply}
use Rattle.liq_types.specs.declared.replies.Reply.TheVariants.{No}
use Rattle.liq_types.specs.declared.requests.Call.TheVariants.{Price, Advance, Fund, Open, Adjust, Provide, GainToTrove, Liquidate, Redeem}
use Rattle.liq_types.specs.declared.requests.Request.{Request}
use Rattle.liq_rule_step.specs.Examples.{by_one, said}
use Rattle.liq_rule_step.specs.Verbs.{no_hint}

abbrev pub nothing_to_redeem : List Request
nothing_to_redeem =
    by_one 1 (Fund 1 8440000000)
    ∷ by_one 2 (Fund 2 12660000000)
    ∷ by_one 3 (Open 1 8440000000 4000000000 1000000000000000000 no_hint)
    ∷ by_one 4 (Open 2 12660000000 4000000000 1000000000000000000 no_hint)
    ∷ by_one 5 (Advance 20160)
    ∷ by_one 6 (Redeem 2 3000000000 1000000000000000000 no_hint)
    ∷ by_one 6 (Price 1000000000000)
    ∷ by_one 7 (Redeem 2 1 1000000000000000000 no_hint)
    ∷ by_one 7 (Price 439000000)
    ∷ by_one 8 (Redeem 2 1 1000000000000000000 no_hint)
    ∷ []

abbrev pub nothing_to_redeem_replies : List Reply
nothing_to_redeem_replies =
    said 3 []
    ∷ said 3 []
    ∷ said 6 (4220000000 ∷ 20000000 ∷ [])
    ∷ said 6 (4220000000 ∷ 20000000 ∷ [])
    ∷ said 2 (20160 ∷ [])
    ∷ No (NothingRedeemed 3000000000 4020000000)
    ∷ said 1 []
    ∷ No (FeeEatsAll 0 0)
    ∷ said 1 []
    ∷ No (SystemUnder 926290000000000000000 928400000000000000000)
    ∷ []

abbrev pub redeemed_and_struck : List Request
redeemed_and_struck =
    by_one 1 (Fund 1 20000000000)
    ∷ by_one 2 (Fund 2 30000000000)
    ∷ by_one 3 (Open 1 9000000000 4000000000 1000000000000000000 no_hint)
    ∷ by_one 4 (Open 2 9000000000 4000000000 1000000000000000000 no_hint)
    ∷ by_one 5 (Provide 1 1000000000)
    ∷ by_one 6 (GainToTrove 1 no_hint)
    ∷ by_one 6 (Liquidate 3 3)
    ∷ by_one 6 (Liquidate 3 1)
    ∷ by_one 6 (Price 700000000)
    ∷ by_one 7 (Adjust 1 3000000000 0 2000000000 0 0 no_hint)
    ∷ by_one 7 (Advance 20160)
    ∷ by_one 8 (Redeem 1 1 1000000000000000000 no_hint)
    ∷ by_one 9 (Redeem 1 2220000001 1000000000000000000 no_hint)
    ∷ by_one 9 (Price 500000000)
    ∷ by_one 10 (Redeem 1 1 1000000000000000000 no_hint)
    ∷ by_one 10 (Liquidate 3 1)
    ∷ []

abbrev pub redeemed_and_struck_replies : List Reply
redeemed_and_struck_replies =
    said 3 []
    ∷ said 3 []
    ∷ said 6 (4220000000 ∷ 20000000 ∷ [])
    ∷ said 6 (4220000000 ∷ 20000000 ∷ [])
    ∷ said 9 (1000000000 ∷ 0 ∷ [])
    ∷ No (NoGain 1)
    ∷ No (NoTrove 3)
    ∷ No (NotLiquidatable 9000000000 4220000000 1000000000 18000000000 8440000000)
    ∷ said 1 []
    ∷ No (RatioLow 840000000000000000000 933000000000000000000)
    ∷ said 2 (20160 ∷ [])
    ∷ said 14 (1 ∷ 1 ∷ 0 ∷ 59241706 ∷ [])
    ∷ No (NothingRedeemed 2220000001 4020000000)
    ∷ said 1 []
    ∷ No (SystemUnder 899999999950000000000 928399999890000000000)
    ∷ said 12 (45000000 ∷ 1000000000 ∷ 2122037914 ∷ 3220000000 ∷ 6832962086 ∷ 0 ∷ [])
    ∷ []
