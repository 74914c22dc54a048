-- The names of verbs and queries.
use Rattle.std.specs.Prelude.{List, ℕ, codes}
use Rattle.liq_text.specs.declared.names.Verb.{Verb}
use Rattle.liq_text.specs.declared.names.Verb.TheVariants as verbs
use Rattle.liq_text.specs.Topics.{Topic}
use Rattle.liq_text.specs.Topics as topics

abbrev pub verb_name : Verb → List ℕ
verb_name verbs.Price = codes "price"
verb_name verbs.Advance = codes "advance"
verb_name verbs.Fund = codes "fund"
verb_name verbs.Take = codes "take"
verb_name verbs.Send = codes "send"
verb_name verbs.Open = codes "open"
verb_name verbs.Adjust = codes "adjust"
verb_name verbs.Close = codes "close"
verb_name verbs.Provide = codes "provide"
verb_name verbs.Withdraw = codes "withdraw"
verb_name verbs.GainToTrove = codes "gain_to_trove"
verb_name verbs.Liquidate = codes "liquidate"
verb_name verbs.LiquidateLowest = codes "liquidate_lowest"
verb_name verbs.Redeem = codes "redeem"
verb_name verbs.Claim = codes "claim"
verb_name verbs.Rotate = codes "rotate"

abbrev pub topic_name : Topic → List ℕ
topic_name topics.Wallet = codes "wallet"
topic_name topics.Trove = codes "trove"
topic_name topics.Deposit = codes "deposit"
topic_name topics.Pools = codes "pools"
topic_name topics.System = codes "system"
topic_name topics.NextNumber = codes "next_number"
