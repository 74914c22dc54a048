use Rattle.liq_text.specs.declared.names.Verb.TheVariants as verbs
use Rattle.liq_text.specs.Pieces.{pieces_left}
use Rattle.liq_text.proofs.FormLaws.{arguments_read}
use Rattle.liq_text.proofs.calls.arguments.Goals as goal

pub returns-in-Price : goal.returns-in-Price
returns-in-Price c = cc (arguments_read verbs.Price c.args.words.now.has_failed (pieces_left c.args.words.now))

pub returns-in-Advance : goal.returns-in-Advance
returns-in-Advance c = cc (arguments_read verbs.Advance c.args.words.now.has_failed (pieces_left c.args.words.now))

pub returns-in-Fund : goal.returns-in-Fund
returns-in-Fund c = cc (arguments_read verbs.Fund c.args.words.now.has_failed (pieces_left c.args.words.now))

pub returns-in-Take : goal.returns-in-Take
returns-in-Take c = cc (arguments_read verbs.Take c.args.words.now.has_failed (pieces_left c.args.words.now))

pub returns-in-Send : goal.returns-in-Send
returns-in-Send c = cc (arguments_read verbs.Send c.args.words.now.has_failed (pieces_left c.args.words.now))

pub returns-in-Open : goal.returns-in-Open
returns-in-Open c = cc (arguments_read verbs.Open c.args.words.now.has_failed (pieces_left c.args.words.now))

pub returns-in-Adjust : goal.returns-in-Adjust
returns-in-Adjust c = cc (arguments_read verbs.Adjust c.args.words.now.has_failed (pieces_left c.args.words.now))

pub returns-in-Close : goal.returns-in-Close
returns-in-Close c = cc (arguments_read verbs.Close c.args.words.now.has_failed (pieces_left c.args.words.now))

pub returns-in-Provide : goal.returns-in-Provide
returns-in-Provide c = cc (arguments_read verbs.Provide c.args.words.now.has_failed (pieces_left c.args.words.now))

pub returns-in-Withdraw : goal.returns-in-Withdraw
returns-in-Withdraw c = cc (arguments_read verbs.Withdraw c.args.words.now.has_failed (pieces_left c.args.words.now))

pub returns-in-GainToTrove : goal.returns-in-GainToTrove
returns-in-GainToTrove c = cc (arguments_read verbs.GainToTrove c.args.words.now.has_failed
    (pieces_left c.args.words.now))

pub returns-in-Liquidate : goal.returns-in-Liquidate
returns-in-Liquidate c = cc (arguments_read verbs.Liquidate c.args.words.now.has_failed (pieces_left c.args.words.now))

pub returns-in-LiquidateLowest : goal.returns-in-LiquidateLowest
returns-in-LiquidateLowest c = cc (arguments_read verbs.LiquidateLowest c.args.words.now.has_failed
    (pieces_left c.args.words.now))

pub returns-in-Redeem : goal.returns-in-Redeem
returns-in-Redeem c = cc (arguments_read verbs.Redeem c.args.words.now.has_failed (pieces_left c.args.words.now))

pub returns-in-Claim : goal.returns-in-Claim
returns-in-Claim c = cc (arguments_read verbs.Claim c.args.words.now.has_failed (pieces_left c.args.words.now))

pub returns-in-Rotate : goal.returns-in-Rotate
returns-in-Rotate c = cc (arguments_read verbs.Rotate c.args.words.now.has_failed (pieces_left c.args.words.now))
