use Rattle.std.proofs.Common.{refl, ◌∙◌}
use Rattle.liq_types.specs.declared.amounts.TheConstants.{ACCOUNTS}
use Rattle.liq_types.specs.State.{opening_with}
use Rattle.liq_fees.specs.Happened.{of_coll, of_lusd}
use Rattle.liq_text_staking.specs.Paid.{fees_along}
use Rattle.liq_text_staking.specs.Shares.{happened_by}
use Rattle.liq_text_staking.proofs.Limits.{coll_adds_up, lusd_adds_up, can_be_shared}
use Rattle.liq_text_staking.proofs.Shares.{end_lawful, end_coll, end_lusd, have_shares}
use Rattle.liq_text_staking.proofs.laws.stakers_have_their_shares.Goals as goal

pub returns-clause-text : goal.returns-clause-text
returns-clause-text c limit commands lines = refl

pub returns-clause-lawful : goal.returns-clause-lawful
returns-clause-lawful c limit known commands none s came lines few =
    end_lawful (fees_along (opening_with limit) commands) (can_be_shared limit commands s came known none) lines few

pub returns-clause-coll : goal.returns-clause-coll
returns-clause-coll c limit known commands none s came lines few =
    let fees = fees_along (opening_with limit) commands in
    let all = can_be_shared limit commands s came known none in
    let past = happened_by limit commands lines in
    let lawful = end_lawful fees all lines few in
    have_shares of_coll past s.fee_coll (end_coll fees all lines few ∙ coll_adds_up limit commands s came)
    (c.the_fees_cover_all.ensures of_coll ACCOUNTS past lawful.owners lawful.covered)
    (λ account. c.gains_are_shares.ensures of_coll account past)

pub returns-clause-lusd : goal.returns-clause-lusd
returns-clause-lusd c limit known commands none s came lines few =
    let fees = fees_along (opening_with limit) commands in
    let all = can_be_shared limit commands s came known none in
    let past = happened_by limit commands lines in
    let lawful = end_lawful fees all lines few in
    have_shares of_lusd past s.fee_lusd (end_lusd fees all lines few ∙ lusd_adds_up limit commands s came)
    (c.the_fees_cover_all.ensures of_lusd ACCOUNTS past lawful.owners lawful.covered)
    (λ account. c.gains_are_shares.ensures of_lusd account past)
