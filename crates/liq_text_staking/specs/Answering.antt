-- What is kept while stakers are answered, and when it can go on.
use Rattle.std.specs.Prelude.{◌≡◌, ◌+◌, ◌≤◌, List, length, drop}
use Rattle.liq_types.specs.declared.amounts.TheConstants.{LIM}
use Rattle.liq_fees.specs.Happened.{of_coll, of_lusd, fees_of, fees_in}
use Rattle.liq_fees.specs.Kept.{IsKeptOf}
use Rattle.liq_fees.specs.declared.changes.TheConstants.{FEES_MOST}
use Rattle.liq_text_staking.specs.declared.answering.Answering.{Answering}
use Rattle.liq_text_staking.specs.Paid.{Fees, coll_in, lusd_in}
use Rattle.liq_text_staking.specs.Asked.{Asked}
use Rattle.liq_text_staking.specs.Staked.{reply_lines, stakers}

-- these fees can all be shared: neither their sums nor their count passes its limit
pub record CanBeShared (fees : List Fees) : Type 0 where
  pub coll : coll_in fees ≤ LIM
  pub lusd : lusd_in fees ≤ LIM
  pub few : length fees ≤ FEES_MOST

-- what is kept is what was asked, and the replies stand in the text
pub record IsAsked (kept : Answering) (a : Asked) : Type 0 where
  pub fees : IsKeptOf kept.fees a.past
  pub stakers : kept.stakers.keys ≡ stakers a.past
  pub least : kept.least ≡ a.least
  pub text : kept.text.items ≡ reply_lines a.replies

-- the fees of the records up to the last line in place are shared, those behind it are left
pub record IsOnTheWay (fees : List Fees) (a : Asked) : Type 0 where
  pub least : a.least ≤ length fees
  pub coll : fees_of of_coll a.past + coll_in (drop a.least fees) ≡ coll_in fees
  pub lusd : fees_of of_lusd a.past + lusd_in (drop a.least fees) ≡ lusd_in fees
  pub few : fees_in a.past ≤ a.least
