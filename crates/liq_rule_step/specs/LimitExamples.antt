-- Worked examples of limits that no short list of requests reaches, from states that stand at them.
use Rattle.std.specs.Prelude.{List, [], ◌∷◌, take}
use Rattle.liq_types.specs.declared.amounts.TheConstants.{RECORDS_MOST, GENERATIONS_MOST, SUM_MOST}
use Rattle.liq_types.specs.declared.replies.Refusal.TheVariants.{PriceRange, AmountLimit, SumLimit, JournalFull}
use Rattle.liq_types.specs.declared.replies.Reply.{Reply}
use Rattle.liq_types.specs.declared.replies.Reply.TheVariants.{No}
use Rattle.liq_types.specs.declared.requests.Call.TheVariants.{Price, Fund, Liquidate, Rotate}
use Rattle.liq_types.specs.declared.requests.Request.{Request}
use Rattle.liq_types.specs.Image.{opening_image}
use Rattle.liq_types.specs.State.{State, opening}
use Rattle.liq_rule_step.specs.Examples.{by_one, said, at_the_whole}
use Rattle.liq_rule_step.specs.Step.{run}

-- the journal is full
abbrev pub with_full_journal : State
with_full_journal = record opening { records = RECORDS_MOST }

abbrev pub full_journal : List Request
full_journal =
    by_one 1 (Price 1000000000)
    ∷ by_one 1 (Price 1)
    ∷ by_one 1 Rotate
    ∷ by_one 2 (Price 1000000000)
    ∷ []

abbrev pub full_journal_replies : List Reply
full_journal_replies =
    No (JournalFull 1000000)
    ∷ No (PriceRange 1)
    ∷ said 16 (2 ∷ [])
    ∷ said 1 []
    ∷ []

-- the generation is the last
abbrev pub in_last_generation : State
in_last_generation = record opening { generation = GENERATIONS_MOST }

abbrev pub last_generation : List Request
last_generation =
    by_one 1 Rotate
    ∷ []

abbrev pub last_generation_replies : List Reply
last_generation_replies =
    No (AmountLimit 68719476737 68719476736)
    ∷ []

-- requests under the lesser limit, until a rotation
abbrev pub of_version_1 : List Request
of_version_1 =
    by_one 1 (Fund 1 10000000000)
    ∷ by_one 2 (Fund 1 1000000000000000000)
    ∷ by_one 2 (Fund 1 999999990000000000)
    ∷ by_one 3 (Fund 1 1)
    ∷ by_one 3 Rotate
    ∷ by_one 4 (Fund 1 1000000000000000000)
    ∷ by_one 5 (Fund 1 8000000000000000001)
    ∷ []

abbrev pub of_version_1_replies : List Reply
of_version_1_replies =
    said 3 []
    ∷ No (AmountLimit 1000000010000000000 1000000000000000000)
    ∷ said 3 []
    ∷ No (AmountLimit 1000000000000000001 1000000000000000000)
    ∷ said 16 (2 ∷ [])
    ∷ said 3 []
    ∷ No (AmountLimit 10000000000000000001 10000000000000000000)
    ∷ []

-- two troves, of which one may be liquidated, and the sum of collateral per stake at its limit
abbrev pub with_greatest_sum : State
with_greatest_sum =
    record (run opening (take 6 at_the_whole)).0 {
      start = record opening_image {
        sum_coll =
            SUM_MOST;
      };
    }

abbrev pub greatest_sum : List Request
greatest_sum =
    by_one 7 (Liquidate 3 1)
    ∷ []

abbrev pub greatest_sum_replies : List Reply
greatest_sum_replies =
    No (SumLimit 10000000000000000000663333333333333333)
    ∷ []
