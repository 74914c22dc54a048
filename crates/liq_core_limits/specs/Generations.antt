-- What a generation of the journal takes, and what a rotation makes of it.
use Rattle.std.specs.Prelude.{ℕ, ◌+◌, ◌==◌, nat_le, List, [], ◌∷◌}
use Rattle.liq_types.specs.declared.amounts.TheConstants.{LIM, RECORDS_MOST}
use Rattle.liq_types.specs.declared.replies.Refusal.TheVariants.{AmountLimit, AmountZero, JournalFull}
use Rattle.liq_types.specs.Rules.{Rule, where_above}
use Rattle.liq_core_limits.specs.declared.generation.Generation.{Generation}

-- collateral that comes in is some, and with what is inside it passes no limit
abbrev pub inflow_rules : Generation → ℕ → ℕ → List Rule
inflow_rules g brought coll = (coll == 0, AmountZero) ∷ where_above (brought + coll) g.limit
    AmountLimit ∷ []

-- a journal is full until it is rotated
abbrev pub record_rules : Generation → List Rule
record_rules g = (nat_le RECORDS_MOST g.records, JournalFull RECORDS_MOST) ∷ []

-- the one that a rotation begins, under the greatest limit
abbrev pub next_generation : Generation → Generation
next_generation g = record { number = g.number + 1; limit = LIM; records = 0 }
