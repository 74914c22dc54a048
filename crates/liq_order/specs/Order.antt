-- The trove order: all troves, ranked by their keys. The last one counts as that of the lowest
-- ratio.
use Rattle.std.specs.Prelude.{ℕ, List, map, Option}
pub use Rattle.liq_types.specs.Ranked.{Ranked, rank_order, with_ranked, sorted, first_of, account_of, IsInOrder, IsAscending, IsTight, from_last, last_account}
use Rattle.liq_types.specs.declared.figures.Trove.{Trove}
use Rattle.liq_types.specs.State.{State}
use Rattle.liq_types.specs.Tables.{Table}
use Rattle.liq_troves.specs.Rows.{key_by}
use Rattle.liq_troves.specs.StakeSums.{trove_rows}

-- each trove under its key
abbrev pub ranks : Table Trove → List Ranked
ranks troves = map (λ row. (key_by row.1, row.0)) troves

abbrev pub order_by : Table Trove → List Ranked
order_by troves = sorted (ranks troves)

-- ---- in a state

abbrev pub trove_order : State → List Ranked
trove_order s = order_by (trove_rows s)

-- the accounts from the list's end to its front
abbrev pub from_lowest : State → List ℕ
from_lowest s = from_last (trove_order s)

abbrev pub last_trove : State → Option ℕ
last_trove s = last_account (trove_order s)
