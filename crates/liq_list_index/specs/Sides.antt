-- What stands on either side of a place in the ordered list.
use Rattle.std.specs.Prelude.{◌==◌, ℕ, List, Option, Some, None, if◌then◌else◌}
use Rattle.liq_types.specs.Ranked.{Ranked, account_of, without_ranked}
use Rattle.liq_list_chunks.specs.Entries.{entry_before, entry_after}
use Rattle.liq_list_index.specs.declared.sides.Side.{Side}
use Rattle.liq_list_index.specs.declared.sides.Side.TheVariants.{Before, After}

-- the entry next before a place or next after it
abbrev pub entry_beside : Side → List Ranked → Ranked → Option Ranked
entry_beside Before list e = entry_before list e
entry_beside After list e = entry_after list e

-- its account, with that of the place itself left out
abbrev pub account_aside : Side → List Ranked → Ranked → Option ℕ
account_aside side list e = account_of (entry_beside side (without_ranked list e.1) e)

-- the account of an entry, or of the next one on that side where it is one's own
abbrev pub past_own : Side → List Ranked → ℕ → Option Ranked → Option ℕ
past_own side list own None = None
past_own side list own (Some e) = if e.1 == own then account_of (entry_beside side list e)
    else Some e.1
