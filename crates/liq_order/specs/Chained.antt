-- Entries that come all at once: each node is at the place of its number.
use Rattle.std.specs.Prelude.{ℕ, zero, suc, List, [], ◌∷◌, Option, None, Some, if◌then◌else◌, nat_lt}
use Rattle.liq_types.specs.Ranked.{Ranked}
use Rattle.liq_order.specs.Accounts.{Row}
use Rattle.liq_order.specs.declared.places.Node.{Node}
use Rattle.liq_order.specs.declared.places.NodeNo.{NodeNo}

-- the place before a number
abbrev pub before : ℕ → Option NodeNo
before zero = None
before (suc i) = Some (record { 0 = i })

-- the place of a number, where there are more places than that
abbrev pub below : ℕ → ℕ → Option NodeNo
below n i = if nat_lt i n then Some (record { 0 = i }) else None

-- an entry's node, of so many in all
abbrev pub chained_node : ℕ → ℕ → Ranked → Node
chained_node n i e =
    record { key = e.0; account = e.1; previous = before i; next = below n (suc i) }

-- the nodes of entries from a number on
abbrev pub chained : ℕ → ℕ → List Ranked → List Node
chained n i [] = []
chained n i (e ∷ es) = chained_node n i e ∷ chained n (suc i) es

abbrev pub rows_from : ℕ → List Ranked → List Row
rows_from i [] = []
rows_from i (e ∷ es) = (e.1, record { 0 = i }) ∷ rows_from (suc i) es

abbrev pub numbered : ℕ → List Ranked → List NodeNo
numbered i [] = []
numbered i (e ∷ es) = record { 0 = i } ∷ numbered (suc i) es
