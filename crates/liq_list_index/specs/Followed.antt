-- What changes make of the ordered list, and where the entry stands that they put last.
use Rattle.std.specs.Prelude.{List, fold, filter_map, reverse, Option, Some, None, option_map}
use Rattle.liq_types.specs.declared.events.ListChange.{ListChange}
use Rattle.liq_types.specs.declared.events.ListChange.TheVariants.{Put, Gone, Words}
use Rattle.liq_types.specs.declared.hints.Hint.{Hint}
use Rattle.liq_types.specs.Ranked.{Ranked, with_ranked, without_ranked, first_of, neighbours}

-- the list after a change; the words are no part of it
abbrev pub listed : List Ranked → ListChange → List Ranked
listed list (Put key account) = with_ranked (without_ranked list account) (key, account)
listed list (Gone account) = without_ranked list account
listed list (Words snap_stakes snap_coll sum_debt) = list

abbrev pub all_listed : List Ranked → List ListChange → List Ranked
all_listed list changes = fold listed list changes

-- ---- the entry that is put last

-- the entry that a change puts
abbrev pub put_by : ListChange → Option Ranked
put_by (Put key account) = Some (key, account)
put_by (Gone account) = None
put_by (Words snap_stakes snap_coll sum_debt) = None

abbrev pub last_put : List ListChange → Option Ranked
last_put changes = first_of (filter_map put_by (reverse changes))

-- between whom an entry stands in a list
abbrev pub hint_at : List Ranked → Ranked → Hint
hint_at list e = record { prev = (neighbours list e).0; next = (neighbours list e).1; version = 0 }

-- between whom that one stands which is put last, if any is put
abbrev pub hint_of_last : List Ranked → List ListChange → Option Hint
hint_of_last list changes = option_map (hint_at list) (last_put changes)
