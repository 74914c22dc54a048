-- Which hint a command uses, what it puts into the list, and how many steps that takes.
use Rattle.std.specs.Prelude.{◌&&◌, is_none, List, [], ◌∷◌, Option, Some, None, if◌then◌else◌}
use Rattle.std.specs.Option.{option_or}
use Rattle.liq_types.specs.declared.events.ListChange.{ListChange}
use Rattle.liq_types.specs.declared.events.ListChange.TheVariants.{Put}
use Rattle.liq_types.specs.declared.hints.Hint.{Hint}
use Rattle.liq_types.specs.declared.hints.HintWords.{HintWords}
use Rattle.liq_types.specs.declared.requests.Call.{Call}
use Rattle.liq_types.specs.declared.requests.Call.TheVariants.{Open, Adjust, GainToTrove, Redeem}
use Rattle.liq_types.specs.Ranked.{Ranked}
use Rattle.liq_trove_moves.specs.Steps.{entry_in}
use Rattle.liq_redemption.specs.Last.{last_entry}
use Rattle.liq_rule_step.specs.Verbs.{no_hint}
use Rattle.liq_core.specs.declared.effects.Move.{Move}
use Rattle.liq_core.specs.declared.effects.Move.TheVariants as moves

-- ---- hints

-- the hint words of a call
abbrev pub words_of : Call → HintWords
words_of (Open account coll borrow bound words) = words
words_of (Adjust account coll_in coll_out borrow repay bound words) = words
words_of (GainToTrove account words) = words
words_of (Redeem account lusd bound words) = words
words_of call = no_hint

-- a command's own words, where one of them is there, else the given hint
abbrev pub used_hint : HintWords → Hint → Hint
used_hint words given =
    if is_none words.prev && is_none words.next
    then given
    else record { prev = words.prev; next = words.next; version = given.version }

-- ---- what is put into the list

abbrev pub put_of : ListChange → Option Ranked
put_of (Put key account) = Some (key, account)
put_of _ = None

-- the entry that is put last
abbrev pub last_put : List ListChange → Option Ranked
last_put [] = None
last_put (change ∷ changes) = option_or (last_put changes) (put_of change)

-- the entry that a move puts last, as it is found in the list
abbrev pub entry_put : Move → List Ranked → Option Ranked
entry_put (moves.Open account borrow plan words) list = entry_in list account
entry_put (moves.Adjust account change plan words) list = entry_in list account
entry_put (moves.GainToTrove account plan words) list = entry_in list account
entry_put (moves.Redeem account plan words) list = last_entry list plan.cuts
entry_put _ list = None
