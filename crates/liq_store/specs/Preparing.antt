-- What comes of a command before anything is written.
use Rattle.std.specs.Prelude.{◌≡◌, ◌<◌, ◌≤◌, ◌+◌, ℕ, List, false, length}
use Rattle.liq_types.specs.declared.amounts.TheConstants.{RECORDS_MOST}
use Rattle.liq_types.specs.declared.hints.Hint.{Hint}
use Rattle.liq_types.specs.declared.requests.Command.{Command}
use Rattle.liq_types.specs.declared.requests.Request.TheVariants.{Do}
use Rattle.liq_types.specs.State.{State}
use Rattle.liq_types.specs.Ranked.{Ranked}
use Rattle.liq_list_index.specs.Followed.{all_listed}
use Rattle.liq_core.specs.Core.{Core}
use Rattle.liq_core.specs.Plan.{HasRoom, IsPlan}
use Rattle.liq_core.specs.Steps.{last_put, words_of}
use Rattle.liq_core_hinted.specs.Hints.{IsExact}
use Rattle.liq_rule_step.specs.Step.{Refused, Repeated, ruling}
use Rattle.liq_rule_step.specs.Verbs.{unhinted}
use Rattle.liq_types.specs.Verbs.{is_rotate}
use Rattle.liq_rule_step.specs.Memory.{TakesMemory}
use Rattle.liq_store.specs.declared.preparing.Prepared.{Prepared}
use Rattle.liq_store.specs.declared.preparing.Prepared.TheVariants.{Ready, Again, No, NoMemory}

-- It is planned without its own hint words; or it comes again, or is refused; or memory was asked
-- for.
abbrev pub IsPrepared : State → Command → Prepared → Type 0
IsPrepared s c (Ready plan hints) = (plan.command ≡ unhinted c) × IsPlan s plan
IsPrepared s c (Again kept) = ruling s c ≡ Repeated kept
IsPrepared s c (No refusal) = ruling s c ≡ Refused refusal
IsPrepared s c NoMemory = TakesMemory s (Do c)

-- for what is planned there is room, and in the journal for one record more, unless it is a
-- rotation
abbrev pub IsReady : Command → Core → Prepared → Type 0
IsReady c core (Ready plan hints) =
    (plan.command ≡ unhinted c) × HasRoom core plan × (is_rotate c.call ≡ false
    → core.records < RECORDS_MOST)
IsReady c core _ = Unit {0}

-- behind so many changes there is room for those of what is planned
abbrev pub HasRoomBehind : (count capacity : ℕ) → Prepared → Type 0
HasRoomBehind count capacity (Ready plan hints) = count + length plan.changes ≤ capacity
HasRoomBehind count capacity _ = Unit {0}

-- the guide says between whom the account stands that is put last, once the list has the changes of
-- what is planned; and nothing, where none is put
abbrev pub IsGuided : List Ranked → Prepared → Type 0
IsGuided list (Ready plan hints) =
    IsExact (all_listed list plan.changes) (last_put plan.changes) hints.exact
IsGuided list _ = Unit {0}

-- beside the guide's there are the command's own words, and the hint that is given
abbrev pub IsHinted : Command → Hint → Prepared → Type 0
IsHinted c given (Ready plan hints) = (hints.words ≡ words_of c.call) × (hints.given ≡ given)
IsHinted c given _ = Unit {0}
