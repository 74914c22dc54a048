-- How many steps it takes to put a trove into the ordered list.
use Rattle.std.specs.Prelude.{◌≡◌, ℕ, ℤ, ◌+◌, ◌≤◌, List, Option, Some, None, option_map}
use Rattle.liq_types.specs.declared.hints.Hint.{Hint}
use Rattle.liq_types.specs.Ranked.{Ranked, IsTight, key_in, without_ranked}

-- the account's entry
abbrev pub entry_in : List Ranked → ℕ → Option Ranked
entry_in list account = option_map (λ (key : ℤ). (key, account)) (key_in list account)

-- No steps where no entry was put. One that was put into a list took at most four, where the hint
-- is tight for it in the list without its account.
abbrev pub TakesFew : List Ranked → Hint → Option Ranked → ℕ → ℕ → Type 0
TakesFew list hint None old new = new ≡ old
TakesFew list hint (Some e) old new = IsTight (without_ranked list e.1) e hint.prev hint.next
    → new ≤ old + 4
