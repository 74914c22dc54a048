-- What the calls leave that put a market into a place, and those that tell of one.
use Rattle.std.specs.Prelude.{◌≡◌, ℕ, ◌<◌, ◌≤◌, ◌⊎◌, ◌==◌, min, nat_lt, List, [], length, drop}
use Rattle.std.specs.Prelude.{Option, Some, None, if◌then◌else◌}
use Rattle.liq_types.specs.Soundness.{first_unsound}
use Rattle.liq_types.specs.declared.image.Image.{Image}
use Rattle.liq_core.specs.Core.{SameContent}
use Rattle.liq_core.specs.Entries.{laid}
use Rattle.liq_market.specs.Content.{Content}
use Rattle.liq_market.specs.Lists.{accounts_in}
use Rattle.liq_market.specs.Saving.{IsSave, saved}
use Rattle.liq_market.specs.declared.lists.AccountList.{AccountList}
use Rattle.liq_market.specs.declared.lists.AccountList.TheVariants.{Troves, Deposits, Wallets}
use Rattle.liq_market.specs.declared.lists.AccountList.TheVariants.{Touched}
use Rattle.liq_batch.specs.Batch.{Writes}
use Rattle.liq_c.specs.declared.statuses.Done.{Done}
use Rattle.liq_c.specs.declared.statuses.TheConstants.{OK, NO_MARKET, NO_MEMORY, BAD, SHORT}

-- what another place has behind a fork of a market
abbrev pub Copies : Option Content → (old new : Option Content) → ℕ → Type 0
Copies None old new status = (status ≡ NO_MARKET) × (new ≡ old)
Copies (Some m) old new status =
    ((status ≡ OK)
    × ((fork : Content) × (new ≡ Some fork) × SameContent m.core fork.core × (fork.touched ≡ [])))
    ⊎ ((status ≡ NO_MEMORY) × (new ≡ old))

abbrev pub save_of : Content → List ℕ
save_of m = saved m.core.image m.core.records

-- what stands in some bytes into which a save is to go
abbrev pub SavesAs : List ℕ → (old new : List ℕ) → ℕ → Type 0
SavesAs save old new status =
    ((status ≡ OK) × (length save ≤ length old) × Writes old save new)
    ⊎ ((status ≡ SHORT) × (length old < length save) × (new ≡ old))
    ⊎ ((status ≡ NO_MEMORY) × (length save ≤ length old) × (new ≡ old))

abbrev pub Saves : Option Content → (old new : List ℕ) → ℕ → Type 0
Saves None old new status = (status ≡ NO_MARKET) × (new ≡ old)
Saves (Some m) old new status = SavesAs (save_of m) old new status

-- bytes are the save of a sound image beside its records
abbrev pub IsSoundSave : List ℕ → Image → ℕ → Type 0
IsSoundSave bytes i records = IsSave bytes i records × (first_unsound i records ≡ None)

-- what a place has behind the load of some bytes
abbrev pub Loads : List ℕ → (old new : Option Content) → ℕ → Type 0
Loads bytes old new status =
    ((status ≡ OK)
    × ((m : Content) × (new ≡ Some m) × IsSoundSave bytes m.core.image m.core.records
    × (m.touched ≡ [])))
    ⊎ ((status ≡ BAD) × (new ≡ old)
    × ((i : Image) (records : ℕ) → IsSoundSave bytes i records → ⊥))
    ⊎ ((status ≡ NO_MEMORY) × (new ≡ old))

-- ---- lists of accounts

abbrev pub list_in : ℕ → Option AccountList
list_in which =
    if which == 1 then Some Troves
    else if which == 2 then Some Deposits
    else if which == 3 then Some Wallets
    else if which == 4 then Some Touched
    else None

-- how a call ends that lists so many accounts, with so many places for them
abbrev pub listed : (accounts places : ℕ) → Done
listed accounts places = record {
  done = min accounts places;
  status = if nat_lt places accounts then SHORT else OK;
}

-- what stands in some places into which a list goes from an index on; for two lists memory is
-- wanted
abbrev pub ListsAs : Content → AccountList → ℕ → (old new : List ℕ) → Done → Type 0
ListsAs m list from old new result =
    ((new ≡ laid (drop from (accounts_in list m)) old)
    × (result ≡ listed (length (drop from (accounts_in list m))) (length old)))
    ⊎ ((result ≡ record { done = 0; status = NO_MEMORY }) × (new ≡ old)
    × ((list ≡ Deposits) ⊎ (list ≡ Wallets)))

abbrev pub ListsIn : Content → Option AccountList → ℕ → (old new : List ℕ) → Done → Type 0
ListsIn m None from old new result =
    (result ≡ record { done = 0; status = BAD }) × (new ≡ old)
ListsIn m (Some list) from old new result = ListsAs m list from old new result

abbrev pub Lists : Option Content → (which from : ℕ) → (old new : List ℕ) → Done → Type 0
Lists None which from old new result =
    (result ≡ record { done = 0; status = NO_MARKET }) × (new ≡ old)
Lists (Some m) which from old new result = ListsIn m (list_in which) from old new result
