-- Commands and bytes of the worked examples.
use Rattle.std.specs.Prelude.{ℕ, List, [], ◌∷◌, replicate}
use Rattle.liq_types.specs.declared.amounts.TheConstants.{LIM, LIM_OF_VERSION_1}
use Rattle.liq_types.specs.declared.image.Image.{Image}
use Rattle.liq_types.specs.declared.requests.Call.TheVariants.{Price, Fund, Rotate}
use Rattle.liq_types.specs.declared.requests.Command.{Command}
use Rattle.liq_types.specs.State.{opening}
use Rattle.liq_rule_step.specs.Image.{image}
use Rattle.liq_rule_step.specs.Step.{after}
use Rattle.liq_journal.specs.Crash.{beginning}
use Rattle.liq_journal.specs.Written.{Found, Open, Written}

abbrev pub fund : Command
fund = record { client = 1; number = 1; call = Fund 7 30 }

-- a client's first command has the number 1
abbrev pub early : Command
early = record { client = 1; number = 2; call = Fund 7 30 }

abbrev pub price_of_nothing : Command
price_of_nothing = record { client = 2; number = 1; call = Price 0 }

-- an open gate, and behind it nothing that names a journal
abbrev pub unnamed : List ℕ
unnamed = 1 ∷ replicate 56 0

-- a journal of this generation with these commands
abbrev pub open_with : ℕ → List Command → Found
open_with generation commands = Open (record (beginning generation []) { commands = commands })

-- a journal of version 1 without records
abbrev pub begun_by_version_1 : ℕ → List ℕ → Written
begun_by_version_1 generation checkpoint =
    record (beginning generation checkpoint) { limit = LIM_OF_VERSION_1 }

abbrev pub rotate : Command
rotate = record { client = 1; number = 1; call = Rotate }

-- the image after a rotation of the opening, which is of generation 2, with this limit and this
-- price
abbrev pub rotated_with : ℕ → ℕ → Image
rotated_with limit price = record (image (after opening rotate)) { limit = limit; price = price }

abbrev pub rotated_at : ℕ → Image
rotated_at price = rotated_with LIM price
