-- What a look at a disk tells: its header alone, with the digest of the checkpoint.
use Rattle.std.specs.Prelude.{ℕ, List, Bool, Option, Some, None, Result, Ok, Err, if◌then◌else◌}
use Rattle.liq_journal.specs.declared.damage.What.{What}
use Rattle.liq_journal.specs.declared.answers.Look.{Look}
use Rattle.liq_journal.specs.declared.answers.Look.TheVariants.{Absent, Open}
use Rattle.liq_journal.specs.declared.answers.LookFault.{LookFault}
use Rattle.liq_journal.specs.declared.answers.LookFault.TheVariants.{Damaged}
use Rattle.liq_disk_header.specs.Layout.{Layout, layout_on, generation_on}
use Rattle.liq_journal.specs.Written.{first_fault, header_tests}
use Rattle.liq_disk_header.specs.Header.{is_absent}

-- what a look tells of a disk whose gate is open, by the first fault of its header
abbrev pub look_behind : List ℕ → Option What → Result Look LookFault
look_behind bytes None = Ok (Open (generation_on bytes))
look_behind bytes (Some what) = Err (Damaged (record { index = 0; what = what }))

-- what a look at a disk tells by the tests of this version
abbrev pub look_in : Layout → Bool → List ℕ → Result Look LookFault
look_in layout odd bytes =
    let fault = first_fault (header_tests layout odd bytes) in
    if is_absent bytes then Ok Absent else look_behind bytes fault

unfoldable pub look_on : Bool → List ℕ → Result Look LookFault
look_on odd bytes = look_in (layout_on bytes) odd bytes
