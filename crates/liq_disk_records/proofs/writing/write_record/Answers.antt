use Rattle.std.proofs.Common.{◌≡◌, ◌∙◌, List, ℕ, Ok, false}
use Rattle.liq_types.specs.declared.requests.Command.{Command}
use Rattle.liq_wire.specs.Fields.{command_of, heard}
use Rattle.liq_journal.specs.Crash.{IsBodyOf}
use Rattle.liq_types.specs.Verbs.{is_rotate}
use Rattle.liq_disk_pair.proofs.Hints.{heard_rotate}
use Rattle.liq_disk_pair.specs.Commands.{read_back}
use Rattle.liq_disk_records.proofs.writing.write_record.Goals as goal

-- the bytes are those of the command, as it is read back
of : (body : List ℕ) (c : Command) → is_rotate c.call ≡ false → command_of body ≡ Ok (record c { call = heard c.call })
    → IsBodyOf body (read_back c)
of body c stays read = record { spelled = read; no_rotation = heard_rotate c ∙ stays }

pub returns-in-Ok-clause-appended : goal.returns-in-Ok-clause-appended
returns-in-Ok-clause-appended g c held w told stands =
    c.in-Ok.ensures.appended held w (read_back c.args.command.now) told stands
    (of c.encode.result c.args.command.now c.requires.stays c.encode.ensures.read)

pub returns-in-Ok-clause-settled : goal.returns-in-Ok-clause-settled
returns-in-Ok-clause-settled g c =
    c.in-Ok.ensures.settled (read_back c.args.command.now) (of c.encode.result c.args.command.now c.requires.stays
    c.encode.ensures.read)

pub returns-in-Ok-clause-crash : goal.returns-in-Ok-clause-crash
returns-in-Ok-clause-crash g c held w told only stands =
    c.in-Ok.ensures.crash held w (read_back c.args.command.now) told only stands
    (of c.encode.result c.args.command.now c.requires.stays c.encode.ensures.read)

pub returns-in-Err-clause-crash : goal.returns-in-Err-clause-crash
returns-in-Err-clause-crash g c held w told only stands =
    c.in-Err.ensures.crash held w (read_back c.args.command.now) told only stands
    (of c.encode.result c.args.command.now c.requires.stays c.encode.ensures.read)
