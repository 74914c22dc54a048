use Rattle.std.proofs.Common.{ap, sym, ◌∙◌, arith}
use Rattle.std.specs.Prelude.{option_copied}
use Rattle.liq_types.proofs.Lookups.{length-put}
use Rattle.liq_core_limits.proofs.Counting.{length_again}
use Rattle.liq_core_limits.proofs.clients.clients_with.Goals as goal

pub returns-in-Some : goal.returns-in-Some
returns-in-Some c row =
    let there = sym c.get.ensures.row ∙ ap option_copied c.in-Some.is in
    let same = length_again c.args.clients.now.rows c.args.client row c.in-Some.field-0.now c.get.ensures.ascend there
    in
    omega (arith, same, c.count-count.ensures)

pub returns-in-None : goal.returns-in-None
returns-in-None c row =
    let none = sym c.get.ensures.row ∙ ap option_copied c.in-None.is in
    let more = length-put c.args.clients.now.rows c.args.client row none in
    omega (arith, more, c.count-count.ensures)
