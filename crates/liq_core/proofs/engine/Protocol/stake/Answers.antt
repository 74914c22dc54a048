use Rattle.std.proofs.Common.{ℕ, ap, sym, ◌∙◌, Option}
use Rattle.std.specs.Prelude.{option_copied, option_map, unwrap_or}
use Rattle.liq_types.specs.declared.figures.Trove.{Trove}
use Rattle.liq_types.specs.Tables.{Table, at}
use Rattle.liq_troves.specs.StakeSums.{trove_rows}
use Rattle.liq_core.specs.Core.{Core, state_of}
use Rattle.liq_core.proofs.Planning.{its_rows}
use Rattle.liq_core.proofs.engine.Protocol.stake.Goals as goal

abbrev stake_in : Option Trove → ℕ
stake_in o = unwrap_or (option_map (λ (t : Trove). t.stake) o) 0

pub returns-in-Some : goal.returns-in-Some
returns-in-Some c =
    let account = c.args.account in
    ap stake_in (sym (ap option_copied c.in-Some.is) ∙ c.get.ensures.row)
    ∙ ap (λ (t : Table Trove). stake_in (at t account)) (its_rows c.self.inside c.self.invariant)
    ∙ ap (λ (core : Core). stake_in (at (trove_rows (state_of core)) account)) c.self.view_is

pub returns-in-None : goal.returns-in-None
returns-in-None c =
    let account = c.args.account in
    ap stake_in (sym (ap option_copied c.in-None.is) ∙ c.get.ensures.row)
    ∙ ap (λ (t : Table Trove). stake_in (at t account)) (its_rows c.self.inside c.self.invariant)
    ∙ ap (λ (core : Core). stake_in (at (trove_rows (state_of core)) account)) c.self.view_is
