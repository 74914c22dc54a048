use Rattle.std.proofs.Common.{◌≡◌, ◌-◌, None, sym, subst, ap, ◌∙◌}
use Rattle.std.specs.Prelude.{option_copied}
use Rattle.liq_types.specs.Tables.{at}
use Rattle.liq_rewards.specs.Rows.{Counted, IsRowOf}
use Rattle.liq_rewards.proofs.Finding.{is_row, has_none}
use Rattle.liq_rewards.proofs.rows.Rows.place.Goals as goal

pub returns-in_err-number-clause-none : goal.returns-in_err-number-clause-none
returns-in_err-number-clause-none c _ place k =
    let none : at c.self.inside.numbers.rows c.args.account ≡ None = sym c.get.ensures.row
    ∙ ap option_copied c.in_err-number.was in
    has_none c.self.inside.numbers.rows c.self.inside.rows.items c.self.invariant.found c.args.account none place
    (subst (λ (v : Counted). IsRowOf v.rows c.args.account place) (sym c.self.view_is) k)

pub returns-clause-found : goal.returns-clause-found
returns-clause-found c =
    subst (λ (v : Counted). IsRowOf v.rows c.args.account (c.in_ok-number.field-0.now - 1)) c.self.view_is
    (is_row c.self.inside.numbers.rows c.self.inside.rows.items c.self.invariant.found c.args.account
    c.in_ok-number.field-0.now (sym c.get.ensures.row ∙ ap option_copied c.in_ok-number.was))
