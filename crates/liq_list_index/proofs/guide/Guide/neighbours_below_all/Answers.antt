use Rattle.std.proofs.Common.{ℕ, List, sym, ap, ◌∙◌}
use Rattle.std.specs.Prelude.{Option}
use Rattle.liq_types.specs.Ranked.{Ranked, neighbours}
use Rattle.liq_list_index.specs.Rows.{key_at}
use Rattle.liq_list_index.specs.Sides.{account_aside}
use Rattle.liq_list_index.specs.declared.sides.Side.TheVariants.{Before}
use Rattle.liq_list_index.proofs.Standing.{stand_once}
use Rattle.liq_list_index.proofs.guide.Guide.neighbours_below_all.Goals as goal

pub first_account-requires-clause-once : goal.first_account-requires-clause-once
first_account-requires-clause-once c = stand_once (key_at c.self.inside.rows.stands) c.self.inside.rows.places
    c.self.invariant.0

pub returns : goal.returns
returns c key low =
    let list = c.self.inside.rows.places in
    let e : Ranked = (key, c.args.account) in
    ap (λ (a : Option ℕ). (a, c.first_account.result)) (sym (c.first_account.ensures.prev key low))
    ∙ ap (λ (a : Option ℕ). (account_aside Before list e, a)) (c.first_account.ensures.next key low)
    ∙ ap (λ (l : List Ranked). neighbours l e) c.self.view_is
