use Rattle.std.proofs.Common.{◌∙◌}
use Rattle.liq_list_index.proofs.Beside.{below_all, none_before, first_is}
use Rattle.liq_list_index.proofs.sides.first_account.Goals as goal

pub returns-clause-prev : goal.returns-clause-prev
returns-clause-prev c key low =
    let list = c.args.places.now in
    none_before list (key, c.args.aside) (below_all list key c.args.aside c.first.result c.first.ensures.first
    (c.first.ensures.least key low) c.requires.ascending)

pub returns-clause-next : goal.returns-clause-next
returns-clause-next c key low =
    c.past_own.ensures
    ∙ first_is c.args.places.now key c.args.aside c.first.result c.first.ensures.first (c.first.ensures.least key low)
    c.requires.ascending c.requires.once
