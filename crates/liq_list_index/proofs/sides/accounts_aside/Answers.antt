use Rattle.std.proofs.Common.{ℕ, sym, ap, ◌∙◌}
use Rattle.std.specs.Prelude.{Option}
use Rattle.liq_types.specs.Ranked.{Ranked}
use Rattle.liq_list_index.specs.Sides.{account_aside, past_own}
use Rattle.liq_list_index.specs.declared.sides.Side.TheVariants.{Before, After}
use Rattle.liq_list_index.proofs.Beside.{aside_is}
use Rattle.liq_list_index.proofs.sides.accounts_aside.Goals as goal

pub returns : goal.returns
returns c =
    let list = c.args.places.now in
    let place = c.args.place in
    let before = c.past_own.ensures
    ∙ ap (λ (found : Option Ranked × Option Ranked). past_own Before list place.1 found.0) c.beside-before.ensures
    ∙ sym (aside_is Before list place c.requires.ascending c.requires.once) in
    let after = c.past_own-2.ensures
    ∙ ap (λ (found : Option Ranked × Option Ranked). past_own After list place.1 found.1) c.beside-before.ensures
    ∙ sym (aside_is After list place c.requires.ascending c.requires.once) in
    ap (λ (o : Option ℕ). (o, c.past_own-2.result)) before
    ∙ ap (λ (o : Option ℕ). (account_aside Before list place, o)) after
