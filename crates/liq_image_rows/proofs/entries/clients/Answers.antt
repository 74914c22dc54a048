use Rattle.std.proofs.Common.{rules, Ok, refl, ◌∙◌}
use Rattle.std.proofs.lemmas.Iterator.{YieldsList-from_slice, YieldsList-from_map, items_from_collect}
use Rattle.liq_types.specs.ImageRows.{client_row}
use Rattle.liq_image_rows.proofs.entries.clients.Goals as goal

pub returns : goal.returns
returns c =
    items_from_collect {E = Unit {0}} (Ok c.in_ok-collect.field-0) c.in_ok-collect.ensures.ran
    (YieldsList-from_map _ client_row (YieldsList-from_slice c.rows.result.now cc) refl (λ x r q k. search rules))
    ∙ c.rows.ensures
