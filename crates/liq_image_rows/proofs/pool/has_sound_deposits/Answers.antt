use Rattle.std.proofs.Common.{rules, tests, ◌∙◌, ap}
use Rattle.std.specs.List.{list_all}
use Rattle.std.specs.Map.{values_of}
use Rattle.std.proofs.lemmas.Iterator.{YieldsList-from_slice}
use Rattle.std.proofs.lemmas.Iterator.Search.{all_from_yields_List}
use Rattle.liq_types.specs.declared.image.DepositRow.{DepositRow}
use Rattle.liq_types.specs.ImageRows.{deposit_row}
use Rattle.liq_image_rows.specs.Parts.{is_deposit_of}
use Rattle.liq_image_rows.proofs.Rows.{all-part}
use Rattle.liq_image_rows.proofs.pool.has_sound_deposits.Goals as goal

pub returns : goal.returns
returns c =
    let sound = is_deposit_of c.args.image.now in
    all_from_yields_List (λ (row : DepositRow). sound (deposit_row row).1) _ _ _ c.all.ensures.ran
    (YieldsList-from_slice c.rows-rows.result.now cc) (λ x b q k. search (rules, tests))
    ∙ all-part deposit_row (λ e. e.1) sound c.rows-rows.result.now
    ∙ ap (λ t. list_all sound (values_of t)) c.rows-rows.ensures
