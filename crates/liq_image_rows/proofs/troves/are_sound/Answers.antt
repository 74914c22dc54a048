use Rattle.std.proofs.Common.{rules, tests, ◌∙◌, ap}
use Rattle.std.proofs.lemmas.Iterator.{YieldsList-from_slice}
use Rattle.std.proofs.lemmas.Iterator.Search.{all_from_yields_List}
use Rattle.std.specs.List.{list_all}
use Rattle.std.specs.Map.{values_of}
use Rattle.liq_types.specs.declared.image.TroveRow.{TroveRow}
use Rattle.liq_types.specs.ImageRows.{trove_row}
use Rattle.liq_types.specs.Soundness.{is_sound_trove}
use Rattle.liq_image_rows.proofs.Rows.{all-part}
use Rattle.liq_image_rows.proofs.troves.are_sound.Goals as goal

pub returns : goal.returns
returns c =
    let sound = is_sound_trove c.args.sum_coll c.args.sum_debt in
    all_from_yields_List (λ (row : TroveRow). sound (trove_row row).1) _ _ _ c.all.ensures.ran
    (YieldsList-from_slice c.rows.result.now cc) (λ x b q k. search (rules, tests))
    ∙ all-part trove_row (λ e. e.1) sound c.rows.result.now
    ∙ ap (λ t. list_all sound (values_of t)) c.rows.ensures
