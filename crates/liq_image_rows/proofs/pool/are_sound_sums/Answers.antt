use Rattle.std.proofs.Common.{rules, tests, ◌∙◌, ap, sym}
use Rattle.std.proofs.lemmas.Iterator.{YieldsList-from_slice}
use Rattle.std.proofs.lemmas.Iterator.Search.{all_from_yields_List}
use Rattle.std.specs.List.{list_all}
use Rattle.std.proofs.lemmas.List.Folds.{list_all-map}
use Rattle.liq_types.specs.declared.image.FinishedSum.{FinishedSum}
use Rattle.liq_types.specs.ImageRows.{finished_row}
use Rattle.liq_image_rows.specs.Parts.{is_sound_sum}
use Rattle.liq_image_rows.proofs.pool.are_sound_sums.Goals as goal

pub returns : goal.returns
returns c =
    let sound = is_sound_sum c.args.now in
    all_from_yields_List (λ (row : FinishedSum). sound (finished_row row)) _ _ _ c.all.ensures.ran
    (YieldsList-from_slice c.rows.result.now cc) (λ x b q k. search (rules, tests))
    ∙ sym (list_all-map sound finished_row c.rows.result.now)
    ∙ ap (λ t. list_all sound t) c.rows.ensures
