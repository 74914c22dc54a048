use Rattle.std.proofs.Common.{rules, tests, ◌∙◌, ap}
use Rattle.std.proofs.lemmas.Iterator.{YieldsList-from_slice}
use Rattle.std.proofs.lemmas.Iterator.Search.{all_from_yields_List}
use Rattle.std.specs.List.{list_all}
use Rattle.std.specs.Map.{values_of}
use Rattle.liq_types.specs.declared.image.ClientRow.{ClientRow}
use Rattle.liq_types.specs.ImageRows.{client_row}
use Rattle.liq_types.specs.Soundness.{is_sound_client}
use Rattle.liq_image_rows.proofs.Rows.{all-part}
use Rattle.liq_image_rows.proofs.clients.has_sound_clients.Goals as goal

pub returns : goal.returns
returns c =
    all_from_yields_List (λ (row : ClientRow). is_sound_client (client_row row).1) _ _ _ c.all.ensures.ran
    (YieldsList-from_slice c.rows.result.now cc) (λ x b q k. search (rules, tests))
    ∙ all-part client_row (λ e. e.1) is_sound_client c.rows.result.now
    ∙ ap (λ t. list_all is_sound_client (values_of t)) c.rows.ensures
