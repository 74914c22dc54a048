-- Protocols with one image and as many records have one list.
use Rattle.std.proofs.Common.{◌≡◌, sym, ◌∙◌}
use Rattle.liq_types.specs.State.{State}
use Rattle.liq_order.specs.Order.{trove_order}
use Rattle.liq_core.specs.Core.{Core, SameContent, StandsFor, state_of}

pub same_content :
    (old new : Core) → new.image ≡ old.image → new.records ≡ old.records → StandsFor old (state_of old)
    → ((s : State) → StandsFor old s → old.list ≡ trove_order s)
    → ((s : State) → StandsFor new s → new.list ≡ trove_order s) → SameContent old new
same_content old new image records stands old_list new_list =
    let s = state_of old in
    let also : StandsFor new s =
    record { image = image ∙ stands.image; records = records ∙ stands.records; formed = stands.formed } in
    record { image = image; records = records; list = new_list s also ∙ sym (old_list s stands) }
