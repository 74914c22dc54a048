use Rattle.std.proofs.Common.{ap, ◌∙◌, Option}
use Rattle.std.specs.Prelude.{List, reverse, option_map}
use Rattle.liq_types.specs.Ranked.{Ranked, first_of}
use Rattle.liq_list_index.specs.declared.longs.Long.{Long}
use Rattle.liq_list_index.specs.EntrySets.{ranked_long, IsHalved}
use Rattle.liq_list_index.proofs.Halves.{halved_order, long_order}
use Rattle.liq_list_index.proofs.Stored.{last_is}
use Rattle.liq_list_index.proofs.longs.Longs.last.Goals as goal

pub returns : goal.returns
returns c =
    c.place_of.ensures.place
    ∙ ap (λ (o : Option Long). option_map ranked_long o) c.copied.ensures
    ∙ last_is halved_order ranked_long IsHalved long_order c.self.inside.entries.keys c.last.result
    c.last.ensures.variant c.last.ensures.last
    ∙ ap (λ (l : List Ranked). first_of (reverse l)) c.self.view_is
