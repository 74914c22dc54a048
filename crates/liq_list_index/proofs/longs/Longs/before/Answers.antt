use Rattle.std.proofs.Common.{ap, ◌∙◌, map, Option}
use Rattle.std.specs.Prelude.{List, option_map}
use Rattle.liq_types.specs.Ranked.{Ranked}
use Rattle.liq_list_index.specs.declared.longs.Long.{Long}
use Rattle.liq_list_index.specs.EntrySets.{ranked_long, IsHalved}
use Rattle.liq_list_chunks.specs.Entries.{entry_before}
use Rattle.liq_list_index.proofs.Halves.{halved_order, long_order}
use Rattle.liq_list_index.proofs.Stored.{before_is}
use Rattle.liq_list_index.proofs.longs.Longs.before.Goals as goal

pub returns : goal.returns
returns c =
    let es = c.self.inside.entries.keys in
    c.place_of.ensures.place
    ∙ ap (λ (o : Option Long). option_map ranked_long o) c.copied.ensures
    ∙ before_is halved_order ranked_long IsHalved long_order es c.range.result c.next_back.new.self c.of.result
    c.next_back.result c.self.invariant.0 c.of.ensures.low (c.range.ensures.between tt) c.next_back.ensures.steps
    ∙ ap (λ (e : Ranked). entry_before (map ranked_long es) e) c.of.ensures.same
    ∙ ap (λ (l : List Ranked). entry_before l c.args.place) c.self.view_is
