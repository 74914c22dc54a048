use Rattle.std.proofs.Common.{sym, ap, ◌∙◌, subst, map}
use Rattle.std.specs.Prelude.{List}
use Rattle.std.specs.BTreeMap.{is_at}
use Rattle.liq_types.specs.Ranked.{Ranked}
use Rattle.liq_list_index.specs.declared.longs.Long.{Long}
use Rattle.liq_list_index.specs.EntrySets.{ranked_long, AreHalved, IsHalved}
use Rattle.liq_list_chunks.specs.Entries.{without_entry}
use Rattle.liq_list_index.proofs.Halves.{halved_order, long_order}
use Rattle.liq_list_index.proofs.Stored.{fine_removed, removed_is, stored_ascending}
use Rattle.liq_list_index.proofs.longs.Longs.remove.Goals as goal

halved : (c : goal.After-remove) → AreHalved c.remove.new.self.keys
halved c = subst AreHalved (sym c.remove.ensures.keys) (fine_removed halved_order ranked_long IsHalved long_order
    c.self.inside.entries.keys (is_at (halved_order c.of.result)) c.self.invariant.0)

pub invariant_of-self : goal.invariant_of-self
invariant_of-self c = (
  halved c,
  stored_ascending halved_order ranked_long IsHalved long_order c.remove.new.self.keys
      (halved c) c.remove.ensures.ordered,
)

pub returns-clause-ascending : goal.returns-clause-ascending
returns-clause-ascending c = stored_ascending halved_order ranked_long IsHalved long_order c.remove.new.self.keys
    (halved c) c.remove.ensures.ordered

pub returns-clause-left : goal.returns-clause-left
returns-clause-left c =
    let es = c.self.inside.entries.keys in
    ap (λ (l : List Long). map ranked_long l) c.remove.ensures.keys
    ∙ removed_is halved_order ranked_long IsHalved long_order es c.of.result c.self.invariant.0 c.of.ensures.low
    c.self.invariant.1
    ∙ ap (λ (e : Ranked). without_entry (map ranked_long es) e) c.of.ensures.same
    ∙ ap (λ (l : List Ranked). without_entry l c.args.place) c.self.view_is
