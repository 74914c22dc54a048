use Rattle.std.proofs.Common.{sym, ap, ◌∙◌, subst, map}
use Rattle.std.specs.Prelude.{List}
use Rattle.liq_types.specs.Ranked.{Ranked}
use Rattle.liq_list_index.specs.declared.longs.Long.{Long}
use Rattle.liq_list_index.specs.EntrySets.{ranked_long, AreHalved, IsHalved}
use Rattle.liq_list_chunks.specs.Entries.{with_entry}
use Rattle.liq_list_index.proofs.Halves.{halved_order, long_order}
use Rattle.liq_list_index.proofs.Stored.{fine_inserted, inserted_is, stored_ascending}
use Rattle.liq_list_index.proofs.longs.Longs.insert.Goals as goal

halved : (c : goal.In-Ok) → AreHalved c.insert.new.self.keys
halved c = subst AreHalved (sym c.in-Ok.ensures.keys) (fine_inserted halved_order ranked_long IsHalved long_order
    c.self.inside.entries.keys c.of.result c.self.invariant.0 c.of.ensures.low)

pub returns-in_default-clause-ascending : goal.returns-in_default-clause-ascending
returns-in_default-clause-ascending c =
    stored_ascending halved_order ranked_long IsHalved long_order c.insert.new.self.keys
    (subst AreHalved (sym c.in_default.ensures.err) c.self.invariant.0) c.insert.ensures.ordered

pub invariant_of-self-2 : goal.invariant_of-self-2
invariant_of-self-2 c = (
  halved c,
  stored_ascending halved_order ranked_long IsHalved long_order c.insert.new.self.keys
      (halved c) c.insert.ensures.ordered,
)

pub returns-clause-ascending : goal.returns-clause-ascending
returns-clause-ascending c = stored_ascending halved_order ranked_long IsHalved long_order c.insert.new.self.keys
    (halved c) c.insert.ensures.ordered

pub returns-clause-entered : goal.returns-clause-entered
returns-clause-entered c =
    let es = c.self.inside.entries.keys in
    ap (λ (l : List Long). map ranked_long l) c.in-Ok.ensures.keys
    ∙ inserted_is halved_order ranked_long IsHalved long_order es c.of.result c.self.invariant.0 c.of.ensures.low
    ∙ ap (λ (e : Ranked). with_entry (map ranked_long es) e) c.of.ensures.same
    ∙ ap (λ (l : List Ranked). with_entry l c.args.place) c.self.view_is
