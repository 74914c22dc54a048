use Rattle.std.proofs.Common.{◌≡◌, ◌++◌, [], ◌∷◌, subst, ap, ◌∙◌}
use Rattle.liq_types.specs.Ranked.{Ranked}
use Rattle.liq_list_chunks.proofs.Lists.{on_ok}
use Rattle.liq_list_index.specs.EntrySets.{IsPartOf, IsBelow, IsBetween, IsAbove}
use Rattle.liq_list_index.proofs.Behind.{above_added, above_parted, below_added, below_parted, short_added, short_parted}
use Rattle.liq_list_index.proofs.entry_sets.add.Goals as goal

is_below : (c : goal.After-insert) → IsBelow c.args.place
is_below c = subst (IsPartOf c.args.place) c.in-Below.is c.part_of.ensures

pub returns-in-Below-clause-parted : goal.returns-in-Below-clause-parted
returns-in-Below-clause-parted c =
    on_ok c.insert.result (λ is. below_parted c.args.below.now c.args.shorts.now.items c.args.above.now
    c.requires.parted
    c.args.place c.requires.last c.insert.new.self (is_below c) is) c.insert.ensures.entered

pub returns-in-Below-clause-added : goal.returns-in-Below-clause-added
returns-in-Below-clause-added c =
    on_ok c.insert.result (λ is. below_added c.args.below.now c.args.shorts.now.items c.args.above.now c.requires.parted
    c.args.place c.requires.last c.insert.new.self (is_below c) is) c.insert.ensures.entered

is_short : (c : goal.In-Ok) → (c.in-Short.entry ≡ c.args.place) × IsBetween c.args.place
is_short c = subst (IsPartOf c.args.place) c.in-Short.is c.part_of.ensures

pushed : (c : goal.In-Ok) → c.push.new.self.items ≡ c.args.shorts.now.items ++ c.args.place ∷ []
pushed c = c.in-Ok.ensures.items ∙ ap (λ (e : Ranked). c.args.shorts.now.items ++ e ∷ []) (is_short c).0

pub returns-in-Ok-clause-parted : goal.returns-in-Ok-clause-parted
returns-in-Ok-clause-parted c =
    short_parted c.args.below.now c.args.shorts.now.items c.args.above.now c.requires.parted c.args.place
    c.requires.last c.push.new.self.items (is_short c).1 (pushed c)

pub returns-in-Ok-clause-added : goal.returns-in-Ok-clause-added
returns-in-Ok-clause-added c =
    short_added c.args.below.now c.args.shorts.now.items c.args.above.now c.requires.parted c.args.place
    c.requires.last c.push.new.self.items (is_short c).1 (pushed c)

is_above : (c : goal.After-insert-in-Above) → IsAbove c.args.place
is_above c = subst (IsPartOf c.args.place) c.in-Above.is c.part_of.ensures

pub returns-in-Above-clause-parted : goal.returns-in-Above-clause-parted
returns-in-Above-clause-parted c =
    on_ok c.insert-in-Above.result (λ is. above_parted c.args.below.now c.args.shorts.now.items c.args.above.now
    c.requires.parted c.args.place c.requires.last c.insert-in-Above.new.self (is_above c) is)
    c.insert-in-Above.ensures.entered

pub returns-in-Above-clause-added : goal.returns-in-Above-clause-added
returns-in-Above-clause-added c =
    on_ok c.insert-in-Above.result (λ is. above_added c.args.below.now c.args.shorts.now.items c.args.above.now
    c.requires.parted c.args.place c.requires.last c.insert-in-Above.new.self (is_above c) is)
    c.insert-in-Above.ensures.entered
