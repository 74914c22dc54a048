use Rattle.std.proofs.Common.{◌≡◌, List, ◌++◌, sym, ap, ◌∙◌, subst}
use Rattle.std.specs.List.{AllByRecursion}
use Rattle.liq_types.specs.Ranked.{Ranked}
use Rattle.liq_list_chunks.proofs.Lists.{all_entered, on_ok}
use Rattle.liq_list_index.specs.EntrySets.{IsPartOf, IsBelow, IsBetween, IsAbove}
use Rattle.liq_list_chunks.specs.Entries.{with_entry}
use Rattle.liq_list_index.proofs.Parts.{either, parts_ascend, below_entered, shorts_entered, above_entered}
use Rattle.liq_list_index.proofs.entry_sets.EntrySets.insert.Goals as goal

is_below : (c : goal.After-insert) → IsBelow c.args.place
is_below c = subst (IsPartOf c.args.place) c.in-Below.is c.part_of.ensures

pub invariant_of-self : goal.invariant_of-self
invariant_of-self c = record {
  below_ascend = c.insert.ensures.ascending;
  shorts_ascend = c.self.invariant.shorts_ascend;
  above_ascend = c.self.invariant.above_ascend;
  all_below = either (λ (l : List Ranked). AllByRecursion IsBelow l) c.insert.result c.self.inside.below
      (with_entry c.self.inside.below c.args.place) c.insert.new.self c.insert.ensures.entered c.insert.ensures.err
      c.self.invariant.all_below (all_entered IsBelow c.self.inside.below c.args.place c.self.invariant.all_below
      (is_below c));
  all_short = c.self.invariant.all_short;
  all_above = c.self.invariant.all_above;
}

pub returns-in-Below-clause-ascending : goal.returns-in-Below-clause-ascending
returns-in-Below-clause-ascending c = parts_ascend (c.insert.new.self) (c.self.inside.shorts) (c.self.inside.above)
    (invariant_of-self c)

pub returns-in-Below-clause-entered : goal.returns-in-Below-clause-entered
returns-in-Below-clause-entered c =
    on_ok c.insert.result (λ is. ap (λ (l : List Ranked). l ++ (c.self.inside.shorts ++ c.self.inside.above)) is
    ∙ sym (below_entered c.self.inside.below c.self.inside.shorts c.self.inside.above c.self.invariant c.args.place
    (is_below c)) ∙ ap (λ (l : List Ranked). with_entry l c.args.place) c.self.view_is) c.insert.ensures.entered

is_short : (c : goal.After-insert-in-Short) → (c.in-Short.entry ≡ c.args.place) × IsBetween c.args.place
is_short c = subst (IsPartOf c.args.place) c.in-Short.is c.part_of.ensures

between : (c : goal.After-insert-in-Short) → IsBetween c.in-Short.entry
between c = subst IsBetween (sym (is_short c).0) (is_short c).1

pub invariant_of-self-in-Short : goal.invariant_of-self-in-Short
invariant_of-self-in-Short c = record {
  below_ascend = c.self.invariant.below_ascend;
  shorts_ascend = c.insert-in-Short.ensures.ascending;
  above_ascend = c.self.invariant.above_ascend;
  all_below = c.self.invariant.all_below;
  all_short = either (λ (l : List Ranked). AllByRecursion IsBetween l) c.insert-in-Short.result c.self.inside.shorts
      (with_entry c.self.inside.shorts c.in-Short.entry) c.insert-in-Short.new.self c.insert-in-Short.ensures.entered
      c.insert-in-Short.ensures.err c.self.invariant.all_short (all_entered IsBetween c.self.inside.shorts
      c.in-Short.entry c.self.invariant.all_short (between c));
  all_above = c.self.invariant.all_above;
}

pub returns-in-Short-clause-ascending : goal.returns-in-Short-clause-ascending
returns-in-Short-clause-ascending c = parts_ascend (c.self.inside.below) (c.insert-in-Short.new.self)
    (c.self.inside.above) (invariant_of-self-in-Short c)

pub returns-in-Short-clause-entered : goal.returns-in-Short-clause-entered
returns-in-Short-clause-entered c =
    on_ok c.insert-in-Short.result (λ is. ap (λ (l : List Ranked). c.self.inside.below ++ (l ++ c.self.inside.above)) is
    ∙ sym (shorts_entered c.self.inside.below c.self.inside.shorts c.self.inside.above c.self.invariant
    c.in-Short.entry (between c))
    ∙ ap (λ (f : Ranked). with_entry (c.self.inside.below ++ (c.self.inside.shorts ++ c.self.inside.above)) f)
    (is_short c).0 ∙ ap (λ (l : List Ranked). with_entry l c.args.place) c.self.view_is)
    c.insert-in-Short.ensures.entered

is_above : (c : goal.After-insert-in-Above) → IsAbove c.args.place
is_above c = subst (IsPartOf c.args.place) c.in-Above.is c.part_of.ensures

pub invariant_of-self-in-Above : goal.invariant_of-self-in-Above
invariant_of-self-in-Above c = record {
  below_ascend = c.self.invariant.below_ascend;
  shorts_ascend = c.self.invariant.shorts_ascend;
  above_ascend = c.insert-in-Above.ensures.ascending;
  all_below = c.self.invariant.all_below;
  all_short = c.self.invariant.all_short;
  all_above = either (λ (l : List Ranked). AllByRecursion IsAbove l) c.insert-in-Above.result c.self.inside.above
      (with_entry c.self.inside.above c.args.place) c.insert-in-Above.new.self c.insert-in-Above.ensures.entered
      c.insert-in-Above.ensures.err c.self.invariant.all_above (all_entered IsAbove c.self.inside.above c.args.place
      c.self.invariant.all_above (is_above c));
}

pub returns-in-Above-clause-ascending : goal.returns-in-Above-clause-ascending
returns-in-Above-clause-ascending c = parts_ascend (c.self.inside.below) (c.self.inside.shorts)
    (c.insert-in-Above.new.self) (invariant_of-self-in-Above c)

pub returns-in-Above-clause-entered : goal.returns-in-Above-clause-entered
returns-in-Above-clause-entered c =
    on_ok c.insert-in-Above.result (λ is. ap (λ (l : List Ranked). c.self.inside.below ++ (c.self.inside.shorts ++ l))
    is ∙ sym (above_entered c.self.inside.below c.self.inside.shorts c.self.inside.above c.self.invariant c.args.place
    (is_above c)) ∙ ap (λ (l : List Ranked). with_entry l c.args.place) c.self.view_is)
    c.insert-in-Above.ensures.entered
