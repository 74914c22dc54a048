use Rattle.std.proofs.Common.{◌≡◌, List, ◌++◌, sym, ap, ◌∙◌, subst}
use Rattle.std.specs.List.{AllByRecursion}
use Rattle.liq_types.specs.Ranked.{Ranked}
use Rattle.liq_list_index.specs.EntrySets.{IsPartOf, IsBelow, IsBetween, IsAbove}
use Rattle.liq_list_chunks.specs.Entries.{without_entry}
use Rattle.liq_list_index.proofs.Parts.{all_left, parts_ascend, below_left, shorts_left, above_left}
use Rattle.liq_list_index.proofs.entry_sets.EntrySets.remove.Goals as goal

is_below : (c : goal.After-remove) → IsBelow c.args.place
is_below c = subst (IsPartOf c.args.place) c.in-Below.is c.part_of.ensures

pub invariant_of-self : goal.invariant_of-self
invariant_of-self c = record {
  below_ascend = c.remove.ensures.ascending;
  shorts_ascend = c.self.invariant.shorts_ascend;
  above_ascend = c.self.invariant.above_ascend;
  all_below = subst (λ (l : List Ranked). AllByRecursion IsBelow l) (sym c.remove.ensures.left)
      (all_left IsBelow c.self.inside.below c.args.place c.self.invariant.all_below);
  all_short = c.self.invariant.all_short;
  all_above = c.self.invariant.all_above;
}

pub returns-in-Below-clause-ascending : goal.returns-in-Below-clause-ascending
returns-in-Below-clause-ascending c = parts_ascend (c.remove.new.self) (c.self.inside.shorts) (c.self.inside.above)
    (invariant_of-self c)

pub returns-in-Below-clause-left : goal.returns-in-Below-clause-left
returns-in-Below-clause-left c = ap (λ (l : List Ranked). l ++ (c.self.inside.shorts ++ c.self.inside.above))
    c.remove.ensures.left
    ∙ sym (below_left c.self.inside.below c.self.inside.shorts c.self.inside.above c.self.invariant c.args.place
    (is_below c)) ∙ ap (λ (l : List Ranked). without_entry l c.args.place) c.self.view_is

is_short : (c : goal.After-remove-in-Short) → (c.in-Short.entry ≡ c.args.place) × IsBetween c.args.place
is_short c = subst (IsPartOf c.args.place) c.in-Short.is c.part_of.ensures

between : (c : goal.After-remove-in-Short) → IsBetween c.in-Short.entry
between c = subst IsBetween (sym (is_short c).0) (is_short c).1

pub invariant_of-self-in-Short : goal.invariant_of-self-in-Short
invariant_of-self-in-Short c = record {
  below_ascend = c.self.invariant.below_ascend;
  shorts_ascend = c.remove-in-Short.ensures.ascending;
  above_ascend = c.self.invariant.above_ascend;
  all_below = c.self.invariant.all_below;
  all_short = subst (λ (l : List Ranked). AllByRecursion IsBetween l) (sym c.remove-in-Short.ensures.left)
      (all_left IsBetween c.self.inside.shorts c.in-Short.entry c.self.invariant.all_short);
  all_above = c.self.invariant.all_above;
}

pub returns-in-Short-clause-ascending : goal.returns-in-Short-clause-ascending
returns-in-Short-clause-ascending c = parts_ascend (c.self.inside.below) (c.remove-in-Short.new.self)
    (c.self.inside.above) (invariant_of-self-in-Short c)

pub returns-in-Short-clause-left : goal.returns-in-Short-clause-left
returns-in-Short-clause-left c = ap (λ (l : List Ranked). c.self.inside.below ++ (l ++ c.self.inside.above))
    c.remove-in-Short.ensures.left
    ∙ sym (shorts_left c.self.inside.below c.self.inside.shorts c.self.inside.above c.self.invariant c.in-Short.entry
    (between c))
    ∙ ap (λ (f : Ranked). without_entry (c.self.inside.below ++ (c.self.inside.shorts ++ c.self.inside.above)) f)
    (is_short c).0 ∙ ap (λ (l : List Ranked). without_entry l c.args.place) c.self.view_is

is_above : (c : goal.After-remove-in-Above) → IsAbove c.args.place
is_above c = subst (IsPartOf c.args.place) c.in-Above.is c.part_of.ensures

pub invariant_of-self-in-Above : goal.invariant_of-self-in-Above
invariant_of-self-in-Above c = record {
  below_ascend = c.self.invariant.below_ascend;
  shorts_ascend = c.self.invariant.shorts_ascend;
  above_ascend = c.remove-in-Above.ensures.ascending;
  all_below = c.self.invariant.all_below;
  all_short = c.self.invariant.all_short;
  all_above = subst (λ (l : List Ranked). AllByRecursion IsAbove l) (sym c.remove-in-Above.ensures.left)
      (all_left IsAbove c.self.inside.above c.args.place c.self.invariant.all_above);
}

pub returns-in-Above-clause-ascending : goal.returns-in-Above-clause-ascending
returns-in-Above-clause-ascending c = parts_ascend (c.self.inside.below) (c.self.inside.shorts)
    (c.remove-in-Above.new.self) (invariant_of-self-in-Above c)

pub returns-in-Above-clause-left : goal.returns-in-Above-clause-left
returns-in-Above-clause-left c = ap (λ (l : List Ranked). c.self.inside.below ++ (c.self.inside.shorts ++ l))
    c.remove-in-Above.ensures.left
    ∙ sym (above_left c.self.inside.below c.self.inside.shorts c.self.inside.above c.self.invariant c.args.place
    (is_above c)) ∙ ap (λ (l : List Ranked). without_entry l c.args.place) c.self.view_is
