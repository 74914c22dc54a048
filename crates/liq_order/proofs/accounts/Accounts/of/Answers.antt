use Rattle.std.proofs.Common.{ap, sym, ◌∙◌, List, subst, rules, arith}
use Rattle.std.specs.List.Sorted.{IsPermutation}
use Rattle.std.proofs.lemmas.List.Sorted.{IsNonDecreasingBy-from_sort_by_key, sum_by-IsPermutation}
use Rattle.liq_order.specs.Chained.{rows_from}
use Rattle.liq_order.specs.Accounts.{Row, place_unless_marked}
use Rattle.liq_order.proofs.Marks.{none_marked, one_if, real_places}
use Rattle.liq_order.proofs.Sorted.{SortedRows, sorted_rows_are}
use Rattle.liq_order.proofs.accounts.Accounts.of.Goals as goal

moved : (c : goal.After-sort_unstable_by_key)
    → IsPermutation (rows_from 0 c.args.entries.now) c.sort_unstable_by_key.new.self.items
moved c = subst (λ (l : List Row). IsPermutation l c.sort_unstable_by_key.new.self.items) c.in_ok-rows.ensures
    c.sort_unstable_by_key.ensures.permutation

sorted_rows : (c : goal.After-sort_unstable_by_key)
    → SortedRows c.args.entries.now c.sort_unstable_by_key.new.self.items
sorted_rows c =
    let rows = c.sort_unstable_by_key.new.self.items in
    let up = IsNonDecreasingBy-from_sort_by_key (λ (row : Row). row.0) rows c.sort_unstable_by_key.ensures.sorted
    (λ a r q k. search rules) in
    sorted_rows_are c.args.entries.now rows c.requires.distinct (moved c) up

pub invariant_of-result : goal.invariant_of-result
invariant_of-result c =
    let es = c.args.entries.now in
    let rows = c.sort_unstable_by_key.new.self.items in
    record {
      strict = (sorted_rows c).strict;
      counted = sym (sum_by-IsPermutation one_if (rows_from 0 es) rows (moved c)
          ∙ none_marked 0 es (omega (arith, c.requires.few)));
      few = omega arith;
    }

pub returns : goal.returns
returns c account =
    ap place_unless_marked ((sorted_rows c).told account)
    ∙ real_places 0 c.args.entries.now (omega (arith, c.requires.few)) account
