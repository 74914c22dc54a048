use Rattle.std.proofs.Common.{List, ◌++◌, sym, ap, ◌∙◌, rules, arith}
use Rattle.std.proofs.lemmas.Int.{ints}
use Rattle.std.specs.List.{AllByRecursion}
use Rattle.liq_types.specs.Ranked.{Ranked}
use Rattle.liq_list_chunks.specs.Entries.{with_entry, without_entry}
use Rattle.liq_list_chunks.proofs.Lists.{all_entered}
use Rattle.liq_list_index.specs.EntrySets.{IsBetween}
use Rattle.liq_list_index.proofs.Parts.{all_left, either_way, parts_ascend, shorts_entered, shorts_left, shorts_without}
use Rattle.liq_list_index.proofs.entry_sets.EntrySets.shift.Goals as goal
use mir.Syntax.{w64}
use mir.Val.{SFits}

from_fits : (c : goal.After-shift) → IsBetween c.args.from
from_fits c =
    let fits : SFits w64 c.args.from.0 = search rules in
    (omega (arith, ints, fits), omega (arith, ints, fits))

to_fits : (c : goal.After-shift) → IsBetween c.args.to
to_fits c =
    let fits : SFits w64 c.args.to.0 = search rules in
    (omega (arith, ints, fits), omega (arith, ints, fits))

pub invariant_of-self : goal.invariant_of-self
invariant_of-self c =
    let shorts = c.self.inside.shorts in
    let from = c.args.from in
    let to = c.args.to in
    record {
      below_ascend = c.self.invariant.below_ascend;
      shorts_ascend = c.shift.ensures.ascending;
      above_ascend = c.self.invariant.above_ascend;
      all_below = c.self.invariant.all_below;
      all_short = either_way (λ (l : List Ranked). AllByRecursion IsBetween l) c.shift.result shorts
          (with_entry (without_entry shorts from) to) c.shift.new.self c.shift.ensures.shifted c.shift.ensures.stays
          c.self.invariant.all_short
          (all_entered IsBetween (without_entry shorts from) to
          (all_left IsBetween shorts from c.self.invariant.all_short) (to_fits c));
      all_above = c.self.invariant.all_above;
    }

pub returns-clause-ascending : goal.returns-clause-ascending
returns-clause-ascending c = parts_ascend c.self.inside.below c.shift.new.self c.self.inside.above (invariant_of-self c)

pub returns-clause-shifted : goal.returns-clause-shifted
returns-clause-shifted c done =
    let below = c.self.inside.below in
    let shorts = c.self.inside.shorts in
    let above = c.self.inside.above in
    let from = c.args.from in
    let to = c.args.to in
    ap (λ (l : List Ranked). below ++ (l ++ above)) (c.shift.ensures.shifted done)
    ∙ sym (shorts_entered below (without_entry shorts from) above (shorts_without below shorts above c.self.invariant
    from) to (to_fits c))
    ∙ ap (λ (l : List Ranked). with_entry l to) (sym (shorts_left below shorts above c.self.invariant from
    (from_fits c)))
    ∙ ap (λ (l : List Ranked). with_entry (without_entry l from) to) c.self.view_is
