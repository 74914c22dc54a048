use Rattle.std.proofs.Common.{sym, ap, ◌∙◌, subst}
use Rattle.liq_types.specs.declared.figures.Deposit.{Deposit}
use Rattle.liq_types.specs.Tables.{Table, rows}
use Rattle.liq_tables.specs.Rows.{is_used_deposit}
use Rattle.liq_stability.specs.Kept.{IsSoundPool, finished_rows}
use Rattle.liq_tables.proofs.Filling.{all_used, used_ascend}
use Rattle.liq_stability.proofs.deposits.Stability.from_parts.Goals as goal

pub invariant_of-result : goal.invariant_of-result
invariant_of-result c =
    let h = c.requires in
    let used : IsSoundPool c.args.words (finished_rows c.args.finished.items)
    (rows is_used_deposit c.args.deposits.items) = record {
      product = h.product;
      sum = h.sum;
      sums = h.sums;
      places = h.places;
      each = all_used _ is_used_deposit c.args.deposits.items h.each;
      accounts = used_ascend is_used_deposit c.args.deposits.items h.accounts;
      total = h.total;
      coll = h.coll;
    } in
    subst (λ (t : Table Deposit). IsSoundPool c.args.words (finished_rows c.args.finished.items) t)
    (sym (c.in_ok-deposits.ensures ∙ ap (λ (t : Table Deposit). rows is_used_deposit t) c.deref.ensures.value)) used
