use Rattle.std.proofs.Common.{List, [], ℕ, sym, subst, ap, ◌∙◌}
use Rattle.liq_tables.specs.Pages.{entries, IsIndex}
use Rattle.liq_tables.proofs.Pages.{no_entries, no_index}
use Rattle.liq_tables.proofs.index.Index.new.Goals as goal

pub invariant_of-result : goal.invariant_of-result
invariant_of-result g c =
    subst (λ (p : List (List ℕ)). IsIndex p c.new-2.result.items) (sym c.new.ensures)
    (subst (λ (r : List g.row.X.Denot). IsIndex [] r) (sym c.new-2.ensures.items) no_index)

pub returns : goal.returns
returns g c =
    ap (λ (p : List (List ℕ)). entries p c.new-2.result.items) c.new.ensures
    ∙ ap (λ (r : List g.row.X.Denot). entries [] r) c.new-2.ensures.items ∙ no_entries
