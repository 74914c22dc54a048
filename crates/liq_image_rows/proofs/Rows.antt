-- A test of all rows, and of what they stand for.
use Rattle.std.proofs.Common.{◌≡◌, Bool, List, map, sym, ◌∙◌}
use Rattle.std.specs.List.{list_all}
use Rattle.std.proofs.lemmas.List.Folds.{list_all-map}

-- a part of each row's entry, as its key or its value
pub all-part : {R E X : Type 0} (entry : R → E) (part : E → X) (p : X → Bool) (rows : List R)
    → list_all (λ r. p (part (entry r))) rows ≡ list_all p (map part (map entry rows))
all-part entry part p rows = sym (list_all-map p part (map entry rows) ∙ list_all-map (λ e. p (part e)) entry rows)
