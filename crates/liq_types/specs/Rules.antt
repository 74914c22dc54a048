-- Refusals: a table of conditions in order, of which the first that holds gives the refusal.
use Rattle.std.specs.Prelude.{ℕ, Bool, ◌&&◌, nat_lt, nat_le, Result, Ok, Err, List, [], ◌∷◌, Option, None, Some, if◌then◌else◌}
use Rattle.liq_types.specs.declared.figures.Market.{Market}
use Rattle.liq_types.specs.declared.replies.Refusal.{Refusal}
use Rattle.liq_types.specs.declared.replies.Refusal.TheVariants.{LastTrove}

abbrev pub Rule : Type 0
Rule = Bool × Refusal

abbrev pub first_refusal : List Rule → Option Refusal
first_refusal [] = None
first_refusal (rule ∷ rules) = if rule.0 then Some rule.1 else first_refusal rules

-- the refusal that names two sides, where the left one is below the right one
abbrev pub where_below : ℕ → ℕ → (ℕ → ℕ → Refusal) → Rule
where_below left right refusal = (nat_lt left right, refusal left right)

-- the refusal that names what is needed and what there is, where there is less
abbrev pub where_short : ℕ → ℕ → (ℕ → ℕ → Refusal) → Rule
where_short need have refusal = (nat_lt have need, refusal need have)

-- the refusal that names a sum and its limit, where the sum passes it
abbrev pub where_above : ℕ → ℕ → (ℕ → ℕ → Refusal) → Rule
where_above sum limit refusal = (nat_lt limit sum, refusal sum limit)

-- a rule that is tested only where a further condition holds
abbrev pub only_where : Bool → Rule → Rule
only_where condition rule = (condition && rule.0, rule.1)

-- the outcome of what is tested: a refusal, or else x
abbrev pub outcome : {X : Type 0} → Option Refusal → X → Result X Refusal
outcome None x = Ok x
outcome (Some refusal) x = Err refusal

-- the last trove is neither closed nor liquidated
abbrev pub last_trove_stays : Market → Rule
last_trove_stays m = (nat_le m.troves 1, LastTrove m.troves)
