-- Reserved rows.
use Rattle.std.specs.Prelude.{◌≡◌, ℕ, None, ◌⊎◌}
use Rattle.liq_types.specs.Tables.{Table, at, put}

-- the table is the same, or has an empty row where it had none
abbrev pub Reserves : {X : Type 0} → Table X → Table X → ℕ → X → Type 0
Reserves old new key empty = (new ≡ old) ⊎ ((at old key ≡ None) × (new ≡ put old key empty))
