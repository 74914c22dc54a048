-- What wallets refuse, in order.
use Rattle.std.specs.Prelude.{ℕ, ◌+◌, List, [], ◌∷◌, Result}
use Rattle.liq_types.specs.declared.amounts.TheConstants.{LIM}
use Rattle.liq_types.specs.declared.figures.Wallet.{Wallet}
use Rattle.liq_types.specs.declared.replies.Refusal.{Refusal}
use Rattle.liq_types.specs.declared.replies.Refusal.TheVariants.{AmountLimit, ShortCollateral, ShortTokens}
use Rattle.liq_types.specs.Rules.{Rule, first_refusal, outcome, where_above, where_short}

-- a payment into this wallet: no wallet has more collateral than may be inside
abbrev pub funding : Wallet → ℕ → List Rule
funding had coll = where_above (had.coll + coll) LIM AmountLimit ∷ []

-- a payment out of this wallet
abbrev pub charging : Wallet → ℕ → ℕ → List Rule
charging had coll lusd = where_short coll had.coll ShortCollateral
    ∷ where_short lusd had.lusd ShortTokens ∷ []

-- the first of the refusals, if any comes
abbrev pub ruled : List Rule → Result (Unit {0}) Refusal
ruled rules = outcome (first_refusal rules) tt
