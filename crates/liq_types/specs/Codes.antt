-- The numbers of a reply: how many values each kind shows, and the code and values of a refusal.
use Rattle.std.specs.Prelude.{ℕ, List, [], ◌∷◌, take, slice_index}
use Rattle.liq_types.specs.declared.replies.Done.{Done}
use Rattle.liq_types.specs.declared.replies.Refusal.{Refusal}
use Rattle.liq_types.specs.declared.replies.Refusal.TheVariants as refusals

-- how many values the reply to each kind of command shows; there is no kind 0, and none above 16
abbrev pub value_counts : List ℕ
value_counts = 0 ∷ 0 ∷ 1 ∷ 0 ∷ 0 ∷ 0 ∷ 2 ∷ 3 ∷ 2 ∷ 2 ∷ 2 ∷ 2 ∷ 6 ∷ 4 ∷ 4 ∷ 1 ∷ 1 ∷ []

abbrev pub value_count : ℕ → ℕ
value_count kind = slice_index value_counts kind

abbrev pub shown_values : Done → List ℕ
shown_values d = take (value_count d.kind) d.values

-- a refusal's code, and the values that it carries
abbrev pub refusal_numbers : Refusal → List ℕ
refusal_numbers (refusals.PriceRange price) = 10 ∷ price ∷ []
refusal_numbers refusals.AmountZero = 11 ∷ []
refusal_numbers (refusals.AmountLimit sum limit) = 12 ∷ sum ∷ limit ∷ []
refusal_numbers (refusals.AccountRange value) = 13 ∷ value ∷ []
refusal_numbers (refusals.ShortCollateral need have) = 14 ∷ need ∷ have ∷ []
refusal_numbers (refusals.ShortTokens need have) = 15 ∷ need ∷ have ∷ []
refusal_numbers (refusals.TroveExists account) = 20 ∷ account ∷ []
refusal_numbers (refusals.NoTrove account) = 21 ∷ account ∷ []
refusal_numbers (refusals.FeeBound bound least) = 22 ∷ bound ∷ least ∷ []
refusal_numbers (refusals.FeeOver left right) = 23 ∷ left ∷ right ∷ []
refusal_numbers (refusals.NetDebtLow net least) = 24 ∷ net ∷ least ∷ []
refusal_numbers (refusals.RatioLow left right) = 25 ∷ left ∷ right ∷ []
refusal_numbers (refusals.SystemRatioLow left right) = 26 ∷ left ∷ right ∷ []
refusal_numbers (refusals.RecoveryForbids left right) = 27 ∷ left ∷ right ∷ []
refusal_numbers (refusals.RatioFalls left right) = 28 ∷ left ∷ right ∷ []
refusal_numbers (refusals.BothWays first second) = 29 ∷ first ∷ second ∷ []
refusal_numbers refusals.NoChange = 30 ∷ []
refusal_numbers (refusals.LastTrove troves) = 31 ∷ troves ∷ []
refusal_numbers (refusals.NoDeposit account) = 40 ∷ account ∷ []
refusal_numbers (refusals.TroveUnder account left right) = 41 ∷ account ∷ left ∷ right ∷ []
refusal_numbers (refusals.NoGain account) = 42 ∷ account ∷ []
refusal_numbers (refusals.NotLiquidatable coll debt price total_coll total_debt) = 50 ∷ coll ∷ debt
    ∷ price ∷ total_coll ∷ total_debt ∷ []
refusal_numbers (refusals.PoolTooSmall total debt) = 51 ∷ total ∷ debt ∷ []
refusal_numbers (refusals.SumLimit sum) = 52 ∷ sum ∷ []
refusal_numbers (refusals.Bootstrap minute limit) = 60 ∷ minute ∷ limit ∷ []
refusal_numbers (refusals.SystemUnder left right) = 61 ∷ left ∷ right ∷ []
refusal_numbers (refusals.NothingRedeemed amount net) = 62 ∷ amount ∷ net ∷ []
refusal_numbers (refusals.FeeEatsAll fee drawn) = 63 ∷ fee ∷ drawn ∷ []
refusal_numbers (refusals.NoSurplus account) = 64 ∷ account ∷ []
refusal_numbers (refusals.OutOfTurn expected) = 70 ∷ expected ∷ []
refusal_numbers (refusals.JournalFull records) = 81 ∷ records ∷ []

-- the code alone: the first of these numbers
abbrev pub code_of : Refusal → ℕ
code_of refusal = slice_index (refusal_numbers refusal) 0
