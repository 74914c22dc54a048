-- The text of a reply.
use Rattle.std.specs.Prelude.{ℕ, ◌<◌, ◌≤◌, ◌^◌, List, [], ◌∷◌, ◌++◌, length, map}
use Rattle.std.specs.Prelude.{codes, decimal}
use Rattle.std.specs.List.{join_with_byte, AllByRecursion}
use Rattle.liq_types.specs.declared.replies.Reply.{Reply}
use Rattle.liq_types.specs.declared.replies.Reply.TheVariants.{Said, Told, No}
use Rattle.liq_types.specs.declared.replies.Info.{Info}
use Rattle.liq_types.specs.declared.replies.Info.TheVariants as infos
pub use Rattle.liq_types.specs.Codes.{value_counts, shown_values, refusal_numbers}

abbrev pub info_words : Info → List (List ℕ)
info_words infos.NoTrove = codes "none" ∷ []
info_words infos.NoDeposit = codes "none" ∷ []
info_words (infos.Wallet coll lusd) = map decimal (coll ∷ lusd ∷ [])
info_words (infos.Trove coll debt stake) = map decimal (coll ∷ debt ∷ stake ∷ [])
info_words (infos.Deposit balance gain) = map decimal (balance ∷ gain ∷ [])
info_words (infos.Pools pools) = map decimal pools
info_words (infos.System words) = map decimal words
info_words (infos.Next number) = map decimal (number ∷ [])

abbrev pub reply_words : Reply → List (List ℕ)
reply_words (Said d) = codes "ok" ∷ map decimal (shown_values d)
reply_words (Told info) = info_words info
reply_words (No refusal) = codes "no" ∷ map decimal (refusal_numbers refusal)

-- the words with one space between two, without a line end
abbrev pub text : Reply → List ℕ
text reply = join_with_byte 32 (reply_words reply)

-- the text of a reply with its line end
abbrev pub reply_line : Reply → List ℕ
reply_line reply = text reply ++ 10 ∷ []

-- ---- how long a text may be

-- the numbers are at most ten, of 64 bits each
abbrev pub AreAmounts : List ℕ → Type 0
AreAmounts numbers = (length numbers ≤ 10) × AllByRecursion (λ n. n < 2 ^ 64) numbers

abbrev pub HasAmounts : Info → Type 0
HasAmounts (infos.Wallet coll lusd) = AreAmounts (coll ∷ lusd ∷ [])
HasAmounts (infos.Trove coll debt stake) = AreAmounts (coll ∷ debt ∷ stake ∷ [])
HasAmounts infos.NoTrove = Unit {0}
HasAmounts (infos.Deposit balance gain) = AreAmounts (balance ∷ gain ∷ [])
HasAmounts infos.NoDeposit = Unit {0}
HasAmounts (infos.Pools pools) = AreAmounts pools
HasAmounts (infos.System words) = AreAmounts words
HasAmounts (infos.Next number) = AreAmounts (number ∷ [])

-- The numbers are those of a reply's types, or of wider ones.
abbrev pub FitsTypes : Reply → Type 0
FitsTypes (Said d) = AllByRecursion (λ n. n < 2 ^ 64) d.values
FitsTypes (Told info) = HasAmounts info
FitsTypes (No refusal) = AllByRecursion (λ n. n < 2 ^ 128) (refusal_numbers refusal)
