-- A reply in 96 bytes: what kind of reply, which one, how many numbers, and the numbers.
use Rattle.std.specs.Prelude.{ℕ, ◌-◌, ◌/◌, ◌%◌, ◌^◌, List, [], ◌∷◌, ◌++◌, length, replicate, drop}
use Rattle.std.specs.List.{flat_map}
use Rattle.liq_types.specs.declared.replies.Info.{Info}
use Rattle.liq_types.specs.declared.replies.Info.TheVariants as infos
use Rattle.liq_types.specs.declared.replies.Reply.{Reply}
use Rattle.liq_types.specs.declared.replies.Reply.TheVariants.{Said, Told, No}
use Rattle.liq_types.specs.Codes.{shown_values, refusal_numbers, code_of}
use Rattle.liq_replies96.specs.declared.reply.Reply96.{Reply96}

-- words, and noughts behind them up to eleven
abbrev pub made : (kind which count : ℕ) → List ℕ → Reply96
made kind which count words = record {
  kind = kind;
  which = which;
  count = count;
  zero = replicate 5 0;
  values = words ++ replicate (11 - length words) 0;
}

-- a number of up to 128 bits as two words, the low one first
abbrev pub halves : ℕ → List ℕ
halves n = n % 2 ^ 64 ∷ n / 2 ^ 64 ∷ []

-- what a query asks, in the order of the queries from 1
abbrev pub topic_of : Info → ℕ
topic_of (infos.Wallet coll lusd) = 1
topic_of (infos.Trove coll debt stake) = 2
topic_of infos.NoTrove = 2
topic_of (infos.Deposit balance gain) = 3
topic_of infos.NoDeposit = 3
topic_of (infos.Pools pools) = 4
topic_of (infos.System words) = 5
topic_of (infos.Next number) = 6

-- the numbers that it is told
abbrev pub info_numbers : Info → List ℕ
info_numbers (infos.Wallet coll lusd) = coll ∷ lusd ∷ []
info_numbers (infos.Trove coll debt stake) = coll ∷ debt ∷ stake ∷ []
info_numbers infos.NoTrove = []
info_numbers (infos.Deposit balance gain) = balance ∷ gain ∷ []
info_numbers infos.NoDeposit = []
info_numbers (infos.Pools pools) = pools
info_numbers (infos.System words) = words
info_numbers (infos.Next number) = number ∷ []

-- the numbers of one word each
abbrev pub plain : (kind which : ℕ) → List ℕ → Reply96
plain kind which numbers = made kind which (length numbers) numbers

-- the numbers of two words each
abbrev pub wide : (kind which : ℕ) → List ℕ → Reply96
wide kind which numbers = made kind which (length numbers) (flat_map halves numbers)

-- accepted, told or refused
unfoldable pub reply96 : Reply → Reply96
reply96 (Said d) = plain 1 d.kind (shown_values d)
reply96 (Told info) = plain 2 (topic_of info) (info_numbers info)
reply96 (No refusal) = wide 3 (code_of refusal) (drop 1 (refusal_numbers refusal))

-- no command or query: the place of the field by which it is none
unfoldable pub bad96 : ℕ → Reply96
bad96 place = plain 4 0 (place ∷ [])

unfoldable pub no_memory96 : Reply96
no_memory96 = plain 5 0 []

-- a reply with the values alone that it shows
abbrev pub shown : Reply → Reply
shown (Said d) = Said (record d { values = shown_values d })
shown reply = reply
