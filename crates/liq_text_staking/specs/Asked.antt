-- What stakers ask, line by line, between the records of a journal.
use Rattle.std.specs.Prelude.{ℕ, ◌+◌, ◌-◌, ◌==◌, ◌||◌, nat_lt, List, [], ◌∷◌, ◌++◌, Option, None, Some}
use Rattle.std.specs.Prelude.{length, map, fold, take, drop, codes, decimal, if◌then◌else◌}
use Rattle.std.specs.List.{join_with_byte}
use Rattle.liq_fees.specs.Happened.{Happened, Fee, stake_of, staked_of}
use Rattle.liq_fees.specs.Kept.{change_by, refusal_of}
use Rattle.liq_fees.specs.declared.changes.StakeRefusal.{StakeRefusal}
use Rattle.liq_fees.specs.declared.changes.StakeRefusal.TheVariants.{AccountRange, AmountZero, AmountLimit, ShortStake}
use Rattle.liq_fees.specs.declared.lines.StakeLine.{StakeLine}
use Rattle.liq_text_staking.specs.Paid.{Fees}

-- what happened so far, up to this record, and the replies
pub record Asked : Type 0 where
  pub past : List Happened
  pub least : ℕ
  pub replies : List (List ℕ)

abbrev pub nothing_asked : Asked
nothing_asked = record { past = []; least = 0; replies = [] }

-- ---- fees

-- a fee of nothing is not shared
abbrev pub shared : List Happened → Fees → List Happened
shared past fee = if fee.0 + fee.1 == 0 then past else Fee fee.0 fee.1 ∷ past

-- the fees of the records behind one, up to another
abbrev pub shared_up_to : List Fees → List Happened → ℕ → ℕ → List Happened
shared_up_to fees past from to = fold shared past (take (to - from) (drop from fees))

-- ---- replies

abbrev pub refused : List ℕ → List ℕ
refused numbers = join_with_byte 32 (codes "no" ∷ map decimal numbers)

-- the code and its values
abbrev pub numbers_of : StakeRefusal → List ℕ
numbers_of (AccountRange value) = 13 ∷ value ∷ []
numbers_of AmountZero = 11 ∷ []
numbers_of (AmountLimit sum limit) = 12 ∷ sum ∷ limit ∷ []
numbers_of (ShortStake need have) = 43 ∷ need ∷ have ∷ []

-- ---- a line

-- what the line changes, where its account may: a refused one changes nothing
abbrev pub changed : Asked → StakeLine → Option StakeRefusal → Asked
changed a l (Some refusal) = record a { replies = a.replies ++ refused (numbers_of refusal) ∷ [] }
changed a l None =
    record a {
      past = change_by l.account l.amount l.out ∷ a.past;
      replies = a.replies
          ++ codes "ok" ∷ [];
    }

-- The fees up to the line's record are shared first, whether the line is then refused or not.
abbrev pub in_place : List Fees → Asked → StakeLine → Asked
in_place fees a l =
    let past = shared_up_to fees a.past a.least l.at in
    changed (record a { past = past; least = l.at }) l
    (refusal_of l.account l.amount l.out (staked_of past) (stake_of l.account past))

-- A line is out of place where its record comes before that of the last line in place, or is not
-- there.
abbrev pub answered : List Fees → Asked → StakeLine → Asked
answered fees a l =
    if nat_lt l.at a.least || nat_lt (length fees) l.at
    then record a { replies = a.replies ++ refused (44 ∷ l.at ∷ a.least ∷ length fees ∷ []) ∷ [] }
    else in_place fees a l

abbrev pub answered_all : List Fees → List StakeLine → Asked
answered_all fees lines = fold (answered fees) nothing_asked lines
