-- Troves as they are kept: what a row has by the sums per unit of stake, and what changes rows and
-- sums.
use Rattle.std.specs.Prelude.{ℕ, ◌+◌, ◌-◌, ◌==◌, max, nat_lt, Option, option_map, List, [], ◌∷◌, sum_by, ℤ, pos, ◌-ℤ◌, if◌then◌else◌}
use Rattle.std.specs.Map.{values_of}
use Rattle.liq_num.specs.Quotient.{floor_of}
use Rattle.liq_types.specs.declared.amounts.TheConstants.{ONE, SUM_MOST}
use Rattle.liq_types.specs.declared.figures.Trove.{Trove}
use Rattle.liq_types.specs.declared.replies.Refusal.TheVariants.{SumLimit}
use Rattle.liq_types.specs.Rules.{Rule}
use Rattle.liq_types.specs.Tables.{Table, at, put}
use Rattle.liq_troves.specs.declared.sums.Sums.{Sums}

-- ---- entire amounts

-- what a stake has got since the sum was at the mark
abbrev pub pending : ℕ → ℕ → ℕ → ℕ
pending stake now mark = floor_of stake (now - mark) ONE

-- collateral and debt of a trove: what is recorded and what is pending
abbrev pub entire_by : Sums → Trove → ℕ × ℕ
entire_by sums t = (
  t.coll + pending t.stake sums.coll t.mark_coll,
  t.debt + pending t.stake sums.debt t.mark_debt,
)

-- entire amounts of an account, if it has a trove
abbrev pub entire_in : Sums → Table Trove → ℕ → Option (ℕ × ℕ)
entire_in sums troves account = option_map (entire_by sums) (at troves account)

-- ---- keys

-- A trove's key stays from one own operation to the next: debt per unit of stake, less what a unit
-- had got before.
abbrev pub key_by : Trove → ℤ
key_by t = pos (floor_of t.debt ONE t.stake) -ℤ pos t.mark_debt

-- ---- own operations

-- the stake for collateral: its part of the stakes as of the last liquidation, at least 1
abbrev pub stake_by : ℕ → ℕ → ℕ → ℕ
stake_by snap_stakes snap_coll coll = if snap_coll == 0 then coll
    else max 1 (floor_of coll snap_stakes snap_coll)

-- the row that an own operation writes: these amounts, and nothing pending
abbrev pub set_row : Sums → ℕ → ℕ → Trove
set_row sums coll debt =
    record {
      coll = coll;
      debt = debt;
      stake = stake_by sums.snap_stakes sums.snap_coll coll;
      mark_coll = sums.coll;
      mark_debt = sums.debt;
    }

abbrev pub stakes_in : Table Trove → ℕ
stakes_in troves = sum_by (λ (t : Trove). t.stake) (values_of troves)

-- the sums beside these troves
abbrev pub beside : Sums → Table Trove → Sums
beside sums troves = record sums { stakes = stakes_in troves }

abbrev pub set_in : Sums → Table Trove → ℕ → ℕ → ℕ → Table Trove
set_in sums troves account coll debt = put troves account (set_row sums coll debt)

-- ---- redistributions and snapshots

-- what an amount gives to each of so many units of stake, over ONE
abbrev pub growth : ℕ → ℕ → ℕ
growth amount stakes = floor_of amount ONE stakes

abbrev pub sum_after : ℕ → ℕ → ℕ → ℕ
sum_after sum amount stakes = sum + growth amount stakes

abbrev pub sums_spread : Sums → ℕ → ℕ → Sums
sums_spread sums coll debt =
    record sums {
      coll = sum_after sums.coll coll sums.stakes;
      debt = sum_after sums.debt debt sums.stakes;
    }

abbrev pub sum_limit : ℕ → Rule
sum_limit sum = (nat_lt SUM_MOST sum, SumLimit sum)

-- no sum may pass its limit; the collateral's is tested first
abbrev pub spread_rules : Sums → ℕ → ℕ → List Rule
spread_rules sums coll debt =
    let after = sums_spread sums coll debt in
    sum_limit after.coll ∷ sum_limit after.debt ∷ []

-- stakes and collateral as they are now, by which later stakes are made
abbrev pub sums_snapped : Sums → ℕ → Sums
sums_snapped sums total_coll = record sums { snap_stakes = sums.stakes; snap_coll = total_coll }
