-- How long a line is on which a staker asks.
use Rattle.std.proofs.Common.{ℕ, ◌≤◌, List, ◌∷◌, ◌++◌, Bool, true, false, length, ap, length-append, arith, lit≤}
use Rattle.std.specs.Prelude.{decimal}
use Rattle.liq_types.specs.declared.amounts.TheConstants.{LINE_BYTES}
use Rattle.liq_text.proofs.WritingLaws.{number_short}
use Rattle.liq_fees.specs.declared.lines.StakeLine.{StakeLine}
use Rattle.liq_fees.specs.Lines.{Spells, verb_of}

verb_short : (out : Bool) → length (verb_of out) ≤ 7
verb_short true = lit≤ tt
verb_short false = lit≤ tt

-- it is shorter than a line may be
pub stake_line_short : (line : List ℕ) (l : StakeLine) → Spells line l → length line ≤ LINE_BYTES
stake_line_short line l h =
    let at = decimal l.at in
    let account = decimal l.account in
    let verb = verb_of l.out in
    let amount = decimal l.amount in
    omega (
      arith,
      ap length h.words,
      length-append at (32 ∷ (account ++ 32 ∷ (verb ++ 32 ∷ amount))),
      length-append account (32 ∷ (verb ++ 32 ∷ amount)),
      length-append verb (32 ∷ amount),
      number_short l.at h.at,
      number_short l.account (omega (arith, h.account)),
      number_short l.amount h.amount,
      verb_short l.out,
    )
