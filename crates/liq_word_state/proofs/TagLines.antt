-- How long a line is on which a depositor names a front end.
use Rattle.std.proofs.Common.{ℕ, ◌≤◌, List, ◌∷◌, ◌++◌, length, ap, length-append, arith}
use Rattle.std.specs.Prelude.{decimal, codes}
use Rattle.liq_types.specs.declared.amounts.TheConstants.{LINE_BYTES}
use Rattle.liq_text.proofs.WritingLaws.{number_short}
use Rattle.liq_rewards.specs.declared.lines.TagLine.{TagLine}
use Rattle.liq_rewards.specs.Lines.{Spells}

-- it is shorter than a line may be
pub tag_line_short : (line : List ℕ) (l : TagLine) → Spells line l → length line ≤ LINE_BYTES
tag_line_short line l h =
    let account = decimal l.account in
    let front = decimal l.front in
    let rate = decimal l.kept_part in
    omega (
      arith,
      ap length h.words,
      length-append (codes "tag") (32 ∷ (account ++ 32 ∷ (front ++ 32 ∷ rate))),
      length-append account (32 ∷ (front ++ 32 ∷ rate)),
      length-append front (32 ∷ rate),
      number_short l.account (omega (arith, h.account)),
      number_short l.front (omega (arith, h.front)),
      number_short l.kept_part h.rate,
    )
