use Rattle.std.proofs.Common.{List, take}
use Rattle.std.specs.Prelude.{fold}
use Rattle.liq_fees.specs.Happened.{Happened, IsLawful}
use Rattle.liq_fees.specs.Kept.{IsKeptOf}
use Rattle.liq_text_staking.specs.Asked.{shared}
use Rattle.liq_text_staking.proofs.answering.share_all.Given as goal

abbrev pub invariant-loop-fee : goal.invariant-loop-fee
invariant-loop-fee l = (past : List Happened) → IsKeptOf l.initial.kept past → IsLawful (fold shared past l.fees)
    → IsKeptOf l.kept (fold shared past (take l.fee-index l.fees))
