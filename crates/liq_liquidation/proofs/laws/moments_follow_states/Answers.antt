use Rattle.std.proofs.Common.{refl, sym}
use Rattle.liq_types.specs.Totals.{market_of, pool_total}
use Rattle.liq_types.proofs.MapRows.{map-length}
use Rattle.liq_troves.specs.Standing.{books_of}
use Rattle.liq_troves.specs.StakeSums.{trove_row}
use Rattle.liq_liquidation.specs.Moment.{moment_of}
use Rattle.liq_liquidation.proofs.States.{plan_is, moment_struck, sound_struck}
use Rattle.liq_liquidation.proofs.Struck.{sound_from}
use Rattle.liq_liquidation.proofs.Walking.{found}
use Rattle.liq_liquidation.proofs.laws.moments_follow_states.Goals as goal

pub returns-clause-sound : goal.returns-clause-sound
returns-clause-sound c = λ s sound market coll debt.
    sound_from (market_of s) (books_of s) (pool_total s) market (sym (map-length (trove_row s) s.troves)) coll debt
    (record { stands = sound.troves; coll = refl; debt = refl })

pub returns-clause-plan : goal.returns-clause-plan
returns-clause-plan c = plan_is

pub returns-clause-next : goal.returns-clause-next
returns-clause-next c = λ s v sound is. moment_struck s v sound (found (moment_of s) v is)

pub returns-clause-kept : goal.returns-clause-kept
returns-clause-kept c = λ s v sound is. sound_struck s v sound (found (moment_of s) v is)
