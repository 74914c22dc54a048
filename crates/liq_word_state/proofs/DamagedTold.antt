-- A word that tells a text, at its end.
use Rattle.std.proofs.Common.{◌≡◌, ℕ, List, [], Result, subst}
use Rattle.std.specs.Prelude.{IfErr}
use Rattle.liq_outside.specs.At.{DiskAt, SinkAt}
use Rattle.liq_outside.specs.Faults.{Rose}
use Rattle.liq_journal.specs.declared.damage.Damage.{Damage}
use Rattle.liq_disk_pair.specs.declared.side.Side.{Side}
use Rattle.liq_word_exit.specs.declared.halts.Halt.{Halt}
use Rattle.liq_word_exit.specs.Disks.{LeavesDamaged}
use Rattle.liq_word_exit.specs.Output.{last}
use Rattle.liq_word_exit.specs.Stops.{Adds, StopsDamaged}
use Rattle.liq_word_exit.proofs.Opened.{damaged_halts}
use Rattle.liq_word_exit.proofs.Shown.{of_halt}

-- over damaged disks it wrote nothing but its last line
pub damaged_told : {D K : Type 0} (disk_at : D → DiskAt)
    (old_left old_right : D) (l r : List ℕ) (sink_at : K → SinkAt) (out middle after : K)
    (side : Side) (damage : Damage) (end : Result (Unit {0}) Halt) (left right : D) → middle ≡ out
    → LeavesDamaged disk_at old_left old_right l r side damage end left right
    → IfErr end (λ halt. Adds [] (last halt) (Rose (sink_at middle).faults (sink_at after).faults)
    (sink_at middle).held (sink_at after).held)
    → StopsDamaged disk_at old_left old_right l r side damage end (Rose (sink_at out).faults (sink_at after).faults)
    (sink_at out).held (sink_at after).held left right
damaged_told disk_at old_left old_right l r sink_at out middle after side damage end left right same leaves wrote =
    let halts = damaged_halts disk_at side damage end left right leaves.ends in
    let halt = halts.0 in (
      halt,
      halts.1,
      subst (λ (e : Result (Unit {0}) Halt).
          LeavesDamaged disk_at old_left old_right l r side damage e left right) halts.1 leaves,
      subst (λ o. Adds [] (last halt) (Rose (sink_at o).faults (sink_at after).faults) (sink_at o).held
          (sink_at after).held) same
          (of_halt (λ h. Adds [] (last h) (Rose (sink_at middle).faults (sink_at after).faults) (sink_at middle).held
          (sink_at after).held) end halt halts.1 wrote),
    )
