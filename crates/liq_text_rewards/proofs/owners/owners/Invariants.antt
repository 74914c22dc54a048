use Rattle.std.proofs.Common.{◌≡◌, drop}
use Rattle.std.specs.Prelude.{fold}
use Rattle.liq_audit.specs.Auditable.{owners_of}
use Rattle.liq_text_rewards.specs.Telling.{events_in}
use Rattle.liq_text_rewards.proofs.Finding.{found_in}
use Rattle.liq_text_rewards.proofs.owners.owners.Given as goal

abbrev pub invariant-loop-event : goal.invariant-loop-event
invariant-loop-event l = fold found_in l.found.keys (drop l.event-index l.notes) ≡ owners_of (events_in l.notes)
