use Rattle.std.proofs.Common.{◌≡◌, ◌++◌, drop}
use Rattle.liq_text_rewards.specs.Telling.{notes_in}
use Rattle.liq_text_rewards.proofs.happened.note.Given as goal

abbrev pub invariant-loop-event : goal.invariant-loop-event
invariant-loop-event l = l.notes.items ++ notes_in l.minute (drop l.event-index l.events) ≡ l.initial.notes.items
    ++ notes_in l.minute l.events
