use Rattle.liq_disk_replay.proofs.Replays.{IsUnderWay}
use Rattle.liq_disk_replay.proofs.replay.replay_commands_on.Given as goal

abbrev pub invariant-loop-i : goal.invariant-loop-i
invariant-loop-i g l = IsUnderWay g.O.Onlooker.adds l.limit l.commands l.i l.protocol (g.O.Onlooker.notes l.onlooker)
