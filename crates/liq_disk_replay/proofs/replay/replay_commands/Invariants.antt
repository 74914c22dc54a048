use Rattle.liq_disk_replay.proofs.replay.replay_commands.Given as goal

abbrev pub ghosts-replay_commands_on : goal.ghosts-replay_commands_on
ghosts-replay_commands_on g a = record { name = a.blank.name; parts = a.blank.parts }
