use Rattle.liq_core.specs.Core.{state_of}
use Rattle.liq_word_serve.proofs.serving.serve_sessions.Given as goal

abbrev pub ghosts-serve_from : goal.ghosts-serve_from
ghosts-serve_from g a = record {
  state = state_of a.asked.store.core;
  left = g.D.Disk.at a.asked.store.left;
  right = g.D.Disk.at a.asked.store.right;
}
