use Rattle.std.specs.Path.{path_buf_bytes}
use Rattle.liq_disk_files.specs.Asked.{Earlier}
use Rattle.liq_disk_files.specs.Opened.{Leads, OpensWell}
use Rattle.liq_disk_files.specs.Unopened.{IsLost}
use Rattle.liq_disk_files.proofs.names.behind_links.Given as goal

-- the links so far were followed rightly, and led to this path
abbrev pub invariant-loop : goal.invariant-loop
invariant-loop g l = record {
  since : g.S.System.tells → Earlier (g.S.System.asked l.fn.system) (g.S.System.asked l.system);
  opens : g.S.System.tells → OpensWell (g.S.System.asked l.fn.system) → OpensWell (g.S.System.asked l.system);
  leads : g.S.System.tells → Leads l.user (path_buf_bytes l.fn.name) (path_buf_bytes l.path)
      (g.S.System.asked l.system);
  lost : g.S.System.tells → IsLost (g.S.System.asked l.fn.system) → IsLost (g.S.System.asked l.system);
}
