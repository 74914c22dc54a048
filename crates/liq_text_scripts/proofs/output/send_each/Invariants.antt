use Rattle.std.proofs.Common.{◌≡◌, Ok, take}
use Rattle.std.specs.List.{flat_map}
use Rattle.liq_text_scripts.specs.Sending.{Sends}
use Rattle.liq_text_scripts.proofs.Own.{sent_of}
use Rattle.liq_text_scripts.proofs.output.send_each.Given as goal

-- the parts of the first entries are sent
abbrev pub invariant-loop-entry : goal.invariant-loop-entry
invariant-loop-entry g l =
    let at = g.K.Sink.at in
    record {
      sent : Sends (Ok tt) l.fn.outbox
          (flat_map (sent_of g.E.ShownEntry.entry l.part) (take l.entry-index l.entries)) l.outbox (at l.fn.out).held
          (at l.out).held;
      count : (at l.out).faults ≡ (at l.fn.out).faults;
      unshown : (at l.out).shown ≡ (at l.fn.out).shown;
    }
