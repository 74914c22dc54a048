use Rattle.std.proofs.Common.{◌≡◌, Ok, take}
use Rattle.std.specs.List.{flat_map}
use Rattle.liq_text_scripts.specs.Sending.{Sends}
use Rattle.liq_text_scripts.specs.Sessions.{sessions}
use Rattle.liq_text_scripts.proofs.Own.{session_part}
use Rattle.liq_text_scripts.proofs.output.send_replies.Given as goal

-- the replies of the first sessions are sent
abbrev pub invariant-loop-before : goal.invariant-loop-before
invariant-loop-before g l =
    let at = g.K.Sink.at in
    record {
      sent : Sends (Ok tt) l.fn.outbox
          (flat_map (session_part g.E.ShownEntry.entry l.entries) (take l.before sessions)) l.outbox (at l.fn.out).held
          (at l.out).held;
      count : (at l.out).faults ≡ (at l.fn.out).faults;
      unshown : (at l.out).shown ≡ (at l.fn.out).shown;
    }
