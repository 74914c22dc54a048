use Rattle.std.proofs.Common.{◌≡◌, [], None}
use Rattle.liq_store.specs.Causes.{counts_of}
use Rattle.liq_word_run.specs.Calls.{GoOn}
use Rattle.liq_word_run.specs.Passing.{Begun, IsPastOf}
use Rattle.liq_word_run.specs.Turns.{HasAnswered, run_at}
use Rattle.liq_word_run.proofs.run.Run.answer_lines.Given as goal
use Rattle.liq_text_lines.specs.Reading.{ReadsFew}

-- as many lines are answered as were counted
abbrev pub invariant-loop-answered : goal.invariant-loop-answered
invariant-loop-answered g l =
    let disk_at = g.D.Disk.at in
    let sink_at = g.K.Sink.at in
    let source_at = g.S.Source.at in
    let started = l.fn.self.store in
    let store = l.self.store in
    record {
      answered : (begun : Begun g.row.D.Denot) → begun.held ≡ (sink_at l.fn.out).held
          → IsPastOf disk_at begun [] started (sink_at l.fn.out).shown
          → HasAnswered disk_at begun (source_at l.fn.input).left l.answered
          (run_at store l.self.reader l.self.waiting.items (source_at l.input).left (sink_at l.out));
      few : ReadsFew (source_at l.fn.input).left l.answered l.self.reader (source_at l.input).left;
      time : GoOn disk_at started store;
      going : store.stopped ≡ None;
      disks_count : counts_of disk_at store.left store.right ≡ counts_of disk_at started.left started.right;
      source_count : (source_at l.input).faults ≡ (source_at l.fn.input).faults;
      sink_count : (sink_at l.out).faults ≡ (sink_at l.fn.out).faults;
    }
