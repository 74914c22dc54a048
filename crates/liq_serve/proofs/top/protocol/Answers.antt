use Rattle.std.proofs.Common.{◌∷◌, [], sym, subst}
use Rattle.std.specs.Prelude.{Contains, map}
use Rattle.std.specs.String.{string_bytes}
use Rattle.liq_rule_step.specs.History.{requests_of}
use Rattle.liq_disk_pair.specs.Pair.{state_on}
use Rattle.liq_text_scripts.specs.Output.{served as text_of}
use Rattle.liq_word_line.specs.declared.words.Word.TheVariants.{Serve}
use Rattle.liq_word_exit.specs.Causes.{HasCauses}
use Rattle.liq_word_exit.specs.Outside.{Outside}
use Rattle.liq_word_exit.specs.Statuses.{End, status_of}
use Rattle.liq_word_exit.proofs.Causes.{write_no_fewer}
use Rattle.liq_word_exit.proofs.Opened.{state_formed}
use Rattle.liq_word_exit.proofs.Shares.{all_shares}
use Rattle.liq_serve.specs.Finishing.{end_of}
use Rattle.liq_serve.specs.Top.{Ends, ServesTo, Tells}
use Rattle.liq_serve.specs.declared.top.Ended.{Ended}
use Rattle.liq_serve.proofs.Found.{untold_then}
use Rattle.liq_serve.proofs.Served.{all_served, came_by, causes_kept, if_found, rests_by, safe_by}
use Rattle.liq_serve.proofs.Words.{is_read, word_ends}
use Rattle.liq_serve.proofs.top.protocol.Given.{Over}
use Rattle.liq_serve.proofs.top.protocol.Goals as goal

-- the outside of `serve`, before it and after
abbrev before : (g : Over) → goal.After-with_status g → Outside g.row.S.Denot g.row.K.Denot g.row.D.Denot
before g c = record { source = c.args.input.now; sink = c.args.out.now; left = c.args.left; right = c.args.right }

abbrev after : (g : Over) → goal.After-with_status g → Outside g.row.S.Denot g.row.K.Denot g.row.D.Denot
after g c = record {
  source = c.serve_input-left.new.input;
  sink = c.tell_last.new.out;
  left = c.serve_input-left.result.left;
  right = c.serve_input-left.result.right;
}

-- what `serve` leaves
serves_to : (g : Over) (c : goal.After-with_status g)
    → ServesTo g.S.Source.at g.K.Sink.at g.D.Disk.at (before g c) (after g c) c.end_of-end.result
serves_to g c =
    let disk_at = g.D.Disk.at in
    let sink_at = g.K.Sink.at in
    let ran = c.serve_input-left in
    let how = ran.result.finish in
    let is = c.end_of-end.ensures in
    let served = ran.ensures.served in
    let start = c.args.out.now in
    let middle = ran.new.out in
    let fewer = write_no_fewer (end_of how) (sink_at start).faults (sink_at middle).faults
    (causes_kept how _ _ (sink_at start).faults (sink_at middle).faults _ _ ran.ensures.source ran.ensures.sink
    ran.ensures.disks).1 in
    let answered = served.answered in
    let written = c.tell_last.ensures.told (text_of served.history) (sink_at start).held (sink_at start).faults fewer
    (rw is (all_served sink_at served.history start middle how served.written)) in
    let came = came_by g.S.Source.at sink_at disk_at (before g c) (after g c) served.asked served.history how answered
    ran.ensures.unread
    (untold_then disk_at c.args.left c.args.right ran.result.left ran.result.right ran.ensures.left_telling.0
    ran.ensures.right_telling.0)
    (subst (λ (e : End). Tells g.S.Source.at sink_at disk_at (before g c) (after g c) [] (text_of served.history) e) is
    written) in
    record {
      asked = served.asked;
      history = served.history;
      few = answered.few;
      fronts = answered.fronts;
      sessions = answered.sessions;
      reading = came.reading;
      read = came.read;
      fault = came.fault;
      came = rw is came.so;
      written = written;
      safe = λ status.
          let all = subst (λ (e : End). Contains (0 ∷ 4 ∷ []) (status_of e)) is status in
          let rests = rests_by disk_at ran.result.left ran.result.right how ran.ensures.rests all in
          let noted = safe_by disk_at sink_at ran.result.left ran.result.right start middle c.tell_last.new.out
          c.tell_last.ensures.unshown how ran.ensures.shown all in
          (rests.0, rests.1, noted);
      past = λ l r told_l told_r. if_found (state_on l r) _ (λ start found only_l only_r kept.
          let so = answered.past l r start told_l told_r only_l only_r found kept in
          record { fault = so.fault; fault_is = came.met so.fault so.fault_is; images = so.images; rests = so.rests });
      moments = λ l r told_l told_r. if_found (state_on l r) _ (λ start found.
          answered.moments l r start told_l told_r found came.fault came.there);
      lawful = λ l r told_l told_r. if_found (state_on l r) _ (λ start found. (
        answered.legal l r start told_l told_r found,
        all_shares start (requests_of served.history) (state_formed l r start found),
      ));
    }

-- its end has its cause
has_causes : (g : Over) (c : goal.After-with_status g)
    → HasCauses g.S.Source.at g.K.Sink.at g.D.Disk.at (before g c) (after g c) c.end_of-end.result
has_causes g c =
    let ran = c.serve_input-left in
    let is = c.end_of-end.ensures in
    let causes = causes_kept ran.result.finish _ _ _ _ _ _ ran.ensures.source ran.ensures.sink ran.ensures.disks in
    record {
      source = rw is causes.0;
      sink = c.tell_last.ensures.sink (g.K.Sink.at c.args.out.now).faults (rw is causes.1);
      disks = record {
        count = rw is causes.2;
        left_time = ran.ensures.left_time;
        right_time = ran.ensures.right_time;
        left_telling = ran.ensures.left_telling;
        right_telling = ran.ensures.right_telling;
      };
    }

pub returns-then-is_serve : goal.returns-then-is_serve
returns-then-is_serve g c =
    let words = map string_bytes c.args.words.now in
    let ran = c.serve_input-left in
    let read = is_read words c.read_words-read.result Serve (c.is_serve.ensures.0 c.if-is_serve.true)
    c.read_words-read.ensures.word c.read_words-read.ensures.only in
    subst (λ (e : Ended g.row.D.Denot). Ends g.S.Source.at g.K.Sink.at g.D.Disk.at (before g c)
    (record { source = ran.new.input; sink = c.tell_last.new.out; left = e.left; right = e.right }) e.status words)
    (sym c.with_status.ensures)
    (word_ends g.S.Source.at g.K.Sink.at g.D.Disk.at (before g c) _ words Serve c.end_of-end.result read
    (serves_to g c) (has_causes g c) ran.ensures.takes)
