use Rattle.std.proofs.Common.{◌≡◌, ℕ, List, refl, sym, subst, ap, arith, length}
use Rattle.liq_types.specs.State.{State}
use Rattle.liq_types.specs.declared.requests.Command.{Command}
use Rattle.liq_word_exit.specs.declared.ending.Ending.{Ending}
use Rattle.liq_word_exit.specs.Causes.{ReadCause}
use Rattle.liq_word_exit.proofs.Causes.{unread_causes}
use Rattle.liq_word_exit.specs.Outside.{Outside}
use Rattle.liq_word_state.specs.Answers.{IsAnswerOf, asked_text}
use Rattle.liq_word_state.specs.declared.telling.Text.TheVariants.{Answers}
use Rattle.liq_serve.specs.Top.{AnswersLines}
use Rattle.liq_serve.proofs.Found.{tells_found}
use Rattle.liq_serve.proofs.Gathered.{lines_stopped, lines_whole, stop_source, source_kept}
use Rattle.liq_serve.proofs.answers.answer_on.Goals as goal

pub tell_on-requires : goal.tell_on-requires
tell_on-requires g c = let read = c.in-Ok.ensures.read in c.into_asked.ensures.few
    (omega (arith, read.few, ap length read.has))

pub returns-in-Ok-clause-answered : goal.returns-in-Ok-clause-answered
returns-in-Ok-clause-answered g c =
    let sink_at = g.K.Sink.at in
    let disk_at = g.D.Disk.at in
    let ran = c.tell_on in
    let before : Outside g.row.S.Denot g.row.K.Denot g.row.D.Denot =
    record { source = c.args.input.now; sink = c.args.out.now; left = c.args.left; right = c.args.right } in
    let after : Outside g.row.S.Denot g.row.K.Denot g.row.D.Denot =
    record { source = c.gather.new.input; sink = ran.new.out; left = ran.result.left; right = ran.result.right } in
    let asked = c.into_asked.result in
    lines_whole g.S.Source.at sink_at disk_at g.F.Form.says g.F.Asking.text before after c.in-Ok.lines ran.result.end
    c.in-Ok.ensures.read
    (tells_found g.S.Source.at sink_at disk_at before after (Answers asked) ran.result.end ran.ensures.told
    ran.ensures.past ran.ensures.damaged ran.ensures.some ran.ensures.disks
    (λ (s : State) (commands : List Command) (it : List ℕ). IsAnswerOf s commands ran.result.end
    × (it ≡ g.F.Asking.text s.limit commands c.in-Ok.lines.items))
    (λ s commands h.
    (asked_text asked s.limit commands, (h.0, c.into_asked.ensures.text s.limit commands), h.1)))

pub returns-in-Err-clause-answered : goal.returns-in-Err-clause-answered
returns-in-Err-clause-answered g c =
    let sink_at = g.K.Sink.at in
    let wrote = c.stopped.new.out in
    let before : Outside g.row.S.Denot g.row.K.Denot g.row.D.Denot =
    record { source = c.args.input.now; sink = c.args.out.now; left = c.args.left; right = c.args.right } in
    let after : Outside g.row.S.Denot g.row.K.Denot g.row.D.Denot =
    record { source = c.gather.new.input; sink = wrote; left = c.args.left; right = c.args.right } in
    subst (λ (e : Ending g.row.D.Denot). AnswersLines g.S.Source.at sink_at g.D.Disk.at before
    (record { source = c.gather.new.input; sink = wrote; left = e.left; right = e.right }) g.F.Form.says
    g.F.Asking.text e.end) (sym c.stopped.ensures.ending)
    (lines_stopped g.S.Source.at sink_at g.D.Disk.at g.F.Form.says g.F.Asking.text before after c.in-Err.stop
    c.in-Err.ensures.read refl refl c.stopped.ensures.written)

-- ---- the counts

pub returns-in-Ok-clause-causes : goal.returns-in-Ok-clause-causes
returns-in-Ok-clause-causes g c =
    let told = c.tell_on.ensures in
    let end = c.tell_on.result.end in
    record {
      source = source_kept end _ _ c.in-Ok.ensures.source (unread_causes end _ told.ends.no_source);
      sink = told.sink;
      disks = told.disks;
    }

pub returns-in-Err-clause-causes : goal.returns-in-Err-clause-causes
returns-in-Err-clause-causes g c =
    let before = (g.S.Source.at c.args.input.now).faults in
    let after = (g.S.Source.at c.gather.new.input).faults in
    record {
      source = subst (λ (e : Ending g.row.D.Denot). ReadCause e.end before after) (sym c.stopped.ensures.ending)
          (stop_source g.row.F-Item.Denot c.in-Err.stop before after c.in-Err.ensures.source);
      sink = c.stopped.ensures.sink;
      disks = c.stopped.ensures.disks;
    }
