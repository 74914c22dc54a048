use Rattle.std.proofs.Common.{ℕ, List, refl, subst}
use Rattle.liq_types.specs.State.{State}
use Rattle.liq_types.specs.declared.requests.Command.{Command}
use Rattle.liq_word_line.specs.declared.words.Word.{Word}
use Rattle.liq_word_line.specs.declared.words.Word.TheVariants as word
use Rattle.liq_word_line.specs.Words.{IsInRange}
use Rattle.liq_word_exit.specs.Outside.{Outside}
use Rattle.liq_word_state.specs.Audit.{IsAuditOf}
use Rattle.liq_word_state.specs.Report.{reported}
use Rattle.liq_word_state.specs.State.{standing}
use Rattle.liq_word_state.specs.declared.telling.Text.TheVariants as which
use Rattle.liq_serve.proofs.Found.{tells_found, tells_state}
use Rattle.liq_serve.proofs.Ran.{run_found}
use Rattle.liq_serve.proofs.Words.{IsRead, telling_ends, word_ends}
use Rattle.liq_serve.proofs.top.carry_out.Goals as goal
use Rattle.liq_text_lines.proofs.Readings.{takes_none}
use Rattle.liq_serve.proofs.StatusLaws.{goes_on_known}
use Rattle.liq_serve.proofs.Telling.{disks_unasked, disks_unfollowed, same_go_on, source_unasked, taken_followed}

pub returns-in-Run : goal.returns-in-Run
returns-in-Run g c words asks only =
    let ran = c.run_on in
    let before : Outside g.row.S.Denot g.row.K.Denot g.row.D.Denot =
    record { source = c.args.input.now; sink = c.args.out.now; left = c.args.left; right = c.args.right } in
    let after : Outside g.row.S.Denot g.row.K.Denot g.row.D.Denot =
    record { source = ran.new.input; sink = ran.new.out; left = ran.result.left; right = ran.result.right } in
    let read = subst (λ (w : Word). IsRead words w) c.in-Run.is (record { asks = asks; only = only }) in
    word_ends g.S.Source.at g.K.Sink.at g.D.Disk.at before after words word.Run ran.result.end read (
      goes_on_known ran.result.end ran.ensures.goes_on,
      run_found g.S.Source.at g.K.Sink.at g.D.Disk.at before after
          ran.result.end ran.ensures.run ran.ensures.damaged,
    )
    ran.ensures.causes ran.ensures.few

pub returns-in-Staking : goal.returns-in-Staking
returns-in-Staking g c words asks only =
    let ran = c.answer_on in
    let before : Outside g.row.S.Denot g.row.K.Denot g.row.D.Denot =
    record { source = c.args.input.now; sink = c.args.out.now; left = c.args.left; right = c.args.right } in
    let after : Outside g.row.S.Denot g.row.K.Denot g.row.D.Denot =
    record { source = ran.new.input; sink = ran.new.out; left = ran.result.left; right = ran.result.right } in
    let read = subst (λ (w : Word). IsRead words w) c.in-Staking.is (record { asks = asks; only = only }) in
    word_ends g.S.Source.at g.K.Sink.at g.D.Disk.at before after words word.Staking ran.result.end read
    ran.ensures.answered ran.ensures.causes ran.ensures.takes

pub returns-in-Rewards : goal.returns-in-Rewards
returns-in-Rewards g c words asks only =
    let ran = c.answer_on-in-Rewards in
    let before : Outside g.row.S.Denot g.row.K.Denot g.row.D.Denot =
    record { source = c.args.input.now; sink = c.args.out.now; left = c.args.left; right = c.args.right } in
    let after : Outside g.row.S.Denot g.row.K.Denot g.row.D.Denot =
    record { source = ran.new.input; sink = ran.new.out; left = ran.result.left; right = ran.result.right } in
    let read = subst (λ (w : Word). IsRead words w) c.in-Rewards.is (record { asks = asks; only = only }) in
    word_ends g.S.Source.at g.K.Sink.at g.D.Disk.at before after words word.Rewards ran.result.end read
    ran.ensures.answered ran.ensures.causes ran.ensures.takes

pub returns-in-State : goal.returns-in-State
returns-in-State g c words asks only =
    let ran = c.tell_on in
    let before : Outside g.row.S.Denot g.row.K.Denot g.row.D.Denot =
    record { source = c.args.input.now; sink = c.args.out.now; left = c.args.left; right = c.args.right } in
    let after : Outside g.row.S.Denot g.row.K.Denot g.row.D.Denot =
    record { source = c.args.input.now; sink = ran.new.out; left = ran.result.left; right = ran.result.right } in
    let read = subst (λ (w : Word). IsRead words w) c.in-State.is (record { asks = asks; only = only }) in
    telling_ends g.S.Source.at g.K.Sink.at g.D.Disk.at before after words word.State ran.result.end read
    (tells_state g.S.Source.at g.K.Sink.at g.D.Disk.at before after which.State ran.result.end ran.ensures.told
    ran.ensures.past ran.ensures.damaged ran.ensures.some ran.ensures.disks standing refl (λ s commands h. h))
    refl ran.ensures.ends.no_source ran.ensures.sink ran.ensures.disks

pub returns-in-Report : goal.returns-in-Report
returns-in-Report g c words asks only =
    let ran = c.tell_on-in-Report in
    let before : Outside g.row.S.Denot g.row.K.Denot g.row.D.Denot =
    record { source = c.args.input.now; sink = c.args.out.now; left = c.args.left; right = c.args.right } in
    let after : Outside g.row.S.Denot g.row.K.Denot g.row.D.Denot =
    record { source = c.args.input.now; sink = ran.new.out; left = ran.result.left; right = ran.result.right } in
    let read = subst (λ (w : Word). IsRead words w) c.in-Report.is (record { asks = asks; only = only }) in
    telling_ends g.S.Source.at g.K.Sink.at g.D.Disk.at before after words word.Report ran.result.end read
    (tells_state g.S.Source.at g.K.Sink.at g.D.Disk.at before after which.Report ran.result.end ran.ensures.told
    ran.ensures.past ran.ensures.damaged ran.ensures.some ran.ensures.disks reported refl (λ s commands h. h))
    refl ran.ensures.ends.no_source ran.ensures.sink ran.ensures.disks

pub returns-in-Audit : goal.returns-in-Audit
returns-in-Audit g c words asks only =
    let ran = c.tell_on-in-Audit in
    let before : Outside g.row.S.Denot g.row.K.Denot g.row.D.Denot =
    record { source = c.args.input.now; sink = c.args.out.now; left = c.args.left; right = c.args.right } in
    let after : Outside g.row.S.Denot g.row.K.Denot g.row.D.Denot =
    record { source = c.args.input.now; sink = ran.new.out; left = ran.result.left; right = ran.result.right } in
    let read = subst (λ (w : Word). IsRead words w) c.in-Audit.is (record { asks = asks; only = only }) in
    telling_ends g.S.Source.at g.K.Sink.at g.D.Disk.at before after words word.Audit ran.result.end read (
      refl,
      tells_found g.S.Source.at g.K.Sink.at g.D.Disk.at before after which.Audit ran.result.end ran.ensures.told
          ran.ensures.past ran.ensures.damaged ran.ensures.some ran.ensures.disks
          (λ (s : State) (commands : List Command) (text : List ℕ). IsAuditOf s commands ran.result.end text)
          (λ s commands h. h),
    )
    refl ran.ensures.ends.no_source ran.ensures.sink ran.ensures.disks

pub returns-in-Follow : goal.returns-in-Follow
returns-in-Follow g c words asks only =
    let ran = c.follow_on-end in
    let before : Outside g.row.S.Denot g.row.K.Denot g.row.D.Denot =
    record { source = c.args.input.now; sink = c.args.out.now; left = c.args.left; right = c.args.right } in
    let after : Outside g.row.S.Denot g.row.K.Denot g.row.D.Denot =
    record { source = ran.new.input; sink = ran.new.out; left = c.args.left; right = c.args.right } in
    let read = subst (λ (w : Word). IsRead words w) c.in-Follow.is (record { asks = asks; only = only }) in
    let so = ran.ensures.followed in
    let left = (g.S.Source.at ran.new.input).left in
    word_ends g.S.Source.at g.K.Sink.at g.D.Disk.at before after words word.Follow ran.result read
    (refl, so)
    (record {
      source = ran.ensures.source;
      sink = ran.ensures.sink;
      disks = same_go_on g.D.Disk.at c.args.left c.args.right ran.result
          (disks_unfollowed ran.result so.0 left so.2.0 so.2.1 _);
    })
    (so.0, so.1, taken_followed ran.result so.0 left so.2.0 so.2.1)

pub returns-in-Gen : goal.returns-in-Gen
returns-in-Gen g c words asks only =
    let ran = c.tell_load-end in
    let before : Outside g.row.S.Denot g.row.K.Denot g.row.D.Denot =
    record { source = c.args.input.now; sink = c.args.out.now; left = c.args.left; right = c.args.right } in
    let after : Outside g.row.S.Denot g.row.K.Denot g.row.D.Denot =
    record { source = c.args.input.now; sink = ran.new.out; left = c.args.left; right = c.args.right } in
    let read = subst (λ (w : Word). IsRead words w) c.in-Gen.is (record { asks = asks; only = only }) in
    word_ends g.S.Source.at g.K.Sink.at g.D.Disk.at before after words (word.Gen c.in-Gen.seed c.in-Gen.count)
    ran.result read
    (refl, ran.ensures.ends, ran.ensures.told)
    (record {
      source = source_unasked ran.result _ ran.ensures.ends;
      sink = ran.ensures.sink;
      disks = same_go_on g.D.Disk.at c.args.left c.args.right ran.result (disks_unasked ran.result _ ran.ensures.ends);
    })
    (takes_none (g.S.Source.at c.args.input.now).left)

pub tell_load-end-requires-clause-few : goal.tell_load-end-requires-clause-few
tell_load-end-requires-clause-few g c = (subst (λ (w : Word). IsInRange w) c.in-Gen.is c.requires.range).2
