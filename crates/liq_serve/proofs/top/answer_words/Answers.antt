use Rattle.std.proofs.Common.{◌≡◌, Err, Result, sym, subst}
use Rattle.std.specs.Prelude.{◌↔◌, map}
use Rattle.std.specs.String.{string_bytes}
use Rattle.liq_word_line.specs.declared.words.Word.{Word}
use Rattle.liq_word_arguments.specs.declared.reading.WordsFault.{WordsFault}
use Rattle.liq_word_arguments.specs.declared.reading.WordsFault.TheVariants.{Usage}
use Rattle.liq_word_line.specs.Words.{Ask}
use Rattle.liq_word_exit.specs.Outside.{Outside}
use Rattle.liq_serve.specs.Top.{Ends}
use Rattle.liq_serve.specs.declared.top.Ended.{Ended}
use Rattle.liq_serve.proofs.Words.{is_read, unread_ends}
use Rattle.liq_serve.proofs.top.answer_words.Goals as goal

pub returns-in-Ok : goal.returns-in-Ok
returns-in-Ok g c =
    let words = map string_bytes c.args._words.now in
    let before : Outside g.row.S.Denot g.row.K.Denot g.row.D.Denot =
    record { source = c.args.input.now; sink = c.args.out.now; left = c.args.left; right = c.args.right } in
    let ran = c.carry_out in
    let read = is_read words c.args.read c.in-Ok.word c.in-Ok.is c.requires.word c.requires.only in
    subst (λ (e : Ended g.row.D.Denot). Ends g.S.Source.at g.K.Sink.at g.D.Disk.at before
    (record { source = ran.new.input; sink = ran.new.out; left = e.left; right = e.right }) e.status words)
    (sym c.with_status.ensures) (ran.ensures words read.asks read.only)

pub returns-in-Err : goal.returns-in-Err
returns-in-Err g c =
    let words = map string_bytes c.args._words.now in
    let before : Outside g.row.S.Denot g.row.K.Denot g.row.D.Denot =
    record { source = c.args.input.now; sink = c.args.out.now; left = c.args.left; right = c.args.right } in
    let ran = c.end_unread-status in
    let failed : Result Word WordsFault = Err c.in-Err.fault in
    let none : (failed ≡ Err Usage) ↔ ((word : Word) → Ask words word → ⊥) =
    subst (λ (r : Result Word WordsFault). (r ≡ Err Usage) ↔ ((word : Word) → Ask words word → ⊥)) c.in-Err.is
    c.requires.usage in
    unread_ends g.S.Source.at g.K.Sink.at g.D.Disk.at g.met.D.Disk.seen_may_stay before ran.new.out words c.in-Err.fault
    ran.result ran.ensures.count ran.ensures.no_memory ran.ensures.unshown ran.ensures.usage none
