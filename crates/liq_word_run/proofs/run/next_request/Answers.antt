use Rattle.std.proofs.Common.{◌≡◌, ◌+◌, ℕ, List, Option, Err, Result, refl, sym, subst}
use Rattle.liq_word_exit.specs.declared.halts.Halt.{Halt}
use Rattle.liq_word_exit.specs.declared.halts.Halt.TheVariants.{BadLine}
use Rattle.liq_word_exit.specs.Requests.{IsRequest}
use Rattle.liq_word_run.specs.declared.run.Next.{Next}
use Rattle.liq_word_run.specs.Progress.{ReadsRequest, ReadsBad, with_end, without_end, too_long}
use Rattle.liq_word_run.proofs.Residual.{handed_on}
use Rattle.liq_word_run.proofs.run.next_request.Goals as goal
use Rattle.liq_text_lines.specs.Reading.{unread}
use Rattle.liq_text_lines.specs.Saying.{IsBadLine}

bad_request : (before after : Option (List ℕ)) (taken : List ℕ) (number : ℕ) (end : Result Next Halt) (halt : Halt)
    → end ≡ Err halt → halt ≡ BadLine number → ReadsBad before after → ReadsRequest before after taken number end
bad_request before after taken number end halt is at bad =
    subst (λ (e : Result Next Halt). ReadsRequest before after taken number e) (sym (subst (λ h. end ≡ Err h) at is))
    (refl, bad)

pub returns-in-Ok-TooLong-clause-request : goal.returns-in-Ok-TooLong-clause-request
returns-in-Ok-TooLong-clause-request g c =
    let line = rw c.in-Ok-TooLong.field-0-is at c.in-Ok-TooLong.ensures.line in
    bad_request (unread c.args.reader.now (g.S.Source.at c.args.input.now).left)
    (unread c.next_line.new.self (g.S.Source.at c.next_line.new.input).left) c.next_line.new.self (c.args.before + 1)
    (Err c.bad_line.result) c.bad_line.result refl c.bad_line.ensures
    (too_long c.next_line.new.line.items line.0 line.2 line.3 line.4 line.1)

pub returns-in_err-request_on-in-Ok-Ended-clause-request : goal.returns-in_err-request_on-in-Ok-Ended-clause-request
returns-in_err-request_on-in-Ok-Ended-clause-request g c =
    let line = rw c.in-Ok-Ended.field-0-is at c.in-Ok-Ended.ensures.line in
    let bad = c.in_err-request_on-in-Ok-Ended.ensures in
    bad_request (unread c.args.reader.now (g.S.Source.at c.args.input.now).left)
    (unread c.next_line.new.self (g.S.Source.at c.next_line.new.input).left) c.next_line.new.self (c.args.before + 1)
    c.from_residual.result c.in_err-request_on-in-Ok-Ended.field-0.0
    (handed_on c.from_residual.result c.in_err-request_on-in-Ok-Ended.field-0.0 c.from_residual.ensures.1) bad.0
    (with_end c.next_line.new.line.items (subst (IsBadLine IsRequest) c.deref.ensures.value bad.1) line.1 line.0)

pub returns-in_err-request_on-in-Ok-Unended-clause-request : goal.returns-in_err-request_on-in-Ok-Unended-clause-request
returns-in_err-request_on-in-Ok-Unended-clause-request g c =
    let line = rw c.in-Ok-Unended.field-0-is at c.in-Ok-Unended.ensures.line in
    let bad = c.in_err-request_on-in-Ok-Unended.ensures in
    bad_request (unread c.args.reader.now (g.S.Source.at c.args.input.now).left)
    (unread c.next_line.new.self (g.S.Source.at c.next_line.new.input).left) c.next_line.new.self (c.args.before + 1)
    c.from_residual-in_err-request_on-in-Ok-Unended.result c.in_err-request_on-in-Ok-Unended.field-0.0
    (handed_on c.from_residual-in_err-request_on-in-Ok-Unended.result c.in_err-request_on-in-Ok-Unended.field-0.0
    c.from_residual-in_err-request_on-in-Ok-Unended.ensures.1) bad.0
    (without_end c.next_line.new.line.items (subst (IsBadLine IsRequest) c.deref-in-Ok-Unended.ensures.value bad.1)
    line.1 line.2 line.0 line.3)

pub returns-in-Err-clause-request : goal.returns-in-Err-clause-request
returns-in-Err-clause-request g c =
    let failed = c.in-Err.ensures.line in
    (c.next_line.new.line.items, failed.1, failed.0, failed.2, failed.3)

pub returns-in-Ok-Nothing-clause-request : goal.returns-in-Ok-Nothing-clause-request
returns-in-Ok-Nothing-clause-request g c = rw c.in-Ok-Nothing.field-0-is at c.in-Ok-Nothing.ensures.line

pub returns-in_ok-request_on-in-Ok-Ended-clause-request : goal.returns-in_ok-request_on-in-Ok-Ended-clause-request
returns-in_ok-request_on-in-Ok-Ended-clause-request g c =
    let line = rw c.in-Ok-Ended.field-0-is at c.in-Ok-Ended.ensures.line in (
      c.next_line.new.line.items,
      subst (λ (l : List ℕ). IsRequest l c.in_ok-request_on-in-Ok-Ended.field-0)
          c.deref.ensures.value c.in_ok-request_on-in-Ok-Ended.ensures,
      line.1,
      line.0,
    )

pub returns-in_ok-request_on-in-Ok-Unended-clause-request : goal.returns-in_ok-request_on-in-Ok-Unended-clause-request
returns-in_ok-request_on-in-Ok-Unended-clause-request g c =
    let line = rw c.in-Ok-Unended.field-0-is at c.in-Ok-Unended.ensures.line in (
      c.next_line.new.line.items,
      subst (λ (l : List ℕ). IsRequest l c.in_ok-request_on-in-Ok-Unended.field-0)
          c.deref-in-Ok-Unended.ensures.value c.in_ok-request_on-in-Ok-Unended.ensures,
      line.1,
      line.2,
      line.0,
      line.3,
    )

pub returns-in-Some-clause-request : goal.returns-in-Some-clause-request
returns-in-Some-clause-request g c = c.taken_request.ensures.request (g.S.Source.at c.args.input.now).left
