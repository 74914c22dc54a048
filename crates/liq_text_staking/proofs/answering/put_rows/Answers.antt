use Rattle.std.proofs.Common.{◌++◌, ap, ◌∙◌}
use Rattle.std.specs.Map.Iter.{deref}
use Rattle.std.proofs.lemmas.Map.Iter.{rest_more, rest_all}
use Rattle.liq_fees.specs.declared.gains.StakeRow.{StakeRow}
use Rattle.liq_text.specs.Writing.{words_line}
use Rattle.liq_text_staking.specs.Staked.{row_line, row_words}
use Rattle.liq_text_staking.proofs.Lines.{row_last, row_next}
use Rattle.liq_text_staking.proofs.answering.put_rows.Goals as goal

pub loop-account-preserved : goal.loop-account-preserved
loop-account-preserved c past h =
    let out = c.loop-account.text.items in
    let left = rest_more deref c.loop-account.account-iterator c.next.new.self c.next.result c.in-Some.account
    c.in-Some.is c.next.ensures.steps in
    row_next (row_line past) out c.put_row.new.text.items _ c.in-Some.account.now c.loop-account.account-iterator
    c.next.new.self left
    (c.in_ok-put_row.ensures ∙ ap (λ (row : StakeRow). out ++ words_line (row_words row)) (c.row.ensures.row past h))
    (c.loop-account.invariant past h)

pub returns : goal.returns
returns c past h =
    let none = rest_all deref c.loop-account.account-iterator c.next.new.self c.next.result c.in-None.is
    c.next.ensures.steps in
    row_last (row_line past) c.loop-account.text.items _ c.loop-account.account-iterator none
    (c.loop-account.invariant past h)
