use Rattle.std.proofs.Common.{◌++◌, get_or, Option, ap, ◌∙◌}
use Rattle.liq_text.specs.Writing.{words_line}
use Rattle.liq_rewards.specs.declared.lines.TagLine.{TagLine}
use Rattle.liq_rewards.specs.declared.rewards.RewardRow.{RewardRow}
use Rattle.liq_rewards.specs.Kept.{row_of}
use Rattle.liq_text_rewards.specs.Rewarded.{row_words, row_line}
use Rattle.liq_text_rewards.proofs.Lines.{line_next, line_last}
use Rattle.liq_text_rewards.proofs.text.put_rows.Goals as goal

pub loop-account-preserved : goal.loop-account-preserved
loop-account-preserved c past h =
    let out = c.loop-account.text.items in
    let minute = c.args.rewards.now.minute in
    let account = get_or c.args.accounts.now c.loop-account.account-index 0 in
    line_next (row_line c.args.tags.now.entries minute past) out c.put_row.new.text.items _ c.args.accounts.now
    c.loop-account.account-index 0 c.loop-account-test.true
    (c.in_ok-put_row.ensures
    ∙ ap (λ (row : RewardRow). out ++ words_line (row_words row c.copied-tag.result)) (c.row.ensures.row past h)
    ∙ ap (λ (tag : Option TagLine). out ++ words_line (row_words (row_of account minute past) tag))
    (c.copied-tag.ensures ∙ c.get.ensures.value))
    (c.loop-account.invariant past h)

pub returns : goal.returns
returns c past h =
    line_last (row_line c.args.tags.now.entries c.args.rewards.now.minute past) c.loop-account.text.items _
    c.args.accounts.now c.loop-account.account-index c.loop-account-test.false (c.loop-account.invariant past h)
