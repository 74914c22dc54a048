use Rattle.liq_text_rewards.proofs.Tagging.{replies_last, replies_next, tags_last, tags_next}
use Rattle.liq_text_rewards.proofs.tags.answer_tags.Goals as goal

pub loop-line-preserved : goal.loop-line-preserved
loop-line-preserved c =
    let lines = c.args.lines.now in
    let i = c.loop-line.line-index in
    let less = c.loop-line-test.true in
    let tags = c.in_ok-answer.ensures.tags in
    record {
      tags = tags_next lines i _ c.loop-line.tags.entries c.answer.new.tags.entries _ less tags
          c.loop-line.invariant.tags;
      text = replies_next lines i _ c.loop-line.tags.entries c.answer.new.tags.entries c.loop-line.text.items
          c.answer.new.text.items _ less tags c.in_ok-answer.ensures.text c.loop-line.invariant.text;
    }

pub returns-clause-tags : goal.returns-clause-tags
returns-clause-tags c = tags_last c.args.lines.now c.loop-line.line-index c.loop-line.tags.entries _
    c.loop-line-test.false c.loop-line.invariant.tags

pub returns-clause-text : goal.returns-clause-text
returns-clause-text c = replies_last c.args.lines.now c.loop-line.line-index c.loop-line.tags.entries
    c.loop-line.text.items _ c.loop-line-test.false c.loop-line.invariant.text
