use Rattle.std.proofs.Common.{◌≡◌, ◌++◌, [], drop}
use Rattle.std.specs.Prelude.{fold}
use Rattle.liq_text_rewards.specs.Tagged.{with_tag, tags_of, replies}
use Rattle.liq_text_rewards.proofs.tags.answer_tags.Given as goal

abbrev pub invariant-loop-line : goal.invariant-loop-line
invariant-loop-line l = record {
  tags : fold with_tag l.tags.entries (drop l.line-index l.lines) ≡ tags_of l.lines;
  text : l.text.items ++ replies l.tags.entries (drop l.line-index l.lines) ≡ l.initial.text.items
      ++ replies [] l.lines;
}
