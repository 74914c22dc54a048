use Rattle.std.proofs.Common.{sym, ◌∙◌, ap, ◌++◌}
use Rattle.std.specs.Prelude.{codes, decimal, map}
use Rattle.liq_types.specs.declared.replies.Reply.{Reply}
use Rattle.liq_text.specs.Replies.{text, shown_values, refusal_numbers}
use Rattle.liq_text.proofs.WritingLaws.{put_behind}
use Rattle.liq_text.proofs.replies.put_reply.Goals as goal

pub returns-in-Said-clause-items : goal.returns-in-Said-clause-items
returns-in-Said-clause-items c =
    put_behind c.args.out.now.items c.put.new.out.items c.put_done.new.out.items (codes "ok")
    (map decimal (shown_values c.in-Said.done)) c.put.ensures.items c.put_done.ensures.items
    ∙ ap (λ (r : Reply). c.args.out.now.items ++ text r) (sym c.in-Said.is)

pub returns-in-No-clause-items : goal.returns-in-No-clause-items
returns-in-No-clause-items c =
    put_behind c.args.out.now.items c.put-in-No.new.out.items c.put_refusal.new.out.items (codes "no")
    (map decimal (refusal_numbers c.in-No.refusal)) c.put-in-No.ensures.items c.put_refusal.ensures.items
    ∙ ap (λ (r : Reply). c.args.out.now.items ++ text r) (sym c.in-No.is)
