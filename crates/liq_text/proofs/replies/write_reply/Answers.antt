use Rattle.std.proofs.Common.{ap, length, length-append, List, ℕ, arith}
use Rattle.liq_text.specs.Replies.{text}
use Rattle.liq_text.proofs.replies.write_reply.Goals as goal

pub returns-clause-short : goal.returns-clause-short
returns-clause-short c =
    let long = ap (λ (x : List ℕ). length x) c.put_reply.ensures.items in
    let parts = length-append c.reserve.new.self.items (text c.args.reply.now) in
    omega (arith, long, parts, c.put_reply.new.out.ok, c.put_reply.ensures.len, c.reserve.new.self.ok)
