use Rattle.std.proofs.Common.{rules, ◌-◌, ◌*◌, ◌∷◌, [], take, get_or, ◌∙◌}
use Rattle.liq_replies96.specs.Replies.{made}
use Rattle.liq_replies96.proofs.Refusing.{refused}
use Rattle.liq_replies96.proofs.encoding.refused.Goals as goal

pub returns : goal.returns
returns c =
    let ns = c.numbers_of-count.result.0 in
    let count = c.numbers_of-count.result.1 in
    let e = c.numbers_of-count.ensures in
    c.of_words.ensures
    ∙ (λ i.
    made 3 (get_or ns 0 0) (count - 1)
    (take (2 * (count - 1))
    (c.low.ensures i ∷ c.high.ensures i ∷ c.low-2.ensures i ∷ c.high-2.ensures i
    ∷ c.low-3.ensures i ∷ c.high-3.ensures i ∷ c.low-4.ensures i ∷ c.high-4.ensures i
    ∷ c.low-5.ensures i ∷ c.high-5.ensures i ∷ [])))
    ∙ refused c.args.refusal.now ns count (search rules) e.few.0 e.few.1 e.numbers
