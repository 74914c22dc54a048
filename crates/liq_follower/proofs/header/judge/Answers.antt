use Rattle.std.proofs.Common.{sym, ◌∙◌}
use Rattle.liq_follower.proofs.Verdicts.{misplaced, right, turned, undigested}
use Rattle.liq_follower.proofs.header.judge.Goals as goal

pub returns-then-is_later : goal.returns-then-is_later
returns-then-is_later c gate = (
  (turned c.args.bytes.now gate c.requires (sym c.is_later.ensures
      ∙ c.if-is_later.true)).0,
  sym c.generation_of-generation.ensures,
)

pub returns-in-Err : goal.returns-in-Err
returns-in-Err c gate = misplaced c.args.bytes.now gate c.requires (sym c.is_later.ensures
    ∙ c.if-is_later.false) c.in-Err.field-0 c.in-Err.ensures.placed

pub returns-then-has_digest : goal.returns-then-has_digest
returns-then-has_digest c gate =
    right c.args.bytes.now gate c.requires (sym c.is_later.ensures
    ∙ c.if-is_later.false) c.in-Ok.head c.in-Ok.ensures.placed.0 c.in-Ok.ensures.placed.1
    (sym c.has_digest.ensures ∙ c.if-has_digest.true)

pub returns-else-has_digest : goal.returns-else-has_digest
returns-else-has_digest c gate =
    undigested c.args.bytes.now gate c.requires (sym c.is_later.ensures
    ∙ c.if-is_later.false) c.in-Ok.head c.in-Ok.ensures.placed.0 c.in-Ok.ensures.placed.1
    (sym c.has_digest.ensures ∙ c.if-has_digest.false)
