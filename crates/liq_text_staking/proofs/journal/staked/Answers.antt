use Rattle.std.proofs.Common.{sym, subst, ◌∙◌}
use Rattle.liq_types.specs.State.{opening_with}
use Rattle.liq_text_staking.specs.Answering.{CanBeShared}
use Rattle.liq_text_staking.proofs.Limits.{can_be_shared, noted_fees}
use Rattle.liq_text_staking.proofs.journal.staked.Goals as goal

pub answer_stakers-requires-clause-fees : goal.answer_stakers-requires-clause-fees
answer_stakers-requires-clause-fees c =
    let made = c.in_ok-replay_commands.ensures.done in
    subst CanBeShared (sym (c.fees.ensures ∙ made.notes_are
    ∙ noted_fees c.args.commands.now (opening_with c.args.limit)))
    (can_be_shared c.args.limit c.args.commands.now made.state made.replays c.requires.limit c.requires.no_rotation)
