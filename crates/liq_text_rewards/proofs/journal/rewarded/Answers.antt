use Rattle.std.proofs.Common.{◌≡◌, ℕ, List, [], ◌++◌, ap, sym, subst, ◌∙◌}
use Rattle.liq_types.specs.State.{opening_with}
use Rattle.liq_audit.specs.Auditable.{owners_of}
use Rattle.liq_rule_step.specs.Events.{events}
use Rattle.liq_disk_replay.specs.Retold as retold
use Rattle.liq_rewards.specs.Timed.{Timed}
use Rattle.liq_text_rewards.specs.Happened.{past_after, minute_after}
use Rattle.liq_text_rewards.specs.Rewarded.{told}
use Rattle.liq_text_rewards.specs.Telling.{Note, CanBeFollowed, events_in, past_in}
use Rattle.liq_text_rewards.proofs.Following.{adds, can_be_followed, events_along, past_along, last_minute}
use Rattle.liq_text_rewards.proofs.journal.rewarded.Goals as goal

pub followed-requires : goal.followed-requires
followed-requires c =
    let made = c.in_ok-protocol.ensures.done in
    let made_notes = retold.noted adds (opening_with c.args.limit) c.args.commands.now in
    subst (λ (notes : List Note). CanBeFollowed notes c.minute_of.result) (sym (c.events.ensures ∙ made.notes_are))
    (subst (λ minute. CanBeFollowed made_notes minute) (sym (c.minute_of.ensures made.state made.stands))
    (can_be_followed c.args.limit c.requires.limit c.args.commands.now made.state made.replays c.requires.no_rotation))

pub returns-clause-text : goal.returns-clause-text
returns-clause-text c =
    let made = c.in_ok-protocol.ensures.done in
    let lines = c.args.lines.now in
    let commands = c.args.commands.now in
    let start = opening_with c.args.limit in
    let past = past_in c.events.result.now in
    let accounts = c.deref.result.now in
    let minute : c.in_ok-rewards.rewards.minute ≡ minute_after start commands =
    c.in_ok-rewards.ensures.minute ∙ c.minute_of.ensures made.state made.stands
    ∙ sym (last_minute commands 1 start made.state made.replays) in
    let same_past : past ≡ past_after [] start commands =
    ap past_in (c.events.ensures ∙ made.notes_are) ∙ past_along commands start [] in
    let owners : accounts ≡ owners_of (events start commands) =
    c.deref.ensures.value ∙ c.in_ok-accounts.ensures ∙ ap (λ (notes : List Note). owners_of (events_in notes))
    (c.events-2.ensures ∙ made.notes_are)
    ∙ ap owners_of (events_along commands start) in
    c.in_ok-rewards_text.ensures.text past c.in_ok-rewards.ensures.kept
    ∙ ap (λ (t : List ℕ). t ++ told lines c.in_ok-rewards.rewards.minute past accounts) c.new-text.ensures.items
    ∙ ap (λ m. told lines m past accounts) minute
    ∙ ap (λ (p : List Timed). told lines (minute_after start commands) p accounts) same_past
    ∙ ap (λ (owners : List ℕ). told lines (minute_after start commands) (past_after [] start commands) owners) owners
