-- The text that tells rewards: a reply for each line, what each account has earned and keeps of it,
-- and what was issued.
use Rattle.std.specs.Prelude.{ℕ, List, [], ◌∷◌, ◌++◌, Option, map, codes, decimal}
use Rattle.std.specs.List.{flat_map}
use Rattle.liq_types.specs.declared.requests.Command.{Command}
use Rattle.liq_types.specs.State.{opening_with}
use Rattle.liq_types.specs.Tables.{at}
use Rattle.liq_audit.specs.Auditable.{owners_of}
use Rattle.liq_rule_step.specs.Events.{events}
use Rattle.liq_text.specs.Writing.{words_line}
use Rattle.liq_rewards.specs.declared.lines.TagLine.{TagLine}
use Rattle.liq_rewards.specs.declared.rewards.RewardRow.{RewardRow}
use Rattle.liq_rewards.specs.Issued.{issued}
use Rattle.liq_rewards.specs.Timed.{Timed, unshared_at}
use Rattle.liq_rewards.specs.Kept.{row_of}
use Rattle.liq_text_rewards.specs.Tagged.{Tags, tags_of, replies, kept_of, given_of, front_word}
use Rattle.liq_text_rewards.specs.Happened.{past_after, minute_after}

-- the account, its reward and the allowance, what it keeps, its front end and what that is given
abbrev pub row_words : RewardRow → Option TagLine → List (List ℕ)
row_words row tag =
    map decimal (row.account ∷ row.reward ∷ row.allow ∷ kept_of row.reward tag ∷ [])
    ++ front_word tag ∷ decimal (given_of row.reward tag) ∷ []

abbrev pub row_line : Tags → ℕ → List Timed → ℕ → List ℕ
row_line tags minute past account =
    words_line (row_words (row_of account minute past) (at tags account))

abbrev pub issued_words : ℕ → List Timed → List (List ℕ)
issued_words minute past =
    codes "issued" ∷ decimal (issued minute) ∷ codes "unshared"
    ∷ decimal (unshared_at minute past) ∷ []

-- what is told of these accounts at a minute, after all that happened
abbrev pub told : List TagLine → ℕ → List Timed → List ℕ → List ℕ
told lines minute past accounts =
    replies [] lines
    ++ flat_map (row_line (tags_of lines) minute past) accounts
    ++ words_line (issued_words minute past)

-- the text for these commands of a journal, from the opening under its limit on, and these lines:
-- of each account with an own operation, ascending
abbrev pub rewarded_text : ℕ → List Command → List TagLine → List ℕ
rewarded_text limit commands lines =
    let start = opening_with limit in
    told lines (minute_after start commands) (past_after [] start commands)
    (owners_of (events start commands))
