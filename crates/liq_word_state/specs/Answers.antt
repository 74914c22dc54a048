-- What the words `staking` and `rewards` tell: lines are answered beside commands.
use Rattle.std.specs.Prelude.{ℕ, ◌≡◌, ◌<◌, ◌≤◌, List, length, Ok, Err}
use Rattle.liq_types.specs.declared.requests.Command.{Command}
use Rattle.liq_types.specs.State.{State}
use Rattle.liq_fees.specs.declared.changes.TheConstants.{CHANGES_MOST}
use Rattle.liq_text_staking.specs.Staked.{staked_text}
use Rattle.liq_text_rewards.specs.Rewarded.{rewarded_text}
use Rattle.liq_word_exit.specs.declared.halts.Halt.TheVariants.{DiskFault, NoMemory, Rotated, WriteFault}
use Rattle.liq_word_state.specs.declared.answers.Asked.{Asked}
use Rattle.liq_word_state.specs.declared.answers.Asked.TheVariants.{Stakes, Tags}
use Rattle.liq_word_state.specs.Leads.{LeadTo}
use Rattle.liq_word_exit.specs.Statuses.{End}

-- the text for the lines, beside these commands from the opening under a limit on
abbrev pub asked_text : Asked → ℕ → List Command → List ℕ
asked_text (Stakes lines) limit commands = staked_text limit commands lines.items
asked_text (Tags lines) limit commands = rewarded_text limit commands lines.items

-- there are no more lines than can be answered
abbrev pub AreFew : Asked → Type 0
AreFew (Stakes lines) = length lines.items ≤ CHANGES_MOST
AreFew (Tags lines) = Unit {0}

-- Lines are answered beside the commands that lead to this state, and that ends so: all is told of
-- a state of the first generation, unless the sink meets a fault; of a later generation's state
-- nothing is.
abbrev pub IsAnswerOf : State → List Command → End → Type 0
IsAnswerOf s all (Ok done) = LeadTo all s
IsAnswerOf s all (Err WriteFault) = LeadTo all s
IsAnswerOf s all (Err (Rotated later)) = (1 < s.generation) × (later ≡ s.generation)
-- a disk met a fault, or there was no memory
IsAnswerOf s all (Err DiskFault) = Unit {0}
IsAnswerOf s all (Err NoMemory) = Unit {0}
IsAnswerOf s all (Err _) = ⊥
