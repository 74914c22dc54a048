-- What clap has read of a word.
use Rattle.std.specs.Prelude.{◌≡◌, List, Option, Some, option_map, codes, decimal}
use Rattle.clap.specs.Words.{Text, Row, first_of}
use Rattle.liq_word_line.specs.declared.words.Word.{Word}
use Rattle.liq_word_line.specs.declared.words.Word.TheVariants.{Run, Serve, Staking, Rewards, State, Audit, Report, Follow, Gen}

-- the subcommand is that of the word, and it has the word's values
abbrev pub HasRead : Option (Text × List Row) → Word → Type 0
HasRead found Run = option_map (λ p. p.0) found ≡ Some (codes "run")
HasRead found Serve = option_map (λ p. p.0) found ≡ Some (codes "serve")
HasRead found Staking = option_map (λ p. p.0) found ≡ Some (codes "staking")
HasRead found Rewards = option_map (λ p. p.0) found ≡ Some (codes "rewards")
HasRead found State = option_map (λ p. p.0) found ≡ Some (codes "state")
HasRead found Audit = option_map (λ p. p.0) found ≡ Some (codes "audit")
HasRead found Report = option_map (λ p. p.0) found ≡ Some (codes "report")
HasRead found Follow = option_map (λ p. p.0) found ≡ Some (codes "follow")
HasRead found (Gen seed count) =
    (option_map (λ p. p.0) found ≡ Some (codes "gen"))
    × (option_map (λ p. first_of (codes "seed") p.1) found ≡ Some (Some (decimal seed)))
    × (option_map (λ p. first_of (codes "count") p.1) found ≡ Some (Some (decimal count)))
