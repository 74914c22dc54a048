-- What the words of a command line ask for.
use Rattle.std.specs.Prelude.{ℕ, ◌≡◌, ◌≤◌, ◌<◌, ◌^◌, List, [], ◌∷◌, codes, decimal}
use Rattle.liq_word_line.specs.declared.words.Word.{Word}
use Rattle.liq_word_line.specs.declared.words.Word.TheVariants.{Run, Serve, Staking, Rewards, State, Audit, Report, Follow, Gen}

-- the words are just those that ask for it; a number has no sign and no leading zero
abbrev pub Ask : List (List ℕ) → Word → Type 0
Ask words Run = words ≡ codes "run" ∷ []
Ask words Serve = words ≡ codes "serve" ∷ []
Ask words Staking = words ≡ codes "staking" ∷ []
Ask words Rewards = words ≡ codes "rewards" ∷ []
Ask words State = words ≡ codes "state" ∷ []
Ask words Audit = words ≡ codes "audit" ∷ []
Ask words Report = words ≡ codes "report" ∷ []
Ask words Follow = words ≡ codes "follow" ∷ []
Ask words (Gen seed count) = (words ≡ codes "gen" ∷ decimal seed ∷ decimal count ∷ [])
    × (seed < 2 ^ 64) × (1 ≤ count) × (count ≤ 1000000)

-- what the word asks for uses the disks
abbrev pub UsesDisks : Word → Type 0
UsesDisks (Gen seed count) = ⊥
UsesDisks Follow = ⊥
UsesDisks _ = Unit {0}

-- the numbers of a word are in their ranges
abbrev pub IsInRange : Word → Type 0
IsInRange (Gen seed count) = (seed < 2 ^ 64) × (1 ≤ count) × (count ≤ 1000000)
IsInRange _ = Unit {0}
