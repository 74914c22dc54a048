-- What clap reads of words that do not begin with a hyphen, which is 45.
use Rattle.std.proofs.Common.{◌≡◌, ℕ, [], ◌∷◌, refl, true, false, Some, codes, option_map, ◌==◌}
use Rattle.clap.specs.Words.{Text, is_simple, first_of, subcommand_of, takes}
use Rattle.clap.proofs.OnLiterals.{clap_on_literals}
use Rattle.liq_word_arguments.specs.Line.{line}

pub line_is_simple : is_simple line ≡ true
line_is_simple = refl

pub run_is_taken : takes line (codes "run" ∷ []) ≡ true
unfolding clap_on_literals
run_is_taken = refl

pub run_is_read : option_map (λ p. p.0) (subcommand_of line (codes "run" ∷ [])) ≡ Some (codes "run")
unfolding clap_on_literals
run_is_read = refl

pub state_is_taken : takes line (codes "state" ∷ []) ≡ true
unfolding clap_on_literals
state_is_taken = refl

pub state_is_read : option_map (λ p. p.0) (subcommand_of line (codes "state" ∷ [])) ≡ Some (codes "state")
unfolding clap_on_literals
state_is_read = refl

pub serve_is_taken : takes line (codes "serve" ∷ []) ≡ true
unfolding clap_on_literals
serve_is_taken = refl

pub serve_is_read : option_map (λ p. p.0) (subcommand_of line (codes "serve" ∷ [])) ≡ Some (codes "serve")
unfolding clap_on_literals
serve_is_read = refl

pub staking_is_taken : takes line (codes "staking" ∷ []) ≡ true
unfolding clap_on_literals
staking_is_taken = refl

pub staking_is_read : option_map (λ p. p.0) (subcommand_of line (codes "staking" ∷ [])) ≡ Some (codes "staking")
unfolding clap_on_literals
staking_is_read = refl

pub rewards_is_taken : takes line (codes "rewards" ∷ []) ≡ true
unfolding clap_on_literals
rewards_is_taken = refl

pub rewards_is_read : option_map (λ p. p.0) (subcommand_of line (codes "rewards" ∷ [])) ≡ Some (codes "rewards")
unfolding clap_on_literals
rewards_is_read = refl

pub audit_is_taken : takes line (codes "audit" ∷ []) ≡ true
unfolding clap_on_literals
audit_is_taken = refl

pub audit_is_read : option_map (λ p. p.0) (subcommand_of line (codes "audit" ∷ [])) ≡ Some (codes "audit")
unfolding clap_on_literals
audit_is_read = refl

pub report_is_taken : takes line (codes "report" ∷ []) ≡ true
unfolding clap_on_literals
report_is_taken = refl

pub report_is_read : option_map (λ p. p.0) (subcommand_of line (codes "report" ∷ [])) ≡ Some (codes "report")
unfolding clap_on_literals
report_is_read = refl

pub follow_is_taken : takes line (codes "follow" ∷ []) ≡ true
unfolding clap_on_literals
follow_is_taken = refl

pub follow_is_read : option_map (λ p. p.0) (subcommand_of line (codes "follow" ∷ [])) ≡ Some (codes "follow")
unfolding clap_on_literals
follow_is_read = refl

pub gen_is_taken : (a b : ℕ) (seed count : Text) → (a == 45) ≡ false → (b == 45) ≡ false
    → takes line (codes "gen" ∷ (a ∷ seed) ∷ (b ∷ count) ∷ []) ≡ true
unfolding clap_on_literals
gen_is_taken a b seed count not_a not_b = simp (not_a, not_b)

pub gen_is_read : (a b : ℕ) (seed count : Text) → (a == 45) ≡ false → (b == 45) ≡ false
    → option_map (λ p. p.0) (subcommand_of line (codes "gen" ∷ (a ∷ seed) ∷ (b ∷ count) ∷ [])) ≡ Some (codes "gen")
unfolding clap_on_literals
gen_is_read a b seed count not_a not_b = refl

pub seed_is_read : (a b : ℕ) (seed count : Text) → (a == 45) ≡ false → (b == 45) ≡ false
    → option_map (λ p. first_of (codes "seed") p.1) (subcommand_of line (codes "gen" ∷ (a ∷ seed) ∷ (b ∷ count) ∷ []))
    ≡ Some (Some (a ∷ seed))
unfolding clap_on_literals
seed_is_read a b seed count not_a not_b = simp (not_a, not_b)

pub count_is_read : (a b : ℕ) (seed count : Text) → (a == 45) ≡ false → (b == 45) ≡ false
    → option_map (λ p. first_of (codes "count") p.1) (subcommand_of line (codes "gen" ∷ (a ∷ seed) ∷ (b ∷ count) ∷ []))
    ≡ Some (Some (b ∷ count))
unfolding clap_on_literals
count_is_read a b seed count not_a not_b = simp (not_a, not_b)
