-- What a name stands for: the table of the verbs is that of the code.
use Rattle.std.specs.Prelude.{List, [], ◌∷◌, ℕ, Option, Some, None, if◌then◌else◌, codes}
use Rattle.std.specs.Str.{bytes_eq}
use Rattle.liq_text.specs.declared.names.TheConstants.{VERBS}
use Rattle.liq_text.specs.declared.names.Verb.{Verb}
use Rattle.liq_text.specs.Topics.{Topic, Wallet, Trove, Deposit, Pools, System, NextNumber}

-- what a word stands for in a table, by the name and the meaning of each row
abbrev pub named : {R A : Type 0} → (R → List ℕ) → (R → A) → List R → List ℕ → Option A
named name meant [] word = None
named name meant (row ∷ rows) word = if bytes_eq word (name row) then Some (meant row)
    else named name meant rows word

abbrev pub verb_of : List ℕ → Option Verb
verb_of word = named (λ row. row.0.now) (λ row. row.1) VERBS word

-- what a query's name says that it asks about
abbrev pub topics : List (List ℕ × Topic)
topics =
    (codes "wallet", Wallet) ∷ (codes "trove", Trove) ∷ (codes "deposit", Deposit)
    ∷ (codes "pools", Pools) ∷ (codes "system", System) ∷ (codes "next_number", NextNumber) ∷ []

abbrev pub topic_of : List ℕ → Option Topic
topic_of word = named (λ row. row.0) (λ row. row.1) topics word
