-- The words of a query, looked for by its name.
use Rattle.std.proofs.Common.{◌≡◌, ◌≢◌, ℕ, List, [], ◌∷◌, ◌++◌, Option, Some, None, refl, sym, ap, ◌∙◌}
use Rattle.std.specs.Prelude.{codes, if◌then◌else◌}
use Rattle.std.specs.List.{join_with_byte}
use Rattle.liq_types.specs.declared.requests.Query.{Query}
use Rattle.liq_types.specs.declared.requests.Query.TheVariants as queries
use Rattle.liq_text.specs.Spelling.{Word, text, account, SpellEach, query_words}
use Rattle.liq_text.specs.Reading.{◌>>=◌, account_of, first, others, is_empty, pieces_of, query_of, subject_of}
use Rattle.liq_text.proofs.LineLaws.{join-pieces_of, pieces_of-join}
use Rattle.liq_text.proofs.ReadingLaws.{none_from}
use Rattle.liq_text.proofs.RequestLaws.{query_takes}
use Rattle.liq_text.proofs.SpellingLaws.{account_takes, plain_spelled}

-- the account that is the only word
abbrev only_account : (ℕ → Query) → List (List ℕ) → Option Query
only_account make pieces = first account_of pieces >>= λ a. if is_empty (others pieces) then Some (make a) else None

nowhere : {A B : Type 0} (o : Option A) (f : A → Option B) → ((a : A) → f a ≡ None) → (o >>= f) ≡ None
nowhere None f none = refl
nowhere (Some a) f none = none a

no_account : (make : ℕ → Query) (word : List ℕ) (pieces : List (List ℕ)) → account_of word ≡ None
    → word ≡ join_with_byte 32 pieces → only_account make pieces ≡ None
unfolding first others is_empty
no_account make word [] none joined = refl
no_account make word (piece ∷ []) none joined = let same : account_of piece ≡ None = ap account_of (sym joined) ∙ none
    in rw same refl
no_account make word (piece ∷ next ∷ pieces) none joined = nowhere (account_of piece) (λ a. if is_empty (next ∷ pieces)
    then Some (make a) else None) (λ a. refl)

one_account : (make : ℕ → Query) (word : List ℕ) (read : Option ℕ) → account_of word ≡ read
    → only_account make (pieces_of word) ≡ (read >>= λ a. Some (make a))
unfolding first others is_empty
one_account make word None e = no_account make word (pieces_of word) e (join-pieces_of word)
one_account make word (Some a) e =
    let one : pieces_of word ≡ word ∷ [] =
    pieces_of-join word [] (plain_spelled word (account a) tt (account_takes word a e), tt) in
    ap (only_account make) one ∙ ap (λ (o : Option ℕ). o >>= λ a. Some (make a)) e

-- ---- what stands behind a name

pub wallet_read : (words word : List ℕ) (read : Option ℕ) → words ≡ codes "wallet " ++ word → read ≡ account_of word
    → (read >>= λ a. Some (queries.Wallet a)) ≡ query_of (pieces_of words)
unfolding query_of subject_of pieces_of first others is_empty
wallet_read words word read e is = sym (ap (λ (ws : List ℕ). query_of (pieces_of ws)) e
    ∙ one_account queries.Wallet word read (sym is))

pub trove_read : (words word : List ℕ) (read : Option ℕ) → words ≡ codes "trove " ++ word → read ≡ account_of word
    → (read >>= λ a. Some (queries.Trove a)) ≡ query_of (pieces_of words)
unfolding query_of subject_of pieces_of first others is_empty
trove_read words word read e is = sym (ap (λ (ws : List ℕ). query_of (pieces_of ws)) e
    ∙ one_account queries.Trove word read (sym is))

pub deposit_read : (words word : List ℕ) (read : Option ℕ) → words ≡ codes "deposit " ++ word → read ≡ account_of word
    → (read >>= λ a. Some (queries.Deposit a)) ≡ query_of (pieces_of words)
unfolding query_of subject_of pieces_of first others is_empty
deposit_read words word read e is = sym (ap (λ (ws : List ℕ). query_of (pieces_of ws)) e
    ∙ one_account queries.Deposit word read (sym is))

pub next_number_read : (words word : List ℕ) (read : Option ℕ) → words ≡ codes "next_number " ++ word
    → read ≡ account_of word → (read >>= λ a. Some (queries.NextNumber a)) ≡ query_of (pieces_of words)
unfolding query_of subject_of pieces_of first others is_empty
next_number_read words word read e is = sym (ap (λ (ws : List ℕ). query_of (pieces_of ws)) e
    ∙ one_account queries.NextNumber word read (sym is))

pub pools_read : (words : List ℕ) → words ≡ codes "pools" → Some queries.Pools ≡ query_of (pieces_of words)
unfolding query_of subject_of pieces_of first others is_empty
pools_read words e = sym (ap (λ (ws : List ℕ). query_of (pieces_of ws)) e)

pub system_read : (words : List ℕ) → words ≡ codes "system" → Some queries.System ≡ query_of (pieces_of words)
unfolding query_of subject_of pieces_of first others is_empty
system_read words e = sym (ap (λ (ws : List ℕ). query_of (pieces_of ws)) e)

-- ---- where no name stands

named_word : (pieces : List (List ℕ)) (name : List ℕ) (word : Word) → SpellEach pieces (text name ∷ word ∷ [])
    → (rest : List ℕ) × (join_with_byte 32 pieces ≡ name ++ 32 ∷ rest)
named_word [] name word s = absurd s
named_word (piece ∷ []) name word s = absurd s.1
named_word (piece ∷ next ∷ []) name word s = (next, ap (λ (p : List ℕ). p ++ 32 ∷ next) s.0)
named_word (piece ∷ next ∷ more ∷ pieces) name word s = absurd s.1.1

name_alone : (pieces : List (List ℕ)) (name : List ℕ) → SpellEach pieces (text name ∷ [])
    → join_with_byte 32 pieces ≡ name
name_alone [] name s = absurd s
name_alone (piece ∷ []) name s = s.0
name_alone (piece ∷ next ∷ pieces) name s = absurd s.1

pub nothing_asked : (words : List ℕ)
    → ((rest : List ℕ) → words ≢ codes "wallet " ++ rest) → ((rest : List ℕ) → words ≢ codes "trove " ++ rest)
    → ((rest : List ℕ) → words ≢ codes "deposit " ++ rest) → ((rest : List ℕ) → words ≢ codes "next_number " ++ rest)
    → words ≢ codes "pools" → words ≢ codes "system" → None ≡ query_of (pieces_of words)
nothing_asked words wallet trove deposit next_number pools system =
    none_from (query_of (pieces_of words)) (λ query e. by query (query_takes (pieces_of words) query e)) where
      joined : words ≡ join_with_byte 32 (pieces_of words)
      joined = join-pieces_of words

      by : (query : Query) → SpellEach (pieces_of words) (query_words query) → ⊥
      by (queries.Wallet owner) s = let n = named_word (pieces_of words) (codes "wallet") (account owner) s
          in wallet n.0 (joined ∙ n.1)
      by (queries.Trove owner) s = let n = named_word (pieces_of words) (codes "trove") (account owner) s
          in trove n.0 (joined ∙ n.1)
      by (queries.Deposit owner) s = let n = named_word (pieces_of words) (codes "deposit") (account owner) s
          in deposit n.0 (joined ∙ n.1)
      by (queries.NextNumber client) s = let n = named_word (pieces_of words) (codes "next_number") (account client) s
          in next_number n.0 (joined ∙ n.1)
      by queries.Pools s = pools (joined ∙ name_alone (pieces_of words) (codes "pools") s)
      by queries.System s = system (joined ∙ name_alone (pieces_of words) (codes "system") s)
