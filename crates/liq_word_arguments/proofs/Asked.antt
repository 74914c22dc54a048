-- What clap reads of words that ask for something.
use Rattle.std.proofs.Common.{◌≡◌, ℕ, ◌<◌, ◌^◌, ◌==◌, List, [], ◌∷◌, false, true, refl, sym, ap, ap₂, get_or, subst, ◌∙◌, arith, codes, length, Some, Option, Result, Ok, Err, option_map}
use Rattle.std.specs.Prelude.{decimal, IsErrAnd, if◌then◌else◌}
use Rattle.std.specs.Str.{bytes_eq}
use Rattle.std.specs.Option.{ok_or}
use Rattle.std.specs.Char.{digit_value}
use Rattle.std.specs.Str.Parse.{IsNumeral, digits_value}
use Rattle.std.proofs.lemmas.Bool.{ne_eqb}
use Rattle.std.proofs.lemmas.Fmt.{decimal_is_IsNumeral}
use Rattle.clap.specs.Words.{Text, first_of, subcommand_of, takes}
use Rattle.liq_word_line.specs.declared.words.Word.{Word}
use Rattle.liq_word_line.specs.declared.words.Word.TheVariants.{Run, Serve, Staking, Rewards, State, Audit, Report, Follow, Gen}
use Rattle.liq_word_arguments.specs.declared.reading.WordsFault.{WordsFault}
use Rattle.liq_word_arguments.specs.declared.reading.WordsFault.TheVariants.{Usage, NoMemory}
use Rattle.liq_word_arguments.specs.Line.{line}
use Rattle.liq_word_arguments.specs.Reading.{HasRead}
use Rattle.liq_word_line.specs.Words.{Ask, IsInRange}
use Rattle.liq_word_arguments.proofs.Taken.{run_is_taken, run_is_read, serve_is_taken, serve_is_read, staking_is_taken, staking_is_read, rewards_is_taken, rewards_is_read, state_is_taken, state_is_read, audit_is_taken, audit_is_read, report_is_taken, report_is_read, follow_is_taken, follow_is_read, gen_is_taken, gen_is_read, seed_is_read, count_is_read}

-- ---- what words are that ask for something

abbrev words_of : Word → List Text
words_of Run = codes "run" ∷ []
words_of Serve = codes "serve" ∷ []
words_of Staking = codes "staking" ∷ []
words_of Rewards = codes "rewards" ∷ []
words_of State = codes "state" ∷ []
words_of Audit = codes "audit" ∷ []
words_of Report = codes "report" ∷ []
words_of Follow = codes "follow" ∷ []
words_of (Gen seed count) = codes "gen" ∷ decimal seed ∷ decimal count ∷ []

words_are : (words : List Text) (word : Word) → Ask words word → words ≡ words_of word
words_are words Run h = h
words_are words Serve h = h
words_are words Staking h = h
words_are words Rewards h = h
words_are words State h = h
words_are words Audit h = h
words_are words Report h = h
words_are words Follow h = h
words_are words (Gen seed count) h = h.0

pub in_range : (words : List Text) (word : Word) → Ask words word → IsInRange word
in_range words (Gen seed count) h = (h.1, h.2, h.3)
in_range words word h = tt

-- ---- what clap reads

-- how a number begins
record Begins (text : Text) : Type 0 where
  first : ℕ
  rest : Text
  text_is : text ≡ first ∷ rest
  no_hyphen : (first == 45) ≡ false

begins : (text : Text) → IsNumeral 10 text → Begins text
begins [] h = absurd (omega (arith, h.0))
begins (b ∷ bs) h = record {
  first = b;
  rest = bs;
  text_is = refl;
  no_hyphen = ne_eqb b 45 (λ e. let v : digit_value b ≡ 36 = ap digit_value e in omega (arith, v, h.1.0));
}

number_begins : (n : ℕ) → n < 2 ^ 64 → Begins (decimal n)
number_begins n small = begins (decimal n) (decimal_is_IsNumeral n small).0

word_taken : (word : Word) → IsInRange word → takes line (words_of word) ≡ true
word_taken Run h = run_is_taken
word_taken Serve h = serve_is_taken
word_taken Staking h = staking_is_taken
word_taken Rewards h = rewards_is_taken
word_taken State h = state_is_taken
word_taken Audit h = audit_is_taken
word_taken Report h = report_is_taken
word_taken Follow h = follow_is_taken
word_taken (Gen seed count) h =
    let s = number_begins seed h.0 in
    let c = number_begins count (omega (arith, h.2)) in
    subst (λ (t : Text). takes line (codes "gen" ∷ t ∷ decimal count ∷ []) ≡ true) (sym s.text_is)
    (subst (λ (t : Text). takes line (codes "gen" ∷ (s.first ∷ s.rest) ∷ t ∷ []) ≡ true) (sym c.text_is)
    (gen_is_taken s.first c.first s.rest c.rest s.no_hyphen c.no_hyphen))

-- clap takes the words
pub are_taken : (words : List Text) (word : Word) → Ask words word → takes line words ≡ true
are_taken words word h = ap (takes line) (words_are words word h) ∙ word_taken word (in_range words word h)

-- what clap reads of two texts behind `gen`
abbrev AreRead : Text → Text → Type 0
AreRead seed count =
    let found = subcommand_of line (codes "gen" ∷ seed ∷ count ∷ []) in
    (option_map (λ p. p.0) found ≡ Some (codes "gen"))
    × (option_map (λ p. first_of (codes "seed") p.1) found ≡ Some (Some seed))
    × (option_map (λ p. first_of (codes "count") p.1) found ≡ Some (Some count))

are_read : (seed count : Text) → Begins seed → Begins count → AreRead seed count
are_read seed count s c =
    subst (λ (t : Text). AreRead t count) (sym s.text_is)
    (subst (λ (t : Text). AreRead (s.first ∷ s.rest) t) (sym c.text_is) (
      gen_is_read s.first c.first s.rest c.rest s.no_hyphen c.no_hyphen,
      seed_is_read s.first c.first s.rest c.rest s.no_hyphen c.no_hyphen,
      count_is_read s.first c.first s.rest c.rest s.no_hyphen c.no_hyphen,
    ))

word_read : (word : Word) → IsInRange word → HasRead (subcommand_of line (words_of word)) word
word_read Run h = run_is_read
word_read Serve h = serve_is_read
word_read Staking h = staking_is_read
word_read Rewards h = rewards_is_read
word_read State h = state_is_read
word_read Audit h = audit_is_read
word_read Report h = report_is_read
word_read Follow h = follow_is_read
word_read (Gen seed count) h = are_read (decimal seed) (decimal count) (number_begins seed h.0)
    (number_begins count (omega (arith, h.2)))

-- clap reads the word
pub is_read : (words : List Text) (word : Word) → Ask words word → HasRead (subcommand_of line words) word
is_read words word h =
    subst (λ (ws : List Text). HasRead (subcommand_of line ws) word) (sym (words_are words word h))
    (word_read word (in_range words word h))

-- ---- what is answered then

pub no_memory : (K : Type 0) (r : Result Word WordsFault) → IsErrAnd r (λ fault. K → fault ≡ NoMemory) → K
    → r ≡ Err NoMemory
no_memory K (Ok word) h k = absurd h
no_memory K (Err fault) h k = ap Err (h k)

pub is_word : (read : Option Word) (word : Word) (r : Result Word WordsFault) → read ≡ Some word → r ≡ ok_or read Usage
    → r ≡ Ok word
is_word read word r found is = is ∙ ap (λ o. ok_or o Usage) found

-- ---- words ask for one thing

same_number : (m n : ℕ) → m < 2 ^ 64 → n < 2 ^ 64 → decimal m ≡ decimal n → m ≡ n
same_number m n small_m small_n same = sym (decimal_is_IsNumeral m small_m).1 ∙ ap (digits_value 10) same
    ∙ (decimal_is_IsNumeral n small_n).1

-- the word that stands alone under this name
abbrev alone_of : Text → Word
alone_of name =
    if bytes_eq name (codes "run") then Run
    else if bytes_eq name (codes "serve") then Serve
    else if bytes_eq name (codes "staking") then Staking
    else if bytes_eq name (codes "rewards") then Rewards
    else if bytes_eq name (codes "state") then State
    else if bytes_eq name (codes "audit") then Audit
    else if bytes_eq name (codes "report") then Report
    else Follow

same_word : (a b : Word) → IsInRange a → IsInRange b → words_of a ≡ words_of b → a ≡ b
same_word (Gen seed count) (Gen other more) h k same =
    let at : ℕ → List Text → Text = λ n words. get_or words n [] in
    let seeds = same_number seed other h.0 k.0 (ap (at 1) same) in
    let counts = same_number count more (omega (arith, h.2)) (omega (arith, k.2)) (ap (at 2) same) in
    ap₂ Gen seeds counts
same_word (Gen seed count) b h k same = absurd (omega (arith, ap length same))
same_word a (Gen other more) h k same = absurd (omega (arith, ap length same))
same_word a b h k same = ap (λ words. alone_of (get_or words 0 [])) same

pub one_word : (words : List Text) (a b : Word) → Ask words a → Ask words b → a ≡ b
one_word words a b h k =
    same_word a b (in_range words a h) (in_range words b k) (sym (words_are words a h) ∙ words_are words b k)
