-- What is found of a word that clap has read.
use Rattle.std.proofs.Common.{◌≡◌, List, [], ◌∷◌, Some, None, Option, refl, sym, ap, ◌∙◌, codes, option_map, get_or, subst, arith}
use Rattle.std.specs.Prelude.{decimal, unwrap_or}
use Rattle.clap.specs.declared.parser.matches.Found.{Found}
use Rattle.clap.specs.Words.{Text, Row, first_of, first_value, rows_of}
use Rattle.clap.proofs.WalkLemmas.{first_value-rows}
use Rattle.liq_word_line.specs.declared.words.Word.{Word}
use Rattle.liq_word_line.specs.declared.words.Word.TheVariants.{Run, Serve, Staking, Rewards, State, Audit, Report, Follow, Gen}
use Rattle.liq_word_arguments.specs.Reading.{HasRead}
use Rattle.liq_word_line.specs.Words.{Ask, IsInRange}

-- a subcommand's value is that of its rows
value_found : (found : Option (Text × List Row)) (f : Found) (id text : Text)
    → Some (rows_of f) ≡ option_map (λ p. p.1) found → option_map (λ p. first_of id p.1) found ≡ Some (Some text)
    → first_value f id ≡ Some text
value_found None f id text rows first = absurd cc
value_found (Some p) f id text rows first =
    let same : rows_of f ≡ p.1 = cc in
    first_value-rows f id ∙ ap (first_of id) same ∙ cc

-- the two values of the word, and that they ask for it
pub record Values (f : Found) (word : Word) : Type 0 where
  pub seed : Text
  pub count : Text
  pub seed_is : first_value f (codes "seed") ≡ Some seed
  pub count_is : first_value f (codes "count") ≡ Some count
  pub ask : Ask (codes "gen" ∷ seed ∷ count ∷ []) word

-- another word is no `gen`, whose first letter is 103
no_gen : (name other : Text) (found : Option (Text × List Row)) → (get_or other 0 0 ≡ 103 → ⊥) → name ≡ codes "gen"
    → Some name ≡ option_map (λ p. p.0) found → option_map (λ p. p.0) found ≡ Some other → ⊥
no_gen name other found apart is name_is read = apart (sym (ap (λ o. get_or (unwrap_or o []) 0 0) (sym (ap Some is)
    ∙ name_is ∙ read)))

pub values_found : (name : Text) (f : Found) (found : Option (Text × List Row)) (word : Word) → name ≡ codes "gen"
    → Some name ≡ option_map (λ p. p.0) found → Some (rows_of f) ≡ option_map (λ p. p.1) found → IsInRange word
    → HasRead found word → Values f word
values_found name f found Run is name_is rows_are within read =
    absurd (no_gen name (codes "run") found (λ e. omega (arith, e)) is name_is read)
values_found name f found Serve is name_is rows_are within read =
    absurd (no_gen name (codes "serve") found (λ e. omega (arith, e)) is name_is read)
values_found name f found Staking is name_is rows_are within read =
    absurd (no_gen name (codes "staking") found (λ e. omega (arith, e)) is name_is read)
values_found name f found Rewards is name_is rows_are within read =
    absurd (no_gen name (codes "rewards") found (λ e. omega (arith, e)) is name_is read)
values_found name f found State is name_is rows_are within read =
    absurd (no_gen name (codes "state") found (λ e. omega (arith, e)) is name_is read)
values_found name f found Audit is name_is rows_are within read =
    absurd (no_gen name (codes "audit") found (λ e. omega (arith, e)) is name_is read)
values_found name f found Report is name_is rows_are within read =
    absurd (no_gen name (codes "report") found (λ e. omega (arith, e)) is name_is read)
values_found name f found Follow is name_is rows_are within read =
    absurd (no_gen name (codes "follow") found (λ e. omega (arith, e)) is name_is read)
values_found name f found (Gen seed count) is name_is rows_are within read = record {
  seed = decimal seed;
  count = decimal count;
  seed_is = value_found found f (codes "seed") (decimal seed) rows_are read.1;
  count_is = value_found found f (codes "count") (decimal count) rows_are read.2;
  ask = (refl, within.0, within.1, within.2);
}

-- the values that are found ask for the word
pub asks : (f : Found) (word : Word) → Values f word → (seed count : Text) → first_value f (codes "seed") ≡ Some seed
    → first_value f (codes "count") ≡ Some count → Ask (codes "gen" ∷ seed ∷ count ∷ []) word
asks f word v seed count seed_is count_is =
    let same_seed : v.seed ≡ seed = cc (v.seed_is, seed_is) in
    let same_count : v.count ≡ count = cc (v.count_is, count_is) in
    subst (λ (t : Text). Ask (codes "gen" ∷ t ∷ count ∷ []) word) same_seed
    (subst (λ (t : Text). Ask (codes "gen" ∷ v.seed ∷ t ∷ []) word) same_count v.ask)

-- a word that is read under another name than `gen` stands alone
pub stands_alone : (name : Text) (found : Option (Text × List Row)) (word : Word) → (name ≡ codes "gen" → ⊥)
    → Some name ≡ option_map (λ p. p.0) found → HasRead found word → Ask (name ∷ []) word
stands_alone name found Run apart name_is read = ap (λ o. unwrap_or o [] ∷ []) (name_is ∙ read)
stands_alone name found Serve apart name_is read = ap (λ o. unwrap_or o [] ∷ []) (name_is ∙ read)
stands_alone name found Staking apart name_is read = ap (λ o. unwrap_or o [] ∷ []) (name_is ∙ read)
stands_alone name found Rewards apart name_is read = ap (λ o. unwrap_or o [] ∷ []) (name_is ∙ read)
stands_alone name found State apart name_is read = ap (λ o. unwrap_or o [] ∷ []) (name_is ∙ read)
stands_alone name found Audit apart name_is read = ap (λ o. unwrap_or o [] ∷ []) (name_is ∙ read)
stands_alone name found Report apart name_is read = ap (λ o. unwrap_or o [] ∷ []) (name_is ∙ read)
stands_alone name found Follow apart name_is read = ap (λ o. unwrap_or o [] ∷ []) (name_is ∙ read)
stands_alone name found (Gen seed count) apart name_is read =
    absurd (apart (ap (λ o. unwrap_or o []) (name_is ∙ read.0)))
