use Rattle.std.proofs.Common.{◌≡◌, Some, None, rules, codes, option_map}
use Rattle.clap.specs.Words.{subcommand_rows_of, first_value, found_of}
use Rattle.liq_word_arguments.proofs.Found.{asks, stands_alone, values_found}
use Rattle.liq_word_arguments.proofs.reading.word_of.Goals as goal

pub returns-in_err-get_str-in-gen-default : goal.returns-in_err-get_str-in-gen-default
returns-in_err-get_str-in-gen-default c word within read =
    let found = found_of c.in_ok-values.field-0.1.now in
    let v = values_found c.in_ok-values.field-0.0.now found (subcommand_rows_of c.args.matches.now) word
    (search rules) (search rules) (search rules) within read in
    let none : first_value found (codes "seed") ≡ None = search rules in
    absurd (cc (v.seed_is, none))

pub returns-in_err-get_str-in-gen-default-2 : goal.returns-in_err-get_str-in-gen-default-2
returns-in_err-get_str-in-gen-default-2 c word within read =
    let found = found_of c.in_ok-values.field-0.1.now in
    let v = values_found c.in_ok-values.field-0.0.now found (subcommand_rows_of c.args.matches.now) word
    (search rules) (search rules) (search rules) within read in
    let none : first_value found (codes "count") ≡ None = search rules in
    absurd (cc (v.count_is, none))

pub returns-in_ok-get_str-in-gen-default-2 : goal.returns-in_ok-get_str-in-gen-default-2
returns-in_ok-get_str-in-gen-default-2 c word within read =
    let found = found_of c.in_ok-values.field-0.1.now in
    let v = values_found c.in_ok-values.field-0.0.now found (subcommand_rows_of c.args.matches.now) word
    (search rules) (search rules) (search rules) within read in
    let seed : first_value found (codes "seed") ≡ Some c.in_ok-get_str-in-gen-default.field-0.now = search rules in
    let count : first_value found (codes "count") ≡ Some c.in_ok-get_str-in-gen-default-2.field-0.now = search rules in
    c.gen_of.ensures.only word (asks found word v _ _ seed count)

pub returns-in_default : goal.returns-in_default
returns-in_default c word within read =
    let found = subcommand_rows_of c.args.matches.now in
    let name : Some c.in_ok-values.field-0.0.now ≡ option_map (λ p. p.0) found = search rules in
    let apart : c.in_ok-values.field-0.0.now ≡ codes "gen" → ⊥ = search rules in
    c.alone.ensures.only word (stands_alone c.in_ok-values.field-0.0.now found word apart name read)
