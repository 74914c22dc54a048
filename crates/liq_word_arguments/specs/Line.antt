-- The command line as clap is told of it.
use Rattle.std.specs.Prelude.{true, codes}
use Rattle.clap.specs.Words.{App, Rule, Text, new_app, new_rule, with_rule, with_subcommand}

-- a value that has to be there
abbrev pub needed : Text → Rule
needed id = record (new_rule id) { required = true }

abbrev pub load : App
load = with_rule (with_rule (new_app (codes "gen")) (needed (codes "seed")))
    (needed (codes "count"))

-- without help, and without the program's name in front of the words
abbrev pub base : App
base =
    let plain = new_app (codes "liq") in
    record plain {
      top = record plain.top {
        no_binary_name = true;
        disable_help_flag = true;
        disable_help_subcommand = true;
        subcommand_required = true;
      };
    }

abbrev pub line : App
line =
    let alone : Text → App → App = λ name app. with_subcommand app (new_app name).top in
    let words = alone (codes "run") base in
    let words = alone (codes "serve") words in
    let words = alone (codes "staking") words in
    let words = alone (codes "rewards") words in
    let words = alone (codes "state") words in
    let words = alone (codes "audit") words in
    let words = alone (codes "report") words in
    let words = alone (codes "follow") words in
    with_subcommand words load.top
