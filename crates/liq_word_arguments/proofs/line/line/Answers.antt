use Rattle.std.proofs.Common.{◌≡◌, ap, ◌∙◌, Ok, Err, Result, false, codes}
use Rattle.std.specs.Prelude.{IfOk}
use Rattle.clap.specs.Words.{App, AddsSubcommand, app_of, new_app, shape_of, with_subcommand}
use Rattle.clap.specs.declared.builder.command.Command.{Command}
use Rattle.clap.specs.declared.builder.command.Command.TheViews.{out-Command}
use Rattle.liq_word_arguments.specs.Line.{load}
use Rattle.liq_word_arguments.proofs.line.line.Goals as goal

added : {E : Type 0} (result : Result Command E) (old sub : Command) (before more : App)
    → IfOk result (λ command. AddsSubcommand old sub command) → (out-Command sub).has_globals ≡ false
    → app_of old ≡ before → app_of sub ≡ more
    → IfOk result (λ command. app_of command ≡ with_subcommand before more.top)
added (Ok command) old sub before more adds local old_is sub_is =
    adds.shape local ∙ ap (λ (a : App). with_subcommand a (shape_of sub)) old_is
    ∙ ap (λ (a : App). with_subcommand before a.top) sub_is
added (Err e) old sub before more adds local old_is sub_is = tt

pub returns : goal.returns
returns c =
    let one = c.in_ok-line.ensures ∙ ap (λ (a : App). with_subcommand a (new_app (codes "run")).top) c.base.ensures in
    let two = c.in_ok-line-2.ensures ∙ ap (λ (a : App). with_subcommand a (new_app (codes "serve")).top) one in
    let three = c.in_ok-line-3.ensures ∙ ap (λ (a : App). with_subcommand a (new_app (codes "staking")).top) two in
    let four = c.in_ok-line-4.ensures ∙ ap (λ (a : App). with_subcommand a (new_app (codes "rewards")).top) three in
    let five = c.in_ok-line-5.ensures ∙ ap (λ (a : App). with_subcommand a (new_app (codes "state")).top) four in
    let six = c.in_ok-line-6.ensures ∙ ap (λ (a : App). with_subcommand a (new_app (codes "audit")).top) five in
    let seven = c.in_ok-line-7.ensures ∙ ap (λ (a : App). with_subcommand a (new_app (codes "report")).top) six in
    let eight = c.in_ok-line-8.ensures ∙ ap (λ (a : App). with_subcommand a (new_app (codes "follow")).top) seven in
    added c.subcommand.result c.in_ok-line-8.line c.in_ok-load.field-0 _ load c.subcommand.ensures
    c.in_ok-load.ensures.local eight c.in_ok-load.ensures.app
