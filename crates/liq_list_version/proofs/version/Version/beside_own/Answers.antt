use Rattle.std.proofs.Common.{◌≡◌, ℤ, pos, ap, ◌∙◌, rules}
use Rattle.std.proofs.lemmas.Int.{to_z-of_z}
use Rattle.std.specs.Prelude.{Option, unwrap_or}
use Rattle.liq_types.specs.Ranked.{neighbours, key_in}
use Rattle.liq_list_version.specs.Versions.{Numbered, key_asked}
use Rattle.liq_list_version.specs.declared.asks.Ask.TheVariants.{Own}
use Rattle.liq_list_version.proofs.version.Version.beside_own.Goals as goal
use mir.Syntax.{w128}
use mir.Val.{SFits}

pub returns : goal.returns
returns c =
    let guide = c.self.inside.guide in
    let fits : SFits w128 c.unwrap_or-key.result = search rules in
    let beside : c.neighbours.result ≡ neighbours guide (c.unwrap_or-key.result, c.args.account) =
    simp (to_z-of_z, fits) at c.neighbours.ensures in
    let key : c.unwrap_or-key.result ≡ unwrap_or (key_in guide c.args.account) (pos 0) = c.unwrap_or-key.ensures
    ∙ ap (λ (o : Option ℤ). unwrap_or o (pos 0)) c.key_of.ensures in
    beside
    ∙ ap (λ (k : ℤ). neighbours guide (k, c.args.account)) key
    ∙ ap (λ (v : Numbered). neighbours v.view.list (key_asked v.view (Own c.args.account), c.args.account))
    c.self.view_is
