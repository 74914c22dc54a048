use Rattle.std.proofs.Common.{◌≡◌, ℤ, ap, ◌∙◌, rules}
use Rattle.std.proofs.lemmas.Int.{to_z-of_z}
use Rattle.liq_types.specs.Ranked.{neighbours}
use Rattle.liq_types.specs.Views.{key_seen}
use Rattle.liq_list_version.specs.Versions.{Numbered}
use Rattle.liq_list_version.specs.Words.{seen}
use Rattle.liq_list_version.proofs.version.Version.beside_opening.Goals as goal
use mir.Syntax.{w128}
use mir.Val.{SFits}

pub returns-in-Some : goal.returns-in-Some
returns-in-Some c =
    let guide = c.self.inside.guide in
    let fits : SFits w128 c.in-Some.key = search rules in
    let beside : c.neighbours.result ≡ neighbours guide (c.in-Some.key, c.args.account) =
    simp (to_z-of_z, fits) at c.neighbours.ensures in
    beside
    ∙ ap (λ (k : ℤ). neighbours guide (k, c.args.account)) c.in-Some.ensures
    ∙ ap (λ (v : Numbered). neighbours v.view.list (key_seen v.view c.args.coll c.args.borrow, c.args.account))
    c.self.view_is

pub returns-in-None : goal.returns-in-None
returns-in-None c =
    c.neighbours_below_all.ensures (key_seen (seen c.self.inside.guide c.self.inside.words) c.args.coll c.args.borrow)
    c.in-None.ensures
    ∙ ap (λ (v : Numbered). neighbours v.view.list (key_seen v.view c.args.coll c.args.borrow, c.args.account))
    c.self.view_is
