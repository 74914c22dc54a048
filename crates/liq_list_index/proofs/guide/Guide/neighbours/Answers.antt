use Rattle.std.proofs.Common.{◌≡◌, List, ap, ◌∙◌}
use Rattle.std.proofs.lemmas.Int.{to_z-of_z}
use Rattle.liq_types.specs.Ranked.{Ranked, neighbours}
use Rattle.liq_list_index.specs.Rows.{key_at}
use Rattle.liq_list_index.proofs.Standing.{stand_once}
use Rattle.liq_list_index.proofs.guide.Guide.neighbours.Goals as goal

pub accounts_aside-requires-clause-once : goal.accounts_aside-requires-clause-once
accounts_aside-requires-clause-once c = stand_once (key_at c.self.inside.rows.stands) c.self.inside.rows.places
    c.self.invariant.0

pub returns : goal.returns
returns c =
    let e : Ranked = (c.args.key, c.args.account) in
    let found : c.accounts_aside.result ≡ neighbours c.self.inside.rows.places e =
    simp (to_z-of_z, c.ranges.key) at c.accounts_aside.ensures in
    found ∙ ap (λ (l : List Ranked). neighbours l e) c.self.view_is
