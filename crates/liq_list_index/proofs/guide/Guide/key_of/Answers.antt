use Rattle.std.proofs.Common.{List, ap, ◌∙◌}
use Rattle.liq_types.specs.Ranked.{Ranked, key_in}
use Rattle.liq_list_index.specs.Rows.{key_at}
use Rattle.liq_list_keys.specs.declared.key_index.AccountKey.{AccountKey}
use Rattle.liq_list_index.proofs.Standing.{key_found}
use Rattle.liq_list_index.proofs.guide.Guide.key_of.Goals as goal

pub returns : goal.returns
returns c =
    ap (λ (s : AccountKey). s.key) c.account_key.ensures
    ∙ key_found (key_at c.self.inside.rows.stands) c.self.inside.rows.places c.args.account c.self.invariant.0
    ∙ ap (λ (l : List Ranked). key_in l c.args.account) c.self.view_is
