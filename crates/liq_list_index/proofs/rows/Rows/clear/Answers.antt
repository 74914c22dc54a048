use Rattle.std.proofs.Common.{◌≡◌, ℤ, List, false, cond, sym, ap, ◌∙◌, rules, Option}
use Rattle.std.proofs.lemmas.Int.{to_z-of_z}
use Rattle.std.specs.Ordering.{is_eq}
use Rattle.std.specs.Prelude.{unwrap_or}
use Rattle.liq_types.specs.Ranked.{Ranked, rank_order}
use Rattle.liq_list_index.specs.Rows.{is_in}
use Rattle.liq_list_index.proofs.Members.{left_is_in}
use Rattle.liq_list_index.proofs.rows.Rows.clear.Goals as goal
use mir.Syntax.{w128}
use mir.Val.{SFits}

pub returns-in-Some-clause-some : goal.returns-in-Some-clause-some
returns-in-Some-clause-some c k is =
    let old = c.args.self.now.places in
    let same : c.in-Some.key ≡ k = ap (λ (o : Option ℤ). unwrap_or o k) (sym c.in-Some.is ∙ is) in
    let fits : SFits w128 c.in-Some.key = search rules in
    let without = simp to_z-of_z at c.remove.ensures.left in (
      c.remove.ensures.ascending,
      λ e. ap (λ (l : List Ranked). is_in l e) without
          ∙ left_is_in old (c.in-Some.key, c.args.account) e
          ∙ ap (λ (key : ℤ). cond (is_eq (rank_order (key, c.args.account) e)) false (is_in old e)) same,
    )
