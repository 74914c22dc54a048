use Rattle.std.proofs.Common.{◌∙◌, List, ap, refl}
use Rattle.liq_types.specs.Ranked.{Ranked}
use Rattle.liq_list_index.specs.Followed.{all_listed}
use Rattle.liq_core.proofs.SameContents.{stands_after}
use Rattle.liq_core_hinted.proofs.Tight.{few_taken}
use Rattle.liq_core_hinted.proofs.Steps.{stepped}
use Rattle.liq_core_hinted.proofs.guided.Guided.reserve_and_apply.Goals as goal

pub returns-clause-made : goal.returns-clause-made
returns-clause-made g c s h =
    let plan = c.args.planned.now in
    stepped c.apply.new.self s plan.command plan (refl, c.requires s h)
    (c.apply.ensures.state s (stands_after c.args.self.now c.reserve.new.self s c.reserve.ensures.same h))

pub returns-clause-few : goal.returns-clause-few
returns-clause-few g c k own =
    let plan = c.args.planned.now in
    few_taken (all_listed c.args.self.now.list plan.changes) c.apply.new.self.list plan k c.in_ok-exact.exact
    c.of_guide.result c.args.steps.now c.apply.new.steps own c.of_guide.ensures
    (c.apply.ensures.list ∙ ap (λ (l : List Ranked). all_listed l plan.changes) c.reserve.ensures.same.list)
    c.in_ok-exact.ensures.exact c.apply.ensures.few
