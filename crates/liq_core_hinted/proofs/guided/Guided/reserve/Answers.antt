use Rattle.std.proofs.Common.{subst, List}
use Rattle.std.specs.Prelude.{IfOk}
use Rattle.liq_types.specs.declared.events.ListChange.{ListChange}
use Rattle.liq_list_index.specs.Followed.{all_listed}
use Rattle.liq_core.specs.Core.{Core, state_of}
use Rattle.liq_core.specs.Steps.{last_put}
use Rattle.liq_core_hinted.specs.Hints.{IsExact}
use Rattle.liq_core_hinted.proofs.Listing.{list_ascends}
use Rattle.liq_core_hinted.proofs.Tight.{exact_if_ok}
use Rattle.liq_core_hinted.proofs.guided.Guided.reserve.Goals as goal

pub returns-clause-exact : goal.returns-clause-exact
returns-clause-exact c =
    let p = c.self.inside.protocol in
    let r = c.follow.result in
    let changes = c.args.planned.now.changes in
    let is = c.lists_stand.ensures (state_of p) c.protocols_stand.ensures in
    let ascends = list_ascends p c.protocols_are_sound_states.ensures is in
    subst (λ (q : Core). IfOk r (IsExact (all_listed q.list changes) (last_put changes))) c.self.view_is
    (subst (λ (cs : List ListChange). IfOk r (IsExact (all_listed p.list cs) (last_put cs))) c.list_changes.ensures
    (exact_if_ok r c.reserve.new.self.list p.list c.list_changes.result.now
    c.reserve.ensures.same.list ascends c.follow.ensures.exact))
