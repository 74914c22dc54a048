use Rattle.std.proofs.Common.{ap, subst, sym, ◌∙◌}
use Rattle.std.specs.Prelude.{not}
use Rattle.liq_list_index.specs.Followed.{all_listed}
use Rattle.liq_core.specs.Core.{Core, StandsFor, state_of}
use Rattle.liq_core_hinted.proofs.Listing.{made_list, settled}
use Rattle.liq_core_hinted.proofs.guided.Guided.apply.Goals as goal

pub invariant_of-self : goal.invariant_of-self
invariant_of-self g c =
    let p = c.self.inside.protocol in
    let s = state_of p in
    let here = c.protocols_stand.ensures in
    let planned = c.requires.planned s (subst (λ (q : Core). StandsFor q s) c.self.view_is here) in
    let sound = c.protocols_are_sound_states.ensures in
    let made =
    made_list p c.apply_planned-done.new.self c.args.planned.now sound (c.lists_stand.ensures s here)
    planned (c.apply_planned-done.ensures.list s here) in
    settled p.list c.apply_planned-done.new.self.list c.list_changes.result.now c.self.inside.guide c.settle.new.self
    c.has_followed-is_followed.result (made ∙ ap (all_listed p.list) (sym c.list_changes.ensures)) c.self.invariant
    c.has_followed-is_followed.ensures.0 c.settle.ensures.guide c.settle.ensures.made
    (λ e. c.settle.ensures.stale ∙ ap not e)

pub returns-clause-state : goal.returns-clause-state
returns-clause-state g c s h =
    c.apply_planned-done.ensures.state s (subst (λ (p : Core). StandsFor p s) (sym c.self.view_is) h)

pub returns-clause-list : goal.returns-clause-list
returns-clause-list g c =
    let p = c.self.inside.protocol in
    let s = state_of p in
    let here = c.protocols_stand.ensures in
    let planned = c.requires.planned s (subst (λ (q : Core). StandsFor q s) c.self.view_is here) in
    let sound = c.protocols_are_sound_states.ensures in
    made_list p c.apply_planned-done.new.self c.args.planned.now sound (c.lists_stand.ensures s here)
    planned (c.apply_planned-done.ensures.list s here)
    ∙ ap (λ (q : Core). all_listed q.list c.args.planned.now.changes) c.self.view_is
