-- The list of a protocol: how it stands, what becomes of it, and how it is told.
use Rattle.std.proofs.Common.{◌≡◌, Bool, true, false, List, [], ◌∷◌, map, refl, sym, ap, subst, ◌∙◌}
use Rattle.std.specs.Prelude.{filter_map}
use Rattle.liq_types.specs.declared.events.ListChange.{ListChange}
use Rattle.liq_types.specs.declared.image.Image.{Image}
use Rattle.liq_types.specs.declared.requests.Request.TheVariants.{Do}
use Rattle.liq_types.specs.Ranked.{Ranked, IsAscending}
use Rattle.liq_order.specs.Listed.{AreDistinct}
use Rattle.liq_order.specs.Order.{trove_order}
use Rattle.liq_order.proofs.Ranking.{order_distinct}
use Rattle.liq_order.proofs.Sorting.{order_ascends}
use Rattle.liq_list_index.specs.Followed.{all_listed, put_by}
use Rattle.liq_list_index.specs.Rows.{StandOnce}
use Rattle.liq_list_index.proofs.Following.{list_of_views}
use Rattle.liq_rule_step.specs.Rules.{call_changes}
use Rattle.liq_rule_step.specs.Step.{Ruling, after_ruling, step}
use Rattle.liq_rule_step.specs.View.{View, all_followed, view_of}
use Rattle.liq_rule_step.proofs.Following.{after_follows, troves-ascend}
use Rattle.liq_rule_sound.specs.SoundState.{IsSoundState}
use Rattle.liq_core.specs.Core.{Core, state_of}
use Rattle.liq_core.specs.Entries.{put_entry, told_whole}
use Rattle.liq_core.specs.Plan.{Plan, IsPlan}
use Rattle.liq_core_hinted.specs.declared.list_guide.ListGuide.{ListGuide}
use Rattle.liq_core_hinted.specs.ListGuides.{IsGuideOf}

-- ---- it ascends, and no account stands in it twice

pub list_ascends : (core : Core) → IsSoundState (state_of core)
    → core.list ≡ trove_order (state_of core) → IsAscending core.list
list_ascends core sound is =
    subst IsAscending (sym is) (order_ascends _ (troves-ascend (state_of core) sound.ordered.1))

pub list_distinct : (core : Core) → IsSoundState (state_of core)
    → core.list ≡ trove_order (state_of core) → AreDistinct core.list
list_distinct core sound is =
    subst AreDistinct (sym is) (order_distinct _ (troves-ascend (state_of core) sound.ordered.1))

-- ---- what a command makes of it

pub made_list : (old new : Core) (plan : Plan)
    → IsSoundState (state_of old) → old.list ≡ trove_order (state_of old) → IsPlan (state_of old) plan
    → new.list ≡ trove_order (step (state_of old) (Do plan.command)).0 → new.list ≡ all_listed old.list plan.changes
made_list old new plan sound is planned now =
    let s = state_of old in
    let c = plan.command in
    now
    ∙ ap (λ (r : Ruling). trove_order (after_ruling s c r).0) planned.allowed
    ∙ sym (ap (λ (v : View). v.list) (after_follows s c sound.formed (record { tables = sound.ordered })))
    ∙ list_of_views (view_of s) (call_changes s c.call)
    ∙ ap (all_listed (trove_order s)) (sym planned.changes)
    ∙ ap (λ (l : List Ranked). all_listed l plan.changes) (sym is)

-- ---- as it is told

entries_told : (list : List Ranked) → filter_map put_by (map put_entry list) ≡ list
entries_told [] = refl
entries_told (e ∷ es) = ap (λ (l : List Ranked). e ∷ l) (entries_told es)

pub puts_told : (i : Image) (list : List Ranked) → filter_map put_by (told_whole i list) ≡ list
puts_told i list = entries_told list

pub stand_once : (list : List Ranked) → AreDistinct list → StandOnce list
stand_once [] h = tt
stand_once (e ∷ es) h = (h.0, stand_once es h.1)

-- ---- what is followed

-- a view with this list
abbrev pub of_list : List Ranked → View
of_list list = record { list = list; snap_stakes = 0; snap_coll = 0; sum_debt = 0 }

-- what is said of each view of a list is so of the list
pub followed_on : (list next : List Ranked) (changes : List ListChange)
    → ((v : View) → v.list ≡ list → next ≡ (all_followed v changes).list) → next ≡ all_listed list changes
followed_on list next changes all = all (of_list list) refl ∙ list_of_views (of_list list) changes

-- behind a command the guide has the list as it is, if it had followed the command's changes, or is stale
pub settled : (list made : List Ranked) (changes : List ListChange) (old new : ListGuide) (followed : Bool)
    → made ≡ all_listed list changes → IsGuideOf list old
    → (followed ≡ true → (old.ahead.items ≡ changes) × (old.is_stale ≡ false)) → new.guide ≡ old.guide
    → (followed ≡ true → new.ahead.items ≡ []) → (followed ≡ false → new.is_stale ≡ true)
    → IsGuideOf made new
settled list made changes old new true is of followed same empty stale fresh =
    let all = followed refl in
    same ∙ of all.1 ∙ ap (all_listed list) all.0 ∙ sym is ∙ ap (all_listed made) (sym (empty refl))
settled list made changes old new false is of followed same empty stale fresh =
    absurd (clash (sym (stale refl) ∙ fresh)) where
      clash : true ≡ false → ⊥
      clash e = cc
