use Rattle.std.proofs.Common.{◌≡◌, List, ap, subst, sym, ◌∙◌}
use Rattle.std.specs.Prelude.{filter_map, IfOk}
use Rattle.liq_types.specs.Ranked.{Ranked, IsAscending}
use Rattle.liq_types.specs.declared.events.ListChange.{ListChange}
use Rattle.liq_list_index.specs.Followed.{put_by}
use Rattle.liq_list_index.specs.Rows.{StandOnce}
use Rattle.liq_core.specs.Core.{Core, state_of}
use Rattle.liq_core.specs.Entries.{told_whole}
use Rattle.liq_core_hinted.proofs.Listing.{list_ascends, list_distinct, puts_told, stand_once}
use Rattle.liq_core_hinted.proofs.list_guide.guide_of.Goals as goal

listed : (p : Core) (seen list : List Ranked) (changes : List ListChange) → seen ≡ list
    → list ≡ filter_map put_by changes → changes ≡ told_whole p.image p.list → seen ≡ p.list
listed p seen list changes is puts told =
    is ∙ puts ∙ ap (λ (l : List ListChange). filter_map put_by l) told ∙ puts_told p.image p.list

pub of-requires : goal.of-requires
of-requires c =
    let p = c.args.protocol.now in
    let sound = c.protocols_are_sound_states.ensures in
    let is = c.lists_stand.ensures (state_of p) c.protocols_stand.ensures in
    let same = listed p c.deref.result.now c.in_ok-list.list.items c.in_ok-changes.changes.items c.deref.ensures.value
    c.in_ok-list.ensures c.in_ok-changes.ensures.told in
    record {
      ascending = subst IsAscending (sym same) (list_ascends p sound is);
      once = subst StandOnce (sym same) (stand_once p.list (list_distinct p sound is));
    }

pub returns : goal.returns
returns c =
    let p = c.args.protocol.now in
    subst (λ (l : List Ranked). IfOk c.of.result (λ guide. guide ≡ l))
    (listed p c.deref.result.now c.in_ok-list.list.items c.in_ok-changes.changes.items c.deref.ensures.value
    c.in_ok-list.ensures c.in_ok-changes.ensures.told) c.of.ensures
