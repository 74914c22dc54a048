-- The list told from nothing: going along the nodes, and what following it comes to.
use Rattle.std.proofs.Common.{◌≡◌, ◌+◌, ◌≤◌, List, [], ◌∷◌, ◌++◌, map, length, sym, ap, subst, ◌∙◌, Some, None, Option, arith, append-nil, append_assoc, length-append}
use Rattle.std.specs.List.{AllByRecursion}
use Rattle.std.specs.declared.cmp.Ordering.TheVariants.{Less}
use Rattle.liq_types.specs.declared.events.ListChange.{ListChange}
use Rattle.liq_types.specs.declared.events.ListChange.TheVariants.{Words}
use Rattle.liq_types.specs.declared.image.Image.{Image}
use Rattle.liq_types.specs.Ranked.{Ranked, IsAscending, rank_order, with_ranked}
use Rattle.liq_types.specs.State.{State, opening}
use Rattle.liq_types.specs.Views.{View, all_followed}
use Rattle.liq_order.specs.Listed.{AreDistinct}
use Rattle.liq_order.specs.declared.places.NodeNo.{NodeNo}
use Rattle.liq_order.specs.Nodes.{Ring, IsIn, Visits, at_place, entry_of}
use Rattle.liq_order.proofs.Changed.{Before, placed}
use Rattle.liq_order.proofs.Found.{distinct_front, without_absent}
use Rattle.liq_order.proofs.Ranking.{order_distinct}
use Rattle.liq_order.proofs.Sorting.{order_ascends}
use Rattle.liq_order.specs.Order.{order_by}
use Rattle.liq_troves.specs.declared.sums.Sums.{Sums}
use Rattle.liq_core.specs.declared.engine.Protocol.TheInside.{Inside}
use Rattle.liq_core.specs.Core.{Core, StandsFor}
use Rattle.liq_core.specs.Sound.{IsSound, core_of}
use Rattle.liq_core.specs.Entries.{put_entry, told_whole}
use Rattle.liq_rule_step.specs.View.{view_of}

-- ---- going along

-- what is told, and the entries that are still ahead, are all
pub record Ahead (r : Ring) (next : Option NodeNo) (told all : List ListChange) : Type 0 where
  pub previous : Option NodeNo
  pub rest : List Ranked
  pub visits : Visits r next previous rest
  pub whole : told ++ map put_entry rest ≡ all

pub record OneAhead (r : Ring) (at : NodeNo) (told all : List ListChange) : Type 0 where
  pub inside : IsIn at r.order
  pub fits : length told + 1 ≤ length all
  pub on : Ahead r (at_place r at).next (told ++ put_entry (entry_of (at_place r at)) ∷ []) all

pub one_ahead : (r : Ring) (next : Option NodeNo) (at : NodeNo) (told all : List ListChange) → Ahead r next told all
    → next ≡ Some at → OneAhead r at told all
one_ahead r next at told all a is = by a.rest a.visits a.whole where
  none_not : None ≡ Some at → ⊥
  none_not e = cc

  the : (p : NodeNo) → Some p ≡ Some at → p ≡ at
  the p e = cc

  by : (rest : List Ranked) → Visits r next a.previous rest → told ++ map put_entry rest ≡ all → OneAhead r at told all
  by [] v w = absurd (none_not (sym v ∙ is))
  by (e ∷ es) v w =
      let p = v.0 in
      let same : p ≡ at = the p (sym v.1 ∙ is) in
      let tail : (told ++ put_entry e ∷ []) ++ map put_entry es ≡ all =
      append_assoc told (put_entry e ∷ []) (map put_entry es) ∙ w in
      let long = ap (λ (l : List ListChange). length l) w in
      let parts = length-append told (put_entry e ∷ map put_entry es) in
      subst (λ (q : NodeNo). OneAhead r q told all) same
      (record {
        inside = v.2.0;
        fits = omega (arith, long, parts);
        on = record {
          previous = Some p;
          rest = es;
          visits = v.3;
          whole = ap (λ (x : Ranked). (told ++ put_entry x ∷ []) ++ map put_entry es) v.2.1 ∙ tail;
        };
      })

pub ahead_done : (r : Ring) (next : Option NodeNo) (told all : List ListChange) → Ahead r next told all → next ≡ None
    → told ≡ all
ahead_done r next told all a is = by a.rest a.visits a.whole where
  some_not : (p : NodeNo) → Some p ≡ None → ⊥
  some_not p e = cc

  by : (rest : List Ranked) → Visits r next a.previous rest → told ++ map put_entry rest ≡ all → told ≡ all
  by [] v w = sym (append-nil told) ∙ w
  by (e ∷ es) v w = absurd (some_not v.0 (sym v.1 ∙ is))

-- ---- following

front_before : (front back : List Ranked) (e : Ranked) → IsAscending (front ++ e ∷ back)
    → AllByRecursion (Before e) front
front_before [] back e h = tt
front_before (f ∷ fs) back e h = (first fs h.0, front_before fs back e h.1) where
  first : (gs : List Ranked) → AllByRecursion (λ (g : Ranked). rank_order f g ≡ Less) (gs ++ e ∷ back) → Before e f
  first [] k = k.0
  first (g ∷ gs) k = first gs k.1

abbrev with_list : View → List Ranked → View
with_list v list = record v { list = list }

told_more : (v : View) (front es : List Ranked) → IsAscending (front ++ es) → AreDistinct (front ++ es)
    → all_followed (with_list v front) (map put_entry es) ≡ with_list v (front ++ es)
told_more v front [] asc dis = ap (with_list v) (sym (append-nil front))
told_more v front (e ∷ es) asc dis =
    let split : (front ++ e ∷ []) ++ es ≡ front ++ e ∷ es = append_assoc front (e ∷ []) es in
    let here : with_ranked front e ≡ front ++ e ∷ [] =
    sym (ap (λ (l : List Ranked). with_ranked l e) (append-nil front))
    ∙ placed front [] e (front_before front es e asc) tt in
    let put_in = ap (λ (l : List Ranked). with_ranked l e) (without_absent front e.1 (distinct_front front es e dis))
    ∙ here in
    ap (λ (l : List Ranked). all_followed (with_list v l) (map put_entry es)) put_in
    ∙ told_more v (front ++ e ∷ []) es (subst IsAscending (sym split) asc) (subst AreDistinct (sym split) dis)
    ∙ ap (with_list v) split

-- whoever has seen nothing and follows the words and the entries has the view of them
pub follows_whole : (v : View) → IsAscending v.list → AreDistinct v.list
    → all_followed (view_of opening) (Words v.snap_stakes v.snap_coll v.sum_debt ∷ map put_entry v.list) ≡ v
follows_whole v asc dis = told_more v [] v.list asc dis

-- the view of an image
abbrev pub view_by : Image → View
view_by i = record {
  list = order_by i.troves;
  snap_stakes = i.snap_stakes;
  snap_coll = i.snap_coll;
  sum_debt = i.sum_debt;
}

pub told_view : (p : Inside) → IsSound p → (sums : Sums) → sums ≡ p.troves.sums → (items : List ListChange)
    → items ≡ Words sums.snap_stakes sums.snap_coll sums.debt ∷ map put_entry p.order.entries → (old : Core)
    → core_of p ≡ old → (s : State) → StandsFor old s → all_followed (view_of opening) items ≡ view_of s
told_view p sound sums sums_are items is old view s h =
    let v : View = record {
      list = p.order.entries;
      snap_stakes = p.troves.sums.snap_stakes;
      snap_coll = p.troves.sums.snap_coll;
      sum_debt = p.troves.sums.debt;
    } in
    let ascends = sound.image.tables.troves in
    let asc = subst IsAscending (sym sound.order) (order_ascends p.troves.table.rows ascends) in
    let dis = subst AreDistinct (sym sound.order) (order_distinct p.troves.table.rows ascends) in
    ap (all_followed (view_of opening)) is
    ∙ ap (λ (x : Sums). all_followed (view_of opening) (Words x.snap_stakes x.snap_coll x.debt
    ∷ map put_entry p.order.entries)) sums_are
    ∙ follows_whole v asc dis
    ∙ ap (with_list v) sound.order
    ∙ ap (λ (core : Core). view_by core.image) view
    ∙ ap view_by h.image

-- it is the core's own
pub told_as : (p : Inside) (sums : Sums) → sums ≡ p.troves.sums → (items : List ListChange)
    → items ≡ Words sums.snap_stakes sums.snap_coll sums.debt ∷ map put_entry p.order.entries → (old : Core)
    → core_of p ≡ old → items ≡ told_whole old.image old.list
told_as p sums sums_are items is old view =
    is
    ∙ ap (λ (x : Sums). Words x.snap_stakes x.snap_coll x.debt ∷ map put_entry p.order.entries) sums_are
    ∙ ap (λ (core : Core). told_whole core.image core.list) view
