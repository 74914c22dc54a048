use Rattle.std.proofs.Common.{◌≡◌, List, ◌++◌, Option, sym, ap, ◌∙◌, subst}
use Rattle.std.specs.Prelude.{reverse}
use Rattle.std.specs.Option.{option_or}
use Rattle.liq_types.specs.Ranked.{Ranked, first_of}
use Rattle.liq_list_chunks.specs.Entries.{entry_before, entry_after}
use Rattle.liq_list_index.specs.EntrySets.{IsPartOf, IsBetween}
use Rattle.liq_list_index.proofs.Parts.{below_before, shorts_before, above_before, below_after, shorts_after, above_after}
use Rattle.liq_list_index.proofs.entry_sets.EntrySets.beside.Goals as goal

-- both as they are found, beside a place in a list
both : (list : List Ranked) (place : Ranked) (before after : Option Ranked) → before ≡ entry_before list place
    → after ≡ entry_after list place → ◌≡◌ {A = Option Ranked × Option Ranked} (before, after) (
      entry_before list place,
      entry_after list place,
    )
both list place before after h k =
    ap (λ (o : Option Ranked). (o, after)) h ∙ ap (λ (o : Option Ranked). (entry_before list place, o)) k

pub returns-in-Below : goal.returns-in-Below
returns-in-Below c =
    let below = c.self.inside.below in
    let shorts = c.self.inside.shorts in
    let above = c.self.inside.above in
    let is = subst (IsPartOf c.args.place) c.in-Below.is c.part_of.ensures in
    both c.args.self.now c.args.place c.before-in-Below.result c.or_first_not_below.result
    (c.before-in-Below.ensures ∙ sym (below_before below shorts above c.self.invariant c.args.place is)
    ∙ ap (λ (l : List Ranked). entry_before l c.args.place) c.self.view_is)
    (c.or_first_not_below.ensures.first ∙ ap (λ (o : Option Ranked). option_or o (first_of (shorts ++ above)))
    c.after.ensures ∙ sym (below_after below shorts above c.self.invariant c.args.place is)
    ∙ ap (λ (l : List Ranked). entry_after l c.args.place) c.self.view_is)

pub returns-in-Short : goal.returns-in-Short
returns-in-Short c =
    let below = c.self.inside.below in
    let shorts = c.self.inside.shorts in
    let above = c.self.inside.above in
    let is : (c.in-Short.entry ≡ c.args.place) × IsBetween c.args.place =
    subst (IsPartOf c.args.place) c.in-Short.is c.part_of.ensures in
    let found : ◌≡◌ {A = Option Ranked × Option Ranked} c.beside-before.result (
      entry_before shorts c.args.place,
      entry_after shorts c.args.place,
    ) = c.beside-before.ensures
    ∙ ap (λ (e : Ranked). (entry_before shorts e, entry_after shorts e)) is.0 in
    both c.args.self.now c.args.place c.or_last_below.result c.or_first_above.result
    (c.or_last_below.ensures ∙ ap (λ (p : Option Ranked × Option Ranked). option_or p.0 (first_of (reverse below)))
    found ∙ sym (shorts_before below shorts above c.self.invariant c.args.place is.1)
    ∙ ap (λ (l : List Ranked). entry_before l c.args.place) c.self.view_is)
    (c.or_first_above.ensures.first ∙ ap (λ (p : Option Ranked × Option Ranked). option_or p.1 (first_of above)) found
    ∙ sym (shorts_after below shorts above c.self.invariant c.args.place is.1)
    ∙ ap (λ (l : List Ranked). entry_after l c.args.place) c.self.view_is)

pub returns-in-Above : goal.returns-in-Above
returns-in-Above c =
    let below = c.self.inside.below in
    let shorts = c.self.inside.shorts in
    let above = c.self.inside.above in
    let is = subst (IsPartOf c.args.place) c.in-Above.is c.part_of.ensures in
    both c.args.self.now c.args.place c.or_last_not_above.result c.after-in-Above.result
    (c.or_last_not_above.ensures ∙ ap (λ (o : Option Ranked). option_or o (first_of (reverse (below ++ shorts))))
    c.before-in-Above.ensures ∙ sym (above_before below shorts above c.self.invariant c.args.place is)
    ∙ ap (λ (l : List Ranked). entry_before l c.args.place) c.self.view_is)
    (c.after-in-Above.ensures ∙ sym (above_after below shorts above c.self.invariant c.args.place is)
    ∙ ap (λ (l : List Ranked). entry_after l c.args.place) c.self.view_is)
