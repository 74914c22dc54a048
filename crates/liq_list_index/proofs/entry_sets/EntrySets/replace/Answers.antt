use Rattle.std.proofs.Common.{◌≡◌, List, sym, ap, ◌∙◌, subst}
use Rattle.std.proofs.lemmas.Bool.{not-false}
use Rattle.std.proofs.lemmas.Bool.Decides.{Decides-not}
use Rattle.std.specs.Ordering.{int_eq}
use Rattle.std.specs.Prelude.{◌==◌, ◌&&◌}
use Rattle.liq_types.specs.Ranked.{Ranked, IsAscending}
use Rattle.liq_list_chunks.specs.Entries.{with_entry, without_entry}
use Rattle.liq_list_index.proofs.Shifting.{Decides-entry, entered_again, replaced}
use Rattle.liq_list_index.proofs.entry_sets.EntrySets.replace.Goals as goal
use Rattle.liq_list_index.proofs.entry_sets.EntrySets.replace.Goals.{In_ok-insert}

-- nothing was shifted
stays : (c : In_ok-insert) → c.shift.new.self ≡ c.args.self.now
stays c = c.shift.ensures.stays c.if-shift.false

ascends : (c : In_ok-insert) → IsAscending c.args.self.now
ascends c = subst IsAscending (stays c) c.shift.ensures.ascending

-- the other entry came in
entered : (c : In_ok-insert) → c.insert.new.self ≡ with_entry c.args.self.now c.args.to
entered c =
    c.in_ok-insert.ensures.entered
    ∙ ap (λ (l : List Ranked). with_entry l c.wide.result) (stays c)
    ∙ ap (λ (e : Ranked). with_entry c.args.self.now e) c.wide.ensures

pub returns-then-ne-clause-replaced : goal.returns-then-ne-clause-replaced
returns-then-ne-clause-replaced c =
    let at = (goal.at.returns-then-ne-clause-replaced c).In_ok-insert in
    let from = c.args.from in
    let to = c.args.to in
    c.remove.ensures.left
    ∙ ap (λ (e : Ranked). without_entry c.insert.new.self e) c.wide-then-ne.ensures
    ∙ ap (λ (l : List Ranked). without_entry l from) (entered at)
    ∙ replaced c.args.self.now from to (ascends at)
    ((Decides-not (int_eq from.0 to.0 && (from.1 == to.1)) (Decides-entry from to)).0 (sym c.if-ne.ensures))

pub returns-else-ne-clause-replaced : goal.returns-else-ne-clause-replaced
returns-else-ne-clause-replaced c =
    let at = (goal.at.returns-else-ne-clause-replaced c).In_ok-insert in
    let from = c.args.from in
    let to = c.args.to in
    let same = (Decides-entry from to).0 (not-false (int_eq from.0 to.0 && (from.1 == to.1)) (sym c.if-ne.ensures)) in
    entered at
    ∙ entered_again c.args.self.now to (ascends at)
    ∙ ap (λ (e : Ranked). with_entry (without_entry c.args.self.now e) to) (sym same)
