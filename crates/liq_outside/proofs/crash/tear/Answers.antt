use Rattle.std.proofs.Common.{◌≡◌, ◌+◌, ◌/◌, ◌≤◌, ℕ, inl, inr, refl, sym, ◌∙◌, arith, ap, subst, take, rules, ◌∷◌}
use Rattle.std.proofs.lemmas.List.{nil_from_length}
use Rattle.liq_outside.specs.DiskInMemory.{MayBeLeft, synced_length}
use Rattle.liq_outside.specs.Made.{step_of, steps_of}
use Rattle.liq_outside.specs.Staying.{stays}
use Rattle.liq_outside.proofs.Tearing.{back_tried, back_wrote, ended, cut_back, last_step}
use Rattle.liq_outside.specs.declared.made.Made.{Made}
use Rattle.liq_outside.proofs.crash.tear.Goals as goal
use Rattle.liq_outside.proofs.crash.tear.Goals.{Joined-pop, in-Some+in-Synced, in_default}

pub loop-note-init : goal.loop-note-init
loop-note-init c = record {
  may = stays c.args.bytes.now.items (steps_of c.args.notes.items);
  reached = λ p r. r;
  before = c.args.bytes.now.items;
  writes = c.requires;
  size = search rules;
  synced = refl;
}

pub loop-note-preserved-in-Tried : goal.loop-note-preserved-in-Tried
loop-note-preserved-in-Tried c =
    let steps = last_step c.loop-note.notes.items c.pop.new.self.items c.in-Some.note c.in-Some.ensures.items
    ∙ ap (λ (m : Made). step_of m ∷ steps_of c.pop.new.self.items) c.in-Tried.is in
    back_tried c.args.bytes.now.items (steps_of c.args.notes.items) c.requires c.loop-note.bytes.items
    c.tear_range.new.bytes.items (steps_of c.loop-note.notes.items) (steps_of c.pop.new.self.items) c.loop-note.least
    c.in-Tried.at c.in-Tried.count c.loop-note.invariant c.tear_range.ensures.torn steps

pub loop-note-preserved : goal.loop-note-preserved
loop-note-preserved c =
    let steps = last_step c.loop-note.notes.items c.pop.new.self.items c.in-Some.note c.in-Some.ensures.items
    ∙ ap (λ (m : Made). step_of m ∷ steps_of c.pop.new.self.items) c.in-Wrote.is in
    back_wrote c.args.bytes.now.items (steps_of c.args.notes.items) c.requires c.loop-note.bytes.items
    c.tear_range-in-Wrote.new.bytes.items (steps_of c.loop-note.notes.items) (steps_of c.pop.new.self.items)
    c.loop-note.least c.in-Wrote.at c.in-Wrote.count c.loop-note.invariant c.tear_range-in-Wrote.ensures.torn
    c.in-Wrote.over.items (c.min.result + c.len.result + c.saturating_sub-behind.result) steps (search rules)

-- where the walk over the notes ends, it has come to the last sync
has_ended : (c : Joined-pop) → synced_length c.args.bytes.now.items (steps_of c.args.notes.items)
    ≡ c.loop-note.least
has_ended c =
    ended c.args.bytes.now.items (steps_of c.args.notes.items) c.loop-note.bytes.items
    (steps_of c.loop-note.notes.items) c.loop-note.least c.loop-note.invariant (elim c.match-pop.branch [
      | in-Some+in-Synced w ↦ inr (
        steps_of c.pop.new.self.items,
        last_step c.loop-note.notes.items c.pop.new.self.items w.in-Some.note w.in-Some.ensures.items
            ∙ ap (λ (m : Made). step_of m ∷ steps_of c.pop.new.self.items) w.in-Synced.is,
      )
      | in_default w ↦ inl (ap steps_of (nil_from_length c.loop-note.notes.items
          (search (rules, w.in_default.ensures.cases))))
    ])

-- so the bytes may be cut behind what was synced
may_be_cut : (c : Joined-pop) (most : ℕ) → c.loop-note.least ≤ most
    → MayBeLeft c.args.bytes.now.items (steps_of c.args.notes.items) (take most c.loop-note.bytes.items)
may_be_cut c most = cut_back c.args.bytes.now.items (steps_of c.args.notes.items) c.loop-note.bytes.items
    (steps_of c.loop-note.notes.items) c.loop-note.least most c.requires c.loop-note.invariant (has_ended c)

pub returns-in-1 : goal.returns-in-1
returns-in-1 c = subst (MayBeLeft c.args.bytes.now.items (steps_of c.args.notes.items)) (sym c.truncate.ensures.items)
    (may_be_cut (goal.at.returns-in-1 c).Joined-pop c.loop-note.least (omega arith))

pub returns-in-2 : goal.returns-in-2
returns-in-2 c = subst (MayBeLeft c.args.bytes.now.items (steps_of c.args.notes.items))
    (sym c.truncate-in-2.ensures.items) (may_be_cut (goal.at.returns-in-2 c).Joined-pop
    (c.loop-note.least + c.saturating_sub-more.result / 2) (omega arith))
