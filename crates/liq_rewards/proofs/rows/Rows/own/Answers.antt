use Rattle.std.proofs.Common.{◌≡◌, ℕ, sym, subst, ap, ◌∙◌, None, List, length, set, map, Bool, true, false}
use Rattle.std.specs.List.{AllByRecursion}
use Rattle.std.specs.declared.vec.Vec.{Vec}
use Rattle.std.specs.Vec.{with_items}
use Rattle.std.proofs.lemmas.List.{with_items_is, length-set}
use Rattle.liq_rewards.specs.declared.rows.Row.{Row}
use Rattle.liq_rewards.specs.Earner.{earner_after, CanGoOn}
use Rattle.liq_rewards.specs.Rows.{Counted, all_now, now_of, changed_by, row_at, IsRowOf, AreRows}
use Rattle.liq_rewards.proofs.Changing.{holds_now}
use Rattle.liq_rewards.proofs.Finding.{row_changed, own_changes, none_found}
use Rattle.liq_rewards.proofs.rows.Rows.own.Goals as goal

pub change-requires-clause-can : goal.change-requires-clause-can
change-requires-clause-can c =
    let k = subst (λ (v : Counted). IsRowOf v.rows c.args.account c.in-Some.place) (sym c.self.view_is)
    c.in-Some.ensures.found in
    subst (λ (rows : List Row). CanGoOn c.args.words.now None (now_of c.args.words.now c.self.inside.offsets
    (row_at rows c.in-Some.place))) (sym c.deref_mut.ensures.value)
    (holds_now (CanGoOn c.args.words.now None) (now_of c.args.words.now c.self.inside.offsets) c.self.inside.rows.items
    c.in-Some.place _
    (subst (λ (v : Counted). AllByRecursion (CanGoOn c.args.words.now None) (all_now c.args.words.now v))
    (sym c.self.view_is) c.requires.can) k.within)

written : {Z : Type 0} (v : Vec Row Z) (place : ℕ) (f : Row → Row) (rows now : List Row) → length now ≡ v.len
    → rows ≡ set now place (f (row_at now place)) → now ≡ v.items → (with_items v rows).items
    ≡ set v.items place (f (row_at v.items place))
written v place f rows now long made was =
    with_items_is v rows (ap (λ (t : List Row). length t) made ∙ length-set now place (f (row_at now place)) ∙ long)
    ∙ made ∙ ap (λ (t : List Row). set t place (f (row_at t place))) was

pub invariant_of-self : goal.invariant_of-self
invariant_of-self c =
    subst (λ (rows : List Row). AreRows c.self.inside.numbers.rows c.self.inside.offsets rows)
    (sym (written c.self.inside.rows c.in-Some.place (changed_by c.args.words.now None c.args.event.now
    c.self.inside.offsets c.self.inside.offsets) c.change.new.rows c.deref_mut.result.now c.deref_mut.ensures.len
    c.change.ensures c.deref_mut.ensures.value))
    (row_changed c.self.inside.numbers.rows c.args.words.now c.args.event.now c.self.inside.offsets
    c.self.inside.rows.items c.in-Some.place c.self.invariant)

pub returns-in-Some : goal.returns-in-Some
returns-in-Some c =
    let k = subst (λ (v : Counted). IsRowOf v.rows c.args.account c.in-Some.place) (sym c.self.view_is)
    c.in-Some.ensures.found in
    ap (λ (rows : List Row). map (now_of c.args.words.now c.self.inside.offsets) rows)
    (written c.self.inside.rows c.in-Some.place (changed_by c.args.words.now None c.args.event.now c.self.inside.offsets
    c.self.inside.offsets) c.change.new.rows c.deref_mut.result.now c.deref_mut.ensures.len c.change.ensures
    c.deref_mut.ensures.value)
    ∙ own_changes c.args.words.now c.self.inside.numbers.rows c.self.inside.offsets c.self.inside.rows.items
    c.self.invariant c.args.account c.in-Some.place k c.args.event.now c.requires.own
    ∙ ap (λ (v : Counted). map (earner_after c.args.words.now None c.args.event.now) (all_now c.args.words.now v))
    c.self.view_is

pub returns-in_default : goal.returns-in_default
returns-in_default c =
    absurd (not_both c.requires.room (none_found c.args.words.now c.args.self.now.offsets c.args.self.now.rows
    c.args.account (c.place.ensures.none c.in_default.is))) where
      not_both : {b : Bool} → b ≡ true → b ≡ false → ⊥
      not_both {b = b} h k = clash b h k where
        clash : (b : Bool) → b ≡ true → b ≡ false → ⊥
        clash b h k = cc
