use Rattle.std.proofs.Common.{◌≡◌, sym, subst, ap, ◌∙◌, arith, length, List, map}
use Rattle.std.specs.declared.vec.Vec.{Vec}
use Rattle.std.specs.Vec.{with_items}
use Rattle.std.proofs.lemmas.List.{with_items_is}
use Rattle.liq_rewards.specs.declared.rows.Row.{Row}
use Rattle.liq_rewards.specs.Earner.{earner_after}
use Rattle.liq_rewards.specs.Rows.{Counted, all_now, now_of, changed_by, AreRows}
use Rattle.liq_rewards.proofs.Finding.{rows_changed, all_change}
use Rattle.liq_rewards.proofs.rows.Rows.all_after.Goals as goal

written : {Z : Type 0} (v : Vec Row Z) (f : Row → Row) (rows now : List Row) → length rows ≡ v.len → rows ≡ map f now
    → now ≡ v.items → (with_items v rows).items ≡ map f v.items
written v f rows now long made was = with_items_is v rows long ∙ made ∙ ap (λ (t : List Row). map f t) was

changes : (c : goal.After-self-2-1) → (with_items c.self.inside.rows c.change_all.new.rows).items
    ≡ map (changed_by c.args.words.now c.args.sharing c.args.event.now c.self.inside.offsets 0) c.self.inside.rows.items
changes c =
    written c.self.inside.rows (changed_by c.args.words.now c.args.sharing c.args.event.now c.self.inside.offsets 0)
    c.change_all.new.rows c.deref_mut.result.now (omega (arith, c.change_all.auto.rows, c.deref_mut.ensures.len))
    c.change_all.ensures c.deref_mut.ensures.value

pub invariant_of-self : goal.invariant_of-self
invariant_of-self c =
    subst (λ (rows : List Row). AreRows c.self.inside.numbers.rows 0 rows) (sym (changes c))
    (rows_changed c.self.inside.numbers.rows c.args.words.now c.args.sharing c.args.event.now c.self.inside.offsets
    c.self.inside.rows.items c.self.invariant)

pub returns : goal.returns
returns c next =
    ap (λ (rows : List Row). map (now_of next 0) rows) (changes c)
    ∙ all_change c.args.words.now c.self.inside.offsets next c.args.sharing c.args.event.now c.self.inside.rows.items
    ∙ ap (λ (v : Counted). map (earner_after c.args.words.now c.args.sharing c.args.event.now)
    (all_now c.args.words.now v)) c.self.view_is
