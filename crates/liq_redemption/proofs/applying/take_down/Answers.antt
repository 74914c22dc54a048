use Rattle.std.proofs.Common.{◌≡◌, ◌-◌, ℕ, ℤ, Bool, true, false, Some, Option, refl, sym, ap, ◌∙◌, subst, arith}
use Rattle.std.specs.Prelude.{option_map}
use Rattle.liq_types.specs.Ranked.{Ranked}
use Rattle.liq_trove_moves.specs.Steps.{TakesFew}
use Rattle.liq_troves.proofs.Standing.{lift_stands}
use Rattle.liq_troves.specs.Standing.{Books, TrovesStand}
use Rattle.liq_trove_moves.specs.Books.{books_kept}
use Rattle.liq_redemption.specs.Parts.{Parts, parts_of, placed_parts, closed_parts}
use Rattle.liq_redemption.proofs.Parts.{cut_closed, cut_placed, lifted_is, placed_is, trove_there}
use Rattle.liq_redemption.proofs.applying.take_down.Goals as goal
use Rattle.liq_ledger.specs.declared.pools.Pools.{Pools}

the : (a b : ℕ × ℕ) (o : Option (ℕ × ℕ)) → Some a ≡ o → o ≡ Some b → a ≡ b
the a b o f g = cc

pub lift-coll-requires-clause-there : goal.lift-coll-requires-clause-there
lift-coll-requires-clause-there g c =
    trove_there (parts_of c.args.pools.now c.args.surplus.now c.args.troves.now c.args.order.now) c.args.cut.now.account
    c.requires.fits.own c.requires.fits.entire_is

pub close-requires-clause-total : goal.close-requires-clause-total
close-requires-clause-total g c =
    let same = ap (λ (p : Pools). p.surplus) c.lift-coll.ensures.rest in
    let own = ap (λ (x : ℕ × ℕ). x.0) (the c.lift-coll.result c.requires.fits.own _ c.lift-coll.ensures.own
    c.requires.fits.entire_is) in
    omega (arith, same, own, c.requires.fits.surplus)

pub place-requires-clause-stand : goal.place-requires-clause-stand
place-requires-clause-stand g c =
    subst (λ (b : Books). TrovesStand b) (sym c.lift-coll.ensures.books)
    (lift_stands (books_kept c.args.troves.now c.args.pools.now) c.args.cut.now.account c.requires.fits.stands)

pub place-requires-clause-least : goal.place-requires-clause-least
place-requires-clause-least g c =
    let own = ap (λ (x : ℕ × ℕ). x.1) (the c.lift-coll.result c.requires.fits.own _ c.lift-coll.ensures.own
    c.requires.fits.entire_is) in
    omega (arith, own, c.requires.fits.left c.if-cut.false)

pub returns-then-cut-clause-parts : goal.returns-then-cut-clause-parts
returns-then-cut-clause-parts g c =
    let p = parts_of c.args.pools.now c.args.surplus.now c.args.troves.now c.args.order.now in
    let coll = c.lift-coll.result.0 - c.args.cut.now.draw in
    let lifted = lifted_is c.args.pools.now c.lift-coll.new.pools c.args.troves.now c.lift-coll.new.troves
    c.args.order.now c.lift-coll.new.order c.args.surplus.now c.args.cut.now.account c.lift-coll.ensures.books
    c.lift-coll.ensures.rest c.lift-coll.ensures.list in
    c.close.ensures.parts c.lift-coll.new.troves c.lift-coll.new.order
    ∙ ap (λ (q : Parts). closed_parts q c.args.cut.now.account coll) lifted
    ∙ sym (cut_closed p c.args.cut.now c.lift-coll.result c.lift-coll.ensures.own c.if-cut.true)

pub returns-else-cut-clause-parts : goal.returns-else-cut-clause-parts
returns-else-cut-clause-parts g c =
    let p = parts_of c.args.pools.now c.args.surplus.now c.args.troves.now c.args.order.now in
    let coll = c.lift-coll.result.0 - c.args.cut.now.draw in
    let debt = c.lift-coll.result.1 - c.args.cut.now.lot in
    let lifted = lifted_is c.args.pools.now c.lift-coll.new.pools c.args.troves.now c.lift-coll.new.troves
    c.args.order.now c.lift-coll.new.order c.args.surplus.now c.args.cut.now.account c.lift-coll.ensures.books
    c.lift-coll.ensures.rest c.lift-coll.ensures.list in
    placed_is c.lift-coll.new.pools c.place.new.pools c.lift-coll.new.troves c.place.new.troves c.lift-coll.new.order
    c.place.new.order c.args.surplus.now c.args.cut.now.account coll debt c.place.ensures.books c.place.ensures.rest
    c.place.ensures.list
    ∙ ap (λ (q : Parts). placed_parts q c.args.cut.now.account coll debt) lifted
    ∙ sym (cut_placed p c.args.cut.now c.lift-coll.result c.lift-coll.ensures.own c.if-cut.false)

-- ---- the steps

pub returns-then-cut-clause-takes : goal.returns-then-cut-clause-takes
returns-then-cut-clause-takes g c =
    let next = c.lift-coll.new.order.entries in
    record {
      few = subst (λ (o : Option Ranked). TakesFew next c.args.hint.now o c.args.steps.now c.args.steps.now)
          (sym (ap (option_map (λ (k : ℤ). (k, c.args.cut.now.account))) c.lift-coll.ensures.unlisted)) refl;
      none = λ full. refl;
      shorter = λ full. c.lift-coll.ensures.shorter;
      any = omega arith;
    }

not_full : (b : Bool) → b ≡ false → b ≡ true → ⊥
not_full b e f = cc

pub returns-else-cut-clause-takes : goal.returns-else-cut-clause-takes
returns-else-cut-clause-takes g c =
    let shorter = c.lift-coll.ensures.shorter in
    let any = c.place.ensures.any in
    record {
      few = c.place.ensures.few;
      none = λ full. absurd (not_full c.args.cut.now.full c.if-cut.false full);
      shorter = λ full. absurd (not_full c.args.cut.now.full c.if-cut.false full);
      any = omega (arith, any, shorter);
    }
