use Rattle.std.proofs.Common.{◌≡◌, None, Some, ap, sym, ◌∙◌, subst}
use Rattle.liq_order.specs.declared.places.Gap.{Gap}
use Rattle.liq_order.specs.Nodes.{IsAhead, account_of_place}
use Rattle.liq_order.proofs.Seen.{tight_gap}
use Rattle.liq_order.proofs.linked.Nodes.hinted_gap.Goals as goal

pub returns-in_err-gap-clause-tight : goal.returns-in_err-gap-clause-tight
returns-in_err-gap-clause-tight g c t =
    let k = tight_gap c.args.self.now c.args.entry c.args.hint.now.prev c.args.hint.now.next t in
    absurd (none (c.in_err-gap.ensures.tight k.front k.back k.whole k.prev_is k.above)) where
      none : {p : Gap} → None ≡ Some p → ⊥
      none e = cc

pub returns-clause-tight : goal.returns-clause-tight
returns-clause-tight g c t =
    let ring = c.args.self.now in
    let k = tight_gap ring c.args.entry c.args.hint.now.prev c.args.hint.now.next t in
    let here = one (c.in_ok-gap.ensures.tight k.front k.back k.whole k.prev_is k.above) in
    c.ending.ensures.tight (k.next_is ∙ ap (λ (p : Gap). account_of_place ring p.next) (sym here))
    (subst (λ (p : Gap). IsAhead ring c.args.entry p) (sym here) k.ahead) where
      one : {p q : Gap} → Some p ≡ Some q → p ≡ q
      one e = cc
