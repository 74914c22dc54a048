use Rattle.std.proofs.Common.{◌≡◌, None, Some, IfSome, Less, ap, sym, ◌∙◌, subst}
use Rattle.liq_types.specs.Ranked.{rank_order}
use Rattle.liq_order.specs.Listed.{AreDistinct}
use Rattle.liq_order.specs.declared.places.Gap.{Gap}
use Rattle.liq_order.specs.declared.places.NodeNo.{NodeNo}
use Rattle.liq_order.specs.Nodes.{Ring, memory, at_place, entries, entry_of, Linked, IsBehind, gap_behind}
use Rattle.liq_order.proofs.Seen.{behind_place, tight_place, past_on, past_is}
use Rattle.liq_order.proofs.linked.Nodes.behind.Goals as goal

one : {p q : NodeNo} → Some p ≡ Some q → p ≡ q
one e = cc

pub returns-in_err-at-clause-tight : goal.returns-in_err-at-clause-tight
returns-in_err-at-clause-tight g c front back whole is above =
    let linked = subst (λ (r : Ring). Linked (memory r.nodes) None r.order None) c.self.view_is
    c.self.invariant.0.linked in
    let distinct = subst (λ (r : Ring). AreDistinct (entries r)) c.self.view_is c.self.invariant.0.distinct in
    let t = tight_place c.args.self.now front back c.args.id linked distinct whole is in
    absurd (none (c.in_err-at.ensures.place ∙ t.found)) where
      none : {q : NodeNo} → None ≡ Some q → ⊥
      none e = cc

pub returns-clause-gap : goal.returns-clause-gap
returns-clause-gap g c =
    let ring = c.args.self.now in
    let at = c.in_ok-at.at in
    let linked = subst (λ (r : Ring). Linked (memory r.nodes) None r.order None) c.self.view_is
    c.self.invariant.0.linked in
    past_on ring at c.args.entry c.past.result (IsBehind ring c.args.entry) c.past.ensures.past
    (behind_place ring c.args.entry c.args.id at linked c.in_ok-at.ensures.place)

pub returns-clause-tight : goal.returns-clause-tight
returns-clause-tight g c front back whole is above =
    let ring = c.args.self.now in
    let at = c.in_ok-at.at in
    let linked = subst (λ (r : Ring). Linked (memory r.nodes) None r.order None) c.self.view_is
    c.self.invariant.0.linked in
    let distinct = subst (λ (r : Ring). AreDistinct (entries r)) c.self.view_is c.self.invariant.0.distinct in
    let t = tight_place ring front back c.args.id linked distinct whole is in
    let here = one (c.in_ok-at.ensures.place ∙ t.found) in
    let less = subst (λ o. IfSome o (λ p. rank_order (entry_of (at_place ring p)) c.args.entry ≡ Less)) t.last_is above
    in
    past_is ring at c.args.entry c.past.result c.past.ensures.past c.past.ensures.not
    (subst (λ q. rank_order (entry_of (at_place ring q)) c.args.entry ≡ Less) (sym here) less)
    ∙ ap (λ (p : Gap). Some p) (ap (gap_behind ring) here ∙ sym t.gap_is)
