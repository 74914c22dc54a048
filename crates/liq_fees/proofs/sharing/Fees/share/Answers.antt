use denote.Struct.Props.{props}
use Rattle.std.proofs.Common.{◌∷◌, sym, subst}
use Rattle.std.proofs.Math.Logic.{∥∥₁_elim, ∥∥₁_map}
use Rattle.liq_fees.specs.Happened.{Fee}
use Rattle.liq_fees.specs.Kept.{Kept, IsKeptOf}
use Rattle.liq_fees.proofs.Keeping.{small_pots, few_shares, unshared_fits, fee_kept}
use Rattle.liq_fees.proofs.sharing.Fees.share.Goals as goal

pub after-self-inside-requires-clause-sum : goal.after-self-inside-requires-clause-sum
after-self-inside-requires-clause-sum c = ∥∥₁_elim c.self.invariant (search props) (λ k. (small_pots _ k.0 k.1).0)

pub after-self-inside-requires-clause-unshared : goal.after-self-inside-requires-clause-unshared
after-self-inside-requires-clause-unshared c = ∥∥₁_elim c.requires.lawful (search props)
    (λ k. (unshared_fits _ k.0 c.args.coll c.args.lusd (subst (λ (v : Kept). IsKeptOf v k.0) (sym c.self.view_is)
    k.1) k.2).0)

pub after-self-inside-requires-2-clause-sum : goal.after-self-inside-requires-2-clause-sum
after-self-inside-requires-2-clause-sum c = ∥∥₁_elim c.self.invariant (search props) (λ k. (small_pots _ k.0 k.1).1)

pub after-self-inside-requires-2-clause-unshared : goal.after-self-inside-requires-2-clause-unshared
after-self-inside-requires-2-clause-unshared c = ∥∥₁_elim c.requires.lawful (search props)
    (λ k. (unshared_fits _ k.0 c.args.coll c.args.lusd (subst (λ (v : Kept). IsKeptOf v k.0) (sym c.self.view_is)
    k.1) k.2).1)

pub next_share_count-self-inside-requires : goal.next_share_count-self-inside-requires
next_share_count-self-inside-requires c = ∥∥₁_elim c.self.invariant (search props) (λ k. few_shares _ k.0 k.1)

pub invariant_of-self : goal.invariant_of-self
invariant_of-self c = ∥∥₁_map c.requires.lawful (λ k. (
  Fee c.args.coll c.args.lusd ∷ k.0,
  fee_kept _ k.0 c.args.coll c.args.lusd _ _ _ (subst (λ (v : Kept). IsKeptOf v k.0) (sym c.self.view_is) k.1) k.2
      c.after-self-inside.ensures c.after-self-inside-2.ensures c.next_share_count-self-inside.ensures,
))

pub returns : goal.returns
returns c past h lawful =
    fee_kept _ past c.args.coll c.args.lusd _ _ _ (subst (λ (v : Kept). IsKeptOf v past) (sym c.self.view_is) h) lawful
    c.after-self-inside.ensures c.after-self-inside-2.ensures c.next_share_count-self-inside.ensures
