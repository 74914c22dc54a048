use denote.Struct.Props.{props}
use Rattle.std.proofs.Common.{◌≡◌, ◌∷◌, ◌≤◌, ap, sym, subst, ◌∙◌}
use Rattle.std.proofs.Math.Logic.{∥∥₁_elim, ∥∥₁_map}
use Rattle.liq_types.specs.Tables.{Table}
use Rattle.liq_fees.specs.Kept.{Kept, staker_in, change_by, IsKeptOf, CanBeRead}
use Rattle.liq_fees.specs.declared.gains.Staker.{Staker}
use Rattle.liq_fees.proofs.Keeping.{is_allowed, reads, small_stake, change_done}
use Rattle.liq_fees.proofs.sharing.Fees.change.Goals as goal

pub invariant_of-self : goal.invariant_of-self
invariant_of-self c = ∥∥₁_map c.self.invariant (λ k. (
  k.0,
  subst (λ (t : Table Staker). IsKeptOf (record {
    staked = c.self.inside.staked;
    shares = c.self.inside.shares;
    coll = c.self.inside.coll;
    lusd = c.self.inside.lusd;
    stakers = t;
  }) k.0) (sym c.reserve.ensures.rows) k.1,
))

pub moved-staked-requires-clause-part : goal.moved-staked-requires-clause-part
moved-staked-requires-clause-part c =
    let own : c.staker-staker.result ≡ staker_in c.self.inside.stakers.rows c.args.account = c.staker-staker.ensures
    ∙ ap (λ (k : Kept). staker_in k.stakers c.args.account) (sym c.self.view_is) in
    subst (λ (s : Staker). s.stake ≤ c.self.inside.staked) (sym own) (∥∥₁_elim c.self.invariant (search props)
    (λ k. small_stake _ k.0 k.1 c.args.account))

pub moved-staked-requires-clause-enough : goal.moved-staked-requires-clause-enough
moved-staked-requires-clause-enough c =
    (is_allowed c.args.account c.args.amount c.args.out c.self.inside.staked c.staker-staker.result.stake
    (sym c.refusal.ensures ∙ c.in_default.is)).enough

pub moved-staked-requires-clause-room : goal.moved-staked-requires-clause-room
moved-staked-requires-clause-room c =
    (is_allowed c.args.account c.args.amount c.args.out c.self.inside.staked c.staker-staker.result.stake
    (sym c.refusal.ensures ∙ c.in_default.is)).room

pub after-staker-requires : goal.after-staker-requires
after-staker-requires c =
    let own : c.staker-staker.result ≡ staker_in c.self.inside.stakers.rows c.args.account = c.staker-staker.ensures
    ∙ ap (λ (k : Kept). staker_in k.stakers c.args.account) (sym c.self.view_is) in
    subst (λ (s : Staker). CanBeRead s c.self.inside.coll c.self.inside.lusd c.self.inside.shares) (sym own)
    (reads _ c.self.invariant c.args.account)

pub invariant_of-self-2 : goal.invariant_of-self-2
invariant_of-self-2 c = ∥∥₁_map c.requires.few (λ k. (
  change_by c.args.account c.args.amount c.args.out ∷ k.0,
  change_done _ k.0 (subst (λ (v : Kept). IsKeptOf v k.0) (sym c.self.view_is) k.1) c.args.account c.args.amount
      c.args.out k.2 _ _ c.staker-staker.result c.after-staker.result c.reserve.new.self.rows _
      (c.staker-staker.ensures ∙ ap (λ (k : Kept). staker_in k.stakers c.args.account) (sym c.self.view_is))
      (sym c.refusal.ensures ∙ c.in_default.is)
      c.moved-staked.ensures.staked c.moved-staked.ensures.stake c.after-staker.ensures c.reserve.ensures.rows
      c.write.ensures.rows,
))

pub returns-clause-changed : goal.returns-clause-changed
returns-clause-changed c past h few =
    change_done _ past (subst (λ (v : Kept). IsKeptOf v past) (sym c.self.view_is) h) c.args.account c.args.amount
    c.args.out few _ _ c.staker-staker.result c.after-staker.result c.reserve.new.self.rows _
    (c.staker-staker.ensures ∙ ap (λ (k : Kept). staker_in k.stakers c.args.account) (sym c.self.view_is))
    (sym c.refusal.ensures ∙ c.in_default.is)
    c.moved-staked.ensures.staked c.moved-staked.ensures.stake c.after-staker.ensures c.reserve.ensures.rows
    c.write.ensures.rows
