use Rattle.std.proofs.Common.{ℕ, ◌+◌, ◌≤◌, ap, sym, subst, ◌∙◌}
use Rattle.liq_types.specs.declared.amounts.TheConstants.{LIM}
use Rattle.liq_types.specs.Soundness.{IsSoundImage}
use Rattle.liq_types.specs.State.{wallet_of}
use Rattle.liq_types.specs.Totals.{or_nothing}
use Rattle.liq_troves.specs.StakeSums.{entire_of}
use Rattle.liq_stability.specs.Position.{balance_of, gain_of}
use Rattle.liq_core.specs.Core.{Core, state_of}
use Rattle.liq_core.proofs.Depositing.{position_is}
use Rattle.liq_core.proofs.Pooling.{position_within}
use Rattle.liq_core.proofs.SoundCores.{core_finds}
use Rattle.liq_core.proofs.engine.Protocol.position.Goals as goal

pub returns-clause-position : goal.returns-clause-position
returns-clause-position c =
    c.position_of.ensures.position ∙ position_is c.self.inside c.self.invariant c.args.account
    ∙ ap (λ (core : Core). (balance_of (state_of core) c.args.account, gain_of (state_of core) c.args.account))
    c.self.view_is

pub returns-clause-lusd : goal.returns-clause-lusd
returns-clause-lusd c =
    let s = state_of c.args.self.now in
    let sound = subst (λ (core : Core). IsSoundImage core.image core.records) c.self.view_is c.self.invariant.image in
    subst (λ n. n + (wallet_of s c.args.account).lusd ≤ LIM) (sym (ap (λ (t : ℕ × ℕ). t.0) (returns-clause-position c)))
    (position_within s (core_finds c.args.self.now sound) c.args.account).0

pub returns-clause-coll : goal.returns-clause-coll
returns-clause-coll c =
    let s = state_of c.args.self.now in
    let sound = subst (λ (core : Core). IsSoundImage core.image core.records) c.self.view_is c.self.invariant.image in
    subst (λ n. (or_nothing (entire_of s c.args.account)).0 + n
    ≤ LIM) (sym (ap (λ (t : ℕ × ℕ). t.1) (returns-clause-position c)))
    (position_within s (core_finds c.args.self.now sound) c.args.account).1
