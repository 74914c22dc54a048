use Rattle.std.proofs.Common.{◌≡◌, ℕ, ◌≤◌, refl, Option, List, ap, sym, subst, ◌∙◌}
use Rattle.liq_rewards.specs.declared.earner.Earner.{Earner}
use Rattle.liq_rewards.specs.declared.issuance.TheConstants.{UNITS_MOST}
use Rattle.liq_rewards.specs.declared.rewards.RewardRow.{RewardRow}
use Rattle.liq_rewards.specs.declared.sharing.Sharing.{Sharing}
use Rattle.liq_rewards.specs.Earner.{dealt_with, reward_by, allowance_by, IsSmall}
use Rattle.liq_rewards.specs.Timed.{Timed}
use Rattle.liq_rewards.specs.Exact.{IsWithinAllowance}
use Rattle.liq_rewards.specs.Kept.{Kept, IsKeptOf, row_by, row_of}
use Rattle.liq_rewards.proofs.Along.{within_allowance}
use Rattle.liq_rewards.proofs.Following.{due_small, product_small, row_before, row_after, row_reward, row_is}
use Rattle.liq_rewards.proofs.Small.{served}
use Rattle.liq_types.specs.declared.amounts.TheConstants.{LIM}
use Rattle.liq_stability.specs.declared.words.PoolWords.{PoolWords}
use Rattle.liq_rewards.proofs.rewards.Rewards.row.Goals as goal

pub of-sharing-requires-clause-units : goal.of-sharing-requires-clause-units
of-sharing-requires-clause-units c = due_small _ c.self.invariant

pub of-sharing-requires-clause-product : goal.of-sharing-requires-clause-product
of-sharing-requires-clause-product c = product_small _ c.self.invariant

pub earner-earner-requires : goal.earner-earner-requires
earner-earner-requires c = row_before _ c.self.invariant c.args.account

pub deal-requires-clause-small : goal.deal-requires-clause-small
deal-requires-clause-small c =
    subst IsSmall (sym c.earner-earner.ensures) (row_before _ c.self.invariant c.args.account)

-- the earner that is read: the row's, with what is due
read_is : (words : PoolWords) {own row read : Earner} {sharing due : Option Sharing} → own ≡ row → sharing ≡ due
    → read ≡ dealt_with own words sharing → read ≡ dealt_with row words due
read_is words {own} {row} {read} {sharing} {due} o s r =
    r ∙ ap (λ (e : Earner). dealt_with e words sharing) o ∙ ap (λ (d : Option Sharing). dealt_with row words d) s

pub reward-requires-clause-small : goal.reward-requires-clause-small
reward-requires-clause-small c =
    let is = read_is c.self.inside.words c.earner-earner.ensures c.of-sharing.ensures.sharing c.deal.ensures in
    subst IsSmall (sym is) (row_after _ c.self.invariant c.args.account)

pub reward-requires-clause-within : goal.reward-requires-clause-within
reward-requires-clause-within c =
    let is = read_is c.self.inside.words c.earner-earner.ensures c.of-sharing.ensures.sharing c.deal.ensures in
    subst (λ (e : Earner). reward_by e ≤ UNITS_MOST) (sym is) (row_reward _ c.self.invariant c.args.account)

pub allowance-requires : goal.allowance-requires
allowance-requires c =
    let is = read_is c.self.inside.words c.earner-earner.ensures c.of-sharing.ensures.sharing c.deal.ensures in
    subst IsSmall (sym is) (row_after _ c.self.invariant c.args.account)

row_told : (account reward allow : ℕ) (e : Earner) → reward ≡ reward_by e → allow ≡ allowance_by e
    → let one : RewardRow = record { account = account; reward = reward; allow = allow } in one ≡ row_by account e
row_told account reward allow e r a = rw (r, a) refl

told : (c : goal.After-allowance) (past : List Timed) → IsKeptOf c.args.self.now past → let one : RewardRow =
    record { account = c.args.account; reward = c.reward.result; allow = c.allowance.result }
    in one ≡ row_of c.args.account c.args.self.now.minute past
told c past h =
    let is = read_is c.self.inside.words c.earner-earner.ensures c.of-sharing.ensures.sharing c.deal.ensures in
    row_told c.args.account c.reward.result c.allowance.result c.deal.new.self c.reward.ensures
    c.allowance.ensures
    ∙ ap (λ (e : Earner). row_by c.args.account e) is
    ∙ row_is _ past (subst (λ (v : Kept). IsKeptOf v past) (sym c.self.view_is) h) c.args.account
    ∙ ap (λ (v : Kept). row_of c.args.account v.minute past) c.self.view_is

pub returns-clause-row : goal.returns-clause-row
returns-clause-row c past h = told c past h

pub returns-clause-share : goal.returns-clause-share
returns-clause-share c past h =
    subst (λ (r : RewardRow). IsWithinAllowance c.args.account c.args.self.now.minute past r.reward r.allow)
    (sym (told c past h)) (within_allowance LIM served c.args.account c.args.self.now.minute past h.lawful)
