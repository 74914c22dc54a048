use Rattle.std.proofs.Common.{◌≡◌, List, ap, sym, subst, ◌∙◌}
use Rattle.liq_fees.specs.Happened.{Happened, of_coll, of_lusd}
use Rattle.liq_fees.specs.Exact.{IsWithinAllowance}
use Rattle.liq_fees.specs.Kept.{Kept, staker_in, row_by, row_of, IsKeptOf, CanBeRead}
use Rattle.liq_fees.specs.declared.gains.Staker.{Staker}
use Rattle.liq_fees.specs.declared.gains.StakeRow.{StakeRow}
use Rattle.liq_fees.proofs.Holding.{within_allowance}
use Rattle.liq_fees.proofs.Keeping.{reads, row_is}
use Rattle.liq_fees.proofs.sharing.Fees.row.Goals as goal

pub row-requires : goal.row-requires
row-requires c =
    let own : c.staker-staker.result ≡ staker_in c.self.inside.stakers.rows c.args.account = c.staker-staker.ensures
    ∙ ap (λ (k : Kept). staker_in k.stakers c.args.account) (sym c.self.view_is) in
    subst (λ (s : Staker). CanBeRead s c.self.inside.coll c.self.inside.lusd c.self.inside.shares) (sym own)
    (reads _ c.self.invariant c.args.account)

told : (c : goal.After-row) (past : List Happened) → IsKeptOf c.args.self.now past
    → c.row.result ≡ row_of c.args.account past
told c past h =
    c.row.ensures
    ∙ ap (λ (s : Staker). row_by c.args.account s c.self.inside.coll c.self.inside.lusd c.self.inside.shares)
    c.staker-staker.ensures
    ∙ ap (λ (k : Kept). row_by c.args.account (staker_in c.args.self.now.stakers c.args.account) k.coll k.lusd k.shares)
    c.self.view_is
    ∙ row_is c.args.self.now past h c.args.account

pub returns-clause-row : goal.returns-clause-row
returns-clause-row c past h = told c past h

pub returns-clause-coll : goal.returns-clause-coll
returns-clause-coll c past h = subst (λ (r : StakeRow). IsWithinAllowance of_coll c.args.account past r.coll r.allow)
    (sym (told c past h)) (within_allowance of_coll c.args.account past)

pub returns-clause-lusd : goal.returns-clause-lusd
returns-clause-lusd c past h = subst (λ (r : StakeRow). IsWithinAllowance of_lusd c.args.account past r.lusd r.allow)
    (sym (told c past h)) (within_allowance of_lusd c.args.account past)
