use Rattle.std.proofs.Common.{List, sym, ap, subst, ◌∙◌}
use Rattle.std.specs.Prelude.{◌≡◌, MatchResult, Result, Ok}
use Rattle.liq_types.specs.declared.figures.Market.{Market}
use Rattle.liq_types.specs.declared.figures.Trove.{Trove}
use Rattle.liq_types.specs.declared.replies.Refusal.{Refusal}
use Rattle.liq_types.specs.Tables.{Table}
use Rattle.liq_types.specs.Totals.{market_of}
use Rattle.liq_troves.specs.declared.sums.Sums.{Sums}
use Rattle.liq_troves.specs.StakeSums.{sums_words, trove_rows}
use Rattle.liq_stability.specs.declared.words.PoolWords.{PoolWords}
use Rattle.liq_liquidation.specs.declared.one.Victim.{Victim}
use Rattle.liq_liquidation.specs.Moment.{IsFaultOf, moment_by, plan_from}
use Rattle.liq_liquidation.proofs.States.{plan_is}
use Rattle.liq_liquidation.proofs.lowest.plan_lowest.Goals as goal

pub returns-clause-state : goal.returns-clause-state
returns-clause-state c = λ s parts sound.
    let m = c.args.market.now in
    let troves = c.args.troves.now.table.rows in
    let words = c.args.words.now in
    let n = c.args.n in
    let same =
    ap (λ (x : Sums). plan_from (moment_by m x troves words) n) (c.sums.ensures.sums ∙ parts.sums_are)
    ∙ ap (λ (x : Market). plan_from (moment_by x (sums_words s) troves words) n) parts.market
    ∙ ap (λ (x : Table Trove). plan_from (moment_by (market_of s) (sums_words s) x words) n) parts.troves_are
    ∙ ap (λ (x : PoolWords). plan_from (moment_by (market_of s) (sums_words s) (trove_rows s) x) n) parts.words_are
    ∙ sym (plan_is s n sound) in
    subst (λ (plan : Result (List Victim) Refusal). MatchResult c.lowest_from.result (λ v. plan ≡ Ok v.items)
    (IsFaultOf plan)) same c.lowest_from.ensures
