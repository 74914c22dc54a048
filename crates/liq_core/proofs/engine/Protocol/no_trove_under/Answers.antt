use Rattle.std.proofs.Common.{◌≡◌, ℕ, ◌*◌, ap, sym, ◌∙◌, Option}
use Rattle.liq_num.specs.declared.ratio.TheConstants.{GWEI_PER_ETH}
use Rattle.liq_types.specs.declared.amounts.TheConstants.{MCR}
use Rattle.liq_types.specs.declared.figures.Market.{Market}
use Rattle.liq_types.specs.State.{State}
use Rattle.liq_types.specs.Totals.{market_of, or_nothing, worth, asked}
use Rattle.liq_ledger.specs.Refusals.{ruled}
use Rattle.liq_order.specs.Order.{last_trove, last_account}
use Rattle.liq_troves.specs.StakeSums.{entire_of}
use Rattle.liq_core.specs.declared.engine.Protocol.TheInside.{Inside}
use Rattle.liq_core.specs.Core.{Core, state_of}
use Rattle.liq_rule_step.specs.Pool.{trove_under}
use Rattle.liq_core.specs.Sound.{IsSound, core_of}
use Rattle.liq_core.proofs.Pooling.{last_is, is_under, not_under}
use Rattle.liq_core.proofs.engine.Protocol.no_trove_under.Goals as goal

-- the last trove of what the protocol stands for
last_here : (p : Inside) (core : Core) → core_of p ≡ core → IsSound p → (o : Option ℕ)
    → o ≡ last_account p.order.entries → last_trove (state_of core) ≡ o
last_here p core view sound o is =
    ap (λ (x : Core). last_trove (state_of x)) (sym view) ∙ last_is p sound ∙ sym is

-- the two sides of the comparison, of numbers that are told
worth_as : (s : State) (account coll price : ℕ) (own : ℕ × ℕ) (m : Market) → coll ≡ own.0
    → own ≡ or_nothing (entire_of s account) → price ≡ m.price → m ≡ market_of s
    → coll * price * 100 ≡ worth (or_nothing (entire_of s account)).0 s.price
worth_as s account coll price own m coll_is own_is price_is market_is =
    ap (λ n. n * price * 100) (coll_is ∙ ap (λ (t : ℕ × ℕ). t.0) own_is)
    ∙ ap (λ n. (or_nothing (entire_of s account)).0 * n * 100) (price_is ∙ ap (λ (x : Market). x.price) market_is)

asked_as : (s : State) (account percent debt gwei : ℕ) (own : ℕ × ℕ) → percent ≡ MCR → debt ≡ own.1
    → own ≡ or_nothing (entire_of s account) → gwei ≡ GWEI_PER_ETH
    → percent * debt * gwei ≡ asked MCR (or_nothing (entire_of s account)).1
asked_as s account percent debt gwei own percent_is debt_is own_is gwei_is =
    ap (λ n. n * debt * gwei) percent_is
    ∙ ap (λ n. MCR * n * gwei) (debt_is ∙ ap (λ (t : ℕ × ℕ). t.1) own_is)
    ∙ ap (λ n. MCR * (or_nothing (entire_of s account)).1 * n) gwei_is

pub returns-in_default : goal.returns-in_default
returns-in_default c =
    ap (λ (o : Option ℕ). ruled (trove_under (state_of c.args.self.now) o))
    (sym (last_here c.self.inside c.args.self.now c.self.view_is c.self.invariant c.last.result c.last.ensures
    ∙ c.in_default.is))

pub returns-then-left-right : goal.returns-then-left-right
returns-then-left-right c =
    let s = state_of c.args.self.now in
    let account = c.in-Some.account in
    let own = c.unwrap_or-coll.ensures ∙ ap or_nothing c.entire.ensures.entire in
    is_under s account (c.from.result * c.from-2.result * 100) (c.from-3.result * c.from-4.result * c.from-5.result)
    (worth_as s account c.from.result c.from-2.result c.unwrap_or-coll.result c.market-price.result c.from.ensures own
    c.from-2.ensures c.market-price.ensures.market)
    (asked_as s account c.from-3.result c.from-4.result c.from-5.result c.unwrap_or-coll.result c.from-3.ensures
    c.from-4.ensures own c.from-5.ensures) c.if-left-right.true
    ∙ ap (λ (o : Option ℕ). ruled (trove_under s o)) (sym (last_here c.self.inside c.args.self.now c.self.view_is
    c.self.invariant c.last.result c.last.ensures ∙ c.in-Some.is))

pub returns : goal.returns
returns c =
    let s = state_of c.args.self.now in
    let account = c.in-Some.account in
    let own = c.unwrap_or-coll.ensures ∙ ap or_nothing c.entire.ensures.entire in
    not_under s account (c.from.result * c.from-2.result * 100) (c.from-3.result * c.from-4.result * c.from-5.result)
    (worth_as s account c.from.result c.from-2.result c.unwrap_or-coll.result c.market-price.result c.from.ensures own
    c.from-2.ensures c.market-price.ensures.market)
    (asked_as s account c.from-3.result c.from-4.result c.from-5.result c.unwrap_or-coll.result c.from-3.ensures
    c.from-4.ensures own c.from-5.ensures) c.if-left-right.false
    ∙ ap (λ (o : Option ℕ). ruled (trove_under s o)) (sym (last_here c.self.inside c.args.self.now c.self.view_is
    c.self.invariant c.last.result c.last.ensures ∙ c.in-Some.is))
