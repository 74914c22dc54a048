use Rattle.std.proofs.Common.{sym, subst, arith}
use Rattle.liq_core.specs.Core.{Core, StandsFor}
use Rattle.liq_market.specs.Content.{Content}
use Rattle.liq_market.proofs.Unused.{by_plan, by_refusal, by_reply, by_turn}
use Rattle.liq_market.proofs.market.Market.unused_number.Goals as goal

pub returns-then-number-lt-NUMBER_MOST : goal.returns-then-number-lt-NUMBER_MOST
returns-then-number-lt-NUMBER_MOST c s h =
    let stands = subst (λ (m : Content). StandsFor m.core s) (sym c.self.view_is) h in
    let next = c.next_number-number.ensures s (subst (λ (p : Core). StandsFor p s) (sym c.protocol.ensures) stands) in
    by_turn s c.args.client c.next_number-number.result c.args.call.now next (omega (arith, next))

pub returns-in-Ok-New : goal.returns-in-Ok-New
returns-in-Ok-New c s h =
    let stands = subst (λ (m : Content). StandsFor m.core s) (sym c.self.view_is) h in
    let next = c.next_number-number.ensures s (subst (λ (p : Core). StandsFor p s) (sym c.protocol.ensures) stands) in
    let is = (rw c.in-Ok-New.field-0-is at c.in-Ok-New.ensures) s stands in
    by_plan s c.args.client c.next_number-number.result c.args.call.now next c.in-Ok-New._planned.command is.0 is.1.allowed

pub returns-in-Ok-Again : goal.returns-in-Ok-Again
returns-in-Ok-Again c s h =
    let stands = subst (λ (m : Content). StandsFor m.core s) (sym c.self.view_is) h in
    let next = c.next_number-number.ensures s (subst (λ (p : Core). StandsFor p s) (sym c.protocol.ensures) stands) in
    let is = (rw c.in-Ok-Again.field-0-is at c.in-Ok-Again.ensures) s stands in
    by_reply s c.args.client c.next_number-number.result c.args.call.now next _ is

pub returns-in-Err-No : goal.returns-in-Err-No
returns-in-Err-No c s h =
    let stands = subst (λ (m : Content). StandsFor m.core s) (sym c.self.view_is) h in
    let next = c.next_number-number.ensures s (subst (λ (p : Core). StandsFor p s) (sym c.protocol.ensures) stands) in
    let is = (rw c.in-Err-No.field-0-is at c.in-Err-No.ensures) s stands in
    by_refusal s c.args.client c.next_number-number.result c.args.call.now next _ is

pub returns-in-Err-NoMemory : goal.returns-in-Err-NoMemory
returns-in-Err-NoMemory c s h =
    let stands = subst (λ (m : Content). StandsFor m.core s) (sym c.self.view_is) h in
    let next = c.next_number-number.ensures s (subst (λ (p : Core). StandsFor p s) (sym c.protocol.ensures) stands) in
    let is = (rw c.in-Err-NoMemory.field-0-is at c.in-Err-NoMemory.ensures) s stands in
    by_turn s c.args.client c.next_number-number.result c.args.call.now next is.turn
