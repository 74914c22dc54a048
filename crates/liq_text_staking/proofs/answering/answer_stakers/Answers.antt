use Rattle.std.proofs.Common.{◌≡◌, ◌<◌, List, take, refl, sym, ap, ◌∙◌, arith}
use Rattle.std.proofs.lemmas.List.{take_all}
use Rattle.liq_types.specs.declared.amounts.TheConstants.{ACCOUNTS}
use Rattle.liq_fees.specs.Happened.{changes_in}
use Rattle.liq_fees.specs.declared.changes.TheConstants.{CHANGES_MOST}
use Rattle.liq_fees.specs.declared.lines.StakeLine.{StakeLine}
use Rattle.liq_text_staking.specs.Asked.{answered_all}
use Rattle.liq_text_staking.specs.Staked.{told_of}
use Rattle.liq_text_staking.proofs.Answered.{if_ok}
use Rattle.liq_text_staking.proofs.Stakers.{no_stakers}
use Rattle.liq_text_staking.proofs.Ways.{begun, next_line}
use Rattle.liq_text_staking.proofs.answering.answer_stakers.Goals as goal

pub loop-line-init : goal.loop-line-init
loop-line-init c = record {
  asked = record {
    fees = c.new.ensures;
    stakers = c.new-2.ensures.empty ∙ sym (no_stakers ACCOUNTS);
    least = refl;
    text = c.new-3.ensures.items;
  };
  way = begun c.args.fees.now;
  few = omega arith;
}

pub loop-line-preserved : goal.loop-line-preserved
loop-line-preserved c =
    let fees = c.args.fees.now in
    let lines = c.args.lines.now in
    let i = c.loop-line.line-index in
    let h = c.loop-line.invariant in
    let few : changes_in (answered_all fees (take i lines)).past < CHANGES_MOST =
    omega (arith, h.few, c.loop-line-test.true, c.requires.few) in
    next_line fees lines i c.loop-line.asked c.answer.new.self _ c.loop-line-test.true h (c.in_ok-answer.ensures
    (answered_all fees (take i lines)) h.asked h.way few)

pub returns : goal.returns
returns c =
    let fees = c.args.fees.now in
    let lines = c.args.lines.now in
    let i = c.loop-line.line-index in
    let all : take i lines ≡ lines = take_all i lines c.loop-line-test.false in
    if_ok _ _ c.tell.result
    (λ text told. told (answered_all fees (take i lines)) c.loop-line.invariant.asked c.loop-line.invariant.way
    ∙ ap (λ (ls : List StakeLine). told_of fees (answered_all fees ls)) all)
    c.tell.ensures
