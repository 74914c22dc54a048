use Rattle.std.proofs.Common.{◌≡◌, ◌+◌, drop, slice_set, ap, sym, ◌∙◌, arith}
use Rattle.std.proofs.lemmas.List.{drop-drop}
use Rattle.std.proofs.lemmas.List.Edits.{paste_more}
use Rattle.liq_types.specs.Ranked.{first_of, from_last}
use Rattle.liq_core.proofs.FromTheEnd.{in_all, laid_all, next_behind, none_left, place_of, stands_in}
use Rattle.liq_core.proofs.accounts.write_accounts.Goals as goal

pub returns-in_default : goal.returns-in_default
returns-in_default c =
    let rest = drop c.args.passed (from_last c.args.order.now.entries) in
    let few = c.loop-at.invariant.few in
    let none = none_left rest c.loop-at.at (sym c.loop-at.invariant.next ∙ c.in_default.is) in
    let low = c.loop-at-test.true in
    c.loop-at.invariant.written ∙ laid_all rest c.args.places.now c.loop-at.at (omega (arith, few, none))
    (omega (arith, low))

pub before-next-requires : goal.before-next-requires
before-next-requires c =
    let entries = c.args.order.now.entries in
    stands_in entries (c.args.passed + c.loop-at.at) c.in-Some.account
    (in_all entries c.args.passed c.loop-at.at c.in-Some.account c.loop-at.next c.loop-at.invariant.next c.in-Some.is)

pub loop-at-preserved : goal.loop-at-preserved
loop-at-preserved c =
    let entries = c.args.order.now.entries in
    let all = from_last entries in
    let rest = drop c.args.passed all in
    let at = c.loop-at.at in
    let account = c.in-Some.account in
    let low = c.loop-at-test.true in
    let there = in_all entries c.args.passed at account c.loop-at.next c.loop-at.invariant.next c.in-Some.is in
    let place = place_of rest at account 0 (sym c.loop-at.invariant.next ∙ c.in-Some.is) in
    let inside = place.0 in
    let further : c.args.passed + at + 1 ≡ c.args.passed + (at + 1) = omega arith in
    let same : at ≡ 0 + at = omega arith in
    record {
      next =
          c.before-next.ensures
          ∙ next_behind entries (c.args.passed + at) account c.requires there
          ∙ ap (λ n. first_of (drop n all)) further
          ∙ ap first_of (sym (drop-drop (at + 1) c.args.passed all));
      written =
          (λ i. slice_set (c.loop-at.invariant.written i) (same i) (sym place.1 i))
          ∙ paste_more c.args.places.now 0 rest at 0 (omega (arith, low)) inside;
      few = omega (arith, inside);
    }
