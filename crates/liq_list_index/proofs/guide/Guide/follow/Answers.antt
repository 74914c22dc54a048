use Rattle.std.proofs.Common.{[], sym, ◌∙◌, subst}
use Rattle.std.specs.Prelude.{not}
use Rattle.liq_list_index.specs.Rows.{AreAsBefore, AreSettledBeside, Follows, Holds, key_at, next_at, side_at}
use Rattle.liq_list_index.proofs.Holding.{begun}
use Rattle.liq_list_index.proofs.Stands.{IsEnded, as_before, followed, followed_alone, kept_if_err, listed_if_ok}
use Rattle.liq_list_index.proofs.guide.Guide.follow.Goals as goal

-- ---- one change alone

ends_alone : (c : goal.In-Some)
    → IsEnded c.in-Some.met c.follow_one.new.self.stands c.self.inside.rows.places c.follow_one.new.self.places
    c.args.changes.now
ends_alone c =
    followed_alone c.in-Some.met c.self.inside.rows c.follow_one.new.self c.args.changes.now c.self.invariant.0
    (c.in-Some.ensures.tried c.self.invariant.0)

pub invariant_of-self : goal.invariant_of-self
invariant_of-self c = ((ends_alone c).1, c.follow_one.ensures.settled c.self.invariant.1)

pub returns-in-Some-clause-list : goal.returns-in-Some-clause-list
returns-in-Some-clause-list c =
    listed_if_ok c.in-Some.met c.self.inside.rows.places c.follow_one.new.self.places c.args.self.now c.args.changes.now
    c.self.view_is (ends_alone c).0

pub returns-in-Some-clause-err : goal.returns-in-Some-clause-err
returns-in-Some-clause-err c =
    kept_if_err c.in-Some.met c.self.inside.rows.places c.follow_one.new.self.places c.args.self.now c.args.changes.now
    c.self.view_is (ends_alone c).0

-- ---- any changes

stays : (c : goal.After-settle) → AreAsBefore c.self.inside.rows c.follow_one.new.self
stays c = c.in_default.ensures.tried c.self.invariant.0

stands : (c : goal.After-settle) → Follows (key_at c.follow_one.new.self.stands) c.follow_one.new.self.places
stands c = as_before c.self.inside.rows c.follow_one.new.self (stays c) c.self.invariant.0

settled : (c : goal.After-settle) → AreSettledBeside c.follow_one.new.self.stands []
settled c = c.follow_one.ensures.settled c.self.invariant.1

rests : (c : goal.After-settle) → AreSettledBeside c.settle.new.self.stands []
rests c = c.settle.ensures.settled (c.prepare-ready.ensures.settled (settled c))

ends : (c : goal.After-settle) → IsEnded c.prepare-ready.result c.settle.new.self.stands c.follow_one.new.self.places
    c.settle.new.self.places c.args.changes.now
ends c =
    let rows = c.follow_one.new.self.stands in
    let list = c.follow_one.new.self.places in
    let ready = c.prepare-ready.new.self.stands in
    let made = subst (λ b. Holds (side_at b ready) (side_at (not b) ready) c.prepare-ready.new.self.places)
    (sym c.is_ok.ensures.value)
    (c.prepare-ready.ensures.holds (settled c) (begun (key_at rows) (next_at rows) list (stands c))) in
    followed c.is_ok.result rows ready c.settle.new.self.stands list c.settle.new.self.places c.args.changes.now
    c.prepare-ready.result c.is_ok.ensures.value (stands c) (settled c) c.prepare-ready.ensures.key
    c.prepare-ready.ensures.next c.settle.ensures.same (rests c) (c.settle.ensures.holds made)

pub invariant_of-self-2 : goal.invariant_of-self-2
invariant_of-self-2 c = ((ends c).1, rests c)

pub returns-clause-list : goal.returns-clause-list
returns-clause-list c =
    listed_if_ok c.prepare-ready.result c.follow_one.new.self.places c.settle.new.self.places c.args.self.now
    c.args.changes.now ((stays c).0 ∙ c.self.view_is) (ends c).0

pub returns-clause-err : goal.returns-clause-err
returns-clause-err c =
    kept_if_err c.prepare-ready.result c.follow_one.new.self.places c.settle.new.self.places c.args.self.now
    c.args.changes.now ((stays c).0 ∙ c.self.view_is) (ends c).0
