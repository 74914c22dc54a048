use Rattle.std.proofs.Common.{ℕ, true, ◌≡◌, ◌∙◌, ◌+◌, ◌-◌, ◌%◌, ◌^◌, ◌<◌, List, [], ◌∷◌, length, refl, sym, ap, subst, length-append, arith}
use mathlib.Core.Option.{none}
use Rattle.std.specs.Prelude.{Option, Some}
use Rattle.atomic_table.specs.Table.{Me, rest, Allows, step}
use Rattle.liq_lock.specs.declared.view.View.{View}
use Rattle.liq_lock.specs.Rule.{Ruled}
use Rattle.liq_lock.specs.Steps.{Counts, IsLeaving}
use Rattle.liq_lock.specs.Views.{saw, outside, view_in, is_empty_hand}
use Rattle.liq_lock.proofs.Rests.{at_turn, one_hand}
use Rattle.liq_lock.proofs.Turns.{counts}
use Rattle.liq_lock.proofs.lock.Lock.give.Given.{Over}
use Rattle.liq_lock.proofs.lock.Lock.give.Goals as goal

-- the seat after the value was put into its empty slot
put : {T I : Type 0} (new old : Me (Option T) (View I)) (x : T)
    → new ≡ (old.0, (0, Some x) ∷ rest old.1) → is_empty_hand old.1 ≡ true → new ≡ (old.0, (0, Some x) ∷ [])
put {T} new old x e h = e ∙ ap (λ (l : List (ℕ × Option T)). (old.0, (0, Some x) ∷ l)) (ap rest (one_hand old.1 h))

-- the seat after the turn has ended: it has seen the history of the value
left : {T I : Type 0} (history : T → List I) (old put_in counted now : Me (Option T) (View I)) (x : T)
    → put_in ≡ (old.0, (0, Some x) ∷ rest old.1) → is_empty_hand old.1 ≡ true
    → ((y : T) → put_in.1 ≡ (0, Some y) ∷ [] → counted ≡ (saw put_in.0 (history y), put_in.1))
    → now ≡ (outside counted.0, []) → now ≡ (outside (saw old.0 (history x)), [])
left {T} {I} history old put_in counted now x exchanged empty counts leaves =
    let here = put put_in old x exchanged empty in
    leaves ∙ ap (λ (m : Me (Option T) (View I)). (outside m.0, []))
    (counts x (ap (λ (m : Me (Option T) (View I)). m.1) here)
    ∙ ap (λ (m : Me (Option T) (View I)). (saw m.0 (history x), m.1)) here)

-- and what its badge tells of it
told : {T I : Type 0} (views : List (View I)) (now : Me (Option T) (View I)) (v : View I)
    → views ≡ now.0 ∷ [] → now ≡ (v, []) → view_in views ≡ v
told {T} {I} views now v is whole = ap view_in is ∙ ap (λ (m : Me (Option T) (View I)). m.0) whole

pub fetch_add-requires : goal.fetch_add-requires
fetch_add-requires g c =
    let history = g.T.Chronicle.history in
    let maker = g.T.Chronicle.maker in
    let key : ℕ = c.args.self.now.table.shared.key in
    let slots : ℕ = c.args.self.now.table.shared.table_id.slots in
    let id : ℕ = c.exchange.new.seat.id in
    let v : View g.row.T-Item.Denot = c.args.held.seat.me.0 in
    let k : ℕ = c.entries-now.result - c.args.held.entries in
    let turn = at_turn v c.args.held.turn in
    let before = c.args.held.entries_are in
    let now = c.entries-now.ensures in
    let fits : c.entries-now.result < 2 ^ 64 = c.entries-now.type_inv in
    let long = ap length c.requires.grows.1 ∙ length-append v.seen c.requires.grows.0 in (
      c.exchange.ensures.0 ∙ c.requires.own,
      omega arith,
      subst (λ (m : Me (Option g.row.T.Denot) (View g.row.T-Item.Denot)).
          Allows (Ruled history maker key) slots id m 2 (λ n. (n + k) % 2 ^ 64)
          (Counts history (step slots 2 k 0 none) m))
          (sym (put c.exchange.new.seat.me c.args.held.seat.me c.args.value c.exchange.ensures.3
          c.args.held.empty_hand))
          (counts history maker key slots id v c.args.value k turn.inside turn.alive c.requires.grows (omega arith)
          (omega arith)),
    )

pub leave-requires-clause-turn : goal.leave-requires-clause-turn
leave-requires-clause-turn g c =
    let history = g.T.Chronicle.history in
    let v : View g.row.T-Item.Denot = c.args.held.seat.me.0 in
    let turn = at_turn v c.args.held.turn in
    let put' = put c.exchange.new.seat.me c.args.held.seat.me c.args.value
    c.exchange.ensures.3 c.args.held.empty_hand in
    let hand = ap (λ (m : Me (Option g.row.T.Denot) (View g.row.T-Item.Denot)). m.1) put' in
    let counted = c.fetch_add.ensures.2 c.args.value hand
    ∙ ap (λ (m : Me (Option g.row.T.Denot) (View g.row.T-Item.Denot)). (saw m.0 (history c.args.value), m.1)) put' in
    subst (IsLeaving history) (sym counted)
    record { inside = turn.inside; alive = turn.alive; value = (c.args.value, refl, refl) }

pub leave-requires-clause-own : goal.leave-requires-clause-own
leave-requires-clause-own g c = c.fetch_add.ensures.0 ∙ c.exchange.ensures.0 ∙ c.requires.own

pub into_badge-requires : goal.into_badge-requires
into_badge-requires g c = ap (λ (m : Me (Option g.row.T.Denot) (View g.row.T-Item.Denot)). m.1) c.leave.ensures.outside

pub returns-clause-own : goal.returns-clause-own
returns-clause-own g c = c.into_badge.ensures.0 ∙ c.leave.ensures.own

-- the view behind the call
now : (g : Over) (c : goal.After-result-1 g)
    → view_in c.into_badge.result.views ≡ outside (saw c.args.held.seat.me.0 (g.T.Chronicle.history c.args.value))
now g c =
    let seen : View g.row.T-Item.Denot = saw c.args.held.seat.me.0 (g.T.Chronicle.history c.args.value) in
    told c.into_badge.result.views c.leave.new.seat.me (outside seen) c.into_badge.ensures.2
    (left g.T.Chronicle.history c.args.held.seat.me c.exchange.new.seat.me c.fetch_add.new.seat.me c.leave.new.seat.me
    c.args.value c.exchange.ensures.3 c.args.held.empty_hand c.fetch_add.ensures.2 c.leave.ensures.outside)

pub returns-clause-number : goal.returns-clause-number
returns-clause-number g c = ap (λ (w : View g.row.T-Item.Denot). w.number) (now g c)

pub returns-clause-stands : goal.returns-clause-stands
returns-clause-stands g c = ap (λ (w : View g.row.T-Item.Denot). w.stands) (now g c)

pub returns-clause-shares : goal.returns-clause-shares
returns-clause-shares g c = ap (λ (w : View g.row.T-Item.Denot). w.shares) (now g c)

pub returns-clause-seen : goal.returns-clause-seen
returns-clause-seen g c = ap (λ (w : View g.row.T-Item.Denot). w.seen) (now g c)
