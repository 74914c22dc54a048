use Rattle.std.proofs.Common.{ℕ, true, ◌≡◌, ◌≤◌, ◌∙◌, List, [], ◌∷◌, sym, ap, subst, arith}
use Rattle.std.specs.Prelude.{Option, Some}
use mathlib.Core.Option.{some}
use lib.ListN.{get_elem?}
use Rattle.atomic_table.specs.Table.{Final, Seen}
use Rattle.liq_lock.specs.declared.view.View.{View}
use Rattle.liq_lock.specs.History.{Within}
use Rattle.liq_lock.specs.Rule.{Ruled}
use Rattle.liq_lock.specs.Seats.{lock_seats, seen_of, shares_of}
use Rattle.liq_lock.specs.Views.{view_in, is_at_rest}
use Rattle.liq_lock.proofs.Ends.{closed}
use Rattle.liq_lock.proofs.Moved.{None_not_Some, Some_is}
use Rattle.liq_lock.proofs.Rests.{rest_of}
use Rattle.liq_lock.proofs.lock.Lock.close.Given.{Over}
use Rattle.liq_lock.proofs.lock.Lock.close.Goals as goal

-- what came out of the slot
module _ {T I : Type 0} (history : T → List I) (maker : I → ℕ) where
  whole : (key seats id shares : ℕ) (views : List (View I)) (v : View I) (words : List ℕ) (slots : List (Option T))
      → Final (Seen (Ruled history maker key) id v) words slots
      → is_at_rest (view_in views) ≡ true → views ≡ v ∷ [] → key ≡ seats → seats ≤ shares
      → (view_in views).shares ≡ shares → (out : Option T) → get_elem? slots 0 ≡ some out
      → ((view_in views).shares ≡ seats) × ((x : T) × (out ≡ Some x) × (history x ≡ (view_in views).seen)
      × Within maker seats (history x))
  whole key seats id shares views v words slots f rest is of enough are out there =
      let same : v ≡ view_in views = sym (ap view_in is) in
      let parts : v.shares ≡ (view_in views).shares = ap (λ (z : View I). z.shares) same in
      let c = closed history maker key id v words slots f (rest_of views v rest is) (omega arith) out there in
      let all = c.0 in (
        omega arith,
        (
          c.1.0,
          c.1.1,
          c.1.2 ∙ ap (λ (z : View I). z.seen) same,
          subst (λ (n : ℕ). Within maker n (history c.1.0))
              of c.1.3,
        ),
      )

pub unreachable-requires : goal.unreachable-requires
unreachable-requires g c =
    let seat = c.args.seat in
    let all = whole g.T.Chronicle.history g.T.Chronicle.maker _ _ _ _ _ _ _ _ c.close_with-closed.ensures.values.2
    seat.at_rest c.into_seat.ensures.2 c.args.self.sized.2 (omega arith) seat.shares_are _ c.take.ensures.value in
    None_not_Some all.1.0 (sym c.in-None.is ∙ all.1.1)

-- what the value tells that is given out
given_out : (g : Over) (c : goal.After-free g) → let self = c.args.self in let seat = c.args.seat in
    let T = g.T.Chronicle in let x = c.in-Some.value in
    (shares_of seat ≡ lock_seats self) × (T.history x ≡ seen_of seat) × Within T.maker (lock_seats self) (T.history x)
given_out g c =
    let seat = c.args.seat in let T = g.T.Chronicle in
    let all = whole T.history T.maker _ _ _ _ _ _ _ _ c.close_with-closed.ensures.values.2
    seat.at_rest c.into_seat.ensures.2 c.args.self.sized.2 (omega arith) seat.shares_are _ c.take.ensures.value in
    let is = Some_is all.1.0 c.in-Some.value (sym all.1.1 ∙ c.in-Some.is) in (
      all.0,
      ap T.history (sym is) ∙ all.1.2,
      subst (λ (x : g.row.T.Denot). Within T.maker (lock_seats c.args.self) (T.history x)) is all.1.3,
    )

pub returns-clause-shares : goal.returns-clause-shares
returns-clause-shares g c = (given_out g c).0

pub returns-clause-value : goal.returns-clause-value
returns-clause-value g c = (given_out g c).1

pub returns-clause-makers : goal.returns-clause-makers
returns-clause-makers g c = (given_out g c).2
