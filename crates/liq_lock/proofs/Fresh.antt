-- Seats as they are made, one behind the other.
use Rattle.std.proofs.Common.{◌≡◌, ℕ, ◌+◌, ◌-◌, ◌<◌, List, [], ◌∷◌, ◌++◌, length, get_or, refl, sym, ap, ap₂, ◌∙◌, subst, length-append, arith}
use mathlib.Core.Logic.{dite}
use native.Mathlib.Decide.{dec_lt}
use Rattle.std.proofs.lemmas.List.{get_or_append_left, get_or_push}
use Rattle.atomic_table.specs.Seated.{TableId}
use Rattle.atomic_table.specs.Table.{Me}
use Rattle.liq_lock.specs.declared.seat.LockSeat.{LockSeat}
use Rattle.liq_lock.specs.declared.view.View.{View}
use Rattle.liq_lock.specs.Seats.{IsFresh, AreFresh}
use Rattle.liq_lock.specs.Views.{dealer, first_with, keeping, newcomer, opener}

module _ {I : Type 0} where
  -- seats numbered from 2
  abbrev pub Later : TableId → List (LockSeat I) → Type 0
  Later id seats = (k : ℕ) (d : LockSeat I) → k < length seats → IsFresh id (k + 2) (get_or seats k d)

  pub later_push : (id : TableId) (seats : List (LockSeat I)) (seat : LockSeat I) (k : ℕ) → Later id seats
      → length seats + 2 ≡ k → IsFresh id k seat → Later id (seats ++ seat ∷ [])
  later_push id seats seat k all count one j d below =
      dite (dec_lt j (length seats))
      (λ yes. subst (IsFresh id (j + 2)) (sym (get_or_append_left seats (seat ∷ []) d j yes)) (all j d yes))
      (λ no.
      let long = length-append seats (seat ∷ []) in
      let last : j ≡ length seats = omega arith in
      let here : seat ≡ get_or (seats ++ seat ∷ []) j d = sym (get_or_push seats seat d j (sym last)) in
      subst (λ (z : ℕ × LockSeat I). IsFresh id z.0 z.1) (λ i. ((let e : k ≡ j + 2 = omega arith in e) i, here i)) one)

  -- the first view before any split
  pub none_dealt : (n : ℕ) → opener {I = I} n ≡ dealer 2 n
  none_dealt n = let all : n ≡ n + 2 - 2 = omega arith in ap (first_with 2) all

  -- the first view after a split
  pub keeping_on : (k n : ℕ) → keeping {I = I} (dealer k n) ≡ dealer (k + 1) n
  keeping_on k n = let less : n + 2 - k - 1 ≡ n + 2 - (k + 1) = omega arith in ap (first_with (k + 1)) less

  -- the first view when all others are made
  pub last_dealt : (k n : ℕ) → k ≡ n → dealer {I = I} (k + 1) n ≡ newcomer 1 (k + 1)
  last_dealt k n all = let one : n + 2 - (k + 1) ≡ 1 = omega (arith, all) in ap (first_with (k + 1)) one

  -- a seat with a view that was made for one share, by what its own view tells
  pub is_newcomer : {S : Type 0} (m : Me S (View I)) (k next : ℕ) → m ≡ (newcomer k next, [])
      → m ≡ (newcomer m.0.number m.0.next, [])
  is_newcomer {S} m k next is =
      is ∙ ap₂ (λ (a b : ℕ). (newcomer a b, [])) (sym (ap (λ (n : Me S (View I)). n.0.number) is))
      (sym (ap (λ (n : Me S (View I)). n.0.next) is))

  -- the last seat that was made, and those before it
  pub fresh_pop : (id : TableId) (seats : List (LockSeat I)) (seat : LockSeat I) → AreFresh id (seats ++ seat ∷ [])
      → AreFresh id seats × IsFresh id (length seats + 1) seat
  fresh_pop id seats seat all =
      let long = length-append seats (seat ∷ []) in (
        (λ j d below. subst (IsFresh id (j + 1)) (get_or_append_left seats (seat ∷ []) d j below)
            (all j d (omega arith))),
        subst (IsFresh id (length seats + 1)) (get_or_push seats seat seat (length seats) refl) (all (length seats) seat
            (omega arith)),
      )
