-- What is left is what the closed book had.
use Rattle.std.proofs.Common.{ℕ, ◌≡◌, List, [], ◌∷◌, Bool, true, false, Option, Some, None, refl, sym, ap, ◌∙◌, subst}
use Rattle.std.specs.Prelude.{All}
use Rattle.liq_types.specs.State.{State}
use Rattle.liq_rule_step.specs.History.{requests_of, state_after}
use Rattle.liq_lock.specs.History.{Behind, Within}
use Rattle.liq_store.specs.Keeping.{IsInOrder, IsInOrderWith}
use Rattle.liq_store.specs.Stored.{Stored}
use Rattle.liq_types.specs.declared.entries.Entry.{Entry}
use Rattle.liq_outside.specs.At.{DiskAt}
use Rattle.liq_book.specs.declared.items.Halt.{Halt}
use Rattle.liq_book.specs.declared.items.Item.{Item}
use Rattle.liq_book.specs.declared.origin.Origin.{Ghosts}
use Rattle.liq_book.specs.declared.seat.BookSeat.{BookSeat}
use Rattle.liq_book.specs.Booked.{IsBook}
use Rattle.liq_book.specs.Items.{chronicle, session_of}
use Rattle.liq_book.specs.Seats.{items_seen, session_at}
use Rattle.liq_book.proofs.Pasts.{past_left}
use Rattle.liq_core.specs.Core.{StandsFor}
use Rattle.liq_word_serve.specs.declared.served.Served.{Served}
use Rattle.liq_word_serve.specs.Ends.{end_of, halt_of}
use Rattle.liq_word_serve.specs.Leaves.{KeepsBehind, Leaves, chronicle_of}
use Rattle.liq_word_serve.specs.Serves.{AreSettled}

pub halt_of-end_of : (halt : Option Halt) (all : Bool) → halt_of (end_of halt all) ≡ halt
halt_of-end_of None true = refl
halt_of-end_of None false = refl
halt_of-end_of (Some halt) true = refl
halt_of-end_of (Some halt) false = refl

module _ {D : Type 0} (at : D → DiskAt) where
  -- a store that goes on leaves its disks settled for its state
  pub settles : (store : Stored D) (s : State) → IsInOrder at store → store.stopped ≡ None → StandsFor store.core s
      → AreSettled at s store.left store.right
  settles store s order going stands =
      let P : Option ℕ → Type 0 = λ o. IsInOrderWith at o store in
      let keeps = subst P going order in
      record {
        left_rests = keeps.left;
        right_rests = keeps.right;
        side = store.side;
        settled = λ l r told_left told_right. keeps.settled l r told_left told_right s stands;
      }

  module _ (base : State) (left_origin right_origin : DiskAt) where
    keeps : (store : Stored D) (history : List Entry) (halt : Option Halt) → IsInOrder at store
        → IsBook at base left_origin right_origin (record { store = store; entries = history; halt = halt })
        → KeepsBehind at halt (state_after base history) store.left store.right
    keeps store history None order book = settles store (state_after base history) order book.halt
        book.state
    keeps store history (Some halt) order book = book.keeps

    pub leaves : {O : Type 0} {o : Ghosts O} (most : ℕ) (all : Bool) (seats : List (BookSeat O o)) (served : Served D)
        (store : Stored D) (history : List Entry) (halt : Option Halt)
        → served.left ≡ store.left → served.right ≡ store.right → served.history ≡ history
        → served.end ≡ end_of halt all
        → IsInOrder at store
        → IsBook at base left_origin right_origin (record { store = store; entries = history; halt = halt })
        → All (λ seat. Behind session_of (chronicle history halt) (session_at seat ∷ []) (items_seen seat)) seats
        → Within session_of most (chronicle history halt)
        → Leaves at base left_origin right_origin most all seats served
    leaves most all seats served store history halt left_is right_is history_is end_is order book back within =
        let halt_is : halt_of served.end ≡ halt = ap halt_of end_is ∙ halt_of-end_of halt all in
        let items_are : chronicle_of served ≡ chronicle history halt =
        ap (λ entries. chronicle entries (halt_of served.end)) history_is ∙ ap (chronicle history) halt_is in
        record {
          legal = rw history_is book.legal;
          end = end_is ∙ ap (λ h. end_of h all) (sym halt_is);
          within = subst (λ items. Within session_of most items) (sym items_are) within;
          back = subst (λ (items : List Item). All (λ seat. Behind session_of items (session_at seat ∷ [])
              (items_seen seat)) seats) (sym items_are) back;
          disks = rw (halt_is, history_is, left_is, right_is) (keeps store history halt order book);
          since = record {
            cause = rw (halt_is, left_is, right_is) book.cause;
            left_time = rw left_is book.left;
            right_time = rw right_is book.right;
            past =
                rw (halt_is, history_is, left_is, right_is)
                (past_left at left_origin right_origin base
                (requests_of history) halt store order book.halt book.past);
            between = rw (halt_is, history_is, left_is, right_is) book.between;
          };
        }
