-- Seats of a book as they are made, one behind the other.
use Rattle.std.proofs.Common.{◌≡◌, ◌+◌, List, [], ◌∷◌, ◌++◌, length, get_or, refl, ap, arith, length-append}
use Rattle.std.proofs.lemmas.List.{get_or_append_left, get_or_push}
use borrow.Author.Count.{below_more}
use Rattle.liq_lock.specs.declared.lock.Lock.{Lock}
use Rattle.liq_book.specs.declared.items.Item.{Item}
use Rattle.liq_book.specs.declared.origin.Origin.{Ghosts}
use Rattle.liq_book.specs.declared.seat.BookSeat.{BookSeat}
use Rattle.liq_book.specs.Seats.{AreSeated, IsNewSeat}

-- one more seat behind those that are seated
pub seated_more : {T O : Type 0} {o : Ghosts O} (lock : Lock T Item) (front all : List (BookSeat O o))
    (seat : BookSeat O o) → all ≡ front ++ seat ∷ [] → AreSeated lock front → IsNewSeat lock (length front + 1) seat
    → AreSeated lock all
seated_more lock front all seat are before here k d within =
    below_more (λ j. IsNewSeat lock (j + 1) (get_or all j d)) (length front)
    (λ j less. rw (are, get_or_append_left front (seat ∷ []) d j less) (before j d less))
    (rw (are, get_or_push front seat d (length front) refl) here) k (omega (
      arith,
      ap length are,
      length-append front (seat ∷ []),
    ))
