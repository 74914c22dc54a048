-- What a book leaves that is closed when its sessions have ended.
use Rattle.std.specs.Prelude.{ℕ, ◌≡◌, List, [], ◌∷◌, All, Bool, Option, Some, None}
use Rattle.liq_types.specs.State.{State}
use Rattle.liq_outside.specs.At.{DiskAt}
use Rattle.liq_rule_step.specs.History.{IsLegal, state_after}
use Rattle.liq_rule_step.specs.Memory.{IsAccepted}
use Rattle.liq_lock.specs.History.{Behind, Within}
use Rattle.liq_book.specs.declared.items.Halt.{Halt}
use Rattle.liq_book.specs.declared.items.Item.{Item}
use Rattle.liq_book.specs.declared.origin.Origin.{Ghosts}
use Rattle.liq_book.specs.declared.seat.BookSeat.{BookSeat}
use Rattle.liq_book.specs.Items.{chronicle, session_of}
use Rattle.liq_book.specs.Seats.{items_seen, session_at}
use Rattle.liq_word_serve.specs.declared.served.Served.{Served}
use Rattle.liq_word_serve.specs.Ends.{end_of, halt_of}
use Rattle.liq_word_serve.specs.Serves.{AreKeptAround, AreSettled, HasGoneOn}

-- the chronicle that is left
abbrev pub chronicle_of : {D : Type 0} → Served D → List Item
chronicle_of served = chronicle served.history (halt_of served.end)

module _ {D : Type 0} (at : D → DiskAt) where
  abbrev pub KeepsBehind : Option Halt → State → D → D → Type 0
  KeepsBehind None s left right = AreSettled at s left right
  KeepsBehind (Some halt) s left right =
      IsAccepted s halt.request × AreKeptAround at s halt.request left right

-- The seats are those with which it was closed.
pub record Leaves
    {D O : Type 0} {o : Ghosts O} (at : D → DiskAt) (base : State)
    (left_origin right_origin : DiskAt) (most : ℕ) (all : Bool) (seats : List (BookSeat O o))
    (served : Served D) : Type 0 where
  pub legal : IsLegal base served.history
  pub end : served.end ≡ end_of (halt_of served.end) all
  pub within : Within session_of most (chronicle_of served)
  pub back :
      All (λ seat.
      Behind session_of (chronicle_of served) (session_at seat ∷ []) (items_seen seat)) seats
  pub disks :
      KeepsBehind at (halt_of served.end) (state_after base served.history) served.left served.right
  pub since : HasGoneOn at base left_origin right_origin served
