-- What a book publishes: batches of the list's changes, each under the number of entries that it
-- comes behind.
use Rattle.std.specs.Prelude.{◌≡◌, ◌≤◌, ◌==◌, ◌⊎◌, List, [], ◌∷◌, ◌++◌, length, Option, Result}
use Rattle.std.specs.Prelude.{MatchResult, IsTrue}
use Rattle.std.specs.List.{list_any}
use Rattle.liq_types.specs.State.{State}
use Rattle.liq_types.specs.declared.entries.Entry.{Entry}
use Rattle.liq_types.specs.declared.replies.Answer.{Answer}
use Rattle.liq_types.specs.declared.replies.Answer.TheVariants as answer
use Rattle.liq_types.specs.declared.replies.Reply.TheVariants as reply
use Rattle.liq_rule_step.specs.View.{all_followed, list_kinds, view_of, view_after}
use Rattle.liq_views.specs.Batches.{Given, version_after}
use Rattle.liq_store.specs.Stored.{Stored}
use Rattle.liq_book.specs.declared.items.Halt.{Halt}
use Rattle.liq_book.specs.Booked.{Booked, state_of_book}

-- a book in use, with the batches that were published, and those that wait for the next publication
pub record OpenBook (D : Type 0) : Type 0 where
  pub book : Booked D
  pub published : List Given
  pub waiting : List Given

abbrev pub open_book : {D : Type 0}
    → Stored D → List Entry → Option Halt → (published waiting : List Given) → OpenBook D
open_book store entries halt published waiting =
    record {
      book = record { store = store; entries = entries; halt = halt };
      published = published;
      waiting = waiting;
    }

abbrev pub all_batches : {D : Type 0} → OpenBook D → List Given
all_batches b = b.published ++ b.waiting

-- Of every batch, n being its number: the batches up to and with it make the view after n entries.
abbrev pub AreViews : State → List Entry → List Given → Type 0
AreViews base entries batches =
    (before after : List Given) (b : Given) → batches ≡ before ++ b ∷ after
    → (b.number ≤ length entries)
    × ((version_after (before ++ b ∷ [])).view ≡ view_after base entries b.number)

-- What holds of what every book publishes: the first version is that of the opened list, under
-- number 0; each is the view after as many entries as its number says; and the store's changes lead
-- on from the last one to the view of now.
pub record IsPublishing {D : Type 0} (base : State) (b : OpenBook D) : Type 0 where
  pub first :
      (opened : Given) × (more : List Given) × (b.published ≡ opened ∷ more)
      × (opened.number ≡ 0)
  pub each : AreViews base b.book.entries (all_batches b)
  pub folds :
      all_followed (version_after (all_batches b)).view b.book.store.changes
      ≡ view_of (state_of_book base b.book)

-- the batch of all that the store has to tell
abbrev pub batch_of : {D : Type 0} → Booked D → Given
batch_of book = record { changes = book.store.changes; number = length book.entries }

-- the reply of an accepted command of a kind that may change the list
abbrev pub ChangesList : Answer → Type 0
ChangesList (answer.Reply (reply.Said done)) = IsTrue (list_any (λ k. k == done.kind) list_kinds)
ChangesList _ = ⊥

-- nothing is published, and what waits waits on
abbrev pub PublishesNothing : {D : Type 0} → OpenBook D → OpenBook D → Type 0
PublishesNothing old new = (new.published ≡ old.published) × (new.waiting ≡ old.waiting)

-- What was to be told went out, behind all that had and all that waited, and is told no more.
-- Without memory nothing went out, the book is as it was, and what was to be told may wait.
abbrev pub Publishes : {D T E : Type 0} → OpenBook D → Result T E → OpenBook D → Type 0
Publishes old result new =
    MatchResult result
    (λ _. (new.published ≡ old.published ++ (old.waiting ++ batch_of old.book ∷ []))
    × (new.waiting ≡ [])
    × (new.book ≡ record old.book { store = record old.book.store { changes = [] } }))
    (λ _. (new.published ≡ old.published) × (new.book ≡ old.book)
    × ((new.waiting ≡ old.waiting) ⊎ (new.waiting ≡ old.waiting ++ batch_of old.book ∷ [])))
