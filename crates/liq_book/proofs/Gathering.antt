-- What a seat that was joined out of others has seen begins with what each of them had seen.
use Rattle.std.proofs.Common.{ℕ, zero, suc, ◌≡◌, List, [], ◌∷◌, ◌++◌, Some, arith}
use Rattle.std.specs.Prelude.{All, Contains}
use Rattle.std.proofs.lemmas.List.Elements.{All-append, All-pop}
use Rattle.liq_lock.specs.History.{Behind}
use Rattle.liq_lock.proofs.Histories.{behind_on}
use Rattle.liq_book.specs.declared.items.Item.{Item}
use Rattle.liq_book.specs.Items.{session_of}

-- by way of what a seat had seen that stands for these numbers and more
pub behind_through : (last middle first : List Item) (wide numbers : List ℕ) → ((n : ℕ) → Contains numbers n
    → Contains wide n)
    → Behind session_of last wide middle → Behind session_of middle numbers first → Behind session_of last numbers first
behind_through last middle first wide numbers more far near =
    rw far.1 (behind_on session_of middle first far.0 numbers near (λ i c n. far.2 i c (more (session_of i) n)))

all_one : {X : Type 0} (P : X → Type 0) (x : X) → P x → All P (x ∷ [])
all_one P x here zero d within = here
all_one P x here (suc k) d within = absurd (omega arith)

-- all of a list, by its last one and those before it
pub all_with : {X : Type 0} (P : X → Type 0) (all front : List X) (x : X) → all ≡ front ++ x ∷ [] → All P front → P x
    → All P all
all_with P all front x is before here = rw is (All-append P front (x ∷ []) before (all_one P x here))

-- the last one, and those before it
pub all_without : {X : Type 0} (P : X → Type 0) (all front : List X) (x : X) → all ≡ front ++ x ∷ [] → All P all
    → All P front × P x
all_without P all front x is every = All-pop P all front (Some x) is every
