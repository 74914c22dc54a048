-- What a crash may have left of a book's disks since its origin, through what a book does.
use Rattle.std.proofs.Common.{◌≡◌, ℕ, List, [], ◌∷◌, ◌++◌, Option, Some, None, sym, refl, ◌∙◌, subst, arith}
use Rattle.std.specs.Option.{option_map}
use Rattle.std.proofs.lemmas.List.{map-append}
use Rattle.liq_outside.specs.At.{DiskAt}
use Rattle.liq_outside.specs.Disk.{LeftNow}
use Rattle.liq_types.specs.declared.entries.Entry.{Entry}
use Rattle.liq_types.specs.declared.events.ListChange.{ListChange}
use Rattle.liq_types.specs.declared.requests.Request.{Request}
use Rattle.liq_types.specs.State.{State}
use Rattle.liq_core.specs.Core.{StandsFor}
use Rattle.liq_rule_step.specs.History.{requests_of}
use Rattle.liq_rule_step.specs.Step.{run}
use Rattle.liq_disk_pair.specs.declared.side.Side.{Side}
use Rattle.liq_disk_pair.specs.declared.side.Side.TheVariants.{Left, Right}
use Rattle.liq_disk_pair.specs.Past.{NoFault}
use Rattle.liq_disk_pair.specs.Sides.{on}
use Rattle.liq_disk_pair.proofs.Keeping.{settled_kept}
use Rattle.liq_store.specs.Keeping.{IsInOrder, IsInOrderWith}
use Rattle.liq_store.specs.Stored.{Stored}
use Rattle.liq_store.proofs.Past.{begins_at}
use Rattle.liq_book.specs.declared.items.Halt.{Halt}
use Rattle.liq_book.specs.Origin.{IsAtOrigin, IsDiskAt}
use Rattle.liq_book.specs.Past.{KeepsPast, LeavesFrom, since_origin}

-- a store where it is
pub at_itself : {D : Type 0} (at : D → DiskAt) (store : Stored D) {s : State}
    → StandsFor store.core s → IsAtOrigin at s (at store.left) (at store.right) store
at_itself at store stands =
    record { state = stands; left = itself (at store.left); right = itself (at store.right) } where
      itself : (now : DiskAt) → IsDiskAt now now
      itself now = record {
        seen = refl;
        faults = refl;
        moment = refl;
        time = record {
          telling = (λ told. told, λ told. told);
          later = omega arith;
          past = λ k image early there. there;
          kept = λ k image early there. there;
        };
      }

-- the requests of entries with one more behind them
pub requests_more : (entries : List Entry) (e : Entry)
    → requests_of (entries ++ e ∷ []) ≡ requests_of entries ++ e.request ∷ []
requests_more entries e =
    map-append (λ (e : Entry). e.request) entries (e ∷ [])

module _ {D : Type 0} (at : D → DiskAt) (left_origin right_origin : DiskAt) where
  abbrev Keeps : State → List Request → Option Halt → Stored D → Type 0
  Keeps base requests halt store = KeepsPast at left_origin right_origin base requests halt store

  -- behind a halt and before it
  pub past_left : (base : State) (requests : List Request) (halt : Option Halt) (store : Stored D)
      → IsInOrder at store → store.stopped ≡ option_map (λ h. h.faults) halt → Keeps base requests halt store
      → LeavesFrom at left_origin right_origin base requests halt store.left store.right
  past_left base requests None store order going past = λ l r told_left told_right.
      let P : Option ℕ → Type 0 = λ o. IsInOrderWith at o store in
      let rests = subst P going order in
      let here = past l r told_left told_right in (
        NoFault,
        refl,
        here.leaves,
        (rests.left, rests.right),
        λ a b told_a told_b. record {
          kept = settled_kept store.side a b (run base requests).0 (rests.settled a b told_a told_b
              (run base requests).0 here.stands);
          commands = here.holds a b told_a told_b;
        },
      )
  past_left base requests (Some halt) store order stopped past = past

  -- what the store has to tell of its list has no part in it
  pub forgets_past :
      (base : State) (requests : List Request) (halt : Option Halt) (store : Stored D)
      (changes : List ListChange)
      → Keeps base requests halt store → Keeps base requests halt (record store { changes = changes })
  forgets_past base requests None store changes past = λ l r told_left told_right. let earlier =
      past l r told_left told_right in record {
        kept = earlier.kept;
        going = earlier.going;
        stands = earlier.stands;
        left_tells = earlier.left_tells;
        right_tells = earlier.right_tells;
        later = earlier.later;
        leaves = earlier.leaves;
        holds = earlier.holds;
        aside = earlier.aside;
      }
  forgets_past base requests (Some halt) store changes past = past

  module _ (may_stay : (disk : D) (held : List ℕ) → (at disk).seen ≡ Some held → LeftNow at disk held) where
    -- it begins at the origin
    pub begins_past : (base : State) (store : Stored D)
        → store.stopped ≡ None → IsAtOrigin at base left_origin right_origin store → IsInOrder at store
        → Keeps base [] None store
    begins_past base store going origin order l r told_left told_right =
        begins_at at may_stay l r base store (origin.left.seen ∙ told_left) (origin.right.seen ∙ told_right) going order
        origin.state (since_origin left_origin right_origin) same where
          same : (side : Side)
              → since_origin left_origin right_origin side ≡ (at (on side store.left store.right)).moment
          same Left = sym origin.left.moment
          same Right = sym origin.right.moment
