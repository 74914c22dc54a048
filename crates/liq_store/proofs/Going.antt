-- A store by its side: the disk that is taken, and the one beside it.
use Rattle.std.proofs.Common.{◌≡◌, ℕ, List, Option, Some, None, IfSome, refl, sym, ◌∙◌, ap, subst, arith}
use Rattle.liq_outside.specs.At.{DiskAt}
use Rattle.liq_outside.specs.Disk.{LeftNow, LeftSince, Only}
use Rattle.liq_types.specs.declared.events.ListChange.{ListChange}
use Rattle.liq_types.specs.declared.image.Image.{Image}
use Rattle.liq_types.specs.State.{State}
use Rattle.liq_core.specs.Core.{Core, SameContent, StandsFor}
use Rattle.liq_journal.specs.Settled.{JournalOn}
use Rattle.liq_disk_pair.specs.declared.side.Side.{Side}
use Rattle.liq_disk_pair.specs.declared.side.Side.TheVariants.{Left, Right}
use Rattle.liq_disk_pair.specs.Kept.{IsSettledFor}
use Rattle.liq_disk_pair.specs.Pair.{StandFor}
use Rattle.liq_disk_pair.specs.Sides.{beside, on}
use Rattle.liq_store.specs.Keeping.{IsAtRest, IsGoing, IsInOrder, IsInOrderWith, IsKeptNear}
use Rattle.liq_store.specs.Stored.{Stored}
use Rattle.liq_store.specs.Within.{IsWithin, stored}
use Rattle.liq_core.proofs.SameContents.{stands_before}

pub taken_is : {D : Type 0} (side : Side) (t b : D) → on side (on side t b) (on side b t) ≡ t
taken_is Left t b = refl
taken_is Right t b = refl

pub beside_is : {D : Type 0} (side : Side) (t b : D) → beside side (on side t b) (on side b t) ≡ b
beside_is Left t b = refl
beside_is Right t b = refl

pub told_by : {D : Type 0} (at : D → DiskAt) (side : Side) (t b : D) (P : List ℕ → List ℕ → Type 0)
    → ((held other : List ℕ) → (at t).seen ≡ Some held → (at b).seen ≡ Some other
    → P (on side held other) (on side other held)) → (l r : List ℕ) → (at (on side t b)).seen ≡ Some l
    → (at (on side b t)).seen ≡ Some r → P l r
told_by at Left t b P h l r tl tr = h l r tl tr
told_by at Right t b P h l r tl tr = h r l tr tl

module _ {D : Type 0} (at : D → DiskAt) where
  -- ---- what is told of another protocol of the same content

  pub order_same : (before now : List ListChange) (side : Side) (taken : JournalOn D) (b : D) (old new : Core)
      (stopped : Option ℕ) → SameContent old new → IsInOrder at (stored side taken b old stopped before)
      → IsInOrder at (stored side taken b new stopped now)
  order_same before now side taken b old new None same order = record {
    left = order.left;
    right = order.right;
    settled = λ l r tl tr s stands. order.settled l r tl tr s (stands_before old new s same stands);
  }
  order_same before now side taken b old new (Some sum) same order = record {
    read = λ l r tl tr s stands. order.read l r tl tr s (stands_before old new s same stands);
    left_so = λ l r x y tl tr lx ly s stands. order.left_so l r x y tl tr lx ly s (stands_before old new s same stands);
  }

  pub within_same : {before now : List ListChange} (side : Side) (taken : JournalOn D) (b : D) (old new : Core)
      (stopped : Option ℕ) → SameContent old new → IsWithin at side taken b old stopped before
      → IsWithin at side taken b new stopped now
  within_same {before} {now} side taken b old new stopped same within = record {
    order = order_same before now side taken b old new stopped same within.order;
    generation_is = within.generation_is ∙ sym (ap (λ (i : Image). i.generation) same.image);
    parity_is = within.parity_is;
    count_is = within.count_is ∙ sym same.records;
    told = within.told;
    settled = within.settled;
  }

  -- ---- what a crash leaves of a disk at rest

  pub rest_only : (disk : D) (held : List ℕ) → (at disk).seen ≡ Some held → IsAtRest at disk → (image : List ℕ)
      → LeftSince at disk (at disk).moment image → image ≡ held
  rest_only disk held told rests image left =
      let only : Only held (LeftNow at disk) = subst (λ (o : Option (List ℕ)). IfSome o (λ l. Only l (LeftNow at disk)))
      told rests in
      let here : left.0 ≡ (at disk).moment = omega (arith, left.1, left.2) in
      only image (subst (λ (k : ℕ). (at disk).left_at k image) here left.3)

  pub rest_now : (disk : D) (held : List ℕ) → (at disk).seen ≡ Some held → IsAtRest at disk → (image : List ℕ)
      → LeftNow at disk image → image ≡ held
  rest_now disk held told rests image left =
      let only : Only held (LeftNow at disk) = subst (λ (o : Option (List ℕ)). IfSome o (λ l. Only l (LeftNow at disk)))
      told rests in
      only image left

  pub going_of : (store : Stored D) → store.stopped ≡ None → IsInOrder at store → IsGoing at store
  going_of store none order = subst (λ (o : Option ℕ). IsInOrderWith at o store) none order

  -- the disks of a store that goes on stand for its state
  pub closed_stands : (store old : Stored D) → store ≡ old → (left right : D) → left ≡ store.left → right ≡ store.right
      → IsInOrder at store → old.stopped ≡ None
      → (l r : List ℕ) (s : State) → (at left).seen ≡ Some l → (at right).seen ≡ Some r → StandsFor old.core s
      → StandFor l r s
  closed_stands store old same left right same_left same_right order none l r s tl tr stands =
      let going = going_of store (ap (λ (o : Stored D). o.stopped) same ∙ none) order in
      let here : StandsFor store.core s = subst (λ (o : Stored D). StandsFor o.core s) (sym same) stands in
      (going.settled l r (ap (λ (d : D). (at d).seen) (sym same_left)
      ∙ tl) (ap (λ (d : D). (at d).seen) (sym same_right) ∙ tr) s here).stands

  -- ---- by the side

  pub record Going (side : Side) (t b : D) (core : Core) : Type 0 where
    pub taken_rests : IsAtRest at t
    pub beside_rests : IsAtRest at b
    pub settled : (held other : List ℕ) → (at t).seen ≡ Some held → (at b).seen ≡ Some other → (s : State)
        → StandsFor core s → IsSettledFor side (on side held other) (on side other held) s

  pub going_by : (changes : List ListChange) (side : Side) (taken : JournalOn D) (b : D) (core : Core)
      (stopped : Option ℕ) → stopped ≡ None → IsInOrder at (stored side taken b core stopped changes)
      → Going side taken.disk b core
  going_by changes Left taken b core stopped none order =
      let is = going_of (stored Left taken b core stopped changes) none order in
      record { taken_rests = is.left; beside_rests = is.right; settled = is.settled }
  going_by changes Right taken b core stopped none order =
      let is = going_of (stored Right taken b core stopped changes) none order in
      record {
        taken_rests = is.right;
        beside_rests = is.left;
        settled = λ held other th to s stands.
            is.settled other held to th s stands;
      }

  pub order_going : {changes : List ListChange} (side : Side) (taken : JournalOn D) (b : D) (core : Core)
      → Going side taken.disk b core → IsInOrder at (stored side taken b core None changes)
  order_going Left taken b core going = record {
    left = going.taken_rests;
    right = going.beside_rests;
    settled = going.settled;
  }
  order_going Right taken b core going = record {
    left = going.beside_rests;
    right = going.taken_rests;
    settled = λ l r tl tr s stands. going.settled r l tr tl s stands;
  }

  -- what a crash now may leave of both, and so what they tell
  pub order_halted : {changes : List ListChange} (side : Side) (taken : JournalOn D) (b : D) (core : Core) (sum : ℕ)
      → ((disk : D) (held : List ℕ) → (at disk).seen ≡ Some held → LeftNow at disk held)
      → ((held other x y : List ℕ) → (at taken.disk).seen ≡ Some held → (at b).seen ≡ Some other
      → LeftNow at taken.disk x → LeftNow at b y → (s : State) → StandsFor core s
      → IsKeptNear s (on side x y) (on side y x))
      → IsInOrder at (stored side taken b core (Some sum) changes)
  order_halted Left taken b core sum stays near = record {
    read = λ l r tl tr s stands. near l r l r tl tr (stays taken.disk l tl) (stays b r tr) s stands;
    left_so = λ l r x y tl tr lx ly s stands. near l r x y tl tr lx ly s stands;
  }
  order_halted Right taken b core sum stays near = record {
    read = λ l r tl tr s stands. near r l r l tr tl (stays taken.disk r tr) (stays b l tl) s stands;
    left_so = λ l r x y tl tr lx ly s stands. near r l y x tr tl ly lx s stands;
  }
