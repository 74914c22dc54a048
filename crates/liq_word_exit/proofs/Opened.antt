-- The disks of a word, as it finds them.
use Rattle.std.proofs.Common.{◌≡◌, ℕ, List, [], Option, Some, None, Result, Ok, Err, refl, sym, ap, ap₂, subst, ◌∙◌}
use Rattle.std.specs.Prelude.{IsSome}
use Rattle.liq_types.specs.State.{State}
use Rattle.liq_outside.specs.At.{DiskAt}
use Rattle.liq_core.specs.Core.{Core, StandsFor}
use Rattle.liq_rule_step.specs.Image.{IsSameState, image}
use Rattle.liq_rule_step.proofs.AlikeReads.{Alike}
use Rattle.liq_journal.specs.declared.damage.Damage.{Damage}
use Rattle.liq_disk_pair.specs.declared.side.Side.{Side}
use Rattle.liq_disk_pair.specs.Kept.{IsKept}
use Rattle.liq_disk_pair.specs.Pair.{StandFor, commands_on, state_on}
use Rattle.liq_disk_pair.proofs.Alike.{kept_alike}
pub use Rattle.liq_disk_pair.proofs.Formed.{state_formed}
use Rattle.liq_disk_pair.proofs.Keeping.{settled_kept}
use Rattle.liq_store.specs.declared.answers.StoreFault.{StoreFault}
use Rattle.liq_store.specs.declared.answers.StoreWhy.TheVariants as why
use Rattle.liq_store.specs.Keeping.{IsInOrder, IsInOrderWith}
use Rattle.liq_store.specs.Opening.{IsNotOpened, OnlyOpens, OpensOn}
use Rattle.liq_store.specs.Stored.{Stored}
use Rattle.liq_store.proofs.Past.{opened_holds}
use Rattle.liq_store.proofs.Recovered.{opens_commands, still_kept}
use Rattle.liq_word_exit.specs.declared.halts.Halt.{Halt}
use Rattle.liq_word_exit.specs.declared.halts.Halt.TheVariants.{NoMemory}
use Rattle.liq_word_exit.specs.Disks.{DisksHold, DisksStay, EndsDamaged}

-- disks that stand for what others stood for
pub still_stand : (l r a b : List ℕ) (s : State) → state_on a b ≡ state_on l r → state_on l r ≡ Ok s → StandFor a b s
still_stand l r a b s stays is = record {
  state = s;
  is = stays ∙ is;
  same = record { image = refl; records = refl };
  formed = state_formed l r s is;
}

-- the state at which a store was opened is that for which the disks stand
pub opened_at : (s start : State) {E : Type 0} (found : Result State E) (core : Core) → found ≡ Ok s → found ≡ Ok start
    → StandsFor core s → StandsFor core start
opened_at s start found core one other stands =
    let same : s ≡ start = cc in
    subst (λ (t : State). StandsFor core t) same stands

-- disks that nobody touched
pub untouched : {D : Type 0} (at : D → DiskAt) (left right : D) (l r : List ℕ) (s : State) → (at left).seen ≡ Some l
    → (at right).seen ≡ Some r → state_on l r ≡ Ok s → DisksStay at (Err NoMemory) l r s left right
untouched at left right l r s told_l told_r is a b told_a told_b =
    let left_is : a ≡ l = cc in
    let right_is : b ≡ r = cc in (
      ap₂ state_on left_is right_is ∙ is,
      ap₂ commands_on left_is right_is,
      λ kept. subst (λ (x : List ℕ). IsKept x b s) (sym left_is)
          (subst (λ (x : List ℕ). IsKept l x s) (sym right_is) kept),
    )

-- disks at which a store was not opened, for want of memory
pub unopened : {D : Type 0} (at : D → DiskAt) (left right : D) (fault : StoreFault D) → IsNotOpened at left right fault
    → (fault.why ≡ why.DiskFault → ⊥)
    → ((l r a b : List ℕ) → (at left).seen ≡ Some l → (at right).seen ≡ Some r → (at fault.left).seen ≡ Some a
    → (at fault.right).seen ≡ Some b → OnlyOpens l r a b)
    → (l r : List ℕ) (s : State) → (at left).seen ≡ Some l → (at right).seen ≡ Some r → state_on l r ≡ Ok s
    → DisksStay at (Err NoMemory) l r s fault.left fault.right
unopened at left right fault h other shuts l r s told_l told_r is a b told_a told_b =
    let stands : state_on a b ≡ Ok s = h.stays other l r a b told_l told_r told_a told_b ∙ is in (
      stands,
      opens_commands l r a b (shuts l r a b told_l told_r told_a told_b),
      λ kept. (still_kept l r a b s stands (h.reads l r a b s told_l told_r kept told_a told_b)).kept,
    )

-- so they are left by a run that read nothing
pub standing_still : {D : Type 0} (at : D → DiskAt) (left right : D) (l r : List ℕ) (told unread : Option (List ℕ))
    (s : State) → unread ≡ told → state_on l r ≡ Ok s → DisksStay at (Err NoMemory) l r s left right
    → DisksHold at (Err NoMemory) told unread l r s left right []
standing_still at left right l r told unread s none is still a b told_a told_b =
    let so = still a b told_a told_b in
    (still_stand l r a b s (so.0 ∙ sym is) is, so.1, λ were. so.2 (were (refl, none)))

-- disks of a store that was opened
pub opened_still : {D : Type 0} (at : D → DiskAt) (left right : D) (store : Stored D) (l r : List ℕ) (s : State)
    → OpensOn at left right store → IsInOrder at store → StandsFor store.core s → (at left).seen ≡ Some l
    → (at right).seen ≡ Some r → state_on l r ≡ Ok s → DisksStay at (Ok tt) l r s store.left store.right
opened_still at left right store l r s opened order stands told_l told_r is a b told_a told_b =
    let now = subst (λ (stopped : Option ℕ). IsInOrderWith at stopped store) opened.going order in (
      opened.stays l r a b told_l told_r told_a told_b
          ∙ is,
      record {
        kept = settled_kept store.side a b s (now.settled a b told_a told_b s stands);
        commands = opened_holds at l r s left right store told_l told_r opened order stands a b told_a told_b;
      },
    )

-- ---- disks that are kept begin again

pub kept_again : (a b : List ℕ) (s t : State) → IsKept a b s → state_on a b ≡ Ok t → IsSameState s t × IsKept a b t
kept_again a b s t kept is =
    let stands = kept.stands in
    let here : stands.state ≡ t = cc (stands.is, is) in
    let alike : Alike s t = record {
      image = sym stands.same.image ∙ ap image here;
      records = sym stands.same.records ∙ ap (λ (u : State). u.records) here;
      left = stands.formed;
      right = state_formed a b t is;
    } in
    (record { image = alike.image; records = alike.records }, kept_alike alike a b kept)

-- a word over damaged disks stops
pub damaged_halts : {D : Type 0} (at : D → DiskAt) (side : Side) (damage : Damage) (end : Result (Unit {0}) Halt)
    (left right : D) → EndsDamaged at side damage end left right → (halt : Halt) × (end ≡ Err halt)
damaged_halts at side damage (Ok done) left right h = absurd h
damaged_halts at side damage (Err halt) left right h = (halt, refl)

-- ---- disks that tell their bytes

pub some_of : {A : Type 0} (o : Option A) → IsSome o → (x : A) × (o ≡ Some x)
some_of None h = absurd cc
some_of (Some x) h = (x, refl)

pub is_some_of : {A : Type 0} (o : Option A) (x : A) → o ≡ Some x → IsSome o
is_some_of None x is = absurd cc
is_some_of (Some y) x is = refl
