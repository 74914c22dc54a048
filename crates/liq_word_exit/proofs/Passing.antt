-- What a crash at some moment may have left of the disks of a word.
use Rattle.std.proofs.Common.{◌≡◌, ◌≢◌, ℕ, ◌≤◌, List, [], Option, Some, None, false, Ok, Err, Result, refl, sym, ap, subst, ◌∙◌, arith, inl, inr}
use Rattle.std.specs.Prelude.{IfSome}
use Rattle.liq_outside.specs.At.{DiskAt}
use Rattle.liq_outside.specs.Disk.{GoesOn, LeavesOnly, LeftNow, LeftSince, Looked, Only}
use Rattle.liq_outside.proofs.Moments.{law}
use Rattle.liq_types.specs.State.{State}
use Rattle.liq_journal.specs.Opened.{OpenLeaves}
use Rattle.liq_journal.specs.Written.{found_on}
use Rattle.liq_disk_pair.specs.declared.side.Side.{Side}
use Rattle.liq_disk_pair.specs.declared.side.Side.TheVariants.{Left, Right}
use Rattle.liq_disk_pair.specs.Kept.{IsKept, IsKeptWith}
use Rattle.liq_disk_pair.specs.Pair.{commands_on, state_on}
use Rattle.liq_disk_pair.specs.Past.{Fault, InOpening, IsOfRun, LeavesPast, NoFault}
use Rattle.liq_disk_pair.specs.Sides.{has_odd, on}
use Rattle.liq_disk_pair.specs.Unfinished.{IsRecovered, LeftLeaves}
use Rattle.liq_store.specs.declared.answers.StoreWhy.{StoreWhy}
use Rattle.liq_store.specs.declared.answers.StoreWhy.TheVariants as why
use Rattle.liq_store.specs.Keeping.{IsAtRest, LeavesPairs}
use Rattle.liq_store.specs.Leaving.{LeavesBoth}
use Rattle.liq_store.specs.Opening.{IsNotOpened}
use Rattle.liq_store.proofs.Past.{opening_leaves}
use Rattle.liq_word_exit.specs.declared.halts.Halt.{Halt}
use Rattle.liq_word_exit.specs.declared.halts.Halt.TheVariants.{BadLine, ReadFault, WriteFault, DiskFault, Damaged, DamagedInput, NoMemory, Limit, Rotated}
use Rattle.liq_word_exit.specs.Disks.{IsFaultOfTelling, LeavesOfRun}
use Rattle.liq_word_exit.specs.Unopened.{halt_of}

if_some : {A : Type 0} (o : Option A) (P Q : A → Type 0) → ((x : A) → P x → Q x) → IfSome o P → IfSome o Q
if_some None P Q gives h = tt
if_some (Some x) P Q gives h = gives x h

module _ {D : Type 0} (at : D → DiskAt)
    (stays : (disk : D) (held : List ℕ) → (at disk).seen ≡ Some held → LeftNow at disk held) where
  -- ---- disks that nobody touched

  since_now : (disk : D) (held image : List ℕ) → Only held (LeftNow at disk) → LeftSince at disk (at disk).moment image
      → image ≡ held
  since_now disk held image only left =
      only image (subst (λ (k : ℕ). (at disk).left_at k image) (omega (arith, left.1, left.2)) left.3)

  rests : (disk : D) (held : List ℕ) → (at disk).seen ≡ Some held → Only held (LeftNow at disk) → IsAtRest at disk
  rests disk held told only =
      subst (λ (o : Option (List ℕ)). IfSome o (λ bytes. Only bytes (LeftNow at disk))) (sym told) only

  one_of_both : (side : Side) (left right : D) (l r image : List ℕ) → Only l (LeftNow at left)
      → Only r (LeftNow at right) → LeftSince at (on side left right) (at (on side left right)).moment image
      → image ≡ on side l r
  one_of_both Left left right l r image only_l only_r was = since_now left l image only_l was
  one_of_both Right left right l r image only_l only_r was = since_now right r image only_r was

  pub untouched_past : (left right : D) (l r : List ℕ) (start : State) (P : Fault → Type 0) → P NoFault
      → (at left).seen ≡ Some l → (at right).seen ≡ Some r
      → LeavesOfRun at left right P l r start [] left right
  untouched_past left right l r start P is told_l told_r only_l only_r kept =
      record {
        fault = NoFault;
        fault_is = is;
        images = record {
          images = λ side image was. inr (inl (inl (one_of_both side left right l r image only_l only_r was)));
          whole = λ side first few image was absent.
              let found = ap (found_on (has_odd side)) (one_of_both side left right l r image only_l only_r was)
              ∙ first.found in
              absurd (cc (sym absent ∙ found));
        };
        rests = (rests left l told_l only_l, rests right r told_r only_r);
      }

  -- ---- no store was opened

  -- what a crash may leave now is what it may leave since an earlier moment
  now_since : (old now : D) (image : List ℕ) → GoesOn at old now → LeftNow at now image
      → LeftSince at now (at old).moment image
  now_since old now image time left = ((at now).moment, time.later, omega arith, left)

  pub unopened_past : (why_is : StoreWhy) (fl fr left right : D)
      → IsNotOpened at left right (record { left = fl; right = fr; why = why_is })
      → GoesOn at left fl → GoesOn at right fr
      → (why_is ≢ why.DiskFault → IsAtRest at fl × IsAtRest at fr)
      → ((l r : List ℕ) (s : State) → (at left).seen ≡ Some l → (at right).seen ≡ Some r → Only l (LeftNow at left)
      → Only r (LeftNow at right) → IsKept l r s
      → LeavesPairs at left right fl fr (IsRecovered l r s))
      → ((l r : List ℕ) → (at left).seen ≡ Some l → (at right).seen ≡ Some r → Only l (LeftNow at left)
      → LeavesOnly at left fl (LeftLeaves l r))
      → ((r : List ℕ) → (at right).seen ≡ Some r → Only r (LeftNow at right)
      → LeavesOnly at right fr (OpenLeaves false r))
      → (l r : List ℕ) (start : State) → (at left).seen ≡ Some l → (at right).seen ≡ Some r → state_on l r ≡ Ok start
      → LeavesOfRun at left right (IsFaultOfTelling (Err (halt_of why_is))) l r start [] fl fr
  unopened_past why.DiskFault fl fr left right h left_time right_time rest recovers left_leaves right_leaves l r start
      told_l told_r is only_l only_r kept =
      record {
        fault = InOpening;
        fault_is = refl;
        images = opening_leaves at stays l r start left right fl fr kept (left_leaves l r told_l told_r only_l)
            (right_leaves r told_r only_r) InOpening;
        rests = λ a b at_a at_b. (
          refl,
          recovers l r start told_l told_r only_l only_r kept a b (now_since left fl a left_time at_a)
              (now_since right fr b right_time at_b),
        );
      }
  unopened_past (why.Damaged side damage) fl fr left right h left_time right_time rest recovers left_leaves right_leaves
      l r start told_l told_r is only_l only_r kept =
      absurd (cc (h.is_why l r told_l told_r, is))
  unopened_past why.NoMemory fl fr left right h left_time right_time rest recovers left_leaves right_leaves l r start
      told_l told_r is only_l only_r kept =
      record {
        fault = NoFault;
        fault_is = refl;
        images = opening_leaves at stays l r start left right fl fr kept (left_leaves l r told_l told_r only_l)
            (right_leaves r told_r only_r) NoFault;
        rests = rest (λ e. cc);
      }

  -- ---- disks that were only looked at

  looked_on_side : (side : Side) (ol or nl nr : D) → Looked at ol nl → Looked at or nr
      → Looked at (on side ol or) (on side nl nr)
  looked_on_side Left ol or nl nr left right = left
  looked_on_side Right ol or nl nr left right = right

  before_look : (old new : D) (since : ℕ) (image : List ℕ) → since ≤ (at old).moment → Looked at old new
      → LeftSince at new since image → LeftSince at old since image
  before_look old new since image le looked left = elim (law at old new looked.leaves.goes_on since image le left) [
    | inl was ↦ was
    | inr now ↦ ((at old).moment, le, omega arith, looked.leaves.each image now)
  ]

  rests_looked : (old new : D) → Looked at old new → IsAtRest at old → IsAtRest at new
  rests_looked old new looked at_rest =
      subst (λ (o : Option (List ℕ)). IfSome o (λ bytes. Only bytes (LeftNow at new))) (sym looked.same)
      (if_some (at old).seen (λ bytes. Only bytes (LeftNow at old)) (λ bytes. Only bytes (LeftNow at new))
      (λ bytes only image left. only image (looked.within image left)) at_rest)

  -- each image is one of those of a run that read nothing, and met no fault or one that is told as the opening's
  images_looked : (since : Side → ℕ) (l r : List ℕ) (start : State) (fault : Fault) (ol or nl nr : D)
      → ((side : Side) (image : List ℕ) → IsOfRun side l r start [] NoFault image
      → IsOfRun side l r start [] fault image)
      → ((side : Side) → since side ≤ (at (on side ol or)).moment) → Looked at ol nl → Looked at or nr
      → LeavesPast at since l r start [] NoFault ol or
      → LeavesPast at since l r start [] fault nl nr
  images_looked since l r start fault ol or nl nr gives later left right past =
      record {
        images = λ side image was. gives side image
            (past.images side image
            (before_look (on side ol or) (on side nl nr) (since side) image (later side)
            (looked_on_side side ol or nl nr left right) was));
        whole = λ side first few image was absent. past.whole side first (omega arith) image
            (before_look (on side ol or) (on side nl nr) (since side) image (later side)
            (looked_on_side side ol or nl nr left right) was) absent;
      }

  module _ (since_left since_right : D) where
    abbrev since : Side → ℕ
    since = λ side. (at (on side since_left since_right)).moment

    calm_looked : (l r : List ℕ) (start : State) (P : Fault → Type 0) → P NoFault → (ol or nl nr : D)
        → ((side : Side) → since side ≤ (at (on side ol or)).moment) → Looked at ol nl → Looked at or nr
        → IsAtRest at ol → IsAtRest at or → LeavesPast at since l r start [] NoFault ol or
        → LeavesBoth at since_left since_right P l r start [] nl nr
    calm_looked l r start P is ol or nl nr later left right rest_l rest_r past =
        record {
          fault = NoFault;
          fault_is = is;
          images = images_looked since l r start NoFault ol or nl nr (λ side image h. h) later left right past;
          rests = (rests_looked ol nl left rest_l, rests_looked or nr right rest_r);
        }

    -- a word that only looks at disks that were opened, by its end
    pub looked_past : (end : Result (Unit {0}) Halt) (l r : List ℕ) (start : State) (ol or nl nr : D)
        → ((side : Side) → since side ≤ (at (on side ol or)).moment) → Looked at ol nl → Looked at or nr
        → IsAtRest at ol → IsAtRest at or → LeavesPast at since l r start [] NoFault ol or
        → ((a b : List ℕ) → LeftNow at ol a → LeftNow at or b → IsKeptWith a b start (commands_on l r))
        → LeavesBoth at since_left since_right (IsFaultOfTelling end) l r start [] nl nr
    looked_past (Err DiskFault) l r start ol or nl nr later left right rest_l rest_r past kept =
        record {
          fault = InOpening;
          fault_is = refl;
          images = images_looked since l r start InOpening ol or nl nr (λ side image h. h) later left right past;
          rests = λ a b at_a at_b. (refl, inl (kept a b (left.within a at_a) (right.within b at_b)));
        }
    looked_past (Ok done) l r start ol or nl nr later left right rest_l rest_r past kept =
        calm_looked l r start _ refl ol or nl nr later left right rest_l rest_r past
    looked_past (Err (BadLine n)) l r start ol or nl nr later left right rest_l rest_r past kept =
        calm_looked l r start _ refl ol or nl nr later left right rest_l rest_r past
    looked_past (Err ReadFault) l r start ol or nl nr later left right rest_l rest_r past kept =
        calm_looked l r start _ refl ol or nl nr later left right rest_l rest_r past
    looked_past (Err WriteFault) l r start ol or nl nr later left right rest_l rest_r past kept =
        calm_looked l r start _ refl ol or nl nr later left right rest_l rest_r past
    looked_past (Err (Damaged side number)) l r start ol or nl nr later left right rest_l rest_r past kept =
        calm_looked l r start _ refl ol or nl nr later left right rest_l rest_r past
    looked_past (Err NoMemory) l r start ol or nl nr later left right rest_l rest_r past kept =
        calm_looked l r start _ refl ol or nl nr later left right rest_l rest_r past
    looked_past (Err (Limit number)) l r start ol or nl nr later left right rest_l rest_r past kept =
        calm_looked l r start _ refl ol or nl nr later left right rest_l rest_r past
    looked_past (Err (Rotated generation)) l r start ol or nl nr later left right rest_l rest_r past kept =
        calm_looked l r start _ refl ol or nl nr later left right rest_l rest_r past
    looked_past (Err (DamagedInput number)) l r start ol or nl nr later left right rest_l rest_r past kept =
        calm_looked l r start _ refl ol or nl nr later left right rest_l rest_r past
