-- What is told of the commands on two disks, which are only looked at.
use Rattle.std.proofs.Common.{◌≡◌, ◌≢◌, ℕ, List, Option, Some, None, Result, Ok, Err, inl, inr, refl, sym, subst, ap, ◌∙◌}
use Rattle.std.specs.Prelude.{◌⊎◌, ◌↔◌, IsSome}
use Rattle.liq_types.specs.declared.requests.Command.{Command}
use Rattle.liq_types.specs.State.{State, opening_with}
use Rattle.liq_outside.specs.At.{DiskAt}
use Rattle.liq_rule_step.specs.Events.{events}
use Rattle.liq_disk_pair.specs.declared.side.Side.{Side}
use Rattle.liq_disk_pair.specs.declared.side.Side.TheVariants.{Left, Right}
use Rattle.liq_disk_pair.specs.Replay.{replay}
use Rattle.liq_disk_pair.specs.Sides.{on}
use Rattle.liq_text_audit.specs.declared.fault.ReviewFault.{ReviewFault}
use Rattle.liq_text_audit.specs.declared.fault.ReviewFault.TheVariants as review
use Rattle.liq_text_audit.specs.Engine.{rows_of}
use Rattle.liq_text_audit.specs.Limits.{number_above}
use Rattle.liq_text_audit.specs.Reviewed.{review_of, reviewed, unless_above}
use Rattle.liq_text_audit.specs.Shown.{shown}
use Rattle.liq_word_exit.specs.declared.halts.Halt.{Halt}
use Rattle.liq_word_exit.specs.declared.halts.Halt.TheVariants.{DiskFault, ReadFault}
use Rattle.liq_word_state.specs.Reviewing.{halt_on}
use Rattle.liq_word_exit.specs.Causes.{WriteCause}
use Rattle.liq_word_exit.specs.Disks.{DisksStay}
use Rattle.liq_word_state.specs.Writing.{AuditHolds, WritesText}
use Rattle.liq_word_exit.proofs.Opened.{is_some_of, some_of}

-- ---- the review of commands that lead to a state

module _ (limit : ℕ) (commands : List Command) where
  reviewed_after : (s : State) → replay 1 (opening_with limit) commands ≡ Ok s
      → reviewed limit commands ≡ unless_above (number_above (events (opening_with limit) commands))
      (shown (rows_of s (events (opening_with limit) commands)))
  reviewed_after s is = ap (review_of (events (opening_with limit) commands)) is

  unrefused : (above : Option ℕ) (text : List ℕ) (index code : ℕ)
      → unless_above above text ≡ Err (review.Refused index code) → ⊥
  unrefused None text index code is = absurd cc
  unrefused (Some number) text index code is = absurd cc

  -- none of them is refused
  not_refused : (s : State) (index code : ℕ) → replay 1 (opening_with limit) commands ≡ Ok s
      → reviewed limit commands ≡ Err (review.Refused index code) → ⊥
  not_refused s index code is refused = unrefused _ _ index code (sym (reviewed_after s is) ∙ refused)

  within : (above : Option ℕ) (text : List ℕ) (number : ℕ) → above ≡ None
      → unless_above above text ≡ Err (review.Limit number) → ⊥
  within None text number none is = absurd cc
  within (Some n) text number none is = absurd cc

  -- where no limit is passed, none is told
  pub no_limit : (s : State) (number : ℕ) → replay 1 (opening_with limit) commands ≡ Ok s
      → number_above (events (opening_with limit) commands) ≡ None → reviewed limit commands
      ≡ Err (review.Limit number) → ⊥
  no_limit s number is none passed = within _ _ number none (sym (reviewed_after s is) ∙ passed)

  -- why there is no review of them
  pub not_reviewed : (s : State) (side : Side) (why : ReviewFault) (held : Option (List ℕ))
      → replay 1 (opening_with limit) commands ≡ Ok s → (why ≡ review.NoMemory) ⊎ (reviewed limit commands ≡ Err why)
      → WritesText (reviewed limit commands) (Err (halt_on side why)) held held
  not_reviewed s side (review.Refused index code) held is (inl none) = absurd cc
  not_reviewed s side (review.Refused index code) held is (inr so) = absurd (not_refused s index code is so)
  not_reviewed s side (review.Limit number) held is (inl none) = absurd cc
  not_reviewed s side (review.Limit number) held is (inr so) = (so, refl)
  not_reviewed s side review.NoMemory held is so = refl

-- neither a disk nor a stream met a fault
pub no_fault : (side : Side) (why : ReviewFault) → (halt_on side why ≢ DiskFault) × (halt_on side why ≢ ReadFault)
no_fault side (review.Refused index code) = ((λ e. cc), (λ e. cc))
no_fault side (review.Limit number) = ((λ e. cc), (λ e. cc))
no_fault side review.NoMemory = ((λ e. cc), (λ e. cc))

pub no_cause : (side : Side) (why : ReviewFault) (count : ℕ)
    → (let end : Result (Unit {0}) Halt = Err (halt_on side why) in WriteCause end count count)
no_cause side (review.Refused index code) count = refl
no_cause side (review.Limit number) count = refl
no_cause side review.NoMemory count = refl

pub audit_holds : (end : Result (Unit {0}) Halt) (s : State) (commands : List Command) → AuditHolds (Ok tt) s commands
    → AuditHolds end s commands
audit_holds (Ok done) s commands h = h
audit_holds (Err halt) s commands h = tt

-- ---- the disks

module _ {D : Type 0} (at : D → DiskAt) where
  pub stand_too : (l r : List ℕ) (start : State) (ol or nl nr : D) → (at nl).seen ≡ (at ol).seen
      → (at nr).seen ≡ (at or).seen → DisksStay at (Ok tt) l r start ol or → DisksStay at (Ok tt) l r start nl nr
  stand_too l r start ol or nl nr left right stand a b told_a told_b = stand a b (sym left ∙ told_a) (sym right
      ∙ told_b)

  on_tells : (side : Side) (l r : D) → IsSome (at l).seen → IsSome (at r).seen → IsSome (at (on side l r)).seen
  on_tells Left l r left right = left
  on_tells Right l r left right = right

  -- one that was only looked at tells them where it did before
  pub tells_still : (old mid new : D) → (IsSome (at mid).seen ↔ IsSome (at old).seen) → (at new).seen ≡ (at mid).seen
      → (IsSome (at new).seen ↔ IsSome (at old).seen)
  tells_still old mid new telling same =
      subst (λ (o : Option (List ℕ)). IsSome o ↔ IsSome (at old).seen) (sym same) telling

  -- the one that is taken tells its bytes where both did before
  pub taken_tells : (side : Side) (ol or nl nr : D) → (IsSome (at nl).seen ↔ IsSome (at ol).seen)
      → (IsSome (at nr).seen ↔ IsSome (at or).seen) → (l r : List ℕ) → (at ol).seen ≡ Some l → (at or).seen ≡ Some r
      → (now : List ℕ) × ((at (on side nl nr)).seen ≡ Some now)
  taken_tells side ol or nl nr left right l r told_l told_r =
      some_of (at (on side nl nr)).seen
      (on_tells side nl nr (left.1 (is_some_of (at ol).seen l told_l)) (right.1 (is_some_of (at or).seen r told_r)))
