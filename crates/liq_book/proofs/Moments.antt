-- Moments between the calls of a book, as it goes on.
use Rattle.std.proofs.Common.{◌≡◌, ℕ, ◌≤◌, List, [], ◌∷◌, ◌++◌, sym, refl, ap, ap₂, subst, arith}
use Rattle.liq_types.specs.declared.requests.Command.{Command}
use Rattle.liq_types.specs.declared.requests.Request.{Request}
use Rattle.liq_types.specs.State.{State}
use Rattle.liq_outside.specs.At.{DiskAt}
use Rattle.liq_outside.specs.Disk.{GoesOn}
use Rattle.liq_rule_step.specs.Step.{accepted, newly_accepted, run, step}
use Rattle.liq_disk_pair.specs.Commands.{kept_behind}
use Rattle.liq_disk_pair.proofs.Behind.{behind_more}
use Rattle.liq_store.specs.Keeping.{IsKeptAround, LeavesPairs}
use Rattle.liq_store.specs.Stored.{Stored}
use Rattle.liq_book.specs.Moments.{AreKeptAlong, KeepsBetween, LeavesWithin}
use Rattle.liq_book.specs.Origin.{IsAtOrigin}

module _ {D : Type 0} (at : D → DiskAt) where
  -- none is behind now
  along_by : (left right : D) (s : State) (held : List Command) (requests : List Request) (first : ℕ × ℕ)
      (later : List (ℕ × ℕ)) → AreKeptAlong at left right s held requests first later
      → (first.0 ≤ (at left).moment) × (first.1 ≤ (at right).moment)
  along_by left right s held [] first [] is = (
    omega (arith, ap (λ (p : ℕ × ℕ). p.0) is),
    omega (arith, ap (λ (p : ℕ × ℕ). p.1) is),
  )
  along_by left right s held [] first (next ∷ later) is = absurd is
  along_by left right s held (request ∷ requests) first [] is = absurd is
  along_by left right s held (request ∷ requests) first (next ∷ later) is =
      let others = along_by left right (step s request).0 (kept_behind held (newly_accepted s request)) requests next
      later is.1 in
      (omega (arith, is.0.left_time, others.0), omega (arith, is.0.right_time, others.1))

  -- before the first
  pub begins_between : (left_origin right_origin : DiskAt) (base : State) (store : Stored D)
      → IsAtOrigin at base left_origin right_origin store
      → KeepsBetween at left_origin right_origin base [] store.left store.right
  begins_between left_origin right_origin base store origin l r told_left told_right =
      ([], ap₂ (λ (m n : ℕ). (m, n)) (sym origin.left.moment) (sym origin.right.moment))

  -- an opening, of disks that were used since
  pub within_opening : (ol or ml mr nl nr : D) (P : List ℕ → List ℕ → Type 0)
      → GoesOn at ol ml → GoesOn at or mr → GoesOn at ml nl → GoesOn at mr nr → LeavesPairs at ol or ml mr P
      → LeavesWithin at nl nr P ((at ol).moment, (at or).moment) ((at ml).moment, (at mr).moment)
  within_opening ol or ml mr nl nr P left_opens right_opens left_time right_time leaves = record {
    left_time = left_opens.later;
    right_time = right_opens.later;
    leaves = λ a b at_a at_b. leaves a b
        (at_a.0, at_a.1, at_a.2, left_time.past at_a.0 a at_a.2 at_a.3)
        (at_b.0, at_b.1, at_b.2, right_time.past at_b.0 b at_b.2 at_b.3);
  }

  module _ (ol or nl nr : D) (left_time : GoesOn at ol nl) (right_time : GoesOn at or nr) where
    within_past : (P : List ℕ → List ℕ → Type 0) (p q : ℕ × ℕ) → q.0 ≤ (at ol).moment → q.1 ≤ (at or).moment
        → LeavesWithin at ol or P p q → LeavesWithin at nl nr P p q
    within_past P p q left_by right_by within = record {
      left_time = within.left_time;
      right_time = within.right_time;
      leaves = λ a b at_a at_b. within.leaves a b
          (at_a.0, at_a.1, at_a.2, left_time.past at_a.0 a (omega (arith, at_a.2, left_by)) at_a.3)
          (at_b.0, at_b.1, at_b.2, right_time.past at_b.0 b (omega (arith, at_b.2, right_by)) at_b.3);
    }

    -- a request more
    pub along_more : (s : State) (held : List Command) (requests : List Request) (request : Request) (first : ℕ × ℕ)
        (later : List (ℕ × ℕ)) → AreKeptAlong at ol or s held requests first later
        → LeavesPairs at ol or nl nr
        (IsKeptAround (run s requests).0 (kept_behind held (accepted s requests)) request)
        → AreKeptAlong at nl nr s held (requests ++ request ∷ []) first
        (later ++ ((at nl).moment, (at nr).moment) ∷ [])
    along_more s held [] request first [] is leaves =
        let left_is : first.0 ≡ (at ol).moment = ap (λ (p : ℕ × ℕ). p.0) is in
        let right_is : first.1 ≡ (at or).moment = ap (λ (p : ℕ × ℕ). p.1) is in (
          record {
            left_time = omega (arith, left_is, left_time.later);
            right_time = omega (arith, right_is, right_time.later);
            leaves = λ a b at_a at_b. leaves a b
                (at_a.0, omega (arith, at_a.1, left_is), at_a.2, at_a.3)
                (at_b.0, omega (arith, at_b.1, right_is), at_b.2, at_b.3);
          },
          refl,
        )
    along_more s held [] request first (next ∷ later) is leaves = absurd is
    along_more s held (r ∷ requests) request first [] is leaves = absurd is
    along_more s held (r ∷ requests) request first (next ∷ later) is leaves =
        let t : State = (step s r).0 in
        let more : List Command = kept_behind held (newly_accepted s r) in
        let by = along_by ol or t more requests next later is.1 in (
          within_past (IsKeptAround s held r) first next by.0 by.1 is.0,
          along_more t more requests request next later is.1
              (subst (λ (cs : List Command). LeavesPairs at ol or nl nr (IsKeptAround (run t requests).0 cs request))
              (behind_more held (newly_accepted s r) (accepted t requests)) leaves),
        )
