-- How a run of device calls goes on.
use Rattle.std.proofs.Common.{◌≡◌, ◌⊎◌, inl, inr, ⊎_elim, ℕ, ◌≤◌, List, arith, subst}
use Rattle.liq_outside.specs.At.{DiskAt}
use Rattle.liq_outside.specs.Disk.{LeftNow, GoesOn, Elapses, KeepsToItsTime, LeavesOnly}

module _ {D : Type 0} (at : D → DiskAt) where
  -- before the first call
  pub unmoved : (old : D) → GoesOn at old old
  unmoved old = record { later = omega arith; past = λ k image le left. left; kept = λ k image le left. left }

  -- one run of calls after another
  pub joined : (old mid new : D) → GoesOn at old mid → GoesOn at mid new → GoesOn at old new
  joined old mid new first second = record {
    later = omega (arith, first.later, second.later);
    past = λ k image le left. first.past k image le (second.past k image (omega (arith, le, first.later)) left);
    kept = λ k image le left. second.kept k image (omega (arith, le, first.later)) (first.kept k image le left);
  }

  -- the law of moments
  pub law : (old new : D) → GoesOn at old new → KeepsToItsTime at old new
  law old new time since image le left = elim (earlier left.0) [
    | inl was ↦ inl (left.0, left.1, was, time.past left.0 image was left.3)
    | inr later ↦ inr (left.0, later, left.2, left.3)
  ]
    where
      earlier : (k : ℕ) → (k ≤ (at old).moment) ⊎ ((at old).moment ≤ k)
      earlier k = grind arith

  -- nothing was done yet
  pub started : (old : D) (P : List ℕ → Type 0) → ((image : List ℕ) → LeftNow at old image → P image)
      → LeavesOnly at old old P
  started old P here = record {
    goes_on = unmoved old;
    each = λ image left. let now : left.0 ≡ (at old).moment = omega (arith, left.1, left.2)
        in here image (subst (λ (k : ℕ). (at old).left_at k image) now left.3);
  }

  -- one run of calls after another, each of which leaves what has P
  pub chained : (old mid new : D) (P : List ℕ → Type 0) → LeavesOnly at old mid P → LeavesOnly at mid new P
      → LeavesOnly at old new P
  chained old mid new P first second = record {
    goes_on = joined old mid new first.goes_on second.goes_on;
    each = λ image left. elim (law mid new second.goes_on ((at old).moment) image first.goes_on.later left) [
      | inl was ↦ first.each image was
      | inr now ↦ second.each image now
    ];
  }

  -- one call, before and after which a crash leaves what has P
  pub call : (old new : D) (P : List ℕ → Type 0) → Elapses at old new → ((image : List ℕ) → LeftNow at old image
      → P image) → ((image : List ℕ) → LeftNow at new image → P image) → LeavesOnly at old new P
  call old new P time before after = record {
    goes_on = time.goes_on;
    each = λ image left. ⊎_elim (before image) (after image) (time.within left.0 image left.1 left.2 left.3);
  }

  -- what has P has Q
  pub weaker : (old new : D) (P Q : List ℕ → Type 0) → LeavesOnly at old new P → ((image : List ℕ) → P image → Q image)
      → LeavesOnly at old new Q
  weaker old new P Q leaves gives = record {
    goes_on = leaves.goes_on;
    each = λ image left. gives image
        (leaves.each image left);
  }

  -- what a crash may leave at the end
  pub at_last : (old new : D) (P : List ℕ → Type 0) → LeavesOnly at old new P → (image : List ℕ) → LeftNow at new image
      → P image
  at_last old new P leaves image left = leaves.each image ((at new).moment, leaves.goes_on.later, omega arith, left)
