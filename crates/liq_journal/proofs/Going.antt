-- How several calls on a disk go on, one behind the other.
use Rattle.std.proofs.Common.{◌≡◌, ℕ, List, Option, IsSome, Result, Ok, Err, IfOk, OnOk, subst, sym}
use Rattle.std.specs.Prelude.{◌↔◌}
use Rattle.liq_outside.specs.At.{DiskAt}
use Rattle.liq_outside.specs.Disk.{Looked}
use Rattle.liq_outside.specs.Faults.{HasCause}
use Rattle.liq_outside.proofs.Moments.{joined}
use Rattle.liq_journal.specs.Called.{Called, Lasts}

-- what it tells is there as before
pub telling_on : (first mid last : Option (List ℕ)) → (IsSome mid ↔ IsSome first) → (IsSome last ↔ IsSome mid)
    → (IsSome last ↔ IsSome first)
telling_on first mid last one two = ((λ is. one.0 (two.0 is)), (λ is. two.1 (one.1 is)))

pub telling_same : (first last : Option (List ℕ)) → last ≡ first → (IsSome last ↔ IsSome first)
telling_same first last same = subst (λ (o : Option (List ℕ)). IsSome o ↔ IsSome first) (sym same) (
  (λ is. is),
  (λ is. is),
)

-- the count before the calls that met no fault is that before the last
pub cause_on : {T E : Type 0} (first mid last : ℕ) (result : Result T E) → mid ≡ first → HasCause mid last result
    → HasCause first last result
cause_on first mid last result same cause = subst (λ (n : ℕ). HasCause n last result) same cause

-- calls behind others
pub lasts_on : {D : Type 0} (at : D → DiskAt) (first mid last : D) → Lasts at first mid → Lasts at mid last
    → Lasts at first last
lasts_on at first mid last one two = record {
  telling = telling_on (at first).seen (at mid).seen (at last).seen one.telling two.telling;
  time = joined at first mid last one.time two.time;
}

-- calls that only looked
pub lasts_looked : {D : Type 0} (at : D → DiskAt) (old new : D) → Looked at old new → Lasts at old new
lasts_looked at old new looked = record {
  telling = telling_same (at old).seen (at new).seen looked.same;
  time = looked.leaves.goes_on;
}

-- calls behind some that met no fault
pub called_on : {D S T E F : Type 0} (at : D → DiskAt) (first mid last : D) (before : Result S F) (result : Result T E)
    → Called at first mid before → (at mid).faults ≡ (at first).faults → Called at mid last result
    → Called at first last result
called_on at first mid last before result one same two = record {
  lasts = lasts_on at first mid last one.lasts two.lasts;
  cause = cause_on (at first).faults (at mid).faults (at last).faults result same two.cause;
}

-- calls behind some that only looked
pub called_behind : {D T E : Type 0} (at : D → DiskAt) (first mid last : D) (result : Result T E)
    → Looked at first mid → (at mid).faults ≡ (at first).faults → Called at mid last result
    → Called at first last result
called_behind at first mid last result looked same calls = record {
  lasts = lasts_on at first mid last (lasts_looked at first mid looked) calls.lasts;
  cause = cause_on (at first).faults (at mid).faults (at last).faults result same calls.cause;
}

-- what is known where a call succeeded
pub on_ok : {T E : Type 0} (r : Result T E) (P : Type 0) → P → OnOk r P
on_ok (Ok x) P p = p
on_ok (Err e) P p = tt

pub on_ok_from : {T E : Type 0} (r : Result T E) (P Q : Type 0) → (P → Q) → OnOk r P → OnOk r Q
on_ok_from (Ok x) P Q f p = f p
on_ok_from (Err e) P Q f p = tt

pub if_ok_map : {T E : Type 0} (r : Result T E) (P Q : T → Type 0) → ((x : T) → P x → Q x) → IfOk r P → IfOk r Q
if_ok_map (Ok x) P Q f p = f x p
if_ok_map (Err e) P Q f p = tt
