-- What was asked earlier stays asked.
use Rattle.std.specs.Prelude.{◌≡◌, List, ◌∷◌}
use Rattle.std.proofs.Common.{subst, sym}
use Rattle.liq_disk_files.specs.Asked.{Asked, Earlier, now, later, WasAsked}

pub onward : {past between calls : List Asked} → Earlier past between → Earlier between calls → Earlier past calls
onward p now = p
onward p (later q) = later (onward p q)

pub one_more : {past calls after : List Asked} {call : Asked} → after ≡ call ∷ calls → Earlier past calls
    → Earlier past after
one_more {past} is p = subst (λ (c : List Asked). Earlier past c) (sym is) (later p)

pub one : {calls after : List Asked} {call : Asked} → after ≡ call ∷ calls → Earlier calls after
one is = one_more is now

-- the last call
pub was_last : {calls after : List Asked} {call : Asked} → after ≡ call ∷ calls → Earlier (call ∷ calls) after
was_last {calls} {after} {call} is = subst (λ (c : List Asked). Earlier (call ∷ calls) c) (sym is) now

pub last : {calls after : List Asked} {call : Asked} → after ≡ call ∷ calls → WasAsked call after
last {calls} is = (calls, was_last is)

pub still : {call : Asked} {old new : List Asked} → Earlier old new → WasAsked call old → WasAsked call new
still later_on was = (was.0, onward was.1 later_on)
