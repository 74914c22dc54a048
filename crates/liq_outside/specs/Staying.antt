-- What a disk in memory holds may be left by a crash.
use Rattle.std.specs.Prelude.{◌≡◌, ℕ, ◌+◌, List, [], ◌∷◌, length, refl, take, drop, Option, Some, unwrap_or}
use Rattle.std.proofs.Common.{inl, subst, sym, ap}
use Rattle.std.proofs.Math.Nat.{sub_self, le_refl, le-max_left}
use Rattle.liq_outside.specs.Disk.{Torn}
use Rattle.liq_outside.specs.DiskInMemory.{Step, Wrote, Tried, Synced, MayBeLeft, WasLeft, undone_all}

pub torn_nothing : (at n : ℕ) (bytes : List ℕ) → Torn at n bytes bytes
torn_nothing at n bytes = record {
  before = refl;
  behind = refl;
  no_shorter = le_refl (length bytes);
  no_longer = le-max_left (length bytes) (at + n);
}

pub stays : (held : List ℕ) (steps : List Step) → MayBeLeft held steps held
stays held [] = refl
stays held (Wrote at count over ∷ steps) = inl refl
stays held (Tried at count ∷ steps) = (held, stays held steps, torn_nothing at count held)
stays held (Synced ∷ steps) = refl

-- what may be left now is what may be left at the last moment
pub left_now : (held : List ℕ) (steps : List Step) (image : List ℕ)
    → MayBeLeft held steps image → WasLeft held steps (length steps) image
left_now held steps image may =
    subst (λ (n : ℕ). MayBeLeft (undone_all held (take n steps)) (drop n steps) image)
    (sym (sub_self (length steps))) may

pub is_left_now : (held : List ℕ) (steps : List Step) (image : List ℕ)
    → WasLeft held steps (length steps) image → MayBeLeft held steps image
is_left_now held steps image left =
    subst (λ (n : ℕ). MayBeLeft (undone_all held (take n steps)) (drop n steps) image)
    (sub_self (length steps)) left

pub held_may_stay : (bytes held : List ℕ) (steps : List Step)
    → Some bytes ≡ Some held → WasLeft bytes steps (length steps) held
held_may_stay bytes held steps is =
    subst (λ (image : List ℕ). WasLeft bytes steps (length steps) image)
    (ap (λ (o : Option (List ℕ)). unwrap_or o bytes) is)
    (left_now bytes steps bytes (stays bytes steps))
