-- How many device calls are made, which are writes and syncs.
use Rattle.std.specs.Prelude.{ℕ, ◌+◌, ◌⊎◌, List, [], ◌∷◌, IfSome}
use Rattle.liq_outside.specs.At.{DiskAt}
use Rattle.liq_outside.specs.Disk.{IsLater}
use Rattle.liq_journal.specs.Crash.{HasGate}

-- a write of these bytes, unless there are none
abbrev pub calls_behind : List ℕ → ℕ
calls_behind [] = 0
calls_behind (byte ∷ bytes) = 1

-- The header, the checkpoint and the first record's shut gate, and a sync; then the open gate at
-- place 0, and a sync.
abbrev pub creating_calls : List ℕ → ℕ
creating_calls checkpoint = 5 + calls_behind checkpoint

-- So many calls, where a shut gate was at the place; and else two more, which are the write that
-- shuts it and a sync.
abbrev pub SettledIn : {D : Type 0} → (D → DiskAt) → ℕ → ℕ → D → D → Type 0
SettledIn at place calls old new =
    (IfSome (at old).seen (HasGate place) × IsLater at calls old new)
    ⊎ (IfSome (at old).seen (λ held. HasGate place held → ⊥) × IsLater at (2 + calls) old new)
