use Rattle.std.proofs.Common.{ℕ, ◌≡◌, ◌<◌, ◌^◌, Ok, inl, inr, ◌∙◌, ap, arith, refl}
use Rattle.liq_types.specs.declared.amounts.TheConstants.{LIM, LIM_OF_VERSION_1}
use Rattle.liq_types.specs.Image.{IsLimit}
use Rattle.liq_checkpoint.specs.Spelling.{spelling}
use Rattle.liq_journal.specs.Crash.{beginning}
use Rattle.liq_journal.specs.Written.{Written}
use Rattle.liq_disk_pair.specs.Examples.{begun_by_version_1, rotated_at, rotated_with}
use Rattle.liq_disk_pair.specs.Replay.{base_of, read_base}
use Rattle.liq_disk_pair.proofs.Basing.{base_later, base_read}
use Rattle.liq_disk_pair.proofs.Checkpoints.{rotated_read}
use Rattle.liq_disk_pair.proofs.examples.whole_checkpoints_example.Goals as goal

-- a journal of a later generation with this checkpoint is the one with what is read of it
read_as : (w : Written) (limit price : ℕ) → IsLimit limit → price < 2 ^ 64 → (w.generation ≡ 1 → ⊥)
    → w.checkpoint ≡ spelling (rotated_with limit price) → base_of w ≡ read_base w (Ok (rotated_with limit price))
read_as w limit price is few later same =
    base_later w later ∙ ap (read_base w) (rotated_read limit is price few w.checkpoint same)

pub returns-clause-begins : goal.returns-clause-begins
returns-clause-begins c =
    let w = beginning 2 (spelling (rotated_at 1000000000)) in
    base_read w (rotated_at 1000000000) (λ first. absurd (omega (arith, first)))
    (rotated_read LIM (inr refl) 1000000000 (omega arith) w.checkpoint refl) refl refl refl

pub returns-clause-another : goal.returns-clause-another
returns-clause-another c =
    read_as (beginning 4 (spelling (rotated_at 1000000000))) LIM 1000000000 (inr refl) (omega arith)
    (λ first. absurd (omega (arith, first))) refl

pub returns-clause-unsound : goal.returns-clause-unsound
returns-clause-unsound c =
    read_as (beginning 2 (spelling (rotated_at 0))) LIM 0 (inr refl) (omega arith)
    (λ first. absurd (omega (arith, first)))
    refl

pub returns-clause-foreign : goal.returns-clause-foreign
returns-clause-foreign c =
    read_as (beginning 2 (spelling (rotated_with LIM_OF_VERSION_1 1000000000))) LIM_OF_VERSION_1 1000000000 (inl refl)
    (omega arith) (λ first. absurd (omega (arith, first))) refl

pub returns-clause-foreign_to_version_1 : goal.returns-clause-foreign_to_version_1
returns-clause-foreign_to_version_1 c =
    read_as (begun_by_version_1 2 (spelling (rotated_at 1000000000))) LIM 1000000000 (inr refl) (omega arith)
    (λ first. absurd (omega (arith, first))) refl

pub returns-clause-begins_version_1 : goal.returns-clause-begins_version_1
returns-clause-begins_version_1 c =
    let i = rotated_with LIM_OF_VERSION_1 1000000000 in
    let w = begun_by_version_1 2 (spelling i) in
    base_read w i (λ first. absurd (omega (arith, first)))
    (rotated_read LIM_OF_VERSION_1 (inl refl) 1000000000 (omega arith) w.checkpoint refl) refl refl refl
