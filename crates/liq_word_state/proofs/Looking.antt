-- A store of which the disk that it took was looked at, or none.
use Rattle.std.proofs.Common.{◌≡◌, Result, refl, sym, subst}
use Rattle.liq_outside.specs.At.{DiskAt}
use Rattle.liq_outside.specs.Disk.{LeftNow, Looked}
use Rattle.liq_outside.proofs.Moments.{started}
use Rattle.liq_disk_pair.specs.declared.side.Side.{Side}
use Rattle.liq_disk_pair.specs.declared.side.Side.TheVariants.{Left, Right}
use Rattle.liq_disk_pair.specs.Sides.{beside, on}
use Rattle.liq_store.specs.Causes.{counts_of}
use Rattle.liq_store.specs.Stored.{Stored, disk_beside, taken_disk}
use Rattle.liq_word_exit.specs.Causes.{DiskCause}
use Rattle.liq_word_exit.specs.declared.halts.Halt.{Halt}
use Rattle.liq_word_state.specs.Whole.{OnlyLooks}

module _ {D : Type 0} (at : D → DiskAt) where
  unlooked : (disk : D) → Looked at disk disk
  unlooked disk = record {
    same = refl;
    moment = refl;
    within = λ image left. left;
    keeps = λ image left. left;
    leaves =
        started at disk (LeftNow at disk) (λ image left. left);
  }

  sides : (side : Side) (ol or nl nr : D) → Looked at (on side ol or) (on side nl nr)
      → beside side nl nr ≡ beside side ol or → Looked at ol nl × Looked at or nr
  sides Left ol or nl nr looked same = (looked, subst (λ (disk : D). Looked at or disk) (sym same) (unlooked or))
  sides Right ol or nl nr looked same = (subst (λ (disk : D). Looked at ol disk) (sym same) (unlooked ol), looked)

  -- the one that it took was
  pub only_looks : {T : Type 0} (old new : Stored D) (result : Result T Halt) → new.side ≡ old.side
      → Looked at (taken_disk old) (taken_disk new) → disk_beside new ≡ disk_beside old
      → DiskCause result (counts_of at old.left old.right) (counts_of at new.left new.right)
      → OnlyLooks at old new result
  only_looks old new result side looked same count =
      let both = sides old.side old.left old.right new.left new.right
      (subst (λ (s : Side). Looked at (taken_disk old) (on s new.left new.right)) side looked)
      (subst (λ (s : Side). beside s new.left new.right ≡ disk_beside old) side same) in
      record { left = both.0; right = both.1; count = count }
