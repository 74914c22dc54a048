-- The disks of a word of which one is damaged.
use Rattle.std.proofs.Common.{◌≡◌, ◌≢◌, ℕ, List, Some, Result, Err, true, false, sym, ap, ap₂, ◌∙◌, inl, inr}
use Rattle.liq_outside.specs.At.{DiskAt}
use Rattle.liq_outside.specs.Disk.{LeavesOnly, LeftNow, Only}
use Rattle.liq_outside.proofs.Moments.{started, weaker}
use Rattle.liq_types.specs.State.{State}
use Rattle.liq_journal.specs.declared.damage.Damage.{Damage}
use Rattle.liq_journal.specs.Opened.{OpenLeaves}
use Rattle.liq_disk_pair.specs.declared.side.Side.{Side}
use Rattle.liq_disk_pair.specs.Pair.{state_on}
use Rattle.liq_disk_pair.specs.Unfinished.{LeftLeaves}
use Rattle.liq_disk_pair.proofs.Standings.{state_none}
use Rattle.liq_store.specs.declared.answers.StoreWhy.{StoreWhy}
use Rattle.liq_store.specs.declared.answers.StoreWhy.TheVariants as why
use Rattle.liq_store.specs.Opening.{IsNotOpened, OnlyOpens}
use Rattle.liq_store.specs.Standing.{OnlyShuts}
use Rattle.liq_word_exit.specs.declared.halts.Halt.TheVariants.{NoMemory}
use Rattle.liq_word_exit.specs.Disks.{EndsDamaged, LeavesDamaged}
use Rattle.liq_word_exit.specs.Unopened.{halt_of}

-- two disks have one first damage
first_damage : (found : Result State (Side × Damage)) (a b : Side × Damage) → found ≡ Err a → found ≡ Err b → a ≡ b
first_damage found a b one other = cc

-- where one is damaged no generation is created
pub left_opened : (l r image : List ℕ) (first : Side × Damage) → LeftLeaves l r image → state_on l r ≡ Err first
    → OpenLeaves true l image
left_opened l r image first (inl opened) is = opened
left_opened l r image first (inr created) is = absurd (cc (state_none l r created.0 created.1, is))

damaged_shuts : (l r a b : List ℕ) (first : Side × Damage) → OnlyOpens l r a b → state_on l r ≡ Err first
    → OnlyShuts true l a × OnlyShuts false r b
damaged_shuts l r a b first (right, inl left) is = (left, right)
damaged_shuts l r a b first (right, inr created) is = absurd (cc (state_none l r created.0 created.1, is))

module _ {D : Type 0} (at : D → DiskAt)
    (left right : D) (l r : List ℕ) (side : Side) (damage : Damage) (told_l : (at left).seen ≡ Some l)
    (told_r : (at right).seen ≡ Some r) (is : state_on l r ≡ Err (side, damage)) where
  same_left : (a : List ℕ) → (at left).seen ≡ Some a → a ≡ l
  same_left a told_a = cc (sym told_a ∙ told_l)

  same_right : (b : List ℕ) → (at right).seen ≡ Some b → b ≡ r
  same_right b told_b = cc (sym told_b ∙ told_r)

  -- nobody touched them, for want of memory
  pub untouched_damaged : LeavesDamaged at left right l r side damage (Err NoMemory) left right
  untouched_damaged = record {
    ends = λ a b told_a told_b. ap₂ state_on (same_left a told_a) (same_right b told_b) ∙ is;
    leaves = record {
      left_leaves = λ only. started at left (OpenLeaves true l) (λ image was. inl (only image was));
      right_leaves = λ only. started at right (OpenLeaves false r) (λ image was. inl (only image was));
      shut = λ other a b told_a told_b. (inl (same_left a told_a), inl (same_right b told_b));
    };
  }

  module _ (fl fr : D) where
    unopened_ends : (why_is : StoreWhy)
        → IsNotOpened at left right (record { left = fl; right = fr; why = why_is })
        → EndsDamaged at side damage (Err (halt_of why_is)) fl fr
    unopened_ends why.DiskFault h = tt
    unopened_ends (why.Damaged which found) h =
        let same = first_damage (state_on l r) (which, found) (side, damage) (h.is_why l r told_l told_r) is in (
          ap (λ (d : Side × Damage). d.0) same,
          ap (λ (d : Side × Damage). d.1.index) same,
          λ a b told_a told_b. h.stays (λ e. cc) l r a b told_l told_r told_a told_b ∙ is,
        )
    unopened_ends why.NoMemory h = λ a b told_a told_b.
        h.stays (λ e. cc) l r a b told_l told_r told_a told_b ∙ is

    -- no store was opened
    pub unopened_damaged : (why_is : StoreWhy)
        → IsNotOpened at left right (record { left = fl; right = fr; why = why_is })
        → (Only l (LeftNow at left) → LeavesOnly at left fl (LeftLeaves l r))
        → (Only r (LeftNow at right) → LeavesOnly at right fr (OpenLeaves false r))
        → (why_is ≢ why.DiskFault → (a b : List ℕ) → (at fl).seen ≡ Some a → (at fr).seen ≡ Some b
        → OnlyOpens l r a b)
        → LeavesDamaged at left right l r side damage (Err (halt_of why_is)) fl fr
    unopened_damaged why_is h left_so right_so shut_so = record {
      ends = unopened_ends why_is h;
      leaves = record {
        left_leaves = λ only. weaker at left fl (LeftLeaves l r) (OpenLeaves true l) (left_so only)
            (λ image was. left_opened l r image (side, damage) was is);
        right_leaves = right_so;
        shut = λ other a b told_a told_b. damaged_shuts l r a b (side, damage)
            (shut_so (λ w. other (ap (λ (y : StoreWhy). Err (halt_of y)) w)) a b told_a told_b) is;
      };
    }
