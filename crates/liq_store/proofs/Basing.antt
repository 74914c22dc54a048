-- The state with which a journal begins, by its generation and what its checkpoint is read as.
use Rattle.std.proofs.Common.{◌≡◌, ◌∙◌, ◌==◌, ◌&&◌, ◌+◌, ℕ, List, length, Some, None, Bool, true, false, Result, Ok, Err, if◌then◌else◌, sym, ap, subst, rules, tests}
use Rattle.liq_types.specs.declared.image.Image.{Image}
use Rattle.liq_types.specs.Soundness.{first_unsound}
use Rattle.liq_types.specs.State.{State, started}
use Rattle.liq_core.specs.Core.{Core}
use Rattle.liq_checkpoint.specs.Reading.{image_at}
use Rattle.liq_journal.specs.declared.damage.Damage.{Damage}
use Rattle.liq_journal.specs.declared.damage.What.TheVariants as what
use Rattle.liq_disk_header.specs.Layout.{header_size, layout_with}
use Rattle.liq_journal.specs.Written.{Written}
use Rattle.liq_disk_pair.specs.Replay.{bad_checkpoint, base_of, is_image_of, read_base, sound_base}
use Rattle.liq_disk_pair.proofs.Basing.{base_later}
use Rattle.liq_disk_records.specs.declared.answers.AcceptedFault.{AcceptedFault}
use Rattle.liq_disk_records.specs.declared.answers.AcceptedFault.TheVariants.{Damaged}
use Rattle.liq_store.specs.Bases.{BeginsTo}

-- a later generation than the first
pub begins_later : (w : Written) (generation : ℕ) (checkpoint : List ℕ) (read : Result Image ℕ)
    (result : Result Core AcceptedFault) → (generation ≡ 1 → ⊥) → w.generation ≡ generation → w.checkpoint ≡ checkpoint
    → image_at (length checkpoint) checkpoint ≡ read → BeginsTo (read_base w read) result → BeginsTo (base_of w) result
begins_later w generation checkpoint read result later same same_checkpoint is begins =
    let base : base_of w ≡ read_base w read =
    base_later w (λ one. later (sym same ∙ one))
    ∙ (λ i. read_base w (image_at (length (same_checkpoint i)) (same_checkpoint i)))
    ∙ ap (read_base w) is in
    subst (λ (r : Result State Damage). BeginsTo r result) (sym base) begins

abbrev bad_at : ℕ → ℕ → Result State Damage
bad_at place limit = Err (record { index = 0; what = what.Form (header_size (layout_with limit) + place) })

-- what is told of a place of the checkpoint is its damage
pub begins_badly : (w : Written) (limit place : ℕ) (base : Result State Damage) (why : AcceptedFault)
    → base ≡ bad_checkpoint w place → w.limit ≡ limit
    → why ≡ Damaged (record { index = 0; what = what.Form (header_size (layout_with limit) + place) })
    → BeginsTo base (Err why)
begins_badly w limit place base why bad same is =
    subst (λ (y : AcceptedFault). BeginsTo base (Err y)) (sym is) (bad ∙ ap (bad_at place) same)

-- ---- by its image

pub unsound_base : (w : Written) (rule : ℕ) (i : Image) → first_unsound i 0 ≡ Some rule
    → read_base w (Ok i) ≡ bad_checkpoint w 0
unsound_base w rule i is = ap (sound_base w i) is

-- of another generation, or of another limit
pub foreign_base : (w : Written) (i : Image) → first_unsound i 0 ≡ None → is_image_of w i ≡ false
    → read_base w (Ok i) ≡ bad_checkpoint w 0
foreign_base w i sound isnt =
    ap (sound_base w i) sound ∙ ap (λ (b : Bool). if b then Ok (started i) else bad_checkpoint w 0) isnt

pub own_base : (w : Written) (i : Image) → first_unsound i 0 ≡ None → is_image_of w i ≡ true
    → read_base w (Ok i) ≡ Ok (started i)
own_base w i sound is =
    ap (sound_base w i) sound ∙ ap (λ (b : Bool). if b then Ok (started i) else bad_checkpoint w 0) is

-- what was tested of a protocol is so of the image with which it begins
pub tested_image : (w : Written) (i begun : Image) (generation limit : ℕ) → w.generation ≡ generation → w.limit ≡ limit
    → begun ≡ i
    → is_image_of w i ≡ (begun.generation == generation && begun.limit == limit)
tested_image w i begun generation limit same same_limit is =
    let back = sym is in λ k. (back k).generation == same k && (back k).limit == same_limit k

-- of two tests that hold the first
pub first_same : (x y : ℕ) (other : Bool) → (x == y && other) ≡ true → x ≡ y
first_same x y other both = search (rules, tests)
