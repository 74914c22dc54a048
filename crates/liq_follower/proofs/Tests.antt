-- What a whole record is found to be.
use Rattle.std.proofs.Common.{◌≡◌, ℕ, ◌+◌, List, length, take, drop, Option, Some, None, Ok, Err, Bool, true, false, not, if◌then◌else◌, refl, sym, ◌∙◌, ap, arith, length-drop}
use Rattle.std.proofs.lemmas.List.{take_all}
use Rattle.std.specs.Str.{bytes_eq}
use Rattle.liq_types.specs.declared.requests.Call.TheVariants.{Rotate}
use Rattle.liq_types.specs.declared.requests.Command.{Command}
use Rattle.liq_wire.specs.Fields.{command_of}
use Rattle.liq_journal.specs.declared.damage.What.TheVariants.{Digest, Form}
use Rattle.liq_journal.specs.Written.{command_from, record_on}
use Rattle.liq_disk_header.specs.RecordDigest.{record_digest}
use Rattle.liq_journal.proofs.Testing.{no_rotation, rotation}
use Rattle.liq_follower.specs.Fed.{IsNoRecord}
use Rattle.liq_follower.specs.Judging.{IsSpelled, IsTested}

-- ---- what its body spells

module _ (raw body : List ℕ) (is : body ≡ take 96 raw) where
  same : command_of (take 96 raw) ≡ command_of body
  same = ap command_of (sym is)

  pub spells_rotation : (c : Command) → command_of body ≡ Ok c → c.call ≡ Rotate → IsSpelled raw None
  spells_rotation c spelled rotates place = (
    Form place,
    ap (command_from place) (same ∙ spelled)
        ∙ rotation place c rotates,
  )

  pub spells : (c : Command) → command_of body ≡ Ok c → (c.call ≡ Rotate → ⊥) → IsSpelled raw (Some c)
  spells c spelled isnt place = ap (command_from place) (same ∙ spelled) ∙ no_rotation place c isnt

  pub spells_none : (at : ℕ) → command_of body ≡ Err at → IsSpelled raw None
  spells_none at spelled place = (Form (place + at), ap (command_from place) (same ∙ spelled))

-- ---- the record

-- all bytes behind the body are those of the digest
pub stored : (raw computed : List ℕ) → length raw ≡ 128 → bytes_eq (take 32 (drop 96 raw)) computed
    ≡ bytes_eq (drop 96 raw) computed
stored raw computed size = ap (λ (l : List ℕ). bytes_eq l computed) (take_all 32 (drop 96 raw)
    (let n = length-drop 96 raw in omega arith))

module _ (index : ℕ) (raw : List ℕ) where
  abbrev right : List ℕ
  right = record_digest 1 index (take 96 raw)

  abbrev has : Bool
  has = bytes_eq (drop 96 raw) right

  tested : (place : ℕ) → record_on 1 index place raw ≡ (if not has then Err (Digest (drop 96 raw) right)
      else command_from place (command_of (take 96 raw)))
  unfolding record_on
  tested place = refl

  -- its digest is wrong
  pub undigested : has ≡ false → IsNoRecord index raw
  undigested isnt place = (
    Digest (drop 96 raw) right,
    tested place ∙ ap (λ (b : Bool). if not b then Err (Digest (drop 96 raw) right)
        else command_from place (command_of (take 96 raw))) isnt,
  )

  digested : has ≡ true → (place : ℕ) → record_on 1 index place raw ≡ command_from place (command_of (take 96 raw))
  digested is place = tested place ∙ ap (λ (b : Bool). if not b then Err (Digest (drop 96 raw) right)
      else command_from place (command_of (take 96 raw))) is

  -- by what its body spells
  pub tested_by : (spelled : Option Command) → IsSpelled raw spelled → has ≡ true → IsTested index raw spelled
  tested_by (Some c) is right_one = λ place. digested right_one place ∙ is place
  tested_by None none right_one = λ place. ((none place).0, digested right_one place ∙ (none place).1)
