-- Why there are no disks.
use Rattle.std.specs.Prelude.{◌≡◌, ℕ, Bool, true, false, List, [], ◌∷◌, Option, Some, None, Result, Ok, Err, IfErr, IfSome, IsSome, OnErr}
use Rattle.std.proofs.Common.{◌∙◌, ap, inl, inr, refl, subst}
use Rattle.std.specs.declared.fs.File.{File}
use Rattle.liq_disk_files.specs.Asked.{Asked, Opened, Saw, Read, Synced, Earlier}
use Rattle.liq_disk_files.specs.Opened.{Knows, Taken}
use Rattle.liq_disk_files.specs.Unopened.{HasNone, IsLost, IsRefused, IsUnopened, IsUnsynced, IsUntaken, no_right}
use Rattle.liq_disk_files.specs.declared.calls.Name.{Name}
use Rattle.liq_disk_files.specs.declared.calls.Name.TheVariants.{Left, Right}
use Rattle.liq_disk_files.specs.declared.calls.Refusal.{Refusal}
use Rattle.liq_disk_files.specs.declared.calls.Refusal.TheVariants.{Exists}
use Rattle.liq_disk_files.specs.declared.calls.Seen.{Seen}
use Rattle.liq_disk_files.specs.declared.found.FileId.{FileId}
use Rattle.liq_disk_files.specs.declared.found.Found.{Found}
use Rattle.liq_disk_files.proofs.Openings.{knows_still, new_file, taken_still}

pub saw_none : {path : List ℕ} {answer : Option Seen} {before after : List Asked}
    → after ≡ Saw path answer ∷ before → answer ≡ None → IsLost after
saw_none {path} {answer} {before} is none =
    (path, before, inl (is ∙ ap (λ (a : Option Seen). Saw path a ∷ before) none))

pub read_none : {path : List ℕ} {answer : Option (List ℕ)} {before after : List Asked}
    → after ≡ Read path answer ∷ before → answer ≡ None → IsLost after
read_none {path} {answer} {before} is none =
    (path, before, inr (inl (is ∙ ap (λ (a : Option (List ℕ)). Read path a ∷ before) none)))

pub saw_link : {path : List ℕ} {answer : Option Seen} {seen : Seen} {before after : List Asked}
    → after ≡ Saw path answer ∷ before → answer ≡ Some seen → seen.is_link ≡ true → IsLost after
saw_link {path} {answer} {seen} {before} is some link =
    (path, before, inr (inr (seen, link, inl (is ∙ ap (λ (a : Option Seen). Saw path a ∷ before) some))))

-- a link that was read, and looked at again
pub saw_again : {path target : List ℕ} {seen again : Seen} {calls first second third : List Asked}
    → first ≡ Saw path (Some seen) ∷ calls → second ≡ Read path (Some target) ∷ first
    → third ≡ Saw path (Some again) ∷ second → seen.is_link ≡ true → IsLost third
saw_again {path} {target} {seen} {again} {calls} e1 e2 e3 link = (
  path,
  calls,
  inr (inr (
    seen,
    link,
    inr (
      target,
      again,
      e3 ∙ ap (λ (c : List Asked). Saw path (Some again) ∷ c)
          (e2 ∙ ap (λ (c : List Asked). Read path (Some target) ∷ c) e1),
    ),
  )),
)

pub unseen : {path : List ℕ} {answer : Option Seen} {before after : List Asked}
    → after ≡ Saw path answer ∷ before → answer ≡ None → IsUnsynced after
unseen {path} {answer} {before} is none =
    (before, inl (path, is ∙ ap (λ (a : Option Seen). Saw path a ∷ before) none))

pub unsynced : {name : Name} {answer : Bool} {before after : List Asked}
    → after ≡ Synced name answer ∷ before → answer ≡ false → IsUnsynced after
unsynced {name} {answer} {before} is off =
    (before, inr (name, is ∙ ap (λ (a : Bool). Synced name a ∷ before) off))

-- the right file is not taken, once the left one is
pub none_of_right : (user : ℕ) (input output errors : FileId) (found : Found) (between calls : List Asked)
    (device : Option File) → Earlier between calls → Knows user input output errors between → IsSome device
    → IfSome device (λ f. Taken user (input ∷ output ∷ errors ∷ []) Left f found between)
    → IsUntaken user (input ∷ output ∷ errors ∷ found.id ∷ []) Right calls → HasNone calls
none_of_right user input output errors found between calls (Some f) since knows there taken why =
    no_right
    (record {
      user = user;
      input = input;
      output = output;
      errors = errors;
      file = f;
      found = found;
      knows = knows_still user input output errors between calls since knows;
      taken = taken_still user _ Left f found between calls since taken;
    })
    why
none_of_right user input output errors found between calls None since knows there taken why = cc

-- one came when it was to be made, and was refused then
pub came_meanwhile : (name : Name) (result : Result File Refusal) (old between calls : List Asked)
    → between ≡ Opened name new_file (Err Exists) ∷ old
    → IfErr result (λ refusal. IsRefused name refusal between calls) → OnErr result (IsUnopened name calls)
came_meanwhile name (Ok file) old between calls is refused = tt
came_meanwhile name (Err refusal) old between calls is refused = (
  refusal,
  old,
  inr (
    new_file,
    refl,
    inr (subst (λ (before : List Asked). IsRefused name refusal before calls) is refused),
  ),
)
