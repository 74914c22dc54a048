-- What one record is read as.
use Rattle.std.proofs.Common.{◌≡◌, ℕ, ◌+◌, ◌-◌, ◌≤◌, List, ◌++◌, length, take, drop, get_or, Option, Some, IfSome, Result, Ok, Err, Bool, true, false, not, if◌then◌else◌, refl, sym, ◌∙◌, ap, subst, arith, length-drop, take-append-drop}
use Rattle.std.specs.Str.{bytes_eq}
use Rattle.std.proofs.lemmas.List.{take-take, take_at, drop_at, drop-drop}
use Rattle.liq_types.specs.declared.requests.Command.{Command}
use Rattle.liq_types.specs.declared.requests.Call.TheVariants.{Rotate}
use Rattle.liq_wire.specs.Fields.{command_of}
use Rattle.liq_journal.specs.declared.damage.What.{What}
use Rattle.liq_journal.specs.declared.damage.What.TheVariants.{Digest, Form}
use Rattle.liq_journal.specs.declared.answers.LookFault.TheVariants as fault
use Rattle.liq_journal.specs.Tested.{IsTested, IsFaultOf}
use Rattle.liq_journal.specs.Records.{begins_whole}
use Rattle.liq_journal.specs.Looked.{IsRead}
use Rattle.liq_disk_header.specs.Layout.{piece}
use Rattle.liq_types.specs.Verbs.{is_rotate}
use Rattle.liq_types.proofs.Verbs.{not_rotate}
use Rattle.liq_journal.specs.Written.{record_on, command_from}
use Rattle.liq_disk_header.specs.RecordDigest.{record_digest}
use Rattle.liq_journal.proofs.Reading.{is_whole, piece_alike, byte_alike}
use Rattle.liq_journal.proofs.Told.{if_some}

module _ (generation index place : ℕ) (body stored computed : List ℕ) (size : length body ≡ 96) (is : computed
    ≡ record_digest generation index body) where
  front : take 96 (body ++ stored) ≡ body
  front = take_at body stored 96 size

  behind : drop 96 (body ++ stored) ≡ stored
  behind = drop_at body stored 96 size

  opened_up : record_on generation index place (body ++ stored) ≡ (if not (bytes_eq stored computed)
      then Err (Digest stored computed) else command_from place (command_of body))
  unfolding record_on
  opened_up =
      ap (λ (l : List ℕ). if not (bytes_eq l (record_digest generation index (take 96 (body ++ stored))))
      then Err (Digest l (record_digest generation index (take 96 (body ++ stored))))
      else command_from place (command_of (take 96 (body ++ stored)))) behind
      ∙ ap (λ (l : List ℕ). if not (bytes_eq stored (record_digest generation index l))
      then Err (Digest stored (record_digest generation index l)) else command_from place (command_of l)) front
      ∙ ap (λ (d : List ℕ). if not (bytes_eq stored d) then Err (Digest stored d)
      else command_from place (command_of body)) (sym is)

  pub differs : not (bytes_eq stored computed) ≡ true → record_on generation index place (body ++ stored)
      ≡ Err (Digest stored computed)
  differs so = opened_up ∙ ap (λ (b : Bool). if b then Err (Digest stored computed)
      else command_from place (command_of body)) so

  pub agrees : not (bytes_eq stored computed) ≡ false → record_on generation index place (body ++ stored)
      ≡ command_from place (command_of body)
  agrees so = opened_up ∙ ap (λ (b : Bool). if b then Err (Digest stored computed)
      else command_from place (command_of body)) so

pub rotation : (place : ℕ) (command : Command) → command.call ≡ Rotate
    → ◌≡◌ {A = Result Command What} (command_from place (Ok command)) (Err (Form place))
rotation place command is = ap (λ (b : Bool). if b then Err (Form place) else Ok command) (ap is_rotate is)

pub no_rotation : (place : ℕ) (command : Command) → (command.call ≡ Rotate → ⊥) → command_from place (Ok command)
    ≡ Ok command
no_rotation place command isnt = ap (λ (b : Bool). if b then Err (Form place)
    else Ok command) (not_rotate command.call isnt)

-- 129 bytes that were read at a place
module _ (held bytes : List ℕ) (place : ℕ) (alike : take 129 bytes ≡ take 129 (drop place held)) (long : 129
    ≤ length held - place) where
  pub whole_there : get_or bytes 0 0 ≡ 1 → begins_whole (drop place held) ≡ true
  whole_there gate =
      let n = length-drop place held in
      is_whole (drop place held) (sym (byte_alike 129 (drop place held) bytes alike 0 (omega arith))
      ∙ gate) (omega arith)

  part_there : (p n : ℕ) → p + n ≤ 129 → piece p n bytes ≡ take n (drop (place + p) held)
  part_there p n within = piece_alike 129 (drop place held) bytes alike p n within
      ∙ ap (take n) (drop-drop p place held)

  pub body_there : take 96 (take 128 (drop 1 bytes)) ≡ piece (place + 1) 96 held
  body_there = take-take 96 128 (drop 1 bytes) (omega arith) ∙ part_there 1 96 (omega arith)

  pub raw_there : take 128 (drop 1 bytes) ≡ piece (place + 1) 128 held
  raw_there = part_there 1 128 (omega arith)

-- what a read of a whole record tells
module _ (told : Option (List ℕ)) (generation index place n : ℕ) (bytes body stored : List ℕ) (long : 129
    ≤ n) (read : IfSome told (IsRead place 129 n bytes)) (gate : get_or bytes 0 0 ≡ 1) (body_is :
    body ≡ take 96 (take 128 (drop 1 bytes))) (stored_is : stored ≡ drop 96 (take 128 (drop 1 bytes))) where
  abbrev Reading : List ℕ → Type 0
  Reading held = (begins_whole (drop place held) ≡ true) × ((body ≡ piece (place + 1) 96 held)
      × (body ++ stored ≡ piece (place + 1) 128 held))

  reading : (held : List ℕ) → IsRead place 129 n bytes held → Reading held
  reading held (count, same) =
      let all : n ≡ 129 = omega arith in
      let room : 129 ≤ length held - place = omega arith in
      let alike : take 129 bytes ≡ take 129 (drop place held) = subst (λ (k : ℕ). take k bytes
      ≡ take k (drop place held)) all same in (
        whole_there held bytes place alike room gate,
        (
          body_is ∙ body_there held bytes place alike room,
          (λ i. body_is i ++ stored_is i) ∙ take-append-drop 96 (take 128 (drop 1 bytes))
              ∙ raw_there held bytes place alike room,
        ),
      )

  pub tested_whole : (command : Command) → record_on generation index (place + 1) (body ++ stored) ≡ Ok command
      → IfSome told (λ held. IsTested generation index place held (Some body))
  tested_whole command is = if_some told (IsRead place 129 n bytes) (λ held. IsTested generation index place held
      (Some body))
      (λ held r. let e = reading held r
      in (e.0, (e.1.0, (command, ap (record_on generation index (place + 1)) (sym e.1.1) ∙ is)))) read

  pub tested_fault : (what : What) → record_on generation index (place + 1) (body ++ stored) ≡ Err what
      → IfSome told (λ held. IsFaultOf generation index place held (fault.Damaged (record {
        index = index;
        what = what;
      })))
  tested_fault what is = if_some told (IsRead place 129 n bytes) (λ held. IsFaultOf generation index place held
      (fault.Damaged (record { index = index; what = what })))
      (λ held r. let e = reading held r in (
        e.0,
        (
          refl,
          ap (record_on generation index (place + 1)) (sym e.1.1)
              ∙ is,
        ),
      )) read
