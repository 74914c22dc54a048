-- The byte behind the last whole record: what any byte there leaves.
use Rattle.std.proofs.Common.{◌≡◌, ◌⊎◌, inl, inr, ⊎_elim, ℕ, zero, suc, ◌+◌, ◌-◌, ◌<◌, ◌≤◌, List, [], ◌∷◌, length, drop, Bool, refl, sym, ◌∙◌, ap, subst, arith, length-append, length-drop}
use Rattle.liq_types.specs.declared.requests.Command.{Command}
use Rattle.liq_types.specs.State.{State}
use Rattle.liq_rule_step.specs.Step.{Allowed, ruling}
use Rattle.liq_outside.specs.Disk.{overwritten}
use Rattle.liq_journal.specs.Crash.{HasGate, IsPending, Stands}
use Rattle.liq_journal.specs.Opened.{OpenLeaves}
use Rattle.liq_journal.specs.Records.{records}
use Rattle.liq_journal.specs.Written.{EndsWith, Open, Written, and_then, end_of, found_on, most_records, opened, start_of}
use Rattle.liq_journal.proofs.Appending.{held_on}
use Rattle.liq_journal.proofs.Heading.{is_open, of_records}
use Rattle.liq_journal.proofs.Reading.{records_few, records_long}
use Rattle.liq_disk_pair.specs.Kept.{HoldsRecord}
use Rattle.liq_disk_pair.specs.Unfinished.{IsUnfinishedRecord}
use Rattle.liq_disk_pair.proofs.FirstPlace.{absent_isnt_open}
use Rattle.liq_disk_pair.proofs.OneByte.{byte_behind, byte_there, front_stays, length_with, written_again}

pub end_of_more : (w : Written) (c : Command) → end_of (and_then w c) ≡ end_of w + 129
end_of_more w c = let n = length-append w.commands (c ∷ []) in omega arith

-- there are no more records than a replay may be given
room : (odd : Bool) (bytes : List ℕ) (w : Written) → found_on odd bytes ≡ Open w
    → most_records ≡ length w.commands + (most_records - length w.commands)
room odd bytes w found =
    let o = is_open odd bytes w found in
    let n = (of_records w.generation w.limit w.checkpoint 1 (start_of w) (records most_records
    (drop (start_of w) bytes)) w o.behind).count in
    let few = records_few most_records (drop (start_of w) bytes) in
    omega arith

-- a byte there that is no open gate leaves what is found
pub found_with : (odd : Bool) (bytes : List ℕ) (w : Written) (byte : ℕ) → found_on odd bytes ≡ Open w
    → end_of w ≤ length bytes → (byte ≡ 1 → ⊥) → found_on odd (overwritten bytes (end_of w) (byte ∷ [])) ≡ Open w
found_with odd bytes w byte found inside unopened =
    held_on odd bytes w found (overwritten bytes (end_of w) (byte ∷ [])) (most_records - length w.commands)
    (room odd bytes w found) inside
    (front_stays (end_of w) byte bytes inside)
    (λ is. unopened (sym (byte_there (end_of w) byte bytes inside) ∙ is))

-- what is found reaches no further than the bytes
ends_inside : (odd : Bool) (bytes : List ℕ) (w : Written) → found_on odd bytes ≡ Open w → end_of w ≤ length bytes
ends_inside odd bytes w found =
    let o = is_open odd bytes w found in
    let counted = (of_records w.generation w.limit w.checkpoint 1 (start_of w) (records most_records
    (drop (start_of w) bytes)) w o.behind).count in
    let long = records_long most_records (drop (start_of w) bytes) in
    let rest = length-drop (start_of w) bytes in
    let begins = o.headed.long in
    omega arith

-- a gate that is shut there leaves it, too
pub shut_found : (odd : Bool) (bytes : List ℕ) (w : Written) → found_on odd bytes ≡ Open w
    → found_on odd (overwritten bytes (end_of w) (0 ∷ [])) ≡ Open w
shut_found odd bytes w found =
    found_with odd bytes w 0 found (ends_inside odd bytes w found) (λ is. absurd (omega (arith, is)))

module _ (odd : Bool) (bytes : List ℕ) (w : Written) (c : Command) (pending : IsPending odd bytes w c) where
  -- there is room for it, and more
  pub inside : end_of w < length bytes
  inside = let there = pending.ended.there in let more = end_of_more w c in omega arith

  ends : (byte : ℕ) → EndsWith 0 (overwritten bytes (end_of w) (byte ∷ [])) (and_then w c)
  ends byte =
      let more = end_of_more w c in
      record {
        there = let there = pending.ended.there
            in let same = length_with (end_of w) byte bytes (omega (arith, inside)) inside in omega arith;
        is = byte_behind (end_of w) byte bytes (omega (arith, inside)) (end_of (and_then w c)) (omega arith)
            ∙ pending.ended.is;
      }

  -- a gate that isn't open: the record is still pending
  pub pending_with : (byte : ℕ) → (byte ≡ 1 → ⊥) → IsPending odd (overwritten bytes (end_of w) (byte ∷ [])) w c
  pending_with byte unopened = record {
    found = found_with odd bytes w byte pending.found (omega (arith, inside)) unopened;
    opened = ap (found_on odd) (written_again (end_of w) byte bytes (omega (arith, inside)) 1) ∙ pending.opened;
    ended = ends byte;
  }

  -- an open one: it is the last record
  pub stands_opened : Stands odd (opened (end_of w) bytes) (and_then w c)
  stands_opened = record { found = pending.opened; ended = ends 1 }

-- What an opening may leave of a disk with a record pending, or a 0 at its end: the same journal with the record
-- pending or the 0 there; or the record is the last one, which was unfinished.
pub data LeftAtEnd (odd : Bool) (held : List ℕ) (w : Written) (s : State) (bytes : List ℕ) : Type 0 where
  ended : Stands odd bytes w → LeftAtEnd odd held w s bytes
  pends : (c : Command) → HoldsRecord odd bytes w s c → LeftAtEnd odd held w s bytes
  finished : (c : Command) → IsUnfinishedRecord odd held s c → ruling s c ≡ Allowed → Stands odd bytes (and_then w c)
      → LeftAtEnd odd held w s bytes

pub byte_open_or_not : (n : ℕ) → (n ≡ 1) ⊎ (n ≡ 1 → ⊥)
byte_open_or_not zero = inr (λ is. absurd (omega arith))
byte_open_or_not (suc zero) = inl refl
byte_open_or_not (suc (suc n)) = inr (λ is. absurd (omega arith))

module _ (odd : Bool) (held : List ℕ) (w : Written) (s : State) (found : found_on odd held
    ≡ Open w) (end : EndsWith 0 held w ⊎ ((c : Command) × HoldsRecord odd held w s c)) where
  unchanged : LeftAtEnd odd held w s held
  unchanged = ⊎_elim (λ is. ended (record { found = found; ended = is })) (λ more. pends more.0 more.1) end

  with_byte : (byte : ℕ) → (HasGate (end_of w) held → ⊥)
      → LeftAtEnd odd held w s (overwritten held (end_of w) (byte ∷ []))
  with_byte byte unshut = ⊎_elim
      (λ is. absurd (unshut (record { there = is.there; shut = is.is })))
      (λ more. ⊎_elim
      (λ one. finished more.0 (record { written = w; record_is = more.1; unshut = unshut }) more.1.allowed
      (subst (λ (b : ℕ). Stands odd (overwritten held (end_of w) (b ∷ [])) (and_then w more.0)) (sym one)
      (stands_opened odd held w more.0 more.1.pending)))
      (λ other. pends more.0 (record {
        pending = pending_with odd held w more.0 more.1.pending byte other;
        allowed = more.1.allowed;
      }))
      (byte_open_or_not byte))
      end

  pub left_at_end : (bytes : List ℕ) → OpenLeaves odd held bytes → LeftAtEnd odd held w s bytes
  left_at_end bytes (inl same) = subst (λ (l : List ℕ). LeftAtEnd odd held w s l) (sym same) unchanged
  left_at_end bytes (inr (place, inl some, has)) =
      let both : Open some.0 ≡ Open w = sym some.1 ∙ found in
      let written : some.0 ≡ w = cc (both) in
      let at : place ≡ end_of w = some.2 ∙ ap end_of written in
      let is : bytes ≡ overwritten held (end_of w) (has.0 ∷ []) = has.1
      ∙ ap (λ (n : ℕ). overwritten held n (has.0 ∷ [])) at in
      subst (λ (l : List ℕ). LeftAtEnd odd held w s l) (sym is) (with_byte has.0 (subst (λ (n : ℕ). HasGate n held
      → ⊥) at some.3))
  left_at_end bytes (inr (place, inr none, has)) = absurd (absent_isnt_open odd held w none.0 found)

-- an opening leaves a journal with a 0 at its end as it was
pub stands_still : (odd : Bool) (held bytes : List ℕ) (w : Written) → Stands odd held w → OpenLeaves odd held bytes
    → bytes ≡ held
stands_still odd held bytes w stands (inl same) = same
stands_still odd held bytes w stands (inr (place, inl some, has)) =
    let both : Open some.0 ≡ Open w = sym some.1 ∙ stands.found in
    let written : some.0 ≡ w = cc (both) in
    let at : place ≡ end_of w = some.2 ∙ ap end_of written in
    let gate : HasGate (end_of w) held = record { there = stands.ended.there; shut = stands.ended.is } in
    absurd (some.3 (subst (λ (n : ℕ). HasGate n held) (sym at) gate))
stands_still odd held bytes w stands (inr (place, inr none, has)) =
    absurd (absent_isnt_open odd held w none.0 stands.found)
