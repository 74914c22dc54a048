-- The byte that an opening shuts is a 0 then.
use Rattle.std.proofs.Common.{◌≡◌, inl, inr, ℕ, zero, suc, ◌+◌, ◌<◌, ◌≤◌, List, [], ◌∷◌, ◌++◌, length, take, drop, get_or, Bool, refl, sym, ◌∙◌, ap, subst, arith, length-append, length-drop, length-take}
use Rattle.liq_outside.specs.Disk.{overwritten}
use Rattle.liq_journal.specs.Crash.{Stands}
use Rattle.liq_journal.specs.Opened.{IsUnshut, OpenLeaves}
use Rattle.liq_journal.specs.Written.{Absent, Open, Written, end_of, found_on}
use Rattle.liq_disk_pair.proofs.AtEnd.{shut_found}
use Rattle.liq_disk_pair.proofs.FirstPlace.{absent_isnt_open, closed_absent}
use Rattle.liq_disk_pair.proofs.OneByte.{byte_there}
use Rattle.liq_store.specs.Standing.{OnlyShuts}

-- a byte that is written, and has something at its place then, was not written behind the end
inside_by : (held : List ℕ) (place byte : ℕ) → place < length (overwritten held place (byte ∷ [])) → place ≤ length held
inside_by held place byte there =
    let all : length (overwritten held place (byte ∷ [])) ≡ length (take place held ++ byte ∷ []) + length
    (drop (place + 1) held) =
    length-append (take place held ++ byte ∷ []) (drop (place + 1) held) in
    let with_byte : length (take place held ++ byte ∷ []) ≡ length (take place held) + 1 =
    length-append (take place held) (byte ∷ []) in
    let front = length-take place held in
    let rest = length-drop (place + 1) held in
    omega (arith, there, all, with_byte, front, rest)

one_open : (odd : Bool) (held : List ℕ) (v w : Written) → found_on odd held ≡ Open v
    → found_on odd held ≡ Open w → v ≡ w
one_open odd held v w one other = cc

module _ (odd : Bool) (held after : List ℕ) where
  -- behind the records
  pub shut_behind : (w : Written) → found_on odd held ≡ Open w → Stands odd after w → OpenLeaves odd held after
      → OnlyShuts odd held after
  shut_behind w found stands (inl same) = inl same
  shut_behind w found stands (inr (place, inr none, has)) = absurd (absent_isnt_open odd held w none.0 found)
  shut_behind w found stands (inr (place, inl some, has)) =
      let place_is : place ≡ end_of w = some.2 ∙ ap end_of (one_open odd held some.0 w some.1 found) in
      let there : place < length (overwritten held place (has.0 ∷ [])) =
      subst (λ (l : List ℕ). place < length l) has.1
      (subst (λ (n : ℕ). n < length after) (sym place_is) stands.ended.there) in
      let byte_is : has.0 ≡ 0 =
      sym (byte_there place has.0 held (inside_by held place has.0 there))
      ∙ ap (λ (l : List ℕ). get_or l place 0) (sym has.1)
      ∙ ap (λ (n : ℕ). get_or after n 0) place_is ∙ stands.ended.is in
      inr (place, inl some, has.1 ∙ ap (λ (byte : ℕ). overwritten held place (byte ∷ [])) byte_is)

  -- at place 0, where none is open
  pub shut_first : found_on odd held ≡ Absent → (IsUnshut after → ⊥) → OpenLeaves odd held after
      → OnlyShuts odd held after
  shut_first absent shut (inl same) = inl same
  shut_first absent shut (inr (place, inl some, has)) = absurd (absent_isnt_open odd held some.0 absent some.1)
  shut_first absent shut (inr (place, inr none, has)) =
      let is : after ≡ overwritten held 0 (has.0 ∷ []) = has.1
      ∙ ap (λ (n : ℕ). overwritten held n (has.0 ∷ [])) none.1 in
      inr (place, inr none, has.1 ∙ ap (λ (byte : ℕ). overwritten held place (byte ∷ [])) (by has.0 is))
    where
      by : (byte : ℕ) → after ≡ overwritten held 0 (byte ∷ []) → byte ≡ 0
      by zero is = refl
      by (suc n) is =
          let first = byte_there 0 (suc n) held (omega arith) in
          absurd (shut (subst IsUnshut (sym is) (record {
            there = omega arith;
            isnt = λ none. let no : suc n ≡ 0 = sym first ∙ none in absurd (omega (arith, no));
          })))

-- it leaves what is found
pub shuts_alike : (odd : Bool) (held after : List ℕ) → OnlyShuts odd held after → found_on odd after ≡ found_on odd held
shuts_alike odd held after (inl same) = ap (found_on odd) same
shuts_alike odd held after (inr (place, inl some, is)) =
    ap (found_on odd) (is ∙ ap (λ (n : ℕ). overwritten held n (0 ∷ [])) some.2)
    ∙ shut_found odd held some.0 some.1 ∙ sym some.1
shuts_alike odd held after (inr (place, inr none, is)) =
    ap (found_on odd) (is ∙ ap (λ (n : ℕ). overwritten held n (0 ∷ [])) none.1)
    ∙ closed_absent odd (overwritten held 0 (0 ∷ [])) (inr (omega arith, byte_there 0 0 held (omega arith)))
    ∙ sym none.0
