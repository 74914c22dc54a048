-- How bytes are taken from a part of a disk.
use Rattle.std.proofs.Common.{◌≡◌, inl, inr, ℕ, zero, suc, ◌+◌, ◌-◌, ◌≤◌, min, List, [], ◌++◌, length, take, drop, Option, Some, None, IfSome, Bool, false, nat_lt, if◌then◌else◌, refl, sym, ◌∙◌, ap, subst, arith, length-take, length-drop}
use Rattle.std.proofs.lemmas.Bool.{cases_Bool}
use Rattle.std.proofs.lemmas.Bool.Decides.{nat_tests}
use Rattle.std.proofs.lemmas.List.{take-take, take_at, take_min, drop-drop}
use Rattle.liq_journal.specs.Looked.{IsRead}
use Rattle.liq_journal.specs.Parts.{Part, IsPartOf, bytes_from}
use Rattle.liq_disk_header.specs.Layout.{piece}
use Rattle.liq_journal.proofs.Reading.{piece_alike}
use Rattle.liq_journal.proofs.Told.{if_some}

-- what was read is all that is there, or as much of it as was asked for
pub read_all : (told : Option (List ℕ)) (at n size most : ℕ) (buf : List ℕ) → size ≡ most
    → IfSome told (IsRead at size n buf) → IfSome told (λ held. take n buf ≡ piece at most held)
read_all told at n size most buf is read = if_some told (IsRead at size n buf) (λ held. take n buf ≡ piece at most held)
    (λ held r. r.1 ∙ ap (λ (k : ℕ). take k (drop at held)) (r.0 ∙ (λ i. min (is i) (sym (length-drop at held) i)))
    ∙ take_min most (drop at held)) read

from_here : (at count : ℕ) (part : Part) (held : List ℕ) → part.at ≤ at → IsPartOf part held
    → suc count ≤ length (drop (at - part.at) part.bytes) → take (suc count) (drop (at - part.at) part.bytes)
    ≡ piece at (suc count) held
from_here at count part held behind is enough =
    let k : ℕ = at - part.at in
    let size = length-drop k part.bytes in
    let n = length part.bytes in
    let alike : take n part.bytes ≡ take n (drop part.at held) = ap (take n) is
    ∙ take-take n n (drop part.at held) (omega arith) in
    let e : part.at + k ≡ at = omega arith in
    piece_alike n (drop part.at held) part.bytes alike k (suc count) (omega (arith, size, enough))
    ∙ ap (take (suc count)) (drop-drop k part.at held ∙ ap (λ (m : ℕ). drop m held) e)

-- so many bytes are in it
pub has_there : (at count : ℕ) (part : Part) (held : List ℕ) → IsPartOf part held → count ≤ length (bytes_from at part)
    → take count (bytes_from at part) ≡ piece at count held
has_there at zero part held is enough = refl
has_there at (suc count) part held is enough = elim (cases_Bool (nat_lt at part.at)) [
  | inl before ↦
      let none : bytes_from at part ≡ [] = ap (λ (b : Bool). if b then [] else drop (at - part.at) part.bytes) before in
      let n = ap length none in
      absurd (omega (arith, enough, n))
  | inr behind ↦
      let rest : bytes_from at part ≡ drop (at - part.at) part.bytes = ap (λ (b : Bool). if b then []
      else drop (at - part.at) part.bytes) behind in
      let le : part.at ≤ at = grind (arith, nat_tests) in
      ap (take (suc count)) rest ∙ from_here at count part held le is (omega (arith, enough, ap length rest))
]

-- it begins there, and was read whole
pub begins_there : (at count most : ℕ) (part : Part) (held : List ℕ) → part.at ≡ at → count ≤ most
    → part.bytes ≡ piece at most held → take count (bytes_from at part) ≡ piece at count held
begins_there at count most part held here few whole =
    let isnt : nat_lt at part.at ≡ false = grind (arith, nat_tests) in
    let none : at - part.at ≡ 0 = omega (arith, here) in
    let all : bytes_from at part ≡ part.bytes = ap (λ (b : Bool). if b then [] else drop (at - part.at) part.bytes) isnt
    ∙ ap (λ (k : ℕ). drop k part.bytes) none in
    ap (take count) (all ∙ whole) ∙ take-take count most (drop at held) few

-- the same where the bytes are told
pub told_there : (told : Option (List ℕ)) (at count : ℕ) (part : Part) → count ≤ length (bytes_from at part)
    → IfSome told (IsPartOf part) → IfSome told (λ held. take count (bytes_from at part) ≡ piece at count held)
told_there told at count part enough is = if_some told (IsPartOf part) (λ held. take count (bytes_from at part)
    ≡ piece at count held) (λ held p. has_there at count part held p enough) is

pub told_begun : (told : Option (List ℕ)) (at count most : ℕ) (part : Part) → part.at ≡ at → count ≤ most
    → IfSome told (λ held. part.bytes ≡ piece at most held) → IfSome told (λ held. take count (bytes_from at part)
    ≡ piece at count held)
told_begun told at count most part here few whole = if_some told (λ held. part.bytes ≡ piece at most held)
    (λ held. take count (bytes_from at part) ≡ piece at count held) (λ held p. begins_there at count most part held here
    few p) whole

pub front_of : (n : ℕ) (bytes buf copy : List ℕ) → n ≡ min (length bytes) (length buf) → copy ≡ take n bytes
    → take n (copy ++ drop n buf) ≡ take n bytes
front_of n bytes buf copy is same =
    let size : length copy ≡ n = ap length same ∙ length-take n bytes ∙ omega (arith, is) in
    take_at copy (drop n buf) n size ∙ same

-- what is copied from its front
pub copied : (told : Option (List ℕ)) (at n : ℕ) (bytes buf new : List ℕ) → n ≡ min (length bytes) (length buf)
    → take n new ≡ take n bytes → IfSome told (λ held. take (length buf) bytes ≡ piece at (length buf) held)
    → IfSome told (IsRead at (length buf) n new)
copied told at n bytes buf new is same reached = if_some told (λ held. take (length buf) bytes
    ≡ piece at (length buf) held) (IsRead at (length buf) n new)
    (λ held r.
    let m = length buf in
    let size = sym (length-take m bytes) ∙ ap length r ∙ length-take m (drop at held) in
    let rest = length-drop at held in
    let few : n ≤ m = omega (arith, is) in (
      omega (arith, is, size, rest),
      same ∙ sym (take-take n m bytes few) ∙ ap (take n) r
          ∙ take-take n m (drop at held) few,
    )) reached

-- no bytes are a part of any
pub told_empty : (told : Option (List ℕ)) (part : Part) → part ≡ record { at = 0; bytes = [] }
    → IfSome told (IsPartOf part)
told_empty None part is = tt
told_empty (Some held) part is = subst (λ (p : Part). IsPartOf p held) (sym is) refl
