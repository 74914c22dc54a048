-- The fields of a header, as they were read.
use Rattle.std.proofs.Common.{◌≡◌, ℕ, ◌+◌, ◌≤◌, List, take, drop, Option, Some, None, Bool, true, false, not, if◌then◌else◌, refl, ◌∙◌, ap, arith}
use Rattle.std.specs.Str.{bytes_eq}
use Rattle.std.proofs.lemmas.List.{take-take}
use Rattle.liq_types.specs.Image.{IsLimit}
use Rattle.liq_wire.specs.Fields.{first_place}
use Rattle.liq_disk_header.specs.declared.head.Head.{Head}
use Rattle.liq_disk_header.specs.Header.{HasFields, is_generation, is_size, place_tests}
use Rattle.liq_disk_header.specs.Layout.{Layout, fields_size, generation_on, layout_with, name_on, own_on, piece, size_on}
use Rattle.liq_disk_header.proofs.Versions.{has_version}

-- the fields of a header of a version with a limit that may be
pub fields_of_version : (limit : ℕ) → IsLimit limit → (head : Head) (bytes : List ℕ) → head.limit ≡ limit
    → head.generation ≡ generation_on bytes → head.size ≡ size_on bytes → head.fields ≡ piece 1 32 bytes
    → head.stored ≡ piece (1 + fields_size (layout_with limit)) 32 bytes → HasFields (layout_with limit) head bytes
fields_of_version limit is head bytes limit_is generation size fields stored =
    let has = has_version limit is in
    let n = fields_size (layout_with limit) in
    let few : n ≤ 32 = let w = has.version.whole in omega arith in
    record {
      limit = limit_is ∙ has.limit_is;
      generation = generation;
      size = size;
      fields = ap (take n) fields ∙ take-take n 32 (drop 1 bytes) few;
      stored = stored;
    }

-- a header of which no field is wrong
pub record AreRight (layout : Layout) (odd : Bool) (bytes : List ℕ) : Type 0 where
  pub name : bytes_eq (name_on bytes) layout.name ≡ true
  pub generation : is_generation odd (generation_on bytes) ≡ true
  pub size : is_size (generation_on bytes) (size_on bytes) ≡ true
  pub own : bytes_eq (own_on layout bytes) layout.own ≡ true

pub are_right : (layout : Layout) (odd : Bool) (bytes : List ℕ) → first_place (place_tests layout odd bytes) ≡ None
    → AreRight layout odd bytes
are_right layout odd bytes fits =
    let first = passed (bytes_eq (name_on bytes) layout.name) 1
    (first_place (drop 1 (place_tests layout odd bytes))) fits in
    let second = passed (is_generation odd (generation_on bytes)) 9
    (first_place (drop 2 (place_tests layout odd bytes))) first.1 in
    let third = passed (is_size (generation_on bytes) (size_on bytes)) 17
    (first_place (drop 3 (place_tests layout odd bytes))) second.1 in
    let fourth = passed (bytes_eq (own_on layout bytes) layout.own) 25 None third.1 in
    record { name = first.0; generation = second.0; size = third.0; own = fourth.0 }
  where
    passed : (b : Bool) (place : ℕ) (others : Option ℕ) → (if not b then Some place else others) ≡ None → (b ≡ true)
        × (others ≡ None)
    passed true place others is = (refl, is)
    passed false place others is = absurd (cc (is))
