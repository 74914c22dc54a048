-- What stands where in a header. The gate is at place 0, the name from place 1 on, the generation
-- at place 9, and the checkpoint's length at place 17. Then come the fields that only one version
-- has, the digest, and the checkpoint.
use Rattle.std.specs.Prelude.{◌≡◌, ◌≤◌, ℕ, ◌+◌, ◌^◌, ◌==◌, if◌then◌else◌}
use Rattle.std.specs.Prelude.{List, [], ◌∷◌, ◌++◌, length, take, drop}
use Rattle.std.specs.Str.{bytes_eq}
use Rattle.byteorder.specs.Endian.{big_bytes}
use Rattle.sha2.specs.Sha256.{sha256}
use Rattle.liq_types.specs.declared.amounts.TheConstants.{LIM, LIM_OF_VERSION_1}
use Rattle.liq_types.specs.Image.{IsLimit}
use Rattle.liq_wire.specs.Fields.{number_at}

-- A version of the header: its name, the bytes of the fields of its own, which are the same in each
-- header of it, and the limit under which the commands behind it are.
pub record Layout : Type 0 where
  pub name : List ℕ
  pub own : List ℕ
  pub limit : ℕ

-- LIQJRNL1, with no field of its own
abbrev pub version_1 : Layout
version_1 = record {
  name = 76 ∷ 73 ∷ 81 ∷ 74 ∷ 82 ∷ 78 ∷ 76 ∷ 49 ∷ [];
  own = [];
  limit = LIM_OF_VERSION_1;
}

-- LIQJRNL2, with the limit as a field
abbrev pub version_2 : Layout
version_2 = record {
  name = 76 ∷ 73 ∷ 81 ∷ 74 ∷ 82 ∷ 78 ∷ 76 ∷ 50 ∷ [];
  own = big_bytes 8 LIM;
  limit = LIM;
}

-- the version with this limit
abbrev pub layout_with : ℕ → Layout
layout_with limit = if limit == LIM then version_2 else version_1

-- the version with this name, which is the first where it isn't the second's
abbrev pub layout_named : List ℕ → Layout
layout_named name = if bytes_eq name version_2.name then version_2 else version_1

-- how many bytes stand between the gate and the digest
abbrev pub fields_size : Layout → ℕ
fields_size layout = 24 + length layout.own

abbrev pub header_size : Layout → ℕ
header_size layout = 1 + fields_size layout + 32

-- the fewest bytes of a header, whatever its version
abbrev pub least_header : ℕ
least_header = 57

-- the most bytes of a header of any version
abbrev pub greatest_header : ℕ
greatest_header = 65

-- the farthest place where records may begin: behind a header and the most bytes of a checkpoint
abbrev pub start_most : ℕ
start_most = greatest_header + 2 ^ 36

-- The limit is one of two, and the place is behind a header of its version and a checkpoint.
pub record StartsWithin (limit start : ℕ) : Type 0 where
  pub is_limit : IsLimit limit
  pub least : header_size (layout_with limit) ≤ start
  pub most : start ≤ header_size (layout_with limit) + 2 ^ 36

-- What a version has to meet: its name fills the places up to the generation, its fields end within
-- the least header, the header ends within the greatest, and the version is known by its name and
-- by its limit.
pub record IsVersion (layout : Layout) : Type 0 where
  pub named : length layout.name ≡ 8
  pub fields : 1 + fields_size layout ≤ least_header
  pub whole : header_size layout ≤ greatest_header
  pub limit : IsLimit layout.limit
  pub by_name : layout_named layout.name ≡ layout
  pub by_limit : layout_with layout.limit ≡ layout

-- so many bytes from a place on
abbrev pub piece : ℕ → ℕ → List ℕ → List ℕ
piece place count bytes = take count (drop place bytes)

abbrev pub name_on : List ℕ → List ℕ
name_on bytes = piece 1 8 bytes

-- the version of a header
abbrev pub layout_on : List ℕ → Layout
layout_on bytes = layout_named (name_on bytes)

abbrev pub generation_on : List ℕ → ℕ
generation_on bytes = number_at 9 8 bytes

-- the checkpoint's length
abbrev pub size_on : List ℕ → ℕ
size_on bytes = number_at 17 8 bytes

-- the fields that only this version has
abbrev pub own_on : Layout → List ℕ → List ℕ
own_on layout bytes = piece 25 (length layout.own) bytes

-- all fields in front of the digest
abbrev pub fields_on : Layout → List ℕ → List ℕ
fields_on layout bytes = piece 1 (fields_size layout) bytes

-- the digest that is stored in the header
abbrev pub stored_on : Layout → List ℕ → List ℕ
stored_on layout bytes = piece (1 + fields_size layout) 32 bytes

abbrev pub checkpoint_on : Layout → List ℕ → List ℕ
checkpoint_on layout bytes = piece (header_size layout) (size_on bytes) bytes

-- where the records begin
abbrev pub start_on : Layout → List ℕ → ℕ
start_on layout bytes = header_size layout + size_on bytes

-- the digest of a header: that of the fields in front of it and the checkpoint
unfoldable pub header_digest : List ℕ → List ℕ → List ℕ
header_digest fields checkpoint = sha256 (fields ++ checkpoint)

-- the digest that should be stored there
abbrev pub digest_on : Layout → List ℕ → List ℕ
digest_on layout bytes = header_digest (fields_on layout bytes) (checkpoint_on layout bytes)

-- the fields of a header that is written
abbrev pub fields_of : Layout → ℕ → ℕ → List ℕ
fields_of layout generation size = layout.name ++ big_bytes 8 generation ++ big_bytes 8 size
    ++ layout.own

-- a header behind its gate: the fields and their digest
abbrev pub header_of : Layout → ℕ → List ℕ → List ℕ
header_of layout generation checkpoint =
    let fields = fields_of layout generation (length checkpoint) in
    fields ++ header_digest fields checkpoint
