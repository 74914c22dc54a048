-- What the fields of a header have to be, and which they are.
use Rattle.std.specs.Prelude.{◌≡◌, ℕ, ◌%◌, List, [], ◌∷◌, length, take, get_or}
use Rattle.std.specs.Prelude.{Bool, not, ◌||◌, ◌&&◌, ◌==◌, nat_lt, nat_le, if◌then◌else◌}
use Rattle.std.specs.Str.{bytes_eq}
use Rattle.liq_disk_header.specs.declared.head.Head.{Head}
use Rattle.liq_disk_header.specs.Layout.{Layout, fields_on, fields_size, generation_on, least_header, name_on, own_on, size_on, stored_on}

-- the parity of a generation
abbrev pub is_odd : ℕ → Bool
is_odd n = (n % 2) == 1

-- The generations that a disk may have, from 1 on: the odd ones, or the even ones.
abbrev pub is_generation : Bool → ℕ → Bool
is_generation odd generation = nat_le 1 generation && (if odd then is_odd generation
    else not (is_odd generation))

-- The first generation begins with the opening state and has no checkpoint, every other has one.
abbrev pub is_size : ℕ → ℕ → Bool
is_size generation size = if generation == 1 then size == 0
    else nat_lt 0 size && nat_lt size 68719476737

-- what the fields of an open disk's header have to be, in the order of their places
abbrev pub place_tests : Layout → Bool → List ℕ → List (Bool × ℕ)
place_tests layout odd bytes =
    (not (bytes_eq (name_on bytes) layout.name), 1)
    ∷ (not (is_generation odd (generation_on bytes)), 9)
    ∷ (not (is_size (generation_on bytes) (size_on bytes)), 17)
    ∷ (not (bytes_eq (own_on layout bytes) layout.own), 25)
    ∷ []

-- fewer bytes than a header's, or a gate that isn't open
abbrev pub is_absent : List ℕ → Bool
is_absent bytes = nat_lt (length bytes) least_header || not (get_or bytes 0 0 == 1)

-- the version, and the fields of these bytes
pub record HasFields (layout : Layout) (head : Head) (bytes : List ℕ) : Type 0 where
  pub limit : head.limit ≡ layout.limit
  pub generation : head.generation ≡ generation_on bytes
  pub size : head.size ≡ size_on bytes
  pub fields : take (fields_size layout) head.fields ≡ fields_on layout bytes
  pub stored : head.stored ≡ stored_on layout bytes
