-- The records behind a header, as bytes.
use Rattle.std.specs.Prelude.{ℕ, zero, suc, List, [], ◌∷◌, length, take, drop, get_or}
use Rattle.std.specs.Prelude.{Bool, ◌&&◌, ◌==◌, nat_lt, if◌then◌else◌}

-- a record begins here: an open gate, and its 128 bytes are there
abbrev pub begins_whole : List ℕ → Bool
begins_whole bytes = (get_or bytes 0 0 == 1) && nat_lt 128 (length bytes)

-- The bodies and digests of the records, up to the first whose gate is missing or not 1, or whose
-- bytes are not all there, and no more than `most` of them.
unfoldable pub records : ℕ → List ℕ → List (List ℕ)
records zero bytes = []
records (suc most) bytes =
    if begins_whole bytes then take 128 (drop 1 bytes) ∷ records most (drop 129 bytes) else []
