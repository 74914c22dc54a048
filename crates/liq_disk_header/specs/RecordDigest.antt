-- The digest of a record.
use Rattle.std.specs.Prelude.{ℕ, List, ◌++◌}
use Rattle.byteorder.specs.Endian.{big_bytes}
use Rattle.sha2.specs.Sha256.{sha256}

-- the digest of the record of this number in this generation, with this body
unfoldable pub record_digest : ℕ → ℕ → List ℕ → List ℕ
record_digest generation index body = sha256 (big_bytes 8 generation ++ big_bytes 8 index ++ body)
