-- The digests of a header and of a record, and what is written with them.
use Rattle.std.proofs.Common.{◌≡◌, ℕ, ◌+◌, List, [], ◌∷◌, ◌++◌, length, take, drop, replicate, refl, sym, ◌∙◌, ap, arith}
use Rattle.std.proofs.lemmas.List.{take_at, drop_at, drop-drop, append-nil}
use Rattle.byteorder.specs.Endian.{big_bytes}
use Rattle.sha2.specs.Sha256.{sha256}
use Rattle.sha2.proofs.Facts256.{length-sha256}
use Rattle.liq_disk_header.specs.Layout.{header_digest}
use Rattle.liq_disk_header.specs.RecordDigest.{record_digest}

-- ---- of a header

pub header_digest_is : (fields checkpoint : List ℕ) → sha256 (fields ++ checkpoint) ≡ header_digest fields checkpoint
unfolding header_digest
header_digest_is fields checkpoint = refl

pub length-header_digest : (fields checkpoint : List ℕ) → length (header_digest fields checkpoint) ≡ 32
unfolding header_digest
length-header_digest fields checkpoint = length-sha256 _

-- a digest written behind 32 bytes of fields, over zeros
pub header_is : (fields digest : List ℕ) → length fields ≡ 32 → length digest ≡ 32
    → take 32 (fields ++ drop (0 + length fields) (replicate 64 0)) ++ digest ++ drop (32 + length digest) (fields
    ++ drop (0 + length fields) (replicate 64 0)) ≡ fields ++ digest
header_is fields digest size digest_size =
    let zeros = replicate 64 0 in
    let front : take 32 (fields ++ drop (0 + length fields) zeros) ≡ fields =
    take_at fields (drop (0 + length fields) zeros) 32 size in
    let n : 32 + length digest ≡ 32 + 32 = omega arith in
    let m : 0 + length fields ≡ 32 = omega arith in
    let back : drop (32 + length digest) (fields ++ drop (0 + length fields) zeros) ≡ [] =
    ap (λ (k : ℕ). drop k (fields ++ drop (0 + length fields) zeros)) n
    ∙ sym (drop-drop 32 32 (fields ++ drop (0 + length fields) zeros))
    ∙ ap (drop 32) (drop_at fields (drop (0 + length fields) zeros) 32 size ∙ ap (λ (k : ℕ). drop k zeros) m) in
    (λ i. front i ++ digest ++ back i) ∙ append-nil (fields ++ digest)

-- ---- of a record

pub record_digest_is : (generation index : ℕ) (body : List ℕ)
    → sha256 (big_bytes 8 generation ++ big_bytes 8 index ++ body) ≡ record_digest generation index body
unfolding record_digest
record_digest_is generation index body = refl

pub length-record_digest : (generation index : ℕ) (body : List ℕ) → length (record_digest generation index body) ≡ 32
unfolding record_digest
length-record_digest generation index body = length-sha256 _

-- a body, a digest and a 0, written over zeros
pub record_is : (body digest : List ℕ) → length body ≡ 96 → length digest ≡ 32
    → take 96 (body ++ drop (0 + length body) (replicate 129 0)) ++ digest ++ drop (96 + length digest) (body
    ++ drop (0 + length body) (replicate 129 0)) ≡ (body ++ digest) ++ 0 ∷ []
record_is body digest size digest_size =
    let zeros = replicate 129 0 in
    let front : take 96 (body ++ drop (0 + length body) zeros) ≡ body =
    take_at body (drop (0 + length body) zeros) 96 size in
    let n : 96 + length digest ≡ 96 + 32 = omega arith in
    let m : 0 + length body ≡ 96 = omega arith in
    let back : drop (96 + length digest) (body ++ drop (0 + length body) zeros) ≡ 0 ∷ [] =
    ap (λ (k : ℕ). drop k (body ++ drop (0 + length body) zeros)) n
    ∙ sym (drop-drop 32 96 (body ++ drop (0 + length body) zeros))
    ∙ ap (drop 32) (drop_at body (drop (0 + length body) zeros) 96 size ∙ ap (λ (k : ℕ). drop k zeros) m) in
    (λ i. front i ++ digest ++ back i)
