-- The parity of the generations that a disk may have.
use Rattle.std.proofs.Common.{◌≡◌, ℕ, ◌+◌, ◌≤◌, Bool, true, false, not, ◌&&◌, nat_le, if◌then◌else◌, refl, ◌∙◌, ap, arith}
use Rattle.std.proofs.lemmas.Bool.Decides.{nat_tests}
use Rattle.liq_disk_header.specs.Header.{is_generation, is_odd}

both : (a b : Bool) → (a && b) ≡ true → (a ≡ true) × (b ≡ true)
both true b is = (refl, is)
both false b is = absurd (cc (is))

same : (b odd : Bool) → (if odd then b else not b) ≡ true → b ≡ odd
same b true is = is
same true false is = absurd (cc (is))
same false false is = refl

either : (b : Bool) → (if b then b else not b) ≡ true
either true = refl
either false = refl

tests : (odd : Bool) (generation : ℕ) → is_generation odd generation ≡ true → (nat_le 1 generation ≡ true)
    × ((if odd then is_odd generation else not (is_odd generation)) ≡ true)
tests odd generation is = both (nat_le 1 generation) (if odd then is_odd generation else not (is_odd generation)) is

-- the generation is one of this disk
pub parity_of : (odd : Bool) (generation : ℕ) → is_generation odd generation ≡ true → is_odd generation ≡ odd
parity_of odd generation is = same (is_odd generation) odd (tests odd generation is).1

-- they are from 1 on
pub from_one : (odd : Bool) (generation : ℕ) → is_generation odd generation ≡ true → 1 ≤ generation
from_one odd generation is = let first = (tests odd generation is).0 in grind (arith, nat_tests)

-- each is one of the disk of its parity
pub of_its_parity : (generation : ℕ) → 1 ≤ generation → is_generation (is_odd generation) generation ≡ true
of_its_parity generation first =
    let some : nat_le 1 generation ≡ true = grind (arith, nat_tests) in
    ap (λ (b : Bool). b && (if is_odd generation then is_odd generation else not (is_odd generation))) some
    ∙ either (is_odd generation)

-- the next one is the other disk's
pub next_parity : (generation : ℕ) → is_odd (generation + 1) ≡ not (is_odd generation)
next_parity generation = grind (arith, nat_tests)
