-- Keys that differ, and what a table has at them after a row was written or taken out.
use Rattle.std.proofs.Common.{◌≡◌, ℕ, Bool, true, false, refl, sym, subst, ◌∙◌, arith}
use Rattle.std.specs.Prelude.{◌≢◌, ◌==◌}
use Rattle.std.specs.Ordering.{nat_cmp, is_eq}
use Rattle.std.proofs.lemmas.Bool.Decides.{nat_tests}
use Rattle.liq_types.specs.Tables.{Table, at, put, without}
use Rattle.liq_types.proofs.Lookups as lookups
pub use Rattle.liq_types.proofs.Lookups.{is_eq-same, at-put_same, at-without_same}

pub differ : (a b : ℕ) → is_eq (nat_cmp a b) ≡ false → a ≢ b
differ a b h e = clash (sym (subst (λ n. is_eq (nat_cmp a n) ≡ true) e (is_eq-same a)) ∙ h) where
  clash : true ≡ false → ⊥
  clash x = cc

unequal : (a b : ℕ) → b ≢ a → (a == b) ≡ false
unequal a b n = by (a == b) refl where
  by : (c : Bool) → (a == b) ≡ c → c ≡ false
  by true e = let same : b ≡ a = grind (arith, nat_tests, e) in absurd (n same)
  by false e = refl

module _ {X : Type 0} where
  pub at-put_other : (table : Table X) (key q : ℕ) (x : X) → q ≢ key → at (put table key x) q ≡ at table q
  at-put_other table key q x n = lookups.at-put_other table key x q (unequal key q n)

  pub at-without_other : (table : Table X) (key q : ℕ) → q ≢ key → at (without table key) q ≡ at table q
  at-without_other table key q n = lookups.at-without_other table key q (unequal key q n)
