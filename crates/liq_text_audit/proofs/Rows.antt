-- The rows of a review.
use Rattle.std.proofs.Common.{◌≡◌, ℕ, ◌≤◌, Bool, true, cond, nat_le, List, [], ◌∷◌, length, refl, ap, ◌∙◌, arith}
use Rattle.std.specs.Prelude.{All, map, count_by, ◌&&◌}
use Rattle.std.proofs.lemmas.Bool.Decides.{nat_tests}
use Rattle.std.proofs.lemmas.List.Sums.{sum_by-cons}
use Rattle.liq_types.specs.declared.amounts.TheConstants.{LIM}
use Rattle.liq_types.specs.declared.events.PoolEvent.{PoolEvent}
use Rattle.liq_types.specs.PlainLedger.{offsets_coll}
use Rattle.liq_types.specs.State.{State}
use Rattle.liq_audit.specs.declared.rows.Row.{Row}
use Rattle.liq_audit.specs.Auditable.{row_of, owners_of, EnclosesShare, IsWithinRow}
use Rattle.liq_audit.proofs.Auditing.{encloses_rows}
use Rattle.liq_audit_laws.proofs.Auditing.{auditable, within_with}
use Rattle.liq_text_audit.specs.Engine.{engine_row, engine_rows, rows_of}
use Rattle.liq_text_audit.specs.Shown.{is_within}
use Rattle.liq_text_audit.proofs.Runs.{IsFinished}

-- ---- all are within

is_within-true : (row : Row) → IsWithinRow row → is_within row ≡ true
is_within-true row h = both (both (both (le h.balance_hi) (le h.balance_lo)) (le h.gain_hi)) (le h.gain_lo) where
  le : {a b : ℕ} → a ≤ b → nat_le a b ≡ true
  le {a} {b} l = grind (arith, nat_tests, l)

  both : {p q : Bool} → p ≡ true → q ≡ true → (p && q) ≡ true
  both {p} {q} x y = ap (λ b. b && q) x ∙ y

module _ (s : State) (told : List PoolEvent) (h : IsFinished s told) (gains : offsets_coll told ≤ LIM) where
  count_all : (accounts : List ℕ) → count_by is_within (map (row_of told) (map (engine_row s told) accounts))
      ≡ length (map (row_of told) (map (engine_row s told) accounts))
  count_all [] = refl
  count_all (account ∷ accounts) =
      let engine = engine_row s told account in
      let row = within_with told h.lawful gains h.few s engine (h.shares account) refl refl in
      let one = ap {B = ℕ} (λ b. cond b 1 0) (is_within-true (row_of told engine) row) in
      let all = sum_by-cons (λ (r : Row). cond (is_within r) 1 0) (row_of told engine)
      (map (row_of told) (map (engine_row s told) accounts)) in
      let more = count_all accounts in
      omega (arith, all, one, more)

  pub all_within : count_by is_within (rows_of s told) ≡ length (rows_of s told)
  all_within = count_all (owners_of told)

  pub all_enclose : All (EnclosesShare told) (rows_of s told)
  all_enclose = encloses_rows told (auditable told h.lawful gains h.few) (engine_rows s told)
