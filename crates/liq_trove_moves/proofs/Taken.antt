-- What a trove that leaves has beside the books.
use Rattle.std.proofs.Common.{◌≡◌, ℕ, ◌≤◌, sym, subst, Some}
use Rattle.liq_types.specs.declared.figures.Trove.{Trove}
use Rattle.liq_types.specs.Tables.{at}
use Rattle.liq_troves.specs.declared.sums.Sums.{Sums}
use Rattle.liq_troves.specs.Rows.{pending}
use Rattle.liq_troves.specs.Standing.{Books, TrovesStand}
use Rattle.liq_troves.proofs.Standing.{trove_within}

pub record IsTaken (b : Books) (sums : Sums) (t : Trove) : Type 0 where
  pub mark_coll : t.mark_coll ≤ sums.coll
  pub mark_debt : t.mark_debt ≤ sums.debt
  pub coll : t.coll ≤ b.active_coll
  pub debt : t.debt ≤ b.active_debt
  pub pending_coll : pending t.stake sums.coll t.mark_coll ≤ b.default_coll
  pub pending_debt : pending t.stake sums.debt t.mark_debt ≤ b.default_debt

pub taken : (b : Books) (sums : Sums) (account : ℕ) (t : Trove) → sums ≡ b.sums → Some t ≡ at b.troves account
    → TrovesStand b → IsTaken b sums t
taken b sums account t same there h =
    subst (λ (s : Sums). IsTaken b s t) (sym same)
    (let w = trove_within b account t (sym there) h in
    record {
      coll = w.coll;
      debt = w.debt;
      pending_coll = w.pending_coll;
      pending_debt = w.pending_debt;
      mark_coll = w.stands.mark_coll;
      mark_debt = w.stands.mark_debt;
    })
