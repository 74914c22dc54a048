use Rattle.std.proofs.Common.{◌≡◌, ◌+◌, ℕ, sym, ap, ◌∙◌, subst, arith}
use Rattle.std.specs.Prelude.{IsTrue, slice_index, IfSome}
use Rattle.liq_types.specs.Soundness.{is_sound_deposit}
use Rattle.liq_stability.specs.Kept.{Kept, IsDepositOf, finished_rows, sum_at}
use Rattle.liq_stability.proofs.Keeping.{found_sound}
use Rattle.liq_stability.proofs.deposits.Stability.position_of.Goals as goal

sound : (c : goal.After-position-arg-1)
    → IsDepositOf c.self.inside.words (finished_rows c.self.inside.finished.items) c.in-Some.deposit.now
sound c =
    let s = c.self.inside in
    subst (λ o. IfSome o (λ d. IsDepositOf s.words (finished_rows s.finished.items) d.now)) c.in-Some.is
    (found_sound s.words (finished_rows s.finished.items) s.deposits.rows c.args.account c.get.result c.get.ensures.row
    c.self.invariant)

pub position-requires-clause-amount : goal.position-requires-clause-amount
position-requires-clause-amount c = (sound c).amount

pub position-requires-clause-deposit : goal.position-requires-clause-deposit
position-requires-clause-deposit c =
    let s = c.self.inside in
    let d = c.in-Some.deposit.now in
    let first : slice_index c.four.result 0 ≡ sum_at s.words (finished_rows s.finished.items) (d.epoch, d.scale) =
    ap (λ l. slice_index l 0) c.four.ensures.sums ∙ ap (λ (v : Kept). sum_at v.words v.finished (d.epoch, d.scale + 0))
    (sym c.self.view_is)
    ∙ ap (λ n. sum_at s.words (finished_rows s.finished.items) (d.epoch, n)) (none d.scale) in
    subst (λ n. IsTrue (is_sound_deposit (s.words.epoch, s.words.scale) n d)) (sym first) (sound c).sound where
      none : (k : ℕ) → k + 0 ≡ k
      none k = omega arith
