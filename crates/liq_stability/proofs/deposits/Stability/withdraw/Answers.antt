use Rattle.std.proofs.Common.{◌≡◌, ◌-◌, ◌≤◌, sym, ap, ◌∙◌, subst, arith}
use Rattle.liq_tables.specs.Rows.{is_used_deposit}
use Rattle.liq_tables.specs.WithRoom.{written}
use Rattle.liq_types.specs.declared.figures.Deposit.{Deposit}
use Rattle.liq_types.specs.Tables.{Table}
use Rattle.liq_stability.specs.Kept.{IsSoundPool, finished_rows, left_in}
use Rattle.liq_stability.proofs.Keeping.{owned_sound, written_left}
use Rattle.liq_stability.proofs.deposits.Stability.withdraw.Goals as goal

rows : (c : goal.After-write) → c.write.new.self.rows ≡ left_in c.self.inside.deposits.rows c.self.inside.words
    c.args.account (c.position_of-balance.result.0 - c.min-paid.result)
rows c =
    c.write.ensures.rows ∙ ap (λ d. written is_used_deposit c.self.inside.deposits.rows c.args.account d)
    c.left_now-left.ensures
    ∙ written_left c.self.inside.deposits.rows c.self.inside.words c.args.account (c.position_of-balance.result.0
    - c.min-paid.result)

pub invariant_of-self : goal.invariant_of-self
invariant_of-self c =
    let s = c.self.inside in
    let cap : c.position_of-balance.result.0 ≤ s.words.total = subst (λ v. c.position_of-balance.result.0
    ≤ v.words.total) (sym c.self.view_is) c.position_of-balance.ensures.balance in
    subst (λ (t : Table Deposit). IsSoundPool (record s.words {
      total = s.words.total - c.min-paid.result;
      coll = s.words.coll - c.position_of-balance.result.1;
    }) (finished_rows s.finished.items) t) (sym (rows c))
    (owned_sound s.words (finished_rows s.finished.items) s.deposits.rows c.args.account (c.position_of-balance.result.0
    - c.min-paid.result) (s.words.total - c.min-paid.result) (s.words.coll - c.position_of-balance.result.1)
    c.self.invariant
    (omega (arith, c.self.invariant.total, cap)) (omega (arith, c.self.invariant.total)) (omega (
      arith,
      c.self.invariant.coll,
    )))
