use Rattle.std.proofs.Common.{ℕ, ◌<◌, ◌≤◌, ◌-◌, List, length, arith, ap, subst, ◌∙◌}
use Rattle.liq_order.specs.Accounts.{Rows, Row, account_at, IsStrict}
use Rattle.liq_order.proofs.Rows.{nowhere}
use Rattle.liq_order.proofs.Windows.{above_last, window}
use Rattle.liq_order.proofs.accounts.Accounts.window.Goals as goal

found : (c : goal.After-min) → let l = c.self.inside.rows.items in record {
  ordered : c.saturating_sub.result ≤ c.min.result;
  smaller : (j : ℕ) → j < c.saturating_sub.result → account_at l j < c.args.account;
  greater : (j : ℕ) → c.min.result ≤ j → j < length l → c.args.account < account_at l j;
}
found c =
    let i = c.in-Some-Some in
    let value = c.deref.ensures.value in
    window c.self.inside.rows.items c.self.invariant.strict c.args.account i.field-0-0.now.0 i.field-0-1.now.0
    c.len-count.result c.saturating_sub.result c.min.result
    (subst (λ (l : List Row). 0 < length l) value i.ensures.item.3.0)
    (ap (λ (r : Row). r.0) (i.ensures.item.3.1 nowhere) ∙ ap (λ (l : List Row). account_at l 0) value)
    (ap (λ (r : Row). r.0) (i.ensures'.item.3.1 nowhere)
    ∙ ap (λ (l : List Row). account_at l (length l - 1)) c.deref-2.ensures.value)
    c.if-account-first.false c.if-last-account.false (omega (
      arith,
      c.len-count.ensures,
      c.deref.ensures.len,
      ap length value,
    )) c.saturating_sub.ensures c.min.ensures

pub returns-clause-ordered : goal.returns-clause-ordered
returns-clause-ordered c = (found c).ordered

pub returns-clause-smaller : goal.returns-clause-smaller
returns-clause-smaller c = subst (λ (p : Rows). (j : ℕ) → j < c.saturating_sub.result
    → account_at p.rows j < c.args.account) c.self.view_is (found c).smaller

pub returns-clause-greater : goal.returns-clause-greater
returns-clause-greater c = subst (λ (p : Rows). (j : ℕ) → c.min.result ≤ j → j < length p.rows
    → c.args.account < account_at p.rows j) c.self.view_is (found c).greater

pub returns-clause-strict : goal.returns-clause-strict
returns-clause-strict c = subst (λ (p : Rows). IsStrict p.rows) c.self.view_is c.self.invariant.strict

pub returns-then-last-account-clause-smaller : goal.returns-then-last-account-clause-smaller
returns-then-last-account-clause-smaller c =
    let i = c.in-Some-Some in
    let last = ap (λ (r : Row). r.0) (i.ensures'.item.3.1 nowhere)
    ∙ ap (λ (l : List Row). account_at l (length l - 1)) c.deref-2.ensures.value in
    subst (λ (p : Rows). (j : ℕ) → j < c.len-count.result → account_at p.rows j < c.args.account) c.self.view_is
    (λ j lt. above_last c.self.inside.rows.items c.self.invariant.strict c.args.account i.field-0-1.now.0 last
    c.if-last-account.true j
    (omega (arith, lt, c.len-count.ensures, c.deref.ensures.len, ap length c.deref.ensures.value)))
