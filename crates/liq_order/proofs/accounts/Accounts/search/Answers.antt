use Rattle.std.proofs.Common.{◌≡◌, ap, sym, ◌∙◌, rules}
use Rattle.std.specs.Prelude.{◌+◌, IfOk, IfErr}
use Rattle.std.proofs.lemmas.List.Sorted.{answers_always}
use Rattle.liq_order.specs.Accounts.{Rows, Row, IsRowAt, IsGapFor}
use Rattle.liq_order.proofs.Windows.{searched_within}
use Rattle.liq_order.proofs.accounts.Accounts.search.Goals.{After-binary_search_by_key}
use Rattle.liq_order.proofs.accounts.Accounts.search.Goals as goal

-- what the search of the window tells of all rows
told : (c : After-binary_search_by_key) → let answer = c.binary_search_by_key in record {
  found : IfOk answer.result (λ i. IsRowAt c.args.self.now.rows c.args.account (c.window-low.result.0 + i));
  absent : IfErr answer.result (λ i. IsGapFor c.args.self.now.rows c.args.account (c.window-low.result.0 + i));
}
told c =
    let w = c.window-low in
    let found = c.binary_search_by_key in
    let by_key = found.ensures.position (λ (row : Row). row.0)
    (answers_always _ _ _ (λ f a r g called. search rules)) in
    let value : c.args.self.now.rows ≡ c.deref.result.now = sym (c.deref.ensures.value
    ∙ ap (λ (p : Rows). p.rows) c.self.view_is) in
    rw value (searched_within c.deref.result.now (rw value at w.ensures.strict) c.args.account w.result.0 w.result.1
    w.ensures.ordered (rw value at w.ensures.inside)
    (rw value at w.ensures.smaller) (rw value at w.ensures.greater) found.result found.ensures.bound by_key)

pub returns-in-Ok-clause-found : goal.returns-in-Ok-clause-found
returns-in-Ok-clause-found c = rw c.in-Ok.is at (told
    (goal.at.returns-in-Ok-clause-found c).After-binary_search_by_key).found

pub returns-in-Err-clause-absent : goal.returns-in-Err-clause-absent
returns-in-Err-clause-absent c = rw c.in-Err.is at (told
    (goal.at.returns-in-Err-clause-absent c).After-binary_search_by_key).absent
