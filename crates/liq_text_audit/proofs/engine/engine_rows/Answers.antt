use Rattle.std.specs.Map.Iter.{deref_pair}
use Rattle.std.proofs.lemmas.Map.Iter.{rest_more, rest_all}
use Rattle.liq_text_audit.specs.Engine.{paid_row}
use Rattle.liq_text_audit.proofs.Paying.{accounts_last, accounts_next, pays_next, rows_last, rows_next}
use Rattle.liq_text_audit.proofs.engine.engine_rows.Goals as goal

pub engine_row-requires : goal.engine_row-requires
engine_row-requires c =
    let left = rest_more deref_pair c.loop-account.account-iterator c.next.new.self c.next.result (
      c.in-Some.account,
      c.in-Some.gains,
    ) c.in-Some.is c.next.ensures.steps in
    (pays_next _ _ _ _ left c.loop-account.invariant.pays).0

pub loop-account-preserved : goal.loop-account-preserved
loop-account-preserved c =
    let left = rest_more deref_pair c.loop-account.account-iterator c.next.new.self c.next.result (
      c.in-Some.account,
      c.in-Some.gains,
    ) c.in-Some.is c.next.ensures.steps in
    let put = c.in-Ok.ensures.items in
    record {
      rows = λ s stands. rows_next (paid_row s) c.loop-account.rows.items _ _ c.engine_row.result _ _ _ left put
          (c.engine_row.ensures.row s stands) (c.loop-account.invariant.rows s stands);
      accounts = accounts_next c.loop-account.rows.items _ _ c.engine_row.result _ _ _ left put
          c.engine_row.ensures.account c.loop-account.invariant.accounts;
      pays = (pays_next _ _ _ _ left c.loop-account.invariant.pays).1;
    }

pub returns-clause-rows : goal.returns-clause-rows
returns-clause-rows c s stands =
    let none = rest_all deref_pair c.loop-account.account-iterator c.next.new.self c.next.result c.in-None.is
    c.next.ensures.steps in
    rows_last (paid_row s) c.loop-account.rows.items _ _ none (c.loop-account.invariant.rows s stands)

pub returns-clause-accounts : goal.returns-clause-accounts
returns-clause-accounts c =
    let none = rest_all deref_pair c.loop-account.account-iterator c.next.new.self c.next.result c.in-None.is
    c.next.ensures.steps in
    accounts_last c.loop-account.rows.items _ _ none c.loop-account.invariant.accounts
