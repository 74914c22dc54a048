use Rattle.std.proofs.Common.{◌≡◌, ◌+◌, ◌<◌, ◌^◌, ◌∙◌, ap, arith, take}
use Rattle.std.specs.Prelude.{unwrap_or}
use Rattle.liq_types.specs.Tables.{at}
use Rattle.liq_text_audit.specs.Paid.{paid_table}
use Rattle.liq_text_audit.proofs.Gains.{paid_fits}
use Rattle.liq_text_audit.proofs.paid.gains_paid.Goals as goal

pub overflow_add-had : goal.overflow_add-had
overflow_add-had c =
    let events = c.args.events.now in
    let i = c.loop-event.event-index in
    let own = c.in-Own in
    let had : c.unwrap_or-had.result ≡ unwrap_or (at (paid_table (take i events)) own.account) 0 =
    c.unwrap_or-had.ensures ∙ ap (λ o. unwrap_or o 0) (c.copied.ensures ∙ c.get.ensures.value)
    ∙ ap (λ t. unwrap_or (at t own.account) 0) c.loop-event.invariant in
    let fits : unwrap_or (at (paid_table (take i events)) own.account) 0 + own.gain < 2 ^ 64 =
    paid_fits events i _ own.account own.put own.paid own.gain own.amount c.loop-event-test.true own.is (2 ^ 64)
    (c.requires own.account) in
    omega (arith, had, fits)
