use Rattle.std.proofs.Common.{◌∙◌, Err, ap, sym}
use Rattle.liq_store.proofs.OneDisk.{base_fails, fails_on, leads_on, uncounted}
use Rattle.liq_store.proofs.standing.hold.Goals as goal

pub returns-in-Err-clause-holds : goal.returns-in-Err-clause-holds
returns-in-Err-clause-holds g c held w told journal limit checkpoint counted =
    base_fails w c.in-Err.why (c.in-Err.ensures.begins w (journal.generation_is ∙ sym c.generation.ensures) (limit
    ∙ sym c.limit.ensures.known) (checkpoint ∙ sym c.deref.ensures.value))

pub returns-in-Ok-replay-clause-holds : goal.returns-in-Ok-replay-clause-holds
returns-in-Ok-replay-clause-holds g c held w told journal limit checkpoint counted =
    let begun = c.in-Ok.ensures.begins w (journal.generation_is ∙ sym c.generation.ensures) (limit
    ∙ sym c.limit.ensures.known) (checkpoint ∙ sym c.deref.ensures.value) in
    leads_on w begun.0 c.replay.new.protocol begun.1 (c.in-Ok-replay.ensures.replayed held w begun.0 told journal
    counted begun.2)

pub returns-in-Err-replay-clause-holds : goal.returns-in-Err-replay-clause-holds
returns-in-Err-replay-clause-holds g c held w told journal limit checkpoint counted =
    let begun = c.in-Ok.ensures.begins w (journal.generation_is ∙ sym c.generation.ensures) (limit
    ∙ sym c.limit.ensures.known) (checkpoint ∙ sym c.deref.ensures.value) in
    fails_on w begun.0 c.replay.new.protocol c.in-Err-replay.why begun.1 (c.in-Err-replay.ensures.replayed held w
    begun.0 told journal counted begun.2)

pub returns-in-Err-clause-cause : goal.returns-in-Err-clause-cause
returns-in-Err-clause-cause g c = uncounted c.in-Err.why _ _ (λ is. c.in-Err.ensures.no_device (λ i. Err (is i)))
    (ap (λ d. (g.D.Disk.at d).faults) c.close.ensures)
