use Rattle.std.proofs.Common.{◌∙◌, Ok, ℕ, ap}
use Rattle.liq_journal.specs.declared.answers.Look.TheVariants.{Open}
use Rattle.liq_journal.proofs.Heading.{is_open}
use Rattle.liq_journal.proofs.HeaderFound.{found_absent, found_damaged, look_open}
use Rattle.liq_journal.proofs.laws.a_look_tells_the_header.Goals as goal

pub returns-clause-damaged : goal.returns-clause-damaged
returns-clause-damaged c = found_damaged

pub returns-clause-absent : goal.returns-clause-absent
returns-clause-absent c = found_absent

pub returns-clause-open_on : goal.returns-clause-open_on
returns-clause-open_on c = λ odd held w found. let h = (is_open odd held w found).headed
    in look_open odd held h.gate h.tests ∙ ap (λ (g : ℕ). Ok (Open g)) h.generation_is
