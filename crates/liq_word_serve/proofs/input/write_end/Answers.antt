use Rattle.std.proofs.Common.{List, Option, ℕ, ap, subst}
use Rattle.std.proofs.lemmas.List.{map-id}
use Rattle.liq_types.specs.declared.entries.Entry.{Entry}
use Rattle.liq_text_lines.specs.Writing.{Writes}
use Rattle.liq_text_scripts.specs.Output.{served}
use Rattle.liq_word_serve.proofs.input.write_end.Goals as goal

-- what is written is the entries as they are
pub returns-in-Ok-clause-written : goal.returns-in-Ok-clause-written
returns-in-Ok-clause-written g c =
    subst (λ (before : Option (List ℕ)). Writes before (served c.args.history.now)
    (g.K.Sink.at c.write_served.new.out).held) (ap (λ at. at.held) c.show.ensures.same)
    (subst (λ (l : List Entry). Writes (g.K.Sink.at c.show.new.self).held (served l)
    (g.K.Sink.at c.write_served.new.out).held) (map-id c.args.history.now) c.in-Ok.ensures.ok)
