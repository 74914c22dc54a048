use Rattle.std.proofs.Common.{ℕ, List, sym, subst}
use Rattle.std.proofs.lemmas.List.Folds.{flat_map-map}
use Rattle.liq_text_scripts.specs.declared.output.Part.TheVariants.{Call}
use Rattle.liq_text_scripts.specs.Sending.{part_text}
use Rattle.liq_text_scripts.specs.Sending.{Sends}
use Rattle.liq_text_scripts.proofs.output.send_entries.Goals as goal

pub returns-clause-sends : goal.returns-clause-sends
returns-clause-sends g c =
    let at = g.K.Sink.at in
    subst (λ (t : List ℕ). Sends c.send_each.result c.args.outbox.now t c.send_each.new.outbox (at c.args.out.now).held
    (at c.send_each.new.out).held)
    (sym (flat_map-map (part_text Call) g.E.ShownEntry.entry c.args.entries.now)) c.send_each.ensures.sends
