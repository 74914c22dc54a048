use Rattle.std.proofs.Common.{ℕ, List, Ok, Err, sym, subst, ◌∙◌}
use Rattle.std.specs.List.{flat_map}
use Rattle.liq_types.specs.declared.entries.Entry.{Entry}
use Rattle.liq_text_scripts.specs.Output.{session_text}
use Rattle.liq_text_scripts.specs.Sending.{Sends, heading}
use Rattle.liq_text_scripts.proofs.Own.{own_line, own-none, own-text, session_part}
use Rattle.liq_text_scripts.proofs.Sent.{sends_nothing, sends_more, sends_cut, sends_fault}
use Rattle.liq_text_scripts.proofs.output.send_session.Goals as goal

pub returns-then-not-has_entries-clause-sends : goal.returns-then-not-has_entries-clause-sends
returns-then-not-has_entries-clause-sends g c =
    let before = (g.K.Sink.at c.args.out.now).held in
    let none = own-none g.E.ShownEntry.entry c.args.session c.args.entries.now (sym c.requires.known
    ∙ c.if-not-has_entries.true) in
    subst (λ (own : List Entry). Sends (Ok tt) c.args.outbox.now (session_text c.args.session own)
    c.args.outbox.now before before) (sym none) (sends_nothing c.args.outbox.now before)

pub returns-in_err-send-clause-sends : goal.returns-in_err-send-clause-sends
returns-in_err-send-clause-sends g c =
    let at = g.K.Sink.at in
    let entry = g.E.ShownEntry.entry in
    let entries = c.args.entries.now in
    let fault = c.in_err-send.field-0.0 in
    let text = own-text entry c.args.session entries (sym c.requires.known ∙ c.if-not-has_entries.false) in
    sends_fault c.from_residual.result fault c.args.outbox.now
    (session_part entry entries c.args.session) c.send.new.self (at c.args.out.now).held
    (at c.send.new.out).held c.from_residual.ensures.1
    (subst (λ (t : List ℕ). Sends (Err fault) c.args.outbox.now t c.send.new.self (at c.args.out.now).held
    (at c.send.new.out).held) (sym text)
    (sends_cut fault c.args.outbox.now (heading c.args.session) c.send.new.self
    (flat_map (own_line entry c.args.session) entries) c.send.new.self (at c.args.out.now).held
    (at c.send.new.out).held c.in_err-send.ensures.sends))

pub returns-clause-sends : goal.returns-clause-sends
returns-clause-sends g c =
    let at = g.K.Sink.at in
    let entry = g.E.ShownEntry.entry in
    let entries = c.args.entries.now in
    let text = own-text entry c.args.session entries (sym c.requires.known ∙ c.if-not-has_entries.false) in
    subst (λ (t : List ℕ). Sends c.send_each.result c.args.outbox.now t c.send_each.new.outbox (at c.args.out.now).held
    (at c.send_each.new.out).held) (sym text)
    (sends_more c.send_each.result c.args.outbox.now (heading c.args.session) c.send.new.self
    (flat_map (own_line entry c.args.session) entries) c.send_each.new.outbox (at c.args.out.now).held
    (at c.send.new.out).held (at c.send_each.new.out).held c.in_ok-send.ensures.sends c.send_each.ensures.sends)
