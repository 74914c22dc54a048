use Rattle.std.proofs.Common.{◌≡◌, ◌++◌, ◌∷◌, [], ℕ, List, Ok, Err, Option, Result, sym, subst, ◌∙◌, append_assoc, append-nil}
use Rattle.std.specs.Prelude.{map, codes}
use Rattle.liq_rule_step.specs.History.{Entry}
use Rattle.liq_outside.specs.declared.failed.Failed.{Failed}
use Rattle.liq_text_scripts.specs.Output.{served}
use Rattle.liq_text_scripts.specs.Sending.{Sends, replies_text, history_text}
use Rattle.liq_text_scripts.proofs.Sent.{sends_more, sends_cut, sends_fault, all_written, part_written}
use Rattle.liq_text_scripts.proofs.output.write_served.Given.{Over}
use Rattle.liq_text_scripts.proofs.output.write_served.Goals as goal

abbrev title : List ℕ
title = codes "history" ++ 10 ∷ []

-- the parts of the output, one behind the other
parts : (history : List Entry) → (replies_text history ++ title) ++ history_text history ≡ served history
parts history = append_assoc (replies_text history) title (history_text history)
    ∙ sym (append_assoc (replies_text history) (codes "history") (10 ∷ history_text history))

-- all parts were sent, or the last of them was cut
sent_served : (result : Result (Unit {0}) Failed) (history : List Entry) (w w1 w2 w3 : List ℕ)
    (before mid mid' after : Option (List ℕ)) → Sends (Ok tt) w (replies_text history) w1 before mid
    → Sends (Ok tt) w1 title w2 mid mid' → Sends result w2 (history_text history) w3 mid' after
    → Sends result w (served history) w3 before after
sent_served result history w w1 w2 w3 before mid mid' after replies heading entries =
    subst (λ (t : List ℕ). Sends result w t w3 before after) (parts history)
    (sends_more result w (replies_text history ++ title) w2 (history_text history) w3 before mid' after
    (sends_more (Ok tt) w (replies_text history) w1 title w2 before mid mid' replies heading) entries)

-- nothing is left to send
flushed : (result : Result (Unit {0}) Failed) (history : List Entry) (w w1 w2 : List ℕ) (before mid after : Option
    (List ℕ)) → Sends (Ok tt) w (served history) w1 before mid → Sends result w1 [] w2 mid after
    → Sends result w (served history) w2 before after
flushed result history w w1 w2 before mid after sent flush =
    subst (λ (t : List ℕ). Sends result w t w2 before after) (append-nil (served history)) (sends_more result w
    (served history) w1 [] w2 before mid after sent flush)

-- all parts were sent, and what waited of them is written, as far as the result says
all_sent : (g : Over) (c : goal.After-flush g) → Sends c.flush.result c.args.outbox.now
    (served (map g.E.ShownEntry.entry c.args.entries.now)) c.flush.new.self (g.K.Sink.at c.args.out.now).held
    (g.K.Sink.at c.flush.new.out).held
all_sent g c =
    let at = g.K.Sink.at in
    let history = map g.E.ShownEntry.entry c.args.entries.now in
    flushed c.flush.result history c.args.outbox.now c.send_entries.new.outbox c.flush.new.self
    (at c.args.out.now).held (at c.send_entries.new.out).held (at c.flush.new.out).held
    (sent_served (Ok tt) history c.args.outbox.now c.send_replies.new.outbox c.send.new.self c.send_entries.new.outbox
    (at c.args.out.now).held (at c.send_replies.new.out).held (at c.send.new.out).held (at c.send_entries.new.out).held
    c.in_ok-send_replies.ensures.sends c.in_ok-send.ensures.sends c.in_ok-send_entries.ensures.sends)
    c.flush.ensures.sends

pub returns-in_err-send_replies-clause-err : goal.returns-in_err-send_replies-clause-err
returns-in_err-send_replies-clause-err g c =
    let at = g.K.Sink.at in
    let history = map g.E.ShownEntry.entry c.args.entries.now in
    let fault = c.in_err-send_replies.field-0.0 in
    let waits = c.send_replies.new.outbox in
    let before = (at c.args.out.now).held in
    let after = (at c.send_replies.new.out).held in
    let cut = sends_cut fault c.args.outbox.now (replies_text history ++ title) waits
    (history_text history) waits before after
    (sends_cut fault c.args.outbox.now (replies_text history) waits title waits before after
    c.in_err-send_replies.ensures.sends) in
    part_written c.from_residual.result c.args.outbox.now (served history) waits before after c.requires
    (sends_fault c.from_residual.result fault c.args.outbox.now
    (served history) waits before after c.from_residual.ensures.1
    (subst (λ (t : List ℕ). Sends (Err fault) c.args.outbox.now t waits before after) (parts history) cut))

pub returns-in_err-send-clause-err : goal.returns-in_err-send-clause-err
returns-in_err-send-clause-err g c =
    let at = g.K.Sink.at in
    let history = map g.E.ShownEntry.entry c.args.entries.now in
    let fault = c.in_err-send.field-0.0 in
    let here = sends_more (Err fault) c.args.outbox.now
    (replies_text history) c.send_replies.new.outbox title c.send.new.self (at c.args.out.now).held
    (at c.send_replies.new.out).held
    (at c.send.new.out).held c.in_ok-send_replies.ensures.sends c.in_err-send.ensures.sends in
    let cut = sends_cut fault c.args.outbox.now (replies_text history ++ title) c.send.new.self
    (history_text history) c.send.new.self (at c.args.out.now).held (at c.send.new.out).held here in
    part_written c.from_residual-in_err-send.result c.args.outbox.now (served history) c.send.new.self
    (at c.args.out.now).held (at c.send.new.out).held c.requires
    (sends_fault c.from_residual-in_err-send.result fault c.args.outbox.now (served history) c.send.new.self
    (at c.args.out.now).held (at c.send.new.out).held c.from_residual-in_err-send.ensures.1
    (subst (λ (t : List ℕ). Sends (Err fault) c.args.outbox.now t c.send.new.self (at c.args.out.now).held
    (at c.send.new.out).held) (parts history) cut))

pub returns-in_err-send_entries-clause-err : goal.returns-in_err-send_entries-clause-err
returns-in_err-send_entries-clause-err g c =
    let at = g.K.Sink.at in
    let history = map g.E.ShownEntry.entry c.args.entries.now in
    let fault = c.in_err-send_entries.field-0.0 in
    part_written c.from_residual-in_err-send_entries.result c.args.outbox.now (served history) c.send_entries.new.outbox
    (at c.args.out.now).held (at c.send_entries.new.out).held c.requires
    (sends_fault c.from_residual-in_err-send_entries.result fault c.args.outbox.now
    (served history) c.send_entries.new.outbox (at c.args.out.now).held
    (at c.send_entries.new.out).held c.from_residual-in_err-send_entries.ensures.1
    (sent_served (Err fault) history c.args.outbox.now c.send_replies.new.outbox c.send.new.self
    c.send_entries.new.outbox (at c.args.out.now).held (at c.send_replies.new.out).held (at c.send.new.out).held
    (at c.send_entries.new.out).held
    c.in_ok-send_replies.ensures.sends c.in_ok-send.ensures.sends c.in_err-send_entries.ensures.sends))

pub returns-clause-ok : goal.returns-clause-ok
returns-clause-ok g c =
    let at = g.K.Sink.at in
    let history = map g.E.ShownEntry.entry c.args.entries.now in
    all_written c.flush.result c.args.outbox.now (served history) c.flush.new.self (at c.args.out.now).held
    (at c.flush.new.out).held c.requires c.flush.ensures.empty
    (all_sent g c)

pub returns-clause-err : goal.returns-clause-err
returns-clause-err g c =
    let at = g.K.Sink.at in
    let history = map g.E.ShownEntry.entry c.args.entries.now in
    part_written c.flush.result c.args.outbox.now (served history) c.flush.new.self (at c.args.out.now).held
    (at c.flush.new.out).held c.requires
    (all_sent g c)
