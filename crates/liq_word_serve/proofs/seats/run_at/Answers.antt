use Rattle.std.proofs.Common.{◌≤◌, length, arith, sym, ap, ◌∙◌, subst}
use Rattle.std.specs.Prelude.{All}
use Rattle.std.proofs.lemmas.List.{length-map}
use Rattle.std.proofs.lemmas.Slice.Zip.{AllZip-long}
use Rattle.liq_sessions.specs.declared.script.Script.{Script}
use Rattle.liq_sessions.specs.declared.script.TheConstants.{REQUESTS_MOST}
use Rattle.liq_word_serve.proofs.Told.{all_from, all_to, all_unmap}
use Rattle.liq_word_serve.proofs.seats.run_at.Goals as goal

pub run_sessions-requires-clause-belong : goal.run_sessions-requires-clause-belong
run_sessions-requires-clause-belong g c κs within =
    all_to _ c.at_seats-works.result.items (all_unmap (g.K.Desk.belongs c.args.desk.now)
    (λ w. w.seat) c.at_seats-works.result.items (all_from _ _ (subst (All (g.K.Desk.belongs c.args.desk.now))
    (sym c.at_seats-works.ensures.seats) c.requires.belong)))

pub run_sessions-requires-clause-short : goal.run_sessions-requires-clause-short
run_sessions-requires-clause-short g c κs within =
    let short : Script → Type 0 = λ script. length script.requests ≤ REQUESTS_MOST in
    all_to _ c.at_seats-works.result.items (all_unmap short (λ w. w.script) c.at_seats-works.result.items
    (all_from _ _ (subst (All short) (sym c.at_seats-works.ensures.scripts) c.requires.short)))

pub seats_back-requires-clause-room : goal.seats_back-requires-clause-room
seats_back-requires-clause-room g c =
    let works = sym (length-map c.at_seats-works.result.items _) ∙ ap length c.at_seats-works.ensures.scripts in
    let done = AllZip-long _ c.at_seats-works.result.items c.in-Ok-run_sessions.done.items
    c.in-Ok-run_sessions.ensures.done in
    omega (arith, works, done, c.in-Ok-with_capacity.ensures.capacity, c.len-count.ensures, c.args.scripts.ok.0)
