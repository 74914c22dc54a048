use Rattle.std.proofs.Common.{◌∙◌, List, Option, ap}
use Rattle.std.specs.Prelude.{ℕ, ◌∷◌}
use Rattle.liq_disk_files.specs.Asked.{Asked, User, Behind, Earlier}
use Rattle.liq_disk_files.specs.Unopened.{no_left, no_stream, no_user, not_synced}
use Rattle.liq_disk_files.specs.declared.calls.Stream.TheVariants.{Input, Output, Errors}
use Rattle.liq_disk_files.specs.declared.found.FileId.{FileId}
use Rattle.liq_disk_files.proofs.Causes.{none_of_right}
use Rattle.liq_disk_files.proofs.Openings.{both_taken, known, knows_still, rightly_along, turn_of_right}
use Rattle.liq_disk_files.proofs.files.both.Goals as goal

pub returns-in_err-left-clause-opens : goal.returns-in_err-left-clause-opens
returns-in_err-left-clause-opens g c = λ t h. c.taken.ensures.opens t tt (rightly_along _ _ (c.behind-3.ensures t)
    (rightly_along _ _ (c.behind-2.ensures t) (rightly_along _ _ (c.behind.ensures t)
    (rightly_along _ _ (c.user.ensures t) h))))

pub returns-in_err-right-clause-opens : goal.returns-in_err-right-clause-opens
returns-in_err-right-clause-opens g c = λ t h.
    let knows = knows_still c.in_ok-user.user c.in_ok-input.input c.in_ok-output.output c.in_ok-errors.errors _ _
    (c.taken.ensures.since t) (known c.in_ok-user.was c.in_ok-input.was c.in_ok-output.was c.in_ok-errors.was
    (c.user.ensures t) (c.behind.ensures t) (c.behind-2.ensures t) (c.behind-3.ensures t)) in
    let turn = turn_of_right c.in_ok-user.user c.in_ok-input.input c.in_ok-output.output c.in_ok-errors.errors
    c.in_ok-left.found (g.S.System.asked c.taken.new.system) c.in_ok-left.left.device knows c.in_ok-left.ensures.there
    (c.in_ok-left.ensures.taken t) in
    c.taken-2.ensures.opens t turn (c.taken.ensures.opens t tt (rightly_along _ _ (c.behind-3.ensures t)
    (rightly_along _ _ (c.behind-2.ensures t) (rightly_along _ _ (c.behind.ensures t)
    (rightly_along _ _ (c.user.ensures t) h)))))

pub returns-then-not-synced-clause-opens : goal.returns-then-not-synced-clause-opens
returns-then-not-synced-clause-opens g c = λ t h.
    let knows = knows_still c.in_ok-user.user c.in_ok-input.input c.in_ok-output.output c.in_ok-errors.errors _ _
    (c.taken.ensures.since t) (known c.in_ok-user.was c.in_ok-input.was c.in_ok-output.was c.in_ok-errors.was
    (c.user.ensures t) (c.behind.ensures t) (c.behind-2.ensures t) (c.behind-3.ensures t)) in
    let turn = turn_of_right c.in_ok-user.user c.in_ok-input.input c.in_ok-output.output c.in_ok-errors.errors
    c.in_ok-left.found (g.S.System.asked c.taken.new.system) c.in_ok-left.left.device knows c.in_ok-left.ensures.there
    (c.in_ok-left.ensures.taken t) in
    c.synced.ensures.opens t (c.taken-2.ensures.opens t turn (c.taken.ensures.opens t tt
    (rightly_along _ _ (c.behind-3.ensures t) (rightly_along _ _ (c.behind-2.ensures t)
    (rightly_along _ _ (c.behind.ensures t) (rightly_along _ _ (c.user.ensures t) h))))))

pub returns-clause-opens : goal.returns-clause-opens
returns-clause-opens g c = λ t h.
    let knows = knows_still c.in_ok-user.user c.in_ok-input.input c.in_ok-output.output c.in_ok-errors.errors _ _
    (c.taken.ensures.since t) (known c.in_ok-user.was c.in_ok-input.was c.in_ok-output.was c.in_ok-errors.was
    (c.user.ensures t) (c.behind.ensures t) (c.behind-2.ensures t) (c.behind-3.ensures t)) in
    let turn = turn_of_right c.in_ok-user.user c.in_ok-input.input c.in_ok-output.output c.in_ok-errors.errors
    c.in_ok-left.found (g.S.System.asked c.taken.new.system) c.in_ok-left.left.device knows c.in_ok-left.ensures.there
    (c.in_ok-left.ensures.taken t) in
    c.synced.ensures.opens t (c.taken-2.ensures.opens t turn (c.taken.ensures.opens t tt
    (rightly_along _ _ (c.behind-3.ensures t) (rightly_along _ _ (c.behind-2.ensures t)
    (rightly_along _ _ (c.behind.ensures t) (rightly_along _ _ (c.user.ensures t) h))))))

pub returns-clause-taken : goal.returns-clause-taken
returns-clause-taken g c = λ t.
    let asked = g.S.System.asked in
    let knows = knows_still c.in_ok-user.user c.in_ok-input.input c.in_ok-output.output c.in_ok-errors.errors _ _
    (c.taken.ensures.since t) (known c.in_ok-user.was c.in_ok-input.was c.in_ok-output.was c.in_ok-errors.was
    (c.user.ensures t) (c.behind.ensures t) (c.behind-2.ensures t) (c.behind-3.ensures t)) in
    let s5 : List Asked = asked c.taken.new.system in
    let s6 : List Asked = asked c.taken-2.new.system in
    let since5 : Earlier s5 s6 = c.taken-2.ensures.since t in
    both_taken c.in_ok-user.user c.in_ok-input.input c.in_ok-output.output c.in_ok-errors.errors c.in_ok-left.found
    c.in_ok-right.field-0-1
    c.in_ok-left.left.device c.in_ok-right.right.device s5 s6 (asked c.synced.new.system) since5
    (c.in_ok-left.ensures.taken t)
    (c.in_ok-right.ensures.taken t)
    (knows_still c.in_ok-user.user c.in_ok-input.input c.in_ok-output.output c.in_ok-errors.errors s5 s6 since5 knows)
    (c.synced.ensures.synced t c.if-not-synced.false)

pub returns-in_err-user-clause-none : goal.returns-in_err-user-clause-none
returns-in_err-user-clause-none g c = λ t none.
    let old = g.S.System.asked c.args.system.now in
    no_user old (c.user.ensures t ∙ ap (λ (a : Option ℕ). User a ∷ old) c.in_err-user.was)

pub returns-in_err-input-clause-none : goal.returns-in_err-input-clause-none
returns-in_err-input-clause-none g c = λ t none.
    let old = g.S.System.asked c.user.new.self in
    no_stream Input old (c.behind.ensures t ∙ ap (λ (a : Option FileId). Behind Input a ∷ old) c.in_err-input.was)

pub returns-in_err-output-clause-none : goal.returns-in_err-output-clause-none
returns-in_err-output-clause-none g c = λ t none.
    let old = g.S.System.asked c.behind.new.self in
    no_stream Output old
    (c.behind-2.ensures t ∙ ap (λ (a : Option FileId). Behind Output a ∷ old) c.in_err-output.was)

pub returns-in_err-errors-clause-none : goal.returns-in_err-errors-clause-none
returns-in_err-errors-clause-none g c = λ t none.
    let old = g.S.System.asked c.behind-2.new.self in
    no_stream Errors old
    (c.behind-3.ensures t ∙ ap (λ (a : Option FileId). Behind Errors a ∷ old) c.in_err-errors.was)

pub returns-in_err-left-clause-none : goal.returns-in_err-left-clause-none
returns-in_err-left-clause-none g c = λ t none.
    let knows = knows_still c.in_ok-user.user c.in_ok-input.input c.in_ok-output.output c.in_ok-errors.errors _ _
    (c.taken.ensures.since t) (known c.in_ok-user.was c.in_ok-input.was c.in_ok-output.was c.in_ok-errors.was
    (c.user.ensures t) (c.behind.ensures t) (c.behind-2.ensures t) (c.behind-3.ensures t)) in
    no_left c.in_ok-user.user c.in_ok-input.input c.in_ok-output.output c.in_ok-errors.errors knows
    (c.taken.ensures.none t c.in_err-left.was)

pub returns-in_err-right-clause-none : goal.returns-in_err-right-clause-none
returns-in_err-right-clause-none g c = λ t none.
    let knows = knows_still c.in_ok-user.user c.in_ok-input.input c.in_ok-output.output c.in_ok-errors.errors _ _
    (c.taken.ensures.since t) (known c.in_ok-user.was c.in_ok-input.was c.in_ok-output.was c.in_ok-errors.was
    (c.user.ensures t) (c.behind.ensures t) (c.behind-2.ensures t) (c.behind-3.ensures t)) in
    none_of_right c.in_ok-user.user c.in_ok-input.input c.in_ok-output.output c.in_ok-errors.errors
    c.in_ok-left.found (g.S.System.asked c.taken.new.system) (g.S.System.asked c.taken-2.new.system)
    c.in_ok-left.left.device (c.taken-2.ensures.since t) knows c.in_ok-left.ensures.there
    (c.in_ok-left.ensures.taken t) (c.taken-2.ensures.none t c.in_err-right.was)

pub returns-then-not-synced-clause-none : goal.returns-then-not-synced-clause-none
returns-then-not-synced-clause-none g c = λ t none. not_synced (c.synced.ensures.unsynced t c.if-not-synced.true)
