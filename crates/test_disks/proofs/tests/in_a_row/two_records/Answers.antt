use Rattle.std.proofs.Common.{[], ℕ, ap, sym, subst, ◌∙◌}
use Rattle.liq_journal.specs.Crash.{Stands, beginning, is_odd}
use Rattle.liq_journal.specs.Written.{and_then}
use Rattle.test_disks.proofs.tests.in_a_row.two_records.Goals as goal

pub returns-in-Ok-append-2 : goal.returns-in-Ok-append-2
returns-in-Ok-append-2 g c = λ held told.
    let none = beginning 1 [] in
    let one = and_then none c.args.first.now in
    let two = and_then one c.args.second.now in
    let a = c.in-Ok.ensures.created held told in
    let created = subst (λ (n : ℕ). Stands (is_odd n) a.0 none) (sym c.in-Ok.ensures.known.0) a.2 in
    let b = c.in-Ok-append.ensures.appended a.0 none c.args.first.now a.1 created
    (record { spelled = c.encode.ensures.back c.requires.hints.0; no_rotation = c.requires.no_rotation.0 }) in
    let first = subst (λ (n : ℕ). Stands (is_odd n) b.0 one) (sym (ap (λ j. j.generation) c.append.ensures.same)) b.2 in
    let d = c.in-Ok-append-2.ensures.appended b.0 one c.args.second.now b.1 first
    (record { spelled = c.encode-2.ensures.back c.requires.hints.1; no_rotation = c.requires.no_rotation.1 }) in (
      d.0,
      d.1,
      subst (λ (n : ℕ). Stands (is_odd n) d.0 two) (ap (λ j. j.generation) c.append.ensures.same
          ∙ c.in-Ok.ensures.known.0) d.2,
    )
