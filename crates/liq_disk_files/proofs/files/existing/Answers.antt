use Rattle.std.proofs.Common.{◌∙◌, Ok, refl, inl, ap}
use Rattle.liq_disk_files.proofs.Moments.{one, one_more}
use Rattle.liq_disk_files.proofs.Openings.{opens, rightly_along, saw_regular, turn_still, was_opened}
use Rattle.liq_disk_files.proofs.files.existing.Goals as goal

pub returns-in_err-look-clause-since : goal.returns-in_err-look-clause-since
returns-in_err-look-clause-since g c = λ t. one (c.look.ensures t)

pub returns-then-not-branch-clause-since : goal.returns-then-not-branch-clause-since
returns-then-not-branch-clause-since g c = λ t. one (c.look.ensures t)

pub returns-clause-since : goal.returns-clause-since
returns-clause-since g c = λ t. one_more (c.open.ensures t) (one (c.look.ensures t))

pub returns-clause-opens : goal.returns-clause-opens
returns-clause-opens g c = λ t turn h.
    let asked = g.S.System.asked in
    let old = asked c.args.system.now in
    let looked = c.look.ensures t in
    let regular = saw_regular c.args.name c.look.result old (asked c.look.new.self) looked (c.in_ok-look.was
    ∙ ap Ok c.if-not-branch.false) in
    opens c.args.name _ c.open.result (asked c.look.new.self) (asked c.open.new.self) (c.open.ensures t) (record {
      keeps = (refl, refl, refl);
      there_or_made = inl (refl, regular);
      in_turn = turn_still c.args.name old (asked c.look.new.self) (one looked) turn;
    }) (rightly_along _ _ looked h)

pub returns-clause-opened : goal.returns-clause-opened
returns-clause-opened g c = λ t.
    let asked = g.S.System.asked in
    was_opened c.args.name _ c.open.result (asked c.look.new.self) (asked c.open.new.self) (c.open.ensures t)
