use Rattle.std.proofs.Common.{◌∙◌, Err, IfErr, Result, ap, inl, subst}
use Rattle.std.specs.declared.fs.File.{File}
use Rattle.liq_disk_files.specs.Unopened.{IsRefused}
use Rattle.liq_disk_files.specs.declared.calls.Refusal.{Refusal}
use Rattle.liq_disk_files.proofs.Moments.{onward}
use Rattle.liq_disk_files.proofs.Openings.{turn_still}
use Rattle.liq_disk_files.proofs.files.opened.Goals as goal

pub returns-in-Missing-clause-since : goal.returns-in-Missing-clause-since
returns-in-Missing-clause-since g c = λ t. onward (c.existing.ensures.since t) (c.made.ensures.since t)

pub returns-in-Missing-clause-opens : goal.returns-in-Missing-clause-opens
returns-in-Missing-clause-opens g c = λ t turn h.
    let asked = g.S.System.asked in
    c.made.ensures.opens t (c.existing.ensures.none t (c.in-Err.is ∙ ap Err c.in-Missing.is))
    (turn_still c.args.name (asked c.args.system.now) (asked c.existing.new.system) (c.existing.ensures.since t) turn)
    (c.existing.ensures.opens t turn h)

pub returns-in_default : goal.returns-in_default
returns-in_default g c = record {
  since = λ t. c.existing.ensures.since t;
  opens = λ t turn h. c.existing.ensures.opens t turn h;
  opened = λ t. tt;
  unopened = λ t.
      let asked = g.S.System.asked in
      let old = asked c.args.system.now in (
        c.in-Err.refusal,
        old,
        inl (
          c.in_default.not-Missing,
          subst (λ (r : Result File Refusal). IfErr r (λ x. IsRefused c.args.name x old (asked c.existing.new.system)))
              c.in-Err.is (c.existing.ensures.refused t),
        ),
      );
}
