use Rattle.std.proofs.Common.{◌∷◌, ◌∙◌, Err, IfOk, Result, ap, inl, inr, refl, subst}
use Rattle.std.specs.declared.fs.File.{File}
use Rattle.liq_disk_files.specs.Asked.{Opened, now}
use Rattle.liq_disk_files.specs.Opened.{WasOpened}
use Rattle.liq_disk_files.specs.declared.calls.Refusal.{Refusal}
use Rattle.liq_disk_files.proofs.Causes.{came_meanwhile}
use Rattle.liq_disk_files.proofs.Moments.{one, onward}
use Rattle.liq_disk_files.proofs.Openings.{makes, new_file, turn_still, was_opened}
use Rattle.liq_disk_files.proofs.files.made.Goals as goal

pub returns-in-Ok-clause-since : goal.returns-in-Ok-clause-since
returns-in-Ok-clause-since g c = λ t. one (c.open.ensures t)

pub returns-in-Ok-clause-opens : goal.returns-in-Ok-clause-opens
returns-in-Ok-clause-opens g c = λ t none turn h.
    let asked = g.S.System.asked in
    makes c.args.name c.open.result (asked c.args.system.now) (asked c.args.system.now) (asked c.open.new.self) now
    (c.open.ensures t) none turn h

pub returns-in-Ok-clause-opened : goal.returns-in-Ok-clause-opened
returns-in-Ok-clause-opened g c = λ t.
    let asked = g.S.System.asked in
    let name = c.args.name in
    let after = asked c.open.new.self in
    subst (λ (r : Result File Refusal). IfOk r (λ f. WasOpened name f after)) c.in-Ok.is
    (was_opened name _ c.open.result (asked c.args.system.now) after (c.open.ensures t))

pub returns-in-Exists-clause-since : goal.returns-in-Exists-clause-since
returns-in-Exists-clause-since g c = λ t. onward (one (c.open.ensures t)) (c.existing.ensures.since t)

pub returns-in-Exists-clause-opens : goal.returns-in-Exists-clause-opens
returns-in-Exists-clause-opens g c = λ t none turn h.
    let asked = g.S.System.asked in
    let old = asked c.args.system.now in
    let between = asked c.open.new.self in
    let again = turn_still c.args.name old between (one (c.open.ensures t)) turn in
    c.existing.ensures.opens t again
    (makes c.args.name c.open.result old old between now (c.open.ensures t) none turn h)

pub returns-in-Exists-clause-unopened : goal.returns-in-Exists-clause-unopened
returns-in-Exists-clause-unopened g c = λ t.
    let asked = g.S.System.asked in
    let old = asked c.args.system.now in
    came_meanwhile c.args.name c.existing.result old (asked c.open.new.self) (asked c.existing.new.system)
    (c.open.ensures t ∙ ap (λ (a : Result File Refusal). Opened c.args.name new_file a ∷ old)
    (c.in-Err.is ∙ ap Err c.in-Exists.is)) (c.existing.ensures.refused t)

pub returns-in_default : goal.returns-in_default
returns-in_default g c = record {
  since = λ t. one (c.open.ensures t);
  opens = λ t none turn h.
      let old = g.S.System.asked c.args.system.now in
      makes c.args.name c.open.result old old (g.S.System.asked c.open.new.self) now (c.open.ensures t) none turn h;
  opened = λ t. tt;
  unopened = λ t.
      let old = g.S.System.asked c.args.system.now in (
        c.in-Err.refusal,
        old,
        inr (
          new_file,
          refl,
          inl (
            c.in_default.not-Exists,
            c.open.ensures t ∙ ap (λ (a : Result File Refusal). Opened c.args.name new_file a ∷ old) c.in-Err.is,
          ),
        ),
      );
}
