use Rattle.std.proofs.Common.{refl}
use Rattle.liq_disk_files.specs.Names.{text_of}
use Rattle.liq_disk_files.specs.Opened.{here}
use Rattle.liq_disk_files.proofs.Causes.{saw_link, saw_none}
use Rattle.liq_disk_files.proofs.Links.{saw}
use Rattle.liq_disk_files.proofs.Moments.{one, onward, was_last}
use Rattle.liq_disk_files.proofs.names.led_to.Goals as goal

pub returns-in_err-seen-clause-since : goal.returns-in_err-seen-clause-since
returns-in_err-seen-clause-since g c = λ t. one (c.see.ensures t)

pub returns-in_err-ok-clause-since : goal.returns-in_err-ok-clause-since
returns-in_err-ok-clause-since g c = λ t. one (c.see.ensures t)

pub returns-then-seen-clause-since : goal.returns-then-seen-clause-since
returns-then-seen-clause-since g c = λ t. onward (one (c.see.ensures t)) (c.behind_links.ensures.since t)

pub returns-clause-since : goal.returns-clause-since
returns-clause-since g c = λ t. one (c.see.ensures t)

pub returns-clause-leads : goal.returns-clause-leads
returns-clause-leads g c = λ t.
    let asked = g.S.System.asked in
    let text = text_of c.args.name in
    let seen = c.in_ok-seen.seen in
    record {
      path = text;
      seen = seen;
      before = asked c.args.system.now;
      looked = was_last (saw c.text.result.now text c.see.result seen (asked c.args.system.now) (asked c.see.new.self)
          (c.see.ensures t) c.text.ensures c.in_ok-seen.was);
      leads = here;
      is_no_link = c.if-seen.false;
      same = refl;
    }

pub returns-in_err-seen-clause-lost : goal.returns-in_err-seen-clause-lost
returns-in_err-seen-clause-lost g c = λ t none. saw_none (c.see.ensures t) c.in_err-seen.was

pub returns-in_err-ok-clause-lost : goal.returns-in_err-ok-clause-lost
returns-in_err-ok-clause-lost g c = λ t none. saw_link (c.see.ensures t) c.in_ok-seen.was c.if-seen.true

pub returns-then-seen-clause-lost : goal.returns-then-seen-clause-lost
returns-then-seen-clause-lost g c = λ t none.
    c.behind_links.ensures.lost t (saw_link (c.see.ensures t) c.in_ok-seen.was c.if-seen.true) none
