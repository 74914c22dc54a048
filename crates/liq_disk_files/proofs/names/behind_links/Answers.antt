use Rattle.std.proofs.Common.{rules, ap, refl}
use Rattle.std.specs.Prelude.{option_map}
use Rattle.std.specs.Path.{path_buf_bytes}
use Rattle.liq_disk_files.specs.Asked.{now}
use Rattle.liq_disk_files.specs.Opened.{here}
use Rattle.liq_disk_files.proofs.Causes.{read_none, saw_again, saw_link, saw_none}
use Rattle.liq_disk_files.proofs.Links.{followed, read, saw}
use Rattle.liq_disk_files.proofs.Moments.{one_more, was_last}
use Rattle.liq_disk_files.proofs.Openings.{rightly_along}
use Rattle.liq_disk_files.proofs.names.behind_links.Goals as goal

pub loop-init : goal.loop-init
loop-init g c = record { since = λ t. now; opens = λ t h. h; leads = λ t. here; lost = λ t h. h }

pub returns-in_err-seen-clause-since : goal.returns-in_err-seen-clause-since
returns-in_err-seen-clause-since g c = λ t. one_more (c.see.ensures t) (c.loop.invariant.since t)

pub returns-then-not-seen-clause-since : goal.returns-then-not-seen-clause-since
returns-then-not-seen-clause-since g c = λ t. one_more (c.see.ensures t) (c.loop.invariant.since t)

pub returns-then-not-seen-clause-leads : goal.returns-then-not-seen-clause-leads
returns-then-not-seen-clause-leads g c = λ t.
    let asked = g.S.System.asked in
    let path = path_buf_bytes c.loop.path in
    let seen = c.in_ok-seen.seen in
    record {
      path = path;
      seen = seen;
      before = asked c.loop.system;
      looked = was_last (saw c.as_str.result.now path c.see.result seen (asked c.loop.system) (asked c.see.new.self)
          (c.see.ensures t) c.as_str.ensures c.in_ok-seen.was);
      leads = c.loop.invariant.leads t;
      is_no_link = c.if-not-seen.true;
      same = refl;
    }

pub returns-then-not-may_be_followed-clause-since :
    goal.returns-then-not-may_be_followed-clause-since
returns-then-not-may_be_followed-clause-since g c = λ t. one_more (c.see.ensures t) (c.loop.invariant.since t)

pub returns-in_err-next-clause-since : goal.returns-in_err-next-clause-since
returns-in_err-next-clause-since g c = λ t. one_more (c.read_link.ensures t) (one_more (c.see.ensures t)
    (c.loop.invariant.since t))

pub returns-in_err-again-clause-since : goal.returns-in_err-again-clause-since
returns-in_err-again-clause-since g c = λ t. one_more (c.see-in-loop.ensures t) (one_more (c.read_link.ensures t)
    (one_more (c.see.ensures t) (c.loop.invariant.since t)))

pub returns-then-not-is_unchanged-clause-since : goal.returns-then-not-is_unchanged-clause-since
returns-then-not-is_unchanged-clause-since g c =
    λ t. one_more (c.see-in-loop.ensures t) (one_more (c.read_link.ensures t) (one_more (c.see.ensures t)
    (c.loop.invariant.since t)))

pub loop-preserved : goal.loop-preserved
loop-preserved g c =
    record {
      since = λ t. one_more (c.see-in-loop.ensures t) (one_more (c.read_link.ensures t) (one_more (c.see.ensures t)
          (c.loop.invariant.since t)));
      opens = λ t h. rightly_along _ _ (c.see-in-loop.ensures t) (rightly_along _ _ (c.read_link.ensures t)
          (rightly_along _ _ (c.see.ensures t) (c.loop.invariant.opens t h)));
      leads = λ t.
          let asked = g.S.System.asked in
          let path = path_buf_bytes c.loop.path in
          let next = path_buf_bytes c.in_ok-next.next in
          let first = saw c.as_str.result.now path c.see.result c.in_ok-seen.seen (asked c.loop.system)
          (asked c.see.new.self) (c.see.ensures t) c.as_str.ensures c.in_ok-seen.was in
          let second = read c.as_str-in-loop.result.now path _ next (asked c.see.new.self) (asked c.read_link.new.self)
          (c.read_link.ensures t) c.as_str-in-loop.ensures (ap (λ r. option_map path_buf_bytes r) c.in_ok-next.was) in
          let third = saw c.as_str-in-loop-2.result.now path c.see-in-loop.result c.in_ok-again.again
          (asked c.read_link.new.self) (asked c.see-in-loop.new.self) (c.see-in-loop.ensures t)
          c.as_str-in-loop-2.ensures c.in_ok-again.was in
          followed c.args.user (path_buf_bytes c.args.name) path next (asked c.loop.system) (asked c.see.new.self)
          (asked c.read_link.new.self) (asked c.see-in-loop.new.self) c.in_ok-seen.seen c.in_ok-again.again
          (c.loop.invariant.leads t) (search rules) (search rules) first second third;
      lost = λ t h.
          let asked = g.S.System.asked in
          let path = path_buf_bytes c.loop.path in
          let next = path_buf_bytes c.in_ok-next.next in
          let first = saw c.as_str.result.now path c.see.result c.in_ok-seen.seen (asked c.loop.system)
          (asked c.see.new.self) (c.see.ensures t) c.as_str.ensures c.in_ok-seen.was in
          let second = read c.as_str-in-loop.result.now path _ next (asked c.see.new.self) (asked c.read_link.new.self)
          (c.read_link.ensures t) c.as_str-in-loop.ensures (ap (λ r. option_map path_buf_bytes r) c.in_ok-next.was) in
          let third = saw c.as_str-in-loop-2.result.now path c.see-in-loop.result c.in_ok-again.again
          (asked c.read_link.new.self) (asked c.see-in-loop.new.self) (c.see-in-loop.ensures t)
          c.as_str-in-loop-2.ensures c.in_ok-again.was in
          saw_again first second third c.if-not-seen.false;
    }

pub returns-in_err-seen-clause-lost : goal.returns-in_err-seen-clause-lost
returns-in_err-seen-clause-lost g c = λ t h none. saw_none (c.see.ensures t) c.in_err-seen.was

pub returns-then-not-may_be_followed-clause-lost : goal.returns-then-not-may_be_followed-clause-lost
returns-then-not-may_be_followed-clause-lost g c = λ t h none.
    saw_link (c.see.ensures t) c.in_ok-seen.was c.if-not-seen.false

pub returns-in_err-next-clause-lost : goal.returns-in_err-next-clause-lost
returns-in_err-next-clause-lost g c = λ t h none.
    read_none (c.read_link.ensures t) (ap (λ r. option_map path_buf_bytes r) c.in_err-next.was)

pub returns-in_err-again-clause-lost : goal.returns-in_err-again-clause-lost
returns-in_err-again-clause-lost g c = λ t h none. saw_none (c.see-in-loop.ensures t) c.in_err-again.was

pub returns-then-not-is_unchanged-clause-lost : goal.returns-then-not-is_unchanged-clause-lost
returns-then-not-is_unchanged-clause-lost g c = λ t h none.
    let asked = g.S.System.asked in
    let path = path_buf_bytes c.loop.path in
    let next = path_buf_bytes c.in_ok-next.next in
    let first = saw c.as_str.result.now path c.see.result c.in_ok-seen.seen (asked c.loop.system)
    (asked c.see.new.self) (c.see.ensures t) c.as_str.ensures c.in_ok-seen.was in
    let second = read c.as_str-in-loop.result.now path _ next (asked c.see.new.self) (asked c.read_link.new.self)
    (c.read_link.ensures t) c.as_str-in-loop.ensures (ap (λ r. option_map path_buf_bytes r) c.in_ok-next.was) in
    let third = saw c.as_str-in-loop-2.result.now path c.see-in-loop.result c.in_ok-again.again
    (asked c.read_link.new.self) (asked c.see-in-loop.new.self) (c.see-in-loop.ensures t)
    c.as_str-in-loop-2.ensures c.in_ok-again.was in
    saw_again first second third c.if-not-seen.false
