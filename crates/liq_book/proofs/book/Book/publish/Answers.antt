use Rattle.std.proofs.Common.{◌≡◌, ◌≤◌, ◌++◌, length, arith, subst, sym}
use Rattle.liq_views.specs.Batches.{last_from}
use Rattle.liq_views.specs.Publishers.{published, waiting}
use Rattle.liq_book.proofs.Calling.{forgets_or_keeps}
use Rattle.liq_book.proofs.Telling.{goes_or_waits, not_below}
use Rattle.liq_book.proofs.book.Book.publish.Goals as goal

pub publish-requires : goal.publish-requires
publish-requires g c =
    subst (λ n. last_from 0 (published c.self.inside.publisher ++ waiting c.self.inside.publisher)
    ≤ n) (sym (omega (arith, c.len-number.ensures, c.self.inside.entries.ok.0)))
    (not_below _ c.self.inside.store _ c.self.inside.halt _ _ c.self.invariant.1)

pub invariant_of-self : goal.invariant_of-self
invariant_of-self g c =
    let count : c.len-number.result ≡ length c.self.inside.entries.items = omega (
      arith,
      c.len-number.ensures,
      c.self.inside.entries.ok.0,
    ) in (
      forgets_or_keeps _ g.met.D.Disk.seen_may_stay _ _ _ c.publish.result _ _ _ _ c.publish.ensures.told
          c.self.invariant.0,
      goes_or_waits _ c.publish.result c.self.inside.store c.publish.new.store _ c.self.inside.halt _ _ _ _ _ count
          c.self.invariant.1 c.publish.ensures.sent c.publish.ensures.told,
    )
