use Rattle.std.proofs.Common.{List, ◌++◌, ap, sym, subst, ◌∙◌, append_assoc}
use Rattle.liq_views.specs.declared.rule.Sight.{Sight}
use Rattle.liq_views.specs.Batches.{Given, version_after}
use Rattle.liq_book.specs.Opened.{IsVersionOf}
use Rattle.liq_book.specs.Publishing.{all_batches}
use Rattle.liq_book.proofs.Batches.{front_version, seen_version}
use Rattle.liq_book.proofs.laws.readers_see_the_history.Goals as goal

pub returns-clause-seen : goal.returns-clause-seen
returns-clause-seen g c base b x reader publishes read =
    let publisher : Sight = record { seen = b.published } in
    let begins =
    c.ends_see_beginnings.ensures.begins x read.views read.rule publisher reader read.publisher.0 read.here.0
    read.publisher.1 read.here.1 read.shown in
    seen_version base b.book.entries (all_batches b) reader.seen (begins.0 ++ b.waiting)
    (ap (λ (bs : List Given). bs ++ b.waiting) begins.1 ∙ append_assoc reader.seen begins.0 b.waiting) publishes.each

pub returns-clause-looked : goal.returns-clause-looked
returns-clause-looked g c base b x reader publishes read looked =
    let publisher : Sight = record { seen = b.published } in
    let all =
    c.ends_see_beginnings.ensures.looked x read.views read.rule publisher reader read.publisher.0 read.here.0
    read.publisher.1 read.here.1 read.shown looked in
    let first = publishes.first in
    subst (λ (seen : List Given). IsVersionOf base b.book.entries (version_after seen)) (sym (all
    ∙ first.2))
    (front_version base b.book.entries (all_batches b) first.0 first.1 b.waiting
    (ap (λ (bs : List Given). bs ++ b.waiting) first.2) publishes.each)
