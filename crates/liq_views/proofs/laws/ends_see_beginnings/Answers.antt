use Rattle.std.proofs.Common.{◌≡◌, List, sym, ap, ◌∙◌, subst}
use Rattle.liq_views.specs.Batches.{Given, StartsWith}
use Rattle.liq_views.specs.Shelves.{after_all}
use Rattle.liq_views.proofs.Keeping.{whole}
use Rattle.liq_views.proofs.laws.ends_see_beginnings.Goals as goal

pub returns-clause-begins : goal.returns-clause-begins
returns-clause-begins c x views h publisher reader i j at there knows =
    let begins = h.begins i publisher at in
    let log_is : h.log ≡ publisher.seen = begins.1 ∙ whole publisher.seen begins.0 (ap after_all (sym begins.1)
    ∙ sym h.made ∙ knows) in
    subst (λ (l : List Given). StartsWith l reader.seen) log_is (h.begins j reader there)

pub returns-clause-looked : goal.returns-clause-looked
returns-clause-looked c x views h publisher reader i j at there knows looked =
    let rest = returns-clause-begins c x views h publisher reader i j at there knows in
    sym (rest.1 ∙ whole reader.seen rest.0 (ap after_all (sym rest.1) ∙ sym knows ∙ looked))
