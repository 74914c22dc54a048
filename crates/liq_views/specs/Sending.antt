-- What sending does to what is shown, to what the publisher has seen, and to what waits.
use Rattle.std.specs.Prelude.{◌≡◌, List, [], ◌++◌, Result, MatchResult}
use Rattle.liq_views.specs.declared.rule.Sight.{Sight}
use Rattle.liq_views.specs.declared.shelf.Shelf.{Shelf}
use Rattle.liq_views.specs.Batches.{Given, Rise}
use Rattle.liq_views.specs.Shelves.{after_all}

-- what was seen makes what is shown, and numbers rise along it and what waits
abbrev pub IsMade : Shelf → Sight → List Given → Type 0
IsMade shown sight waits = (shown ≡ after_all sight.seen) × Rise 0 (sight.seen ++ waits)

-- all that waited was sent, or nothing changed
abbrev pub IsSent : {T E : Type 0} → Result T E → Shelf → Sight → List Given → Shelf → Sight
    → List Given → Type 0
IsSent result shown sight waits shown' sight' waits' =
    MatchResult result
    (λ _. (sight'.seen ≡ sight.seen ++ waits) × (waits' ≡ []) × (shown' ≡ after_all sight'.seen))
    (λ _. (shown' ≡ shown) × (sight' ≡ sight) × (waits' ≡ waits))
