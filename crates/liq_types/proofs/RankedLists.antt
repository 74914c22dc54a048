-- Ranked lists: the order of their entries, what comes behind an entry, and what a filter keeps.
use Rattle.std.proofs.Common.{Bool, true, false, cond, List, [], ◌∷◌}
use Rattle.std.specs.Prelude.{◌≡◌, filter}
use Rattle.std.specs.List.{AllByRecursion}
use Rattle.std.specs.Cmp.{IsTotalOrder}
use Rattle.std.specs.Ordering.{match_ordering}
use Rattle.std.specs.declared.cmp.Ordering.{Ordering}
use Rattle.std.specs.declared.cmp.Ordering.TheVariants.{Less, Equal, Greater}
use Rattle.std.proofs.lemmas.Cmp.{int_cmp_total, nat_cmp_total, then_total, on_total}
use Rattle.liq_types.specs.Ranked.{Ranked, rank_order, with_ranked, IsAscending}

pub rank_total : IsTotalOrder rank_order
rank_total = then_total (on_total (λ (e : Ranked). e.0) int_cmp_total) (on_total (λ (e : Ranked). e.1) nat_cmp_total)

-- ---- behind an entry

-- all of a list comes behind an entry
abbrev pub Behind : Ranked → List Ranked → Type 0
Behind e list = AllByRecursion (λ f. rank_order e f ≡ Less) list

pub behind_more : (e f : Ranked) (list : List Ranked) → rank_order e f ≡ Less → Behind f list → Behind e list
behind_more e f [] less h = tt
behind_more e f (g ∷ gs) less h = (rank_total.trans e f g less h.0, behind_more e f gs less h.1)

pub with_behind : (f : Ranked) (list : List Ranked) (e : Ranked) → rank_order f e ≡ Less → Behind f list
    → Behind f (with_ranked list e)
with_behind f [] e less h = (less, tt)
with_behind f (g ∷ gs) e less h = by (rank_order e g) (with_behind f gs e less h.1) where
  by : (o : Ordering) → Behind f (with_ranked gs e)
      → Behind f (match_ordering o (e ∷ g ∷ gs) (e ∷ g ∷ gs) (g ∷ with_ranked gs e))
  by Less more = (less, h)
  by Equal more = (less, h)
  by Greater more = (h.0, more)

-- ---- what a filter keeps

pub all_kept : (P : Ranked → Type 0) (q : Ranked → Bool) (list : List Ranked) → AllByRecursion P list
    → AllByRecursion P (filter q list)
all_kept P q [] h = tt
all_kept P q (e ∷ es) h = by (q e) (all_kept P q es h.1) where
  by : (b : Bool) → AllByRecursion P (filter q es) → AllByRecursion P (cond b (e ∷ filter q es) (filter q es))
  by true more = (h.0, more)
  by false more = more

pub ascending_kept : (q : Ranked → Bool) (list : List Ranked) → IsAscending list → IsAscending (filter q list)
ascending_kept q [] h = tt
ascending_kept q (e ∷ es) h = by (q e) (ascending_kept q es h.1) where
  by : (b : Bool) → IsAscending (filter q es) → IsAscending (cond b (e ∷ filter q es) (filter q es))
  by true more = (all_kept (λ f. rank_order e f ≡ Less) q es h.0, more)
  by false more = more
