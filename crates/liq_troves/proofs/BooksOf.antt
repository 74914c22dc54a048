-- The books of a state after each change of its troves are those that the change makes of them.
use Rattle.std.proofs.Common.{◌≡◌, ℕ, ◌+◌, List, [], ◌∷◌, ◌++◌, refl, ap, sym, ◌∙◌, arith, Some, None, Option, length, take}
use Rattle.std.specs.Prelude.{option_map, sum_by}
use Rattle.std.specs.Map.{values_of}
use Rattle.std.proofs.Math.Seq.{take-length}
use Rattle.std.proofs.lemmas.List.{take-append-le}
use Rattle.std.proofs.lemmas.List.Sums.{sum_by-append}
use Rattle.liq_types.specs.declared.figures.Trove.{Trove}
use Rattle.liq_types.specs.State.{State, StakeSums, Mark, AtStart, After, TroveEntry, Redistribution}
use Rattle.liq_types.specs.Tables.{Table, at, without, map_rows}
use Rattle.liq_types.specs.Totals.{stakes_of}
use Rattle.liq_types.specs.WellFormed.{IsMoment, TrovesAreMarked}
use Rattle.liq_types.proofs.MapRows.{at-map, map-put, map-without, map-sum, map-cong}
use Rattle.liq_troves.specs.Own.{lifted_entry, lifted, placed, redistributed, snapped}
use Rattle.liq_troves.specs.Rows.{stakes_in}
use Rattle.liq_troves.specs.Standing.{Books, books_of, lifted_row, lift, place, spread, snap}
use Rattle.liq_troves.specs.StakeSums.{sums_at, trove_row, coll_growth, debt_growth}

stakes_shown : (s : State) (table : Table TroveEntry) → sum_by (λ (t : TroveEntry). t.stake) (values_of table)
    ≡ stakes_in (map_rows (trove_row s) table)
stakes_shown s table = sym (map-sum (trove_row s) (λ (t : Trove). t.stake) table)

-- the books with these rows, and their stakes beside the sums
with_rows : Books → Table Trove → Books
with_rows b rows = record b { sums = record b.sums { stakes = stakes_in rows }; troves = rows }

lifted_books : (s : State) (account : ℕ) (o : Option TroveEntry) → books_of (lifted_entry s account o)
    ≡ lifted_row (books_of s) account (option_map (trove_row s) o)
unfolding with_rows
lifted_books s account None = refl
lifted_books s account (Some t) =
    let left = books_of (lifted_entry s account (Some t)) in
    ap (λ n. record left { sums = record left.sums { stakes = n } }) (stakes_shown s (without s.troves account))
    ∙ ap (with_rows left) (map-without (trove_row s) s.troves account)

pub lift_books : (s : State) (account : ℕ) → books_of (lifted s account) ≡ lift (books_of s) account
lift_books s account =
    lifted_books s account (at s.troves account)
    ∙ ap (lifted_row (books_of s) account) (sym (at-map (trove_row s) s.troves account))

pub place_books : (s : State) (account coll debt : ℕ) → books_of (placed s account coll debt)
    ≡ place (books_of s) account coll debt
unfolding with_rows
place_books s account coll debt =
    let after = placed s account coll debt in
    let left = books_of after in
    ap (λ n. record left { sums = record left.sums { stakes = n } }) (stakes_shown s after.troves)
    ∙ ap (with_rows left) (map-put (trove_row s) s.troves account _)

-- ---- a redistribution

pub sums_grown : (s : State) (coll debt : ℕ) (mark : Mark StakeSums) → IsMoment (length s.redistributions) mark
    → sums_at (redistributed s coll debt) mark ≡ sums_at s mark
sums_grown s coll debt (AtStart fields) h = refl
sums_grown s coll debt (After n) h =
    ap (λ (rs : List Redistribution). record {
      coll = s.start.sum_coll + sum_by coll_growth rs;
      debt = s.start.sum_debt
          + sum_by debt_growth rs;
    })
    (take-append-le n s.redistributions (record { coll = coll; debt = debt; stakes = stakes_of s } ∷ []) h)

pub row_grown : (s : State) (coll debt : ℕ) (t : TroveEntry) → IsMoment (length s.redistributions) t.mark
    → trove_row (redistributed s coll debt) t ≡ trove_row s t
row_grown s coll debt t h =
    ap (λ (m : StakeSums). record {
      coll = t.coll;
      debt = t.debt;
      stake = t.stake;
      mark_coll = m.coll;
      mark_debt = m.debt;
    }) (sums_grown s coll debt t.mark h)

pub sum_all : (f : Redistribution → ℕ) (list : List Redistribution) → sum_by f (take (length list) list) ≡ sum_by f list
sum_all f list = ap (sum_by f) (take-length list)

pub sum_more : (f : Redistribution → ℕ) (base : ℕ) (list : List Redistribution) (r : Redistribution)
    → base + sum_by f (take (length (list ++ r ∷ [])) (list ++ r ∷ []))
    ≡ base + sum_by f (take (length list) list) + f r
sum_more f base list r =
    let long = sum_all f (list ++ r ∷ []) in
    let short = sum_all f list in
    let parts = sum_by-append f list (r ∷ []) in
    omega (arith, long, short, parts)

pub spread_books : (s : State) (coll debt : ℕ) → TrovesAreMarked (length s.redistributions) s.troves
    → books_of (redistributed s coll debt) ≡ spread (books_of s) coll debt
spread_books s coll debt h =
    let more : Redistribution = record { coll = coll; debt = debt; stakes = stakes_of s } in
    let left = books_of (redistributed s coll debt) in
    let made = spread (books_of s) coll debt in
    ap (λ (rows : Table Trove). record left { troves = rows }) (map-cong (trove_row (redistributed s coll debt))
    (trove_row s) (λ t. IsMoment (length s.redistributions) t.mark) (row_grown s coll debt) s.troves h)
    ∙ ap (λ n. record made { sums = record made.sums { coll = n; debt = left.sums.debt } })
    (sum_more coll_growth s.start.sum_coll s.redistributions more)
    ∙ ap (λ n. record made { sums = record made.sums { debt = n } })
    (sum_more debt_growth s.start.sum_debt s.redistributions more)

pub snap_books : (s : State) → books_of (snapped s) ≡ snap (books_of s)
snap_books s = refl
