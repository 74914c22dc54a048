-- What is taken along the visited troves.
use Rattle.std.proofs.Common.{◌≡◌, ℕ, ◌-◌, ◌*◌, ◌≤◌, Bool, true, false, cond, List, [], ◌∷◌, refl, sym, ap, ◌∙◌, Some, None, Option, arith, append-nil}
use Rattle.std.specs.Prelude.{◌==◌, filter, filter_map}
use Rattle.std.specs.List.{cons_option}
use Rattle.std.proofs.Math.Nat.{add-mul, div-mul-le_self}
use Rattle.std.proofs.lemmas.List.Sums.{sum_by-cons}
use Rattle.liq_types.specs.declared.figures.Trove.{Trove}
use Rattle.liq_types.specs.Tables.{Table}
use Rattle.liq_troves.specs.declared.sums.Sums.{Sums}
use Rattle.liq_redemption.specs.declared.cut.Cut.{Cut}
use Rattle.liq_redemption.specs.Redemption.{Visit, visit, is_visited, where_visited, visit_at, cut_of, draw_of, stops_before, troves_after, cuts, redeemed, drawn}
use Rattle.liq_redemption.specs.declared.walk.Walk.{Walk}
use Rattle.liq_redemption.specs.Walk.{all_cuts, first_net_of, ahead_where}

-- ---- the visits of some accounts

module _ (price : ℕ) (sums : Sums) (troves : Table Trove) where
  abbrev pub visits : List ℕ → List Visit
  visits accounts = filter (is_visited price) (filter_map (visit sums troves) accounts)

  visits_option : (o : Option Visit) (more : List Visit) → filter (is_visited price) (cons_option o more)
      ≡ cons_option (where_visited price o) (filter (is_visited price) more)
  visits_option None more = refl
  visits_option (Some v) more = by (is_visited price v) where
    by : (b : Bool) → cond b (v ∷ filter (is_visited price) more) (filter (is_visited price) more)
        ≡ cons_option (cond b (Some v) None) (filter (is_visited price) more)
    by true = refl
    by false = refl

  pub visits_next : (account : ℕ) (more : List ℕ)
      → visits (account ∷ more) ≡ cons_option (visit_at price sums troves account) (visits more)
  visits_next account more = visits_option (visit sums troves account) (filter_map (visit sums troves) more)

-- ---- how much is taken

pub nothing_wanted : (price troves wanted : ℕ) (vs : List Visit) → wanted ≡ 0 → cuts price troves wanted vs ≡ []
nothing_wanted price troves wanted [] e = refl
nothing_wanted price troves wanted (v ∷ vs) e =
    ap (λ n. cond (n == 0) [] (cond (stops_before v (cut_of price v n) troves) [] (cut_of price v n
    ∷ cuts price (troves_after (cut_of price v n) troves) (n - (cut_of price v n).lot) vs))) e

-- of a list of cuts: what is drawn is worth no more than what is redeemed
abbrev pub IsDrawnWithin : ℕ → List Cut → Type 0
IsDrawnWithin price list = drawn list * price ≤ redeemed list * 1000000000

draw_within : (price lot : ℕ) → draw_of price lot * price ≤ lot * 1000000000
draw_within price lot = div-mul-le_self (lot * 1000000000) price

pub drawn_within : (price troves wanted : ℕ) (vs : List Visit) → IsDrawnWithin price (cuts price troves wanted vs)
drawn_within price troves wanted [] = omega arith
drawn_within price troves wanted (v ∷ vs) = by (wanted == 0) (stops_before v cut troves)
    (drawn_within price (troves_after cut troves) (wanted - cut.lot) vs) where
      cut : Cut
      cut = cut_of price v wanted

      further : List Cut
      further = cuts price (troves_after cut troves) (wanted - cut.lot) vs

      by : (done stops : Bool) → IsDrawnWithin price further
          → IsDrawnWithin price (cond done [] (cond stops [] (cut ∷ further)))
      by true stops later = omega arith
      by false true later = omega arith
      by false false later =
          let lots = sum_by-cons (λ (x : Cut). x.lot) cut further in
          let draws = sum_by-cons (λ (x : Cut). x.draw) cut further in
          let one = draw_within price cut.lot in
          let all = ap (λ n. n * price) draws ∙ add-mul cut.draw (drawn further) price in
          omega (arith, lots, all, one, later)

-- ---- one account further

module _ (price : ℕ) (sums : Sums) (troves : Table Trove) (account : ℕ) (here next : List ℕ) (is : here
    ≡ account ∷ next) where
  abbrev pub one : Option Visit
  one = visit_at price sums troves account

  ahead_is : visits price sums troves here ≡ cons_option one (visits price sums troves next)
  ahead_is = ap (λ (l : List ℕ). visits price sums troves l) is ∙ visits_next price sums troves account next

  -- all cuts stay all cuts, and the first net debt the first
  pub cuts_step : (old new : Walk) (on : Bool) → all_cuts price new (ahead_where on (visits price sums troves next))
      ≡ all_cuts price old (cons_option one (visits price sums troves next)) → (all : List Cut)
      → all_cuts price old (visits price sums troves here) ≡ all
      → all_cuts price new (ahead_where on (visits price sums troves next)) ≡ all
  cuts_step old new on step all h = step ∙ ap (λ (vs : List Visit). all_cuts price old vs) (sym ahead_is) ∙ h

  pub first_step : (old new : Walk) (on : Bool) → first_net_of new (ahead_where on (visits price sums troves next))
      ≡ first_net_of old (cons_option one (visits price sums troves next)) → (first : ℕ)
      → first_net_of old (visits price sums troves here) ≡ first
      → first_net_of new (ahead_where on (visits price sums troves next)) ≡ first
  first_step old new on step first h = step ∙ ap (λ (vs : List Visit). first_net_of old vs) (sym ahead_is) ∙ h

-- where it does not go on, the cuts are those so far
pub cuts_done : (price : ℕ) (w : Walk) (on : Bool) (ahead : List Visit) → on ≡ false
    → all_cuts price w (ahead_where on ahead) ≡ w.cuts
cuts_done price w on ahead e = ap (λ b. all_cuts price w (ahead_where b ahead)) e ∙ append-nil w.cuts

-- no more is redeemed than is wanted
pub redeemed_within : (price : ℕ) (vs : List Visit) (troves wanted : ℕ) → redeemed (cuts price troves wanted vs)
    ≤ wanted
redeemed_within price [] troves wanted = omega arith
redeemed_within price (v ∷ vs) troves wanted = by (wanted == 0) (stops_before v cut troves)
    (redeemed_within price vs (troves_after cut troves) (wanted - cut.lot)) where
      cut : Cut
      cut = cut_of price v wanted

      further : List Cut
      further = cuts price (troves_after cut troves) (wanted - cut.lot) vs

      by : (done stops : Bool) → redeemed further ≤ wanted - cut.lot
          → redeemed (cond done [] (cond stops [] (cut ∷ further))) ≤ wanted
      by true stops later = omega arith
      by false true later = omega arith
      by false false later =
          let lots = sum_by-cons (λ (x : Cut). x.lot) cut further in
          let part : cut.lot ≤ wanted = omega arith in
          omega (arith, lots, later, part)
