-- How many steps a redemption takes: all cuts but the last close their troves, so at most one trove is put into the
-- list.
use Rattle.std.proofs.Common.{◌≡◌, ℕ, ◌+◌, ◌-◌, ◌≤◌, Bool, true, false, cond, List, [], ◌∷◌, length, refl, ◌∙◌, subst, Option, arith}
use Rattle.std.specs.Prelude.{◌==◌}
use Rattle.std.proofs.lemmas.Bool.Decides.{nat_tests}
use Rattle.liq_types.specs.declared.hints.Hint.{Hint}
use Rattle.liq_types.specs.declared.figures.Wallet.{Wallet}
use Rattle.liq_types.specs.Ranked.{Ranked}
use Rattle.liq_types.specs.Rules.{first_refusal}
use Rattle.liq_types.proofs.Tests.{made_by}
use Rattle.liq_trove_moves.specs.Steps.{TakesFew}
use Rattle.liq_redemption.specs.declared.cut.Cut.{Cut}
use Rattle.liq_redemption.specs.declared.planning.RedeemPlan.{RedeemPlan}
use Rattle.liq_redemption.specs.Given.{IsPlannedOn}
use Rattle.liq_redemption.specs.Last.{CutTakes, last_entry}
use Rattle.liq_redemption.specs.Parts.{Parts}
use Rattle.liq_redemption.specs.Redemption.{Visit, cut_of, stops_before, troves_after, cuts, visited_by, redeem_rules, redeeming_terms}
use Rattle.liq_redemption.proofs.Taking.{nothing_wanted}

-- ---- the last cut

-- all cuts but the last close their troves
abbrev pub CloseButLast : List Cut → Type 0
CloseButLast [] = Unit {0}
CloseButLast (cut ∷ []) = Unit {0}
CloseButLast (cut ∷ next ∷ more) = (cut.full ≡ true) × CloseButLast (next ∷ more)

close_more : (cut : Cut) (later : List Cut) → (cut.full ≡ false → later ≡ []) → CloseButLast later
    → CloseButLast (cut ∷ later)
close_more cut [] ends h = tt
close_more cut (next ∷ more) ends h = (by cut.full ends, h) where
  by : (b : Bool) → (b ≡ false → next ∷ more ≡ []) → b ≡ true
  by true e = refl
  by false e = absurd (clash (e refl)) where
    clash : next ∷ more ≡ [] → ⊥
    clash f = cc

pub close_next : (cut : Cut) (later : List Cut) → CloseButLast (cut ∷ later) → CloseButLast later
close_next cut [] h = tt
close_next cut (next ∷ more) h = h.1

-- a trove that stays takes all that is still wanted
all_taken : (v : Visit) (price wanted : ℕ) → (cut_of price v wanted).full ≡ false
    → wanted - (cut_of price v wanted).lot ≡ 0
all_taken v price wanted stays = grind (arith, nat_tests, stays)

pub close_but_last : (price : ℕ) (vs : List Visit) (troves wanted : ℕ) → CloseButLast (cuts price troves wanted vs)
close_but_last price [] troves wanted = tt
close_but_last price (v ∷ vs) troves wanted = by (cut_of price v wanted) (all_taken v price wanted) (wanted
    == 0) (stops_before v (cut_of price v wanted) troves) (λ cut. close_but_last price vs (troves_after cut troves)
    (wanted - cut.lot)) where
      by : (cut : Cut) → (cut.full ≡ false → wanted - cut.lot ≡ 0) → (done stops : Bool)
          → ((cut : Cut) → CloseButLast (cuts price (troves_after cut troves) (wanted - cut.lot) vs))
          → CloseButLast (cond done []
          (cond stops [] (cut ∷ cuts price (troves_after cut troves) (wanted - cut.lot) vs)))
      by cut taken true stops later = tt
      by cut taken false true later = tt
      by cut taken false false later =
          close_more cut (cuts price (troves_after cut troves) (wanted - cut.lot) vs)
          (λ stays. nothing_wanted price (troves_after cut troves) (wanted - cut.lot) vs (taken stays)) (later cut)

pub planned_close : (p : Parts) (wallet : Wallet) (plan : RedeemPlan) → IsPlannedOn p wallet plan
    → CloseButLast plan.cuts
planned_close p wallet plan h =
    let m = h.market in
    let vs = visited_by m.price p.sums p.troves p.order in
    let told = made_by (first_refusal (redeem_rules m wallet vs h.amount h.bound)) (redeeming_terms m vs h.amount) plan
    h.planned in
    subst (λ (x : RedeemPlan). CloseButLast x.cuts) told.1 (close_but_last m.price vs m.troves h.amount)

-- ---- steps so far

-- As long as a cut is left no step was made, and the list did not grow. In the end there were the few that the last cut
-- takes.
abbrev pub Spent : List Cut → List Cut → Hint → ℕ → List Ranked → ℕ → ℕ → Type 0
Spent all [] hint listed list old now = TakesFew list hint (last_entry list all) old now × (now ≤ old + (listed + 4))
Spent all (cut ∷ more) hint listed list old now =
    (now ≡ old) × (length list ≤ listed) × ((l : List Ranked) → last_entry l (cut ∷ more) ≡ last_entry l all)

pub spent_none : (all : List Cut) (hint : Hint) (list : List Ranked) (old : ℕ)
    → Spent all all hint (length list) list old old
spent_none [] hint list old = (refl, omega arith)
spent_none (cut ∷ more) hint list old = (refl, omega arith, λ l. refl)

pub spent_more : (all : List Cut) (cut : Cut) (more : List Cut) (hint : Hint) (listed : ℕ) (list next : List Ranked)
    (old now new : ℕ) → CloseButLast (cut ∷ more) → Spent all (cut ∷ more) hint listed list old now
    → CutTakes cut hint list next now new → Spent all more hint listed next old new
spent_more all cut [] hint listed list next old now new close s t =
    let any = t.any in
    let same : now ≡ old = s.0 in
    let within : length list ≤ listed = s.1 in (
      subst (λ n. TakesFew next hint (last_entry next all) n new) same
          (subst (λ (o : Option Ranked). TakesFew next hint o now new) (s.2 next) t.few),
      omega (arith, any, same, within),
    )
spent_more all cut (d ∷ ds) hint listed list next old now new close s t =
    let shorter = t.shorter close.0 in
    let within : length list ≤ listed = s.1 in (
      t.none close.0 ∙ s.0,
      omega (arith, shorter, within),
      s.2,
    )
