-- States with the same image redeem alike.
use Rattle.std.proofs.Common.{◌≡◌, ℕ, ◌+◌, ◌-◌, Bool, true, false, cond, List, [], ◌∷◌, refl, ap, ◌∙◌, subst, Some, None, Option}
use Rattle.std.specs.Prelude.{fold}
use Rattle.liq_types.specs.declared.figures.Market.{Market}
use Rattle.liq_types.specs.declared.image.Image.{Image}
use Rattle.liq_types.specs.State.{State}
use Rattle.liq_types.specs.Totals.{market_of}
use Rattle.liq_troves.specs.Own.{set_trove}
use Rattle.liq_troves.specs.StakeSums.{entire_of}
use Rattle.liq_order.specs.Order.{order_by}
use Rattle.liq_redemption.specs.declared.cut.Cut.{Cut}
use Rattle.liq_redemption.specs.Redemption.{Visit, visited_by, visited, RedeemTerms, redeeming_terms, cut_entire, cut_down, closed_by, redeemed_by}
use Rattle.liq_rule_step.proofs.AlikeReads.{Alike, sums_by, market_alike, entire_alike}
use Rattle.liq_rule_step.proofs.AlikeChanges.{alike_by_two, lifted_alike, set_alike, surplus_added_alike, paid_alike, charged_alike}
use Rattle.liq_rule_step.proofs.AlikeLiquidation.{without_reserve_alike}

abbrev visited_by_image : Image → List Visit
visited_by_image i = visited_by i.price (sums_by i) i.troves (order_by i.troves)

pub visited_alike : {s t : State} → Alike s t → visited s ≡ visited t
visited_alike h = ap visited_by_image h.image

pub terms_alike : {s t : State} → Alike s t → (amount : ℕ) → redeeming_terms (market_of s) (visited s) amount
    ≡ redeeming_terms (market_of t) (visited t) amount
terms_alike {s} {t} h amount =
    ap (λ (m : Market). redeeming_terms m (visited s) amount) (market_alike h)
    ∙ ap (λ (visits : List Visit). redeeming_terms (market_of t) visits amount) (visited_alike h)

-- ---- what it does

closed_by_alike : {s t : State} → Alike s t → (cut : Cut) (own : ℕ × ℕ)
    → Alike (closed_by s cut own) (closed_by t cut own)
closed_by_alike h cut own = surplus_added_alike (without_reserve_alike (lifted_alike h cut.account)) cut.account
    _ _ refl

cut_entire_alike : {s t : State} → Alike s t → (cut : Cut) (o : Option (ℕ × ℕ))
    → Alike (cut_entire s cut o) (cut_entire t cut o)
cut_entire_alike h cut None = h
cut_entire_alike {s} {t} h cut (Some own) = by cut.full where
  by : (b : Bool) → Alike (cond b (closed_by s cut own) (set_trove s cut.account (own.0 - cut.draw) (own.1 - cut.lot)))
      (cond b (closed_by t cut own) (set_trove t cut.account (own.0 - cut.draw) (own.1 - cut.lot)))
  by true = closed_by_alike h cut own
  by false = set_alike h cut.account _ _ _ _ refl refl

cut_down_alike : {s t : State} → Alike s t → (cut : Cut) → Alike (cut_down s cut) (cut_down t cut)
cut_down_alike {s} {t} h cut =
    subst (λ (o : Option (ℕ × ℕ)). Alike (cut_down s cut) (cut_entire t cut o)) (entire_alike h cut.account)
    (cut_entire_alike h cut (entire_of s cut.account))

all_cut_alike : (made : List Cut) {s t : State} → Alike s t → Alike (fold cut_down s made) (fold cut_down t made)
all_cut_alike [] h = h
all_cut_alike (cut ∷ made) h = all_cut_alike made (cut_down_alike h cut)

abbrev set_fee : RedeemTerms → ℕ → Image → Image
set_fee terms fee i = record i { base = terms.rate.base; fee_minute = terms.rate.minute; fee_coll = fee }

abbrev with_redeem_fee : State → State → RedeemTerms → State
with_redeem_fee given s terms =
    record given { base = terms.rate.base; fee_minute = terms.rate.minute; fee_coll = s.fee_coll + terms.fee }

with_redeem_fee_alike : {s t a b : State} → Alike s t → (terms : RedeemTerms) → Alike a b
    → Alike (with_redeem_fee a s terms) (with_redeem_fee b t terms)
with_redeem_fee_alike {s} {t} {a} {b} h terms given =
    alike_by_two (set_fee terms) (s.fee_coll + terms.fee) (t.fee_coll + terms.fee)
    a b (with_redeem_fee a s terms) (with_redeem_fee b t terms) (ap (λ (i : Image). i.fee_coll + terms.fee) h.image)
    given refl refl refl refl given.left given.right

redeemed_by_alike : {s t : State} → Alike s t → (account : ℕ) (terms : RedeemTerms)
    → Alike (redeemed_by s account terms) (redeemed_by t account terms)
redeemed_by_alike h account terms =
    with_redeem_fee_alike h terms
    (paid_alike (charged_alike (all_cut_alike terms.cuts h) account 0 0 terms.redeemed terms.redeemed refl refl) account
    _ _ 0 0 refl refl)

pub redeemed_alike : {s t : State} → Alike s t → (account amount : ℕ)
    → Alike (redeemed_by s account (redeeming_terms (market_of s) (visited s) amount)) (redeemed_by t account
    (redeeming_terms (market_of t) (visited t) amount))
redeemed_alike {s} {t} h account amount =
    subst (λ (terms : RedeemTerms). Alike (redeemed_by s account (redeeming_terms (market_of s) (visited s) amount))
    (redeemed_by t account terms)) (terms_alike h amount)
    (redeemed_by_alike h account (redeeming_terms (market_of s) (visited s) amount))
