-- What a plan takes of sound parts, cut by cut: each cut fits at its moment.
use Rattle.std.proofs.Common.{◌≡◌, ℕ, ℤ, ◌+◌, ◌-◌, ◌*◌, ◌≤◌, ◌<◌, Bool, true, false, cond, List, [], ◌∷◌, map, refl, sym, ap, ◌∙◌, subst, Some, None, Option, inl, inr, arith, nat_lt, nat_le, fold}
use Rattle.std.specs.Prelude.{◌≢◌, ◌==◌, not, option_map, filter, filter_map, reverse, IsSome, is_some, unwrap_or}
use Rattle.std.specs.List.{AllByRecursion, cons_option}
use Rattle.std.proofs.Math.Nat.{mul-le-mul_right, div-mul-le_self}
use Rattle.std.proofs.lemmas.Bool.{cases_lt, ltb-false, leb-false}
use Rattle.std.proofs.lemmas.Bool.Decides.{nat_tests}
use Rattle.std.proofs.lemmas.List.Sums.{sum_by-cons}
use Rattle.liq_types.specs.declared.amounts.TheConstants.{LIM, RESERVE, MIN_NET, MCR}
use Rattle.liq_types.specs.declared.figures.Trove.{Trove}
use Rattle.liq_types.specs.declared.figures.Wallet.{Wallet}
use Rattle.liq_types.specs.Ranked.{Ranked, key_in, without_ranked}
use Rattle.liq_types.specs.Rules.{first_refusal}
use Rattle.liq_types.specs.State.{surplus_in, with_surplus}
use Rattle.liq_types.specs.Tables.{Table, at, put, without}
use Rattle.liq_types.specs.Totals.{is_below_percent, worth, asked}
use Rattle.liq_types.proofs.Lookups.{at-put_other, at-without_same, at-without_other}
use Rattle.liq_troves.specs.Rows.{entire_by, entire_in, pending, set_row, key_by}
use Rattle.liq_troves.specs.Standing.{Books, TrovesStand, lifted_row}
use Rattle.liq_troves.proofs.Standing.{IsWithinBooks, trove_within, IsEntire, entire_within, lift_stands, place_stands}
use Rattle.liq_order.specs.Listed.{IsAbsent, AreDistinct}
use Rattle.liq_redemption.specs.declared.cut.Cut.{Cut}
use Rattle.liq_redemption.specs.Given.{AreSoundParts, IsPlannedOn, CutFits}
use Rattle.liq_redemption.specs.declared.planning.RedeemPlan.{RedeemPlan}
use Rattle.liq_redemption.specs.Parts.{Parts, books_in, with_books, lifted_parts, placed_parts, closed_parts, cut_parts}
use Rattle.liq_redemption.specs.Redemption.{Visit, visit, is_visited, net_debt, cut_of, draw_of, stops_before, troves_after, cuts, drawn, redeem_rules, redeeming_terms}
use Rattle.liq_redemption.proofs.Ahead.{distinct_turned}
use Rattle.liq_order.proofs.Listing.{key_without_other, key_with_other}
use Rattle.liq_redemption.proofs.Parts.{cut_closed, cut_placed}
use Rattle.liq_redemption.proofs.Taking.{visits, redeemed_within}
use Rattle.liq_types.proofs.Tests.{all_false, made_by}

-- ---- the visited troves

abbrev IsOther : ℕ → ℕ → Type 0
IsOther a b = (a == b) ≡ false

-- the trove of its account
pub record IsVisit (p : Parts) (price : ℕ) (v : Visit) : Type 0 where
  pub entire_is : entire_in p.sums p.troves v.account ≡ Some (v.coll, v.debt)
  pub above : is_below_percent v.coll v.debt price MCR ≡ false
  pub listed : IsSome (key_in p.order v.account)
  pub claim : surplus_in p.surplus v.account ≤ p.pools.surplus

-- each visit is of its account's trove, and no account is visited twice
abbrev pub AreVisits : Parts → ℕ → List Visit → Type 0
AreVisits p price [] = Unit {0}
AreVisits p price (v ∷ vs) = IsVisit p price v × AllByRecursion (λ (w : Visit). IsOther v.account w.account) vs
    × AreVisits p price vs

-- collateral of all troves, and what owners may claim
abbrev pub coll_of : Parts → ℕ
coll_of p = p.pools.active_coll + p.pools.default_coll + p.pools.surplus

pub record Stands (p : Parts) : Type 0 where
  pub troves : TrovesStand (books_in p)
  pub coll : coll_of p ≤ LIM
  pub debt : p.pools.active_debt + p.pools.default_debt ≤ LIM

-- ---- a trove that is visited

-- what is drawn for a lot is less than the trove has
pub draw_less : (coll debt price lot : ℕ) → 1 ≤ price → RESERVE ≤ debt → lot ≤ debt - RESERVE
    → is_below_percent coll debt price MCR ≡ false → draw_of price lot < coll
draw_less coll debt price lot some least part above =
    elim (cases_lt (draw_of price lot) coll) [ inl less ↦ less | inr more ↦ absurd (clash more) ]
  where
    clash : coll ≤ draw_of price lot → ⊥
    clash more =
        let enough : asked MCR debt ≤ worth coll price = ltb-false (worth coll price) (asked MCR debt) above in
        let low : draw_of price lot * price ≤ lot * 1000000000 = div-mul-le_self (lot * 1000000000) price in
        let high : coll * price ≤ draw_of price lot * price = mul-le-mul_right price more in
        omega (arith, enough, low, high, part, least)

-- an account that has entire amounts has a trove
pub record HasTrove (p : Parts) (account : ℕ) (own : ℕ × ℕ) : Type 0 where
  pub trove : Trove
  pub there : at p.troves account ≡ Some trove
  pub own_is : entire_by p.sums trove ≡ own

has_trove : (p : Parts) (account : ℕ) (own : ℕ × ℕ) → entire_in p.sums p.troves account ≡ Some own
    → HasTrove p account own
has_trove p account own h = by (at p.troves account) refl h where
  by : (o : Option Trove) → at p.troves account ≡ o → option_map (entire_by p.sums) o ≡ Some own
      → HasTrove p account own
  by None e f = cc
  by (Some t) e f = record { trove = t; there = e; own_is = the (entire_by p.sums t) f }
    where
      the : (x : ℕ × ℕ) → Some x ≡ Some own → x ≡ own
      the x g = cc

-- ---- claims of others

claim_other : (rows : Table ℕ) (a b coll : ℕ) → IsOther a b → surplus_in (with_surplus rows a coll) b
    ≡ surplus_in rows b
claim_other rows a b coll other = by (coll == 0) where
  by : (t : Bool) → surplus_in (cond t (without rows a) (put rows a coll)) b ≡ surplus_in rows b
  by true = ap (λ (o : Option ℕ). unwrap_or o 0) (at-without_other rows a b other)
  by false = ap (λ (o : Option ℕ). unwrap_or o 0) (at-put_other rows a coll b other)

-- ---- one trove is cut

-- what a cut leaves
pub record After (p q : Parts) (cut : Cut) : Type 0 where
  pub stands : Stands q
  pub coll : coll_of q + cut.draw ≤ coll_of p
  pub fees : q.pools.fee_coll ≡ p.pools.fee_coll
  pub surplus : p.pools.surplus ≤ q.pools.surplus
  pub others : (b : ℕ) → IsOther cut.account b → entire_in q.sums q.troves b ≡ entire_in p.sums p.troves b
  pub listed : (b : ℕ) → IsOther cut.account b → key_in q.order b ≡ key_in p.order b
  pub claims : (b : ℕ) → IsOther cut.account b → surplus_in q.surplus b ≡ surplus_in p.surplus b

module _ (p : Parts) (stands : Stands p) (price : ℕ) (price_some : 1 ≤ price) (v : Visit) (is : IsVisit p price v)
    (wanted : ℕ) where
  abbrev cut : Cut
  cut = cut_of price v wanted

  abbrev has : HasTrove p v.account (v.coll, v.debt)
  has = has_trove p v.account (v.coll, v.debt) is.entire_is

  abbrev b : Books
  b = books_in p

  own : IsEntire b (v.coll, v.debt)
  own = subst (λ (x : ℕ × ℕ). IsEntire b x) has.own_is (entire_within b v.account has.trove has.there stands.troves)

  within : IsWithinBooks b has.trove
  within = trove_within b v.account has.trove has.there stands.troves

  coll_is : has.trove.coll + pending has.trove.stake p.sums.coll has.trove.mark_coll ≡ v.coll
  coll_is = ap (λ (x : ℕ × ℕ). x.0) has.own_is

  debt_is : has.trove.debt + pending has.trove.stake p.sums.debt has.trove.mark_debt ≡ v.debt
  debt_is = ap (λ (x : ℕ × ℕ). x.1) has.own_is

  lot_part : cut.lot ≤ v.debt - RESERVE
  lot_part = omega arith

  draw_part : cut.draw < v.coll
  draw_part = let least = own.least in draw_less v.coll v.debt price cut.lot price_some (omega (arith, least)) lot_part
      is.above

  -- the parts without the trove
  abbrev left : Books
  left = lifted_row b v.account (Some has.trove)

  abbrev gone : Parts
  gone = record (with_books p left) { order = without_ranked p.order v.account }

  gone_is : lifted_parts p v.account ≡ gone
  gone_is = ap (λ (o : Option Trove). record (with_books p (lifted_row b v.account o)) {
    order = without_ranked p.order
        v.account;
  }) has.there

  left_stands : TrovesStand left
  left_stands = subst (λ (o : Option Trove). TrovesStand (lifted_row b v.account o)) has.there
      (lift_stands b v.account stands.troves)

  left_others : (q : ℕ) → IsOther v.account q → entire_in p.sums (without p.troves v.account) q
      ≡ entire_in p.sums p.troves q
  left_others q n = ap (λ (o : Option Trove). option_map (entire_by p.sums) o) (at-without_other p.troves v.account q n)

  -- the trove is closed by the cut
  closed : After p (closed_parts gone v.account (v.coll - cut.draw)) cut
  closed =
      let w = within in
      let c = coll_is in
      let draw = draw_part in
      let total = stands.coll in
      let debts = stands.debt in
      record {
        stands = record {
          troves = left_stands;
          coll = omega (arith, w.coll, w.pending_coll, c, draw, total);
          debt = omega (arith, debts);
        };
        coll = omega (arith, w.coll, w.pending_coll, c, draw);
        fees = refl;
        surplus = omega arith;
        others = left_others;
        listed = λ q n. key_without_other p.order v.account q n;
        claims = λ q n. claim_other p.surplus v.account q (surplus_in p.surplus v.account + (v.coll - cut.draw)) n;
      }

  -- or it is left with less
  left_with : MIN_NET ≤ v.debt - RESERVE - cut.lot
      → After p (placed_parts gone v.account (v.coll - cut.draw) (v.debt - cut.lot)) cut
  left_with enough =
      let w = within in
      let c = coll_is in
      let d = debt_is in
      let draw = draw_part in
      let total = stands.coll in
      let debts = stands.debt in
      let least = own.least in
      let row = set_row left.sums (v.coll - cut.draw) (v.debt - cut.lot) in
      record {
        stands = record {
          troves = place_stands left v.account (v.coll - cut.draw) (v.debt - cut.lot)
              (at-without_same p.troves v.account stands.troves.ascend) (omega (arith, draw)) (omega (
                arith,
                enough,
                least,
              )) left_stands;
          coll = omega (arith, w.coll, w.pending_coll, c, draw, total);
          debt = omega (arith, w.debt, w.pending_debt, d, debts);
        };
        coll = omega (arith, w.coll, w.pending_coll, c, draw);
        fees = refl;
        surplus = omega arith;
        others = λ q n. ap (λ (o : Option Trove). option_map (entire_by p.sums) o)
            (at-put_other (without p.troves v.account) v.account row q n) ∙ left_others q n;
        listed = λ q n. key_with_other (without_ranked p.order v.account) (key_by row, v.account) q n
            ∙ key_without_other p.order v.account q n;
        claims = λ q n. refl;
      }

  -- which of the two the cut says
  after_cut : (troves : ℕ) → stops_before v cut troves ≡ false → After p (cut_parts p cut) cut
  after_cut troves goes = by cut.full refl goes where
    by : (t : Bool) → cut.full ≡ t → cond t (nat_le troves 1) (nat_lt (net_debt v - cut.lot) MIN_NET) ≡ false
        → After p (cut_parts p cut) cut
    by true e g =
        subst (λ (q : Parts). After p q cut) (sym (cut_closed p cut (v.coll, v.debt) (sym is.entire_is) e
        ∙ ap (λ (q : Parts). closed_parts q v.account (v.coll - cut.draw)) gone_is)) closed
    by false e g =
        subst (λ (q : Parts). After p q cut) (sym (cut_placed p cut (v.coll, v.debt) (sym is.entire_is) e
        ∙ ap (λ (q : Parts). placed_parts q v.account (v.coll - cut.draw) (v.debt - cut.lot)) gone_is))
        (left_with (ltb-false (net_debt v - cut.lot) MIN_NET g))

  -- what a trove that stays keeps
  still_owed : (troves : ℕ) → stops_before v cut troves ≡ false → cut.full ≡ false
      → RESERVE + MIN_NET ≤ v.debt - cut.lot
  still_owed troves goes part =
      let enough = ltb-false (net_debt v - cut.lot) MIN_NET
      (sym (ap (λ t. cond t (nat_le troves 1) (nat_lt (net_debt v - cut.lot) MIN_NET)) part) ∙ goes) in
      let least = own.least in
      omega (arith, enough, least)

  -- so the cut fits the parts
  fits : (troves : ℕ) → stops_before v cut troves ≡ false → CutFits p cut
  fits troves goes =
      let o = own in
      let total = stands.coll in
      let debts = stands.debt in
      let claim = is.claim in
      record {
        own = (v.coll, v.debt);
        entire_is = is.entire_is;
        stands = stands.troves;
        coll = omega (arith, total);
        debt = debts;
        draw = draw_part;
        listed = is.listed;
        surplus = omega (arith, o.coll, total);
        claim = omega (arith, claim, o.coll, total);
        left = still_owed troves goes;
      }

-- ---- the cuts along the visits

-- each cut fits at its moment
abbrev pub CutsFit : Parts → List Cut → Type 0
CutsFit p [] = Unit {0}
CutsFit p (cut ∷ cuts) = CutFits p cut × CutsFit (cut_parts p cut) cuts

-- and what is drawn by all of them was in the pools
pub record AllFit (p : Parts) (cuts : List Cut) : Type 0 where
  pub fit : CutsFit p cuts
  pub coll : coll_of (fold cut_parts p cuts) + drawn cuts ≤ coll_of p
  pub fees : (fold cut_parts p cuts).pools.fee_coll ≡ p.pools.fee_coll

none_fit : (p : Parts) → AllFit p []
none_fit p = record { fit = tt; coll = omega arith; fees = refl }

one_more : (p : Parts) (cut : Cut) (cuts : List Cut) → CutFits p cut → After p (cut_parts p cut) cut
    → AllFit (cut_parts p cut) cuts → AllFit p (cut ∷ cuts)
one_more p cut cuts fits after later =
    let draws = sum_by-cons (λ (x : Cut). x.draw) cut cuts in
    record {
      fit = (fits, later.fit);
      coll = omega (arith, draws, after.coll, later.coll);
      fees = later.fees ∙ after.fees;
    }

visits_kept : (p q : Parts) (price : ℕ) (cut : Cut) → After p q cut → (vs : List Visit)
    → AllByRecursion (λ (w : Visit). IsOther cut.account w.account) vs → AreVisits p price vs → AreVisits q price vs
visits_kept p q price cut after [] apart h = tt
visits_kept p q price cut after (w ∷ ws) apart h = (
  record {
    entire_is = after.others w.account apart.0 ∙ h.0.entire_is;
    above = h.0.above;
    listed = subst (λ (o : Option ℤ). IsSome o) (sym (after.listed w.account apart.0)) h.0.listed;
    claim = let same = after.claims w.account apart.0 in let claim = h.0.claim in let more = after.surplus
        in omega (arith, same, claim, more);
  },
  h.1,
  visits_kept p q price cut after ws apart.1 h.2,
)

module _ (price : ℕ) (price_some : 1 ≤ price) where
  pub all_fit : (vs : List Visit) (p : Parts) (troves wanted : ℕ) → Stands p → AreVisits p price vs
      → AllFit p (cuts price troves wanted vs)
  all_fit [] p troves wanted stands h = none_fit p
  all_fit (v ∷ vs) p troves wanted stands h = by (wanted == 0) (stops_before v cut troves) refl
      (λ q s g. all_fit vs q (troves_after cut troves) (wanted - cut.lot) s g) where
        cut : Cut
        cut = cut_of price v wanted

        further : List Cut
        further = cuts price (troves_after cut troves) (wanted - cut.lot) vs

        by : (done stops : Bool) → stops_before v cut troves ≡ stops → ((q : Parts) → Stands q
            → AreVisits q price vs → AllFit q further) → AllFit p (cond done [] (cond stops [] (cut ∷ further)))
        by true stops e later = none_fit p
        by false true e later = none_fit p
        by false false e later =
            let after = after_cut p stands price price_some v h.0 wanted troves e in
            one_more p cut further (fits p stands price price_some v h.0 wanted troves e) after
            (later (cut_parts p cut) after.stands (visits_kept p (cut_parts p cut) price cut after vs h.1 h.2))

-- ---- the visits of sound parts

module _ (p : Parts) (price : ℕ) where
  abbrev accounts : List Ranked → List ℕ
  accounts list = map (λ (e : Ranked). e.1) list

  abbrev visits_in : List Ranked → List Visit
  visits_in list = visits price p.sums p.troves (accounts list)

  abbrev own_visit : ℕ → ℕ × ℕ → Visit
  own_visit account own = record { account = account; coll = own.0; debt = own.1 }

  abbrev then_visits : ℕ → Option (ℕ × ℕ) → List Ranked → List Visit
  then_visits account o list = filter (is_visited price) (cons_option (option_map (own_visit account) o)
      (filter_map (visit p.sums p.troves) (accounts list)))

  others_visited : (account : ℕ) (list : List Ranked) → IsAbsent account list
      → AllByRecursion (λ (v : Visit). IsOther account v.account) (visits_in list)
  others_visited account [] h = tt
  others_visited account (e ∷ es) h = by (entire_in p.sums p.troves e.1) (others_visited account es h.1) where
    other : IsOther account e.1
    other = let n : e.1 ≢ account = h.0 in grind (arith, nat_tests)

    test : (own : ℕ × ℕ) (b : Bool) → AllByRecursion (λ (v : Visit). IsOther account v.account) (visits_in es)
        → AllByRecursion (λ (v : Visit). IsOther account v.account) (cond b (own_visit e.1 own ∷ visits_in es)
        (visits_in es))
    test own true later = (other, later)
    test own false later = later

    by : (o : Option (ℕ × ℕ)) → AllByRecursion (λ (v : Visit). IsOther account v.account) (visits_in es)
        → AllByRecursion (λ (v : Visit). IsOther account v.account) (then_visits e.1 o es)
    by None later = later
    by (Some own) later = test own (is_visited price (own_visit e.1 own)) later

  not_false : (b : Bool) → not b ≡ true → b ≡ false
  not_false true h = cc
  not_false false h = refl

  visits_are : ((account : ℕ) → IsSome (at p.troves account) → IsSome (key_in p.order account))
      → ((account : ℕ) → surplus_in p.surplus account ≤ p.pools.surplus) → (list : List Ranked) → AreDistinct list
      → AreVisits p price (visits_in list)
  visits_are listed claims [] h = tt
  visits_are listed claims (e ∷ es) h = by (entire_in p.sums p.troves e.1) refl (visits_are listed claims es h.1) where
    test : (own : ℕ × ℕ) → entire_in p.sums p.troves e.1 ≡ Some own → (b : Bool) → is_visited price (own_visit e.1 own)
        ≡ b → AreVisits p price (visits_in es)
        → AreVisits p price (cond b (own_visit e.1 own ∷ visits_in es) (visits_in es))
    test own is true f later =
        let there = has_trove p e.1 own is in (
          record {
            entire_is = is;
            above = not_false _ f;
            listed = listed e.1 (ap (λ (o : Option Trove). is_some o) there.there);
            claim = claims e.1;
          },
          others_visited e.1 es h.0,
          later,
        )
    test own is false f later = later

    by : (o : Option (ℕ × ℕ)) → entire_in p.sums p.troves e.1 ≡ o → AreVisits p price (visits_in es)
        → AreVisits p price (then_visits e.1 o es)
    by None is later = later
    by (Some own) is later = test own is (is_visited price (own_visit e.1 own)) refl later

-- ---- what was planned

-- what is known of a plan that is carried out
pub record IsCovered (p : Parts) (wallet : Wallet) (plan : RedeemPlan) : Type 0 where
  pub cuts : AllFit p plan.cuts
  pub drawn : plan.drawn ≡ drawn plan.cuts
  pub fee : plan.fee ≤ plan.drawn
  pub redeemed : plan.redeemed ≤ wallet.lusd

pub planned_covered : (p : Parts) (wallet : Wallet) (plan : RedeemPlan) → AreSoundParts p wallet
    → IsPlannedOn p wallet plan → IsCovered p wallet plan
planned_covered p wallet plan s h =
    let m = h.market in
    let list = reverse p.order in
    let vs = visits_in p m.price list in
    let terms = redeeming_terms m vs h.amount in
    let told = made_by (first_refusal (redeem_rules m wallet vs h.amount h.bound)) terms plan h.planned in
    let rules = all_false (redeem_rules m wallet vs h.amount h.bound) told.0 in
    let enough : h.amount ≤ wallet.lusd = ltb-false wallet.lusd h.amount rules.1.1.1.1.0 in
    let fee : terms.fee < terms.drawn = leb-false terms.drawn terms.fee rules.1.1.1.1.1.1.0 in
    let least = h.sound.price_least in
    let total = s.coll in
    let stands : Stands p = record { troves = s.troves; coll = omega (arith, total); debt = s.debt } in
    let fit = all_fit m.price (omega (arith, least)) vs p m.troves h.amount stands
    (visits_are p m.price s.listed s.claims list (distinct_turned p.order s.distinct)) in
    let within = redeemed_within m.price vs m.troves h.amount in
    subst (λ (x : RedeemPlan). IsCovered p wallet x) told.1 (record {
      cuts = fit;
      drawn = refl;
      fee = omega (arith, fee);
      redeemed = omega (arith, within, enough);
    })
