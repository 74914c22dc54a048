-- Redemptions leave what stands.
use Rattle.std.proofs.Common.{◌≡◌, ℕ, ◌+◌, ◌-◌, ◌*◌, ◌≤◌, ◌<◌, Bool, true, false, cond, List, [], ◌∷◌, refl, ap, sym, ◌∙◌, subst, arith, length, nat_lt, nat_le, Some, None, Option}
use Rattle.std.specs.Prelude.{◌==◌, not, option_map, sum, map, reverse, filter, filter_map, fold}
use Rattle.std.specs.List.{AllByRecursion, IsDistinct, cons_option}
use Rattle.std.specs.Map.{keys_of, values_of}
use Rattle.std.specs.Ordering.{nat_cmp, is_eq, eq_by_cmp}
use Rattle.std.proofs.lemmas.Bool.{ltb-false}
use Rattle.std.proofs.lemmas.Bool.Decides.{nat_tests}
use Rattle.std.proofs.lemmas.List.Sorted.{IsPermutation-map, IsPermutation-reverse}
use Rattle.std.proofs.lemmas.List.Sums.{sum_by-cons}
use Rattle.std.proofs.lemmas.Map.Keys.{IsDistinct-IsPermutation, IsDistinct-from_sorted}
use Rattle.liq_types.specs.declared.amounts.TheConstants.{ACCOUNTS, LIM, RESERVE, MIN_NET, MCR}
use Rattle.liq_types.specs.declared.figures.Client.{Client}
use Rattle.liq_types.specs.declared.figures.Trove.{Trove}
use Rattle.liq_types.specs.declared.figures.Wallet.{Wallet}
use Rattle.liq_types.specs.declared.image.Image.{Image}
use Rattle.liq_types.specs.Payments.{credited, charged, surplus_added}
use Rattle.liq_types.specs.Product.{ScaledProduct}
use Rattle.liq_types.specs.Ranked.{Ranked, from_last}
use Rattle.liq_types.specs.Rules.{first_refusal}
use Rattle.liq_types.specs.State.{State, TroveEntry, Redistribution, wallet_of, wallet_in}
use Rattle.liq_types.specs.State as marks
use Rattle.liq_types.specs.Tables.{Table, at, without}
use Rattle.liq_types.specs.Totals.{is_below_percent, market_of, trove_count}
use Rattle.liq_types.specs.WellFormed.{Ascends}
use Rattle.liq_types.proofs.Ascending.{wallet-ascends}
use Rattle.liq_types.proofs.Lookups.{at-without_same, at-without_other, at-put_other, length-put, length-without}
use Rattle.liq_types.proofs.MapRows.{at-map, all-put, all-without}
use Rattle.liq_types.proofs.Places.{nat_cmp-eq}
use Rattle.liq_troves.specs.Own.{lifted_entry, lifted, placed, set_trove, stake_for}
use Rattle.liq_troves.specs.Rows.{entire_by}
use Rattle.liq_troves.specs.StakeSums.{trove_row, trove_rows, sums_words, entire_of}
use Rattle.liq_order.specs.Order.{ranks, trove_order}
use Rattle.liq_order.proofs.Sorting.{sorted_same}
use Rattle.liq_stability.specs.Position.{words_of}
use Rattle.liq_redemption.specs.declared.cut.Cut.{Cut}
use Rattle.liq_redemption.specs.Redemption.{Visit, visit, is_visited, visited, net_debt, cut_of, stops_before, troves_after, cuts, redeemed, drawn, RedeemTerms, redeeming_terms, redeem_rules, closed_by, cut_entire, cut_down, redeemed_by, cuts_in}
use Rattle.liq_types.specs.Soundness.{coll_homes, lusd_homes}
use Rattle.liq_rule_step.specs.Image.{image}
use Rattle.liq_rule_sound.specs.SoundState.{IsSetSince, AreSetSince, CutIsCovered}
use Rattle.liq_rule_step.proofs.Moving.{paid_coll, paid_lusd, charged_coll, charged_lusd}
use Rattle.liq_rule_sound.proofs.SoundBorrow.{HasTrove, has_trove, set_stands, RateInRange, ranges_with}
use Rattle.liq_rule_sound.proofs.SoundFacts.{Finds, Stands, Homes, rest_in_place, Leaves, trove_table, paid_stands, charged_stands, added_stands, lifted_stands, reserve_stands, fees_stand, key_below, surplus_sum}
use Rattle.liq_types.proofs.Tests.{all_false}
use Rattle.liq_redemption.proofs.Cutting.{draw_less}
use Rattle.liq_redemption.proofs.Taking.{redeemed_within}

-- ---- the visited troves

pub record IsVisit (t : State) (price : ℕ) (v : Visit) : Type 0 where
  pub entire_is : entire_of t v.account ≡ Some (v.coll, v.debt)
  pub above : is_below_percent v.coll v.debt price MCR ≡ false

abbrev pub IsOther : ℕ → ℕ → Type 0
IsOther a b = is_eq (nat_cmp a b) ≡ false

-- each visit is of its account's trove, and no account is visited twice
abbrev pub AreVisits : State → ℕ → List Visit → Type 0
AreVisits t price [] = Unit {0}
AreVisits t price (v ∷ vs) = IsVisit t price v × AllByRecursion (λ (w : Visit). IsOther v.account w.account) vs
    × AreVisits t price vs

module _ (s : State) (price : ℕ) where
  abbrev visits : List ℕ → List Visit
  visits accounts = filter (is_visited price) (filter_map (visit (sums_words s) (trove_rows s)) accounts)

  visits_all : (P : ℕ → Type 0) (accounts : List ℕ) → AllByRecursion P accounts
      → AllByRecursion (λ (v : Visit). P v.account) (visits accounts)
  visits_all P [] h = tt
  visits_all P (a ∷ others) h = by (entire_of s a) (visits_all P others h.1) where
    test : (own : ℕ × ℕ) (b : Bool) → AllByRecursion (λ (v : Visit). P v.account) (visits others)
        → AllByRecursion (λ (v : Visit). P v.account) (cond b (record { account = a; coll = own.0; debt = own.1 }
        ∷ visits others) (visits others))
    test own true later = (h.0, later)
    test own false later = later

    by : (o : Option (ℕ × ℕ)) → AllByRecursion (λ (v : Visit). P v.account) (visits others)
        → AllByRecursion (λ (v : Visit). P v.account) (filter (is_visited price) (cons_option (option_map (λ (own : ℕ
        × ℕ). record { account = a; coll = own.0; debt = own.1 }) o) (filter_map (visit (sums_words s) (trove_rows s))
        others)))
    by None later = later
    by (Some own) later = test own (is_visited price (record { account = a; coll = own.0; debt = own.1 })) later

  not_false : (b : Bool) → not b ≡ true → b ≡ false
  not_false true h = cc
  not_false false h = refl

  visits_are : (accounts : List ℕ) → IsDistinct (eq_by_cmp nat_cmp) accounts → AreVisits s price (visits accounts)
  unfolding IsDistinct
  visits_are [] h = tt
  visits_are (a ∷ others) h = by (entire_of s a) refl (visits_are others h.1) where
    test : (own : ℕ × ℕ) → entire_of s a ≡ Some own → (b : Bool)
        → is_visited price (record { account = a; coll = own.0; debt = own.1 }) ≡ b → AreVisits s price (visits others)
        → AreVisits s price
        (cond b (record { account = a; coll = own.0; debt = own.1 } ∷ visits others) (visits others))
    test own e true f later = (
      record { entire_is = e; above = not_false _ f },
      visits_all (λ b. IsOther a b) others h.0,
      later,
    )
    test own e false f later = later

    by : (o : Option (ℕ × ℕ)) → entire_of s a ≡ o → AreVisits s price (visits others)
        → AreVisits s price (filter (is_visited price) (cons_option (option_map (λ (own : ℕ × ℕ). record {
          account = a;
          coll = own.0;
          debt = own.1;
        }) o) (filter_map (visit (sums_words s) (trove_rows s)) others)))
    by None e later = later
    by (Some own) e later = test own e (is_visited price (record { account = a; coll = own.0; debt = own.1 }))
        refl later

ranked_accounts : (table : Table Trove) → map (λ (e : Ranked). e.1) (ranks table) ≡ keys_of table
ranked_accounts [] = refl
ranked_accounts (row ∷ rows) = ap (λ (ks : List ℕ). row.0 ∷ ks) (ranked_accounts rows)

flips : (x y : ℕ) → eq_by_cmp nat_cmp x y ≡ eq_by_cmp nat_cmp y x
flips x y = nat_cmp-eq x y ∙ turned ∙ sym (nat_cmp-eq y x) where
  turned : (x == y) ≡ (y == x)
  turned = grind (arith, nat_tests)

-- no account stands twice in the order
order_distinct : (s : State) → Ascends (trove_rows s) → IsDistinct (eq_by_cmp nat_cmp) (from_last (trove_order s))
order_distinct s h =
    let account : Ranked → ℕ = λ (e : Ranked). e.1 in
    let keys = IsDistinct-from_sorted nat_cmp (keys_of (trove_rows s)) h in
    let first = subst (λ (ks : List ℕ). IsDistinct (eq_by_cmp nat_cmp) ks) (sym (ranked_accounts (trove_rows s))) keys
    in
    let ordered = IsDistinct-IsPermutation (eq_by_cmp nat_cmp) flips (map account (ranks (trove_rows s)))
    (map account (trove_order s)) (IsPermutation-map account (ranks (trove_rows s)) (trove_order s)
    (sorted_same (ranks (trove_rows s)))) first in
    IsDistinct-IsPermutation (eq_by_cmp nat_cmp) flips (map account (trove_order s))
    (map account (reverse (trove_order s))) (IsPermutation-map account (trove_order s) (reverse (trove_order s))
    (IsPermutation-reverse (trove_order s))) ordered

pub visited_are : (s : State) → Ascends (trove_rows s) → AreVisits s s.price (visited s)
visited_are s h = visits_are s s.price (from_last (trove_order s)) (order_distinct s h)

-- ---- a cut

-- what no cut touches
pub record Untouched : Type 0 where
  pub wallets : Table Wallet
  pub brought : ℕ
  pub price : ℕ
  pub minute : ℕ
  pub fee_coll : ℕ
  pub words : ScaledProduct
  pub generation : ℕ
  pub limit : ℕ
  pub records : ℕ
  pub clients : Table Client
  pub snap : ℕ

abbrev pub untouched : State → Untouched
untouched t =
    record {
      wallets = t.wallets;
      brought = t.brought;
      price = t.price;
      minute = t.minute;
      fee_coll = t.fee_coll;
      words = words_of t;
      generation = t.generation;
      limit = t.limit;
      records = t.records;
      clients = t.clients;
      snap =
          t.snap_coll;
    }

-- the state after the cuts so far, in which so much collateral and LUSD has left its home
pub record Cutting (s t : State) (coll lusd : ℕ) : Type 0 where
  pub stands : Stands LIM t
  pub coll_is : t.brought ≡ coll_homes (image t) + coll
  pub lusd_is : t.active_debt + t.default_debt + lusd ≡ lusd_homes (image t)
  pub reserve : t.reserve ≡ RESERVE * trove_count t
  pub surplus : t.surplus ≡ sum (values_of t.surplus_rows)
  pub less : t.active_debt + t.default_debt ≤ s.active_debt + s.default_debt
  pub same : untouched t ≡ untouched s
  pub marks : AreSetSince s.troves → AreSetSince t.troves

-- what the entire amounts of another account are is not touched
own_in : State → Option TroveEntry → Option (ℕ × ℕ)
own_in t o = option_map (entire_by (sums_words t)) (option_map (trove_row t) o)

entire_read : (t : State) (account : ℕ) → entire_of t account ≡ own_in t (at t.troves account)
unfolding own_in
entire_read t account = ap (λ (o : Option Trove). option_map (entire_by (sums_words t)) o)
    (at-map (trove_row t) t.troves account)

other_account : (a b : ℕ) → IsOther a b → (a == b) ≡ false
other_account a b h = sym (nat_cmp-eq a b) ∙ h

-- what is read of an entry rests on the lists of redistributions alone
same_own : (t r : State) (o : Option TroveEntry) → t.start ≡ r.start → t.redistributions ≡ r.redistributions
    → own_in t o ≡ own_in r o
unfolding own_in
same_own t r None e f = refl
same_own t r (Some x) e f = ap (λ (q : Image × List Redistribution). read q.0 q.1)
    (ap (λ (i : Image). (i, t.redistributions)) e ∙ ap (λ (rs : List Redistribution). (r.start, rs)) f) where
      read : Image → List Redistribution → Option (ℕ × ℕ)
      read i rs = own_in (record t { start = i; redistributions = rs }) (Some x)

-- what a cut leaves of the other troves
pub record After (t made : State) (cut : Cut) : Type 0 where
  pub count : trove_count made ≡ troves_after cut (trove_count t)
  pub others : (q : ℕ) → IsOther cut.account q → entire_of made q ≡ entire_of t q

-- one trove is cut
module _ (s t : State) (coll lusd : ℕ) (c : Cutting s t coll lusd) (v : Visit)
    (has : HasTrove t v.account v.coll v.debt) (price : ℕ) (visit : IsVisit t price v) (price_some : 1
    ≤ price) (wanted : ℕ) where
  abbrev cut : Cut
  cut = cut_of price v wanted

  own_key : v.account < ACCOUNTS
  own_key = key_below t.troves v.account has.entry has.there c.stands.trove_keys

  lot_part : cut.lot ≤ v.debt - RESERVE
  lot_part = omega arith

  draw_part : cut.draw < v.coll
  draw_part = draw_less v.coll v.debt price cut.lot price_some (omega (arith, has.least)) lot_part visit.above

  -- the trove is closed by the cut
  closed_cut : 2 ≤ trove_count t → cut.lot ≡ v.debt - RESERVE
      → Cutting s (closed_by t cut (v.coll, v.debt)) (coll + cut.draw) (lusd + cut.lot)
  closed_cut several whole =
      let e = has.entry in
      let w = has.within in
      let draw = draw_part in
      let rows = length-without t.troves v.account e has.there in
      let surplus = surplus_sum t.surplus_rows v.account (v.coll - cut.draw) c.stands.surplus.ascend in
      let left = lifted t v.account in
      let stands : Stands LIM (surplus_added (record left { reserve = left.reserve - RESERVE }) v.account
      (v.coll - cut.draw)) =
      added_stands (record left { reserve = left.reserve - RESERVE }) v.account own_key (reserve_stands left
      (left.reserve - RESERVE) (lifted_stands t v.account c.stands)) (v.coll - cut.draw) in
      subst (λ (o : Option TroveEntry). Stands LIM
      (surplus_added (record (lifted_entry t v.account o) {
        reserve = (lifted_entry t v.account o).reserve
            - RESERVE;
      }) v.account (v.coll - cut.draw))
      → Cutting s (surplus_added (record (lifted_entry t v.account o) {
        reserve = (lifted_entry t v.account o).reserve
            - RESERVE;
      }) v.account (v.coll - cut.draw)) (coll + cut.draw) (lusd + cut.lot)) (sym has.there)
      (λ k. record {
        stands = k;
        coll_is = omega (arith, c.coll_is, draw, has.coll_is, w.coll, w.pending_coll);
        lusd_is = omega (arith, c.lusd_is, whole, has.debt_is, has.least, w.debt, w.pending_debt, c.reserve, several);
        reserve = omega (arith, rows, c.reserve);
        surplus = omega (arith, surplus, c.surplus);
        less = omega (arith, c.less);
        same = c.same;
        marks = λ n. all-without (λ (x : TroveEntry). IsSetSince x.mark) t.troves v.account (c.marks n);
      }) stands

  -- or it is left with less
  left_cut : MIN_NET ≤ v.debt - RESERVE - cut.lot
      → Cutting s (set_trove t v.account (v.coll - cut.draw) (v.debt - cut.lot)) (coll + cut.draw) (lusd + cut.lot)
  left_cut enough =
      let e = has.entry in
      let w = has.within in
      let draw = draw_part in
      let part = lot_part in
      let rows = length-without t.troves v.account e has.there in
      let entry : State → TroveEntry = λ (x : State). record {
        coll = v.coll - cut.draw;
        debt = v.debt - cut.lot;
        stake = stake_for x (v.coll - cut.draw);
        mark = marks.After (length x.redistributions);
      } in
      let back = length-put (without t.troves v.account) v.account (entry t) (at-without_same t.troves v.account
      (trove_table t c.stands.troves.ascend)) in
      let stands = set_stands t v.account (v.coll - cut.draw) (v.debt - cut.lot) own_key (omega (arith, draw))
      (omega (arith, enough, has.least)) c.stands in
      subst (λ (o : Option TroveEntry). Stands LIM (placed (lifted_entry t v.account o) v.account (v.coll - cut.draw)
      (v.debt - cut.lot)) → Cutting s (placed (lifted_entry t v.account o) v.account (v.coll - cut.draw)
      (v.debt - cut.lot)) (coll + cut.draw) (lusd + cut.lot)) (sym has.there)
      (λ k. record {
        stands = k;
        coll_is = omega (arith, c.coll_is, draw, has.coll_is, w.coll, w.pending_coll);
        lusd_is = omega (arith, c.lusd_is, part, has.debt_is, has.least, w.debt, w.pending_debt);
        reserve = omega (arith, rows, back, c.reserve);
        surplus = c.surplus;
        less = omega (arith, c.less, has.debt_is, w.debt, w.pending_debt);
        same = c.same;
        marks = λ n. all-put (λ (x : TroveEntry). IsSetSince x.mark) (without t.troves v.account) v.account (entry t) tt
            (all-without (λ (x : TroveEntry). IsSetSince x.mark) t.troves v.account (c.marks n));
      }) stands

  closed_after : cut.full ≡ true → After t (closed_by t cut (v.coll, v.debt)) cut
  closed_after full =
      let e = has.entry in
      let rows = length-without t.troves v.account e has.there in
      let fewer : troves_after cut (trove_count t) ≡ trove_count t - 1 =
      ap (λ b. cond b (trove_count t - 1) (trove_count t)) full in
      subst (λ (o : Option TroveEntry). After t
      (surplus_added (record (lifted_entry t v.account o) {
        reserve = (lifted_entry t v.account o).reserve
            - RESERVE;
      }) v.account (v.coll - cut.draw)) cut) (sym has.there)
      (record {
        count = omega (arith, rows, fewer);
        others = λ q n.
            let made = surplus_added (record (lifted_entry t v.account (Some e)) { reserve = t.reserve - RESERVE })
            v.account (v.coll - cut.draw) in
            entire_read made q ∙ ap (own_in made) (at-without_other t.troves v.account q (other_account v.account q n))
            ∙ same_own made t (at t.troves q) refl refl ∙ sym (entire_read t q);
      })

  left_after : cut.full ≡ false → After t (set_trove t v.account (v.coll - cut.draw) (v.debt - cut.lot)) cut
  left_after full =
      let e = has.entry in
      let gone = lifted_entry t v.account (Some e) in
      let entry : TroveEntry = record {
        coll = v.coll - cut.draw;
        debt = v.debt - cut.lot;
        stake = stake_for gone (v.coll - cut.draw);
        mark = marks.After (length t.redistributions);
      } in
      let rows = length-without t.troves v.account e has.there in
      let back = length-put (without t.troves v.account) v.account entry (at-without_same t.troves v.account
      (trove_table t c.stands.troves.ascend)) in
      let same : troves_after cut (trove_count t) ≡ trove_count t =
      ap (λ b. cond b (trove_count t - 1) (trove_count t)) full in
      subst (λ (o : Option TroveEntry). After t (placed (lifted_entry t v.account o) v.account (v.coll - cut.draw)
      (v.debt - cut.lot)) cut) (sym has.there)
      (record {
        count = omega (arith, rows, back, same);
        others = λ q n.
            let made = placed gone v.account (v.coll - cut.draw) (v.debt - cut.lot) in
            entire_read made q ∙ ap (own_in made) (at-put_other (without t.troves v.account) v.account entry q
            (other_account v.account q n) ∙ at-without_other t.troves v.account q (other_account v.account q n))
            ∙ same_own made t (at t.troves q) refl refl ∙ sym (entire_read t q);
      })

  -- which of the two the cut says
  pub after_cut : stops_before v cut (trove_count t) ≡ false
      → Cutting s (cut_down t cut) (coll + cut.draw) (lusd + cut.lot) × After t (cut_down t cut) cut
  after_cut goes =
      subst (λ (o : Option (ℕ × ℕ)). Cutting s (cut_entire t cut o) (coll + cut.draw) (lusd + cut.lot)
      × After t (cut_entire t cut o) cut) (sym visit.entire_is) (by cut.full refl goes)
    where
      whole : (cut.lot == net_debt v) ≡ true → cut.lot ≡ v.debt - RESERVE
      whole e = grind (arith, nat_tests, e)

      several : nat_le (trove_count t) 1 ≡ false → 2 ≤ trove_count t
      several e = grind (arith, nat_tests, e)

      by : (b : Bool) → cut.full ≡ b → cond b (nat_le (trove_count t) 1) (nat_lt (net_debt v - cut.lot) MIN_NET) ≡ false
          → Cutting s (cond b (closed_by t cut (v.coll, v.debt)) (set_trove t v.account (v.coll - cut.draw)
          (v.debt - cut.lot))) (coll + cut.draw) (lusd + cut.lot)
          × After t (cond b (closed_by t cut (v.coll, v.debt)) (set_trove t v.account (v.coll - cut.draw)
          (v.debt - cut.lot))) cut
      by true e g = (closed_cut (several g) (whole e), closed_after e)
      by false e g = (left_cut (ltb-false (net_debt v - cut.lot) MIN_NET g), left_after e)

-- ---- the cuts along the visits

visits_kept : (t made : State) (price a : ℕ) → ((q : ℕ) → IsOther a q → entire_of made q ≡ entire_of t q)
    → (vs : List Visit) → AllByRecursion (λ (w : Visit). IsOther a w.account) vs → AreVisits t price vs
    → AreVisits made price vs
visits_kept t made price a same [] apart h = tt
visits_kept t made price a same (v ∷ vs) apart h = (
  record { entire_is = same v.account apart.0 ∙ h.0.entire_is; above = h.0.above },
  h.1,
  visits_kept t made price a same vs apart.1 h.2,
)

cutting_as : (s t : State) (coll lusd c l : ℕ) → coll ≡ c → lusd ≡ l → Cutting s t coll lusd → Cutting s t c l
cutting_as s t coll lusd c l e f h = subst (λ n. Cutting s t n l) e (subst (λ n. Cutting s t coll n) f h)

module _ (s : State) (price : ℕ) (price_some : 1 ≤ price) where
  -- the list of cuts ends, or goes on with one
  abbrev goes_on : State → ℕ → Visit → List Visit → Bool → Bool → List Cut
  goes_on t wanted v vs done stops =
      cond done [] (cond stops [] (cut_of price v wanted ∷ cuts price (troves_after (cut_of price v wanted)
      (trove_count t)) (wanted - (cut_of price v wanted).lot) vs))

  along : (vs : List Visit) (t : State) (coll lusd wanted : ℕ) → Cutting s t coll lusd → AreVisits t price vs
      → Cutting s (fold cut_down t (cuts price (trove_count t) wanted vs))
      (coll + drawn (cuts price (trove_count t) wanted vs)) (lusd + redeemed (cuts price (trove_count t) wanted vs))
  along [] t coll lusd wanted c h = cutting_as s t coll lusd (coll + 0) (lusd + 0) (omega arith) (omega arith) c
  along (v ∷ vs) t coll lusd wanted c h = by (wanted == 0) (stops_before v (cut_of price v wanted) (trove_count t)) refl
      (λ made more k g. along vs made (coll + (cut_of price v wanted).draw) (lusd + (cut_of price v wanted).lot)
      (wanted - (cut_of price v wanted).lot) k g) where
        cut : Cut
        cut = cut_of price v wanted

        by : (done stops : Bool) → stops_before v (cut_of price v wanted) (trove_count t) ≡ stops → ((made : State) → ℕ
            → Cutting s made (coll + (cut_of price v wanted).draw) (lusd + (cut_of price v wanted).lot)
            → AreVisits made price vs
            → Cutting s (fold cut_down made (cuts price (trove_count made) (wanted - (cut_of price v wanted).lot) vs))
            (coll + (cut_of price v wanted).draw
            + drawn (cuts price (trove_count made) (wanted - (cut_of price v wanted).lot) vs))
            (lusd + (cut_of price v wanted).lot
            + redeemed (cuts price (trove_count made) (wanted - (cut_of price v wanted).lot) vs)))
            → Cutting s (fold cut_down t (goes_on t wanted v vs done stops))
            (coll + drawn (goes_on t wanted v vs done stops)) (lusd + redeemed (goes_on t wanted v vs done stops))
        by true stops e later = cutting_as s t coll lusd (coll + 0) (lusd + 0) (omega arith) (omega arith) c
        by false true e later = cutting_as s t coll lusd (coll + 0) (lusd + 0) (omega arith) (omega arith) c
        by false false e later =
            let has = has_trove t v.account (v.coll, v.debt) c.stands h.0.entire_is in
            let one = after_cut s t coll lusd c v has price h.0 price_some wanted e in
            let made = cut_down t (cut_of price v wanted) in
            let kept = visits_kept t made price v.account one.1.others vs h.1 h.2 in
            let rest = later made 0 one.0 kept in
            let list = cuts price (troves_after (cut_of price v wanted) (trove_count t))
            (wanted - (cut_of price v wanted).lot) vs in
            let draws = sum_by-cons (λ (x : Cut). x.draw) (cut_of price v wanted) list in
            let lots = sum_by-cons (λ (x : Cut). x.lot) (cut_of price v wanted) list in
            let told = subst (λ n. Cutting s
            (fold cut_down made (cuts price n (wanted - (cut_of price v wanted).lot) vs))
            (coll + (cut_of price v wanted).draw + drawn (cuts price n (wanted - (cut_of price v wanted).lot) vs))
            (lusd + (cut_of price v wanted).lot + redeemed (cuts price n (wanted - (cut_of price v wanted).lot) vs)))
            one.1.count rest in
            cutting_as s (fold cut_down made list) (coll + (cut_of price v wanted).draw + drawn list)
            (lusd + (cut_of price v wanted).lot + redeemed list) (coll + drawn (cut_of price v wanted ∷ list))
            (lusd + redeemed (cut_of price v wanted ∷ list)) (omega (arith, draws)) (omega (arith, lots)) told

-- ---- the whole redemption

module _ (s : State) (f : Finds s) (account amount bound : ℕ) (h : first_refusal (redeem_rules (market_of s)
    (wallet_of s account) (visited s) amount bound) ≡ None) where
  abbrev terms : RedeemTerms
  terms = redeeming_terms (market_of s) (visited s) amount

  abbrev cut_state : State
  cut_state = fold cut_down s terms.cuts

  begun : Cutting s s 0 0
  begun =
      let c = f.balanced.homes in
      record {
        stands = f.stands;
        coll_is = omega (arith, c.coll);
        lusd_is = omega (arith, c.lusd);
        reserve = c.reserve;
        surplus = c.surplus;
        less = omega arith;
        same = refl;
        marks = λ n. n;
      }

  cut_done : Cutting s cut_state terms.drawn terms.redeemed
  cut_done =
      let least = f.ranges.price_least in
      cutting_as s cut_state (0 + terms.drawn) (0 + terms.redeemed) terms.drawn terms.redeemed (omega arith)
      (omega arith)
      (along s s.price (omega (arith, least)) (visited s) s 0 0 amount begun (visited_are s f.stands.troves.ascend))

  pub redeem_leaves : account < ACCOUNTS → Leaves 0 s (redeemed_by s account terms)
  redeem_leaves k =
      let c = cut_done in
      let t = cut_state in
      let r = f.ranges in
      let rules = all_false (redeem_rules (market_of s) (wallet_of s account) (visited s) amount bound) h in
      let tokens = ltb-false (wallet_of s account).lusd amount rules.1.1.1.1.0 in
      let eats : nat_le terms.drawn terms.fee ≡ false = rules.1.1.1.1.1.1.0 in
      let fee_less = fee_below terms.drawn terms.fee eats in
      let within = redeemed_within s.price (visited s) (trove_count s) amount in
      let enough : terms.redeemed ≤ (wallet_of t account).lusd = subst (λ (u : Untouched). terms.redeemed
      ≤ (wallet_in u.wallets account).lusd) (sym c.same) (omega (arith, tokens, within)) in
      let ascend = c.stands.wallets.ascend in
      let mid = charged t account 0 terms.redeemed in
      let ordered = wallet-ascends t.wallets account (record {
        coll = (wallet_of t account).coll - 0;
        lusd = (wallet_of t account).lusd - terms.redeemed;
      }) ascend in
      let c1 = charged_coll t account 0 terms.redeemed ascend (omega arith) in
      let l1 = charged_lusd t account 0 terms.redeemed ascend enough in
      let c2 = paid_coll mid account (terms.drawn - terms.fee) 0 ordered in
      let l2 = paid_lusd mid account (terms.drawn - terms.fee) 0 ordered in
      let given = credited mid account (terms.drawn - terms.fee) 0 in
      let moved = paid_stands mid account k (charged_stands t account k c.stands 0 terms.redeemed)
      (terms.drawn - terms.fee) 0 in
      let brought : t.brought ≡ s.brought = ap (λ (u : Untouched). u.brought) c.same in
      let price : t.price ≡ s.price = ap (λ (u : Untouched). u.price) c.same in
      let minute : t.minute ≡ s.minute = ap (λ (u : Untouched). u.minute) c.same in
      let fee_coll : t.fee_coll ≡ s.fee_coll = ap (λ (u : Untouched). u.fee_coll) c.same in
      let words : words_of t ≡ words_of s = ap (λ (u : Untouched). u.words) c.same in
      let generation : t.generation ≡ s.generation = ap (λ (u : Untouched). u.generation) c.same in
      let limit : t.limit ≡ s.limit = ap (λ (u : Untouched). u.limit) c.same in
      let records : t.records ≡ s.records = ap (λ (u : Untouched). u.records) c.same in
      let clients : t.clients ≡ s.clients = ap (λ (u : Untouched). u.clients) c.same in
      let snap : t.snap_coll ≡ s.snap_coll = ap (λ (u : Untouched). u.snap) c.same in
      let homes : Homes (redeemed_by s account terms) = record {
        coll = omega (arith, c1, c2, c.coll_is, fee_coll, fee_less);
        lusd = omega (arith, l1, l2, c.lusd_is);
        reserve = c.reserve;
        surplus = c.surplus;
      } in
      let rate : RateInRange s terms.rate = record { base = omega arith; minute = omega arith } in
      record {
        stands = fees_stand given terms.rate.base terms.rate.minute (s.fee_coll + terms.fee) given.fee_lusd moved;
        rest = rest_in_place s (redeemed_by s account terms) homes (omega (arith, brought, limit, f.limited.coll))
            (omega (arith, c.less, limit, f.limited.debt))
            (ranges_with s (redeemed_by s account terms) r terms.rate rate price minute refl refl generation limit)
            words generation records clients snap c.marks;
      }
    where
      fee_below : (drawn fee : ℕ) → nat_le drawn fee ≡ false → fee < drawn
      fee_below drawn fee e = grind (arith, nat_tests, e)

-- ---- what is cut

module _ (s : State) (f : Finds s) where
  cuts_covered_by : (vs : List Visit) (troves wanted : ℕ) → AreVisits s s.price vs
      → AllByRecursion (CutIsCovered s) (cuts s.price troves wanted vs)
  cuts_covered_by [] troves wanted h = tt
  cuts_covered_by (v ∷ vs) troves wanted h = by (wanted == 0) (stops_before v (cut_of s.price v wanted) troves)
      (cuts_covered_by vs (troves_after (cut_of s.price v wanted) troves) (wanted - (cut_of s.price v wanted).lot)
      h.2) where
        covered : CutIsCovered s (cut_of s.price v wanted)
        covered =
            let has = has_trove s v.account (v.coll, v.debt) f.stands h.0.entire_is in
            let part : (cut_of s.price v wanted).lot ≤ v.debt - RESERVE = omega arith in
            let least = f.ranges.price_least in
            record {
              own = (v.coll, v.debt);
              entire_is = h.0.entire_is;
              draw = draw_less v.coll v.debt s.price (cut_of s.price v wanted).lot (omega (arith, least)) (omega (
                arith,
                has.least,
              )) part h.0.above;
              lot = omega (arith, part, has.least);
            }

        by : (done stops : Bool)
            → AllByRecursion (CutIsCovered s) (cuts s.price (troves_after (cut_of s.price v wanted) troves)
            (wanted - (cut_of s.price v wanted).lot) vs)
            → AllByRecursion (CutIsCovered s) (cond done [] (cond stops [] (cut_of s.price v wanted
            ∷ cuts s.price (troves_after (cut_of s.price v wanted) troves)
            (wanted - (cut_of s.price v wanted).lot) vs)))
        by true stops later = tt
        by false true later = tt
        by false false later = (covered, later)

  pub cuts_covered : (amount : ℕ) → AllByRecursion (CutIsCovered s) (cuts_in s amount)
  cuts_covered amount = cuts_covered_by (visited s) (trove_count s) amount (visited_are s f.stands.troves.ascend)

  pub cuts_within : (amount : ℕ) → redeemed (cuts_in s amount) ≤ amount
  cuts_within amount = redeemed_within s.price (visited s) (trove_count s) amount
