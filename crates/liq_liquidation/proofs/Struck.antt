-- What a liquidation leaves of sound troves is sound: in their books, from moment to moment, and in a state.
use Rattle.std.proofs.Common.{◌≡◌, ℕ, ◌+◌, ◌-◌, ◌*◌, ◌≤◌, length, refl, ap, sym, ◌∙◌, subst, arith, Some, Option}
use Rattle.std.specs.Prelude.{Ok}
use Rattle.liq_types.specs.declared.amounts.TheConstants.{ONE, LIM, SUM_MOST}
use Rattle.liq_types.specs.declared.figures.Market.{Market}
use Rattle.liq_types.specs.declared.figures.Trove.{Trove}
use Rattle.liq_types.specs.Tables.{at, without}
use Rattle.liq_troves.specs.Rows.{pending, stakes_in, sum_after, sums_spread, sums_snapped}
use Rattle.liq_troves.specs.Standing.{Books, TrovesStand, lifted_row, lift, spread, snap, added_up, coll_due, debt_due}
use Rattle.liq_troves.proofs.Added.{sum_taken}
use Rattle.liq_troves.proofs.Standing.{trove_within, entire_within, lift_stands, spread_stands, snap_stands, some_stake}
use Rattle.liq_liquidation.specs.declared.one.One.{One}
use Rattle.liq_liquidation.specs.declared.one.Victim.{Victim}
use Rattle.liq_liquidation.specs.Given.{IsMarket, IsStruckOf}
use Rattle.liq_liquidation.specs.Moment.{Moment, moment_after, books_at, IsSoundMoment}
use Rattle.liq_liquidation.specs.One.{one_by, struck_books}
use Rattle.liq_liquidation.proofs.Planned.{IsPlanned, planned}
use Rattle.liq_types.proofs.Lookups.{length-without}

-- ---- books

-- the pools together hold the totals
pub record Hold (m : Market) (b : Books) : Type 0 where
  pub stands : TrovesStand b
  pub coll : b.active_coll + b.default_coll ≡ m.total_coll
  pub debt : b.active_debt + b.default_debt ≡ m.total_debt

abbrev pub moment_with : Market → Books → ℕ → Moment
moment_with m b total = record { figures = record { market = m; sums = b.sums; pool_total = total }; troves = b.troves }

abbrev pub victim : ℕ → One → Victim
victim account made = record { account = account; one = made }

-- the market after it
abbrev pub left_market : Market → One → Market
left_market m made =
    record m {
      total_coll = m.total_coll - (made.gas + made.offset_coll + made.surplus);
      total_debt = m.total_debt - made.offset_debt;
      troves = m.troves - 1;
    }

module _ (m : Market) (b : Books) (total : ℕ) (account : ℕ) (t : Trove) (there : at b.troves account
    ≡ Some t) (h : Hold m b) where
  gone : Books
  gone = lifted_row b account (Some t)

  gone_is : lift b account ≡ lifted_row b account (Some t)
  gone_is = ap (lifted_row b account) there

  gone_stands : TrovesStand (lifted_row b account (Some t))
  gone_stands = subst (λ (o : Option Trove). TrovesStand (lifted_row b account o)) there
      (lift_stands b account h.stands)

  pub stakes_left : stakes_in (without b.troves account) ≡ b.sums.stakes - t.stake
  stakes_left = let law = sum_taken (λ (x : Trove). x.stake) b.troves account t there
      in omega (arith, law, h.stands.stakes)

  -- where there are other troves they have a stake
  pub others_stake : 2 ≤ length b.troves → 1 ≤ stakes_in (without b.troves account)
  others_stake several =
      let rows = length-without b.troves account t there in
      some_stake (lifted_row b account (Some t)) (omega (arith, rows, several)) gone_stands

  pub struck_of : m.troves ≡ length b.troves → m.total_coll ≤ LIM → m.total_debt ≤ LIM
      → IsStruckOf (record { market = m; sums = b.sums; pool_total = total }) t
  struck_of counted coll_limit debt_limit =
      let w = trove_within b account t there h.stands in
      let own = entire_within b account t there h.stands in
      record {
        trove = record {
          mark_coll = w.stands.mark_coll;
          mark_debt = w.stands.mark_debt;
          sum_coll = h.stands.sum_coll;
          sum_debt = h.stands.sum_debt;
          coll = omega (arith, own.coll, h.coll, coll_limit);
          debt = omega (arith, own.debt, h.debt, debt_limit);
          others = λ several. omega (arith, others_stake (omega (arith, several, counted)), stakes_left);
        };
        coll = omega (arith, own.coll, h.coll);
        debt = omega (arith, own.debt, h.debt);
      }

  module _ (made : One) (p : IsPlanned m b.sums t total made) (counted : m.troves ≡ length b.troves) where
    some_left : 1 ≤ stakes_in (without b.troves account)
    some_left = others_stake (omega (arith, counted, p.several))

    row_stands : TrovesStand (snap (spread (lifted_row b account (Some t)) made.spread_coll made.spread_debt))
    row_stands =
        let coll = subst (λ n. sum_after b.sums.coll made.spread_coll n ≤ SUM_MOST) (sym stakes_left) p.coll_fits in
        let debt = subst (λ n. sum_after b.sums.debt made.spread_debt n ≤ SUM_MOST) (sym stakes_left) p.debt_fits in
        snap_stands (spread (lifted_row b account (Some t)) made.spread_coll made.spread_debt) some_left
        (spread_stands (lifted_row b account (Some t)) made.spread_coll made.spread_debt coll debt gone_stands)

    row_is : struck_books b (victim account made)
        ≡ snap (spread (lifted_row b account (Some t)) made.spread_coll made.spread_debt)
    row_is = ap (λ (x : Books). snap (spread x made.spread_coll made.spread_debt)) gone_is

    coll_left : (b.active_coll - t.coll) + (b.default_coll - pending t.stake b.sums.coll t.mark_coll + made.spread_coll)
        ≡ m.total_coll - (made.gas + made.offset_coll + made.surplus)
    coll_left =
        let w = trove_within b account t there h.stands in
        omega (arith, w.coll, w.pending_coll, h.coll, p.coll)

    debt_left : (b.active_debt - t.debt) + (b.default_debt - pending t.stake b.sums.debt t.mark_debt + made.spread_debt)
        ≡ m.total_debt - made.offset_debt
    debt_left =
        let w = trove_within b account t there h.stands in
        omega (arith, w.debt, w.pending_debt, h.debt, p.debt)

    -- the books after it hold the totals that are left
    pub struck_hold : Hold (left_market m made) (struck_books b (victim account made))
    struck_hold = subst (λ (x : Books). Hold (left_market m made) x) (sym row_is) (record {
      stands = row_stands;
      coll = coll_left;
      debt = debt_left;
    })

    -- and are those of the moment after it
    pub after_is : moment_after (moment_with m b total) (victim account made) ≡ moment_with (left_market m made)
        (struck_books b (victim account made)) (total - made.offset_debt)
    after_is =
        ap (λ c. record {
          figures = record {
            market = left_market m made;
            sums = sums_snapped (sums_spread (record b.sums { stakes = stakes_in (without b.troves account) })
                made.spread_coll made.spread_debt) c;
            pool_total = total - made.offset_debt;
          };
          troves = without b.troves account;
        }) (sym coll_left)
        ∙ ap (λ (x : Books). moment_with (left_market m made) x (total - made.offset_debt)) (sym row_is)

    pub rows_left : length (struck_books b (victim account made)).troves ≡ m.troves - 1
    rows_left =
        let rows = length-without b.troves account t there in
        ap (λ (x : Books). length x.troves) row_is ∙ omega (arith, rows, counted)

-- ---- moments

pub sound_from : (m : Market) (b : Books) (total : ℕ) → IsMarket m → m.troves ≡ length b.troves → m.total_coll ≤ LIM
    → m.total_debt ≤ LIM → Hold m b → IsSoundMoment (moment_with m b total)
sound_from m b total market counted coll_limit debt_limit h =
    let s = h.stands in
    let coll : b.default_coll ≡ m.total_coll - added_up (λ t. t.coll) b.troves = omega (arith, h.coll, s.active_coll) in
    let debt : b.default_debt ≡ m.total_debt - added_up (λ t. t.debt) b.troves = omega (arith, h.debt, s.active_debt) in
    record {
      market = market;
      counted = counted;
      coll = omega (arith, h.coll, s.active_coll);
      debt = omega (arith, h.debt, s.active_debt);
      coll_limit = coll_limit;
      debt_limit = debt_limit;
      troves = record {
        ascend = s.ascend;
        each = s.each;
        sum_coll = s.sum_coll;
        sum_debt = s.sum_debt;
        stakes = s.stakes;
        active_coll = refl;
        active_debt = refl;
        snap = s.snap;
        snap_none = s.snap_none;
        due_coll = subst (λ n. added_up (coll_due b.sums.coll) b.troves ≤ n * ONE) coll s.due_coll;
        due_debt = subst (λ n. added_up (debt_due b.sums.debt) b.troves ≤ n * ONE) debt s.due_debt;
      };
    }

pub held : (now : Moment) → IsSoundMoment now → Hold now.figures.market (books_at now)
held now s = record { stands = s.troves; coll = omega (arith, s.coll); debt = omega (arith, s.debt) }

pub sound_after : (now : Moment) (account : ℕ) (t : Trove) (made : One) → IsSoundMoment now
    → at now.troves account ≡ Some t → one_by now.figures.market now.figures.sums t now.figures.pool_total ≡ Ok made
    → IsSoundMoment (moment_after now (victim account made))
sound_after now account t made s there is =
    let m = now.figures.market in
    let b = books_at now in
    let total = now.figures.pool_total in
    let h = held now s in
    let p = planned m now.figures.sums t total made is in
    let rows = rows_left m b total account t there h made p s.counted in
    subst (λ (x : Moment). IsSoundMoment x) (sym (after_is m b total account t there h made p s.counted))
    (sound_from (left_market m made) (struck_books b (victim account made)) (total - made.offset_debt)
    (record { price_some = s.market.price_some; price_most = s.market.price_most }) (sym rows)
    (omega (arith, s.coll_limit)) (omega (arith, s.debt_limit))
    (struck_hold m b total account t there h made p s.counted))
