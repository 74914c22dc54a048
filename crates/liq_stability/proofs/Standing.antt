-- What one account holds in a state, and how offsets and own operations keep it.
use Rattle.std.proofs.Common.{◌≡◌, ℕ, suc, ◌+◌, ◌-◌, ◌*◌, ◌^◌, ◌≤◌, ◌<◌, Bool, true, false, cond, ◌∷◌, [], ◌++◌, refl, ap, sym, ◌∙◌, subst, arith, inl, inr, Some, None, Option, length}
use Rattle.std.specs.Prelude.{◌⊎◌, ◌==◌, ◌&&◌, not}
use Rattle.std.proofs.lemmas.Bool.Decides.{nat_tests}
use Rattle.std.proofs.lemmas.Grind.{div_ceil_times}
use Rattle.liq_num.specs.Quotient.{ceiling_of}
use Rattle.liq_types.specs.declared.amounts.TheConstants.{P_LEAST, RISES_MOST}
use Rattle.liq_types.specs.declared.events.PoolEvent.TheVariants as event
use Rattle.liq_types.specs.Allowance.{cost_of}
use Rattle.liq_types.specs.PlainLedger.{Share, share_after}
use Rattle.liq_types.specs.Product.{ScaledProduct, IsWithinRange, TakesPartUpTo, after_offset, sum_growth, place_of, is_place, sumat, start_words, mark_after}
use Rattle.liq_types.specs.State.{State, PoolMark, After, DepositEntry}
use Rattle.liq_types.specs.Tables.{Table, at, put, without}
use Rattle.liq_types.specs.Totals.{pool_total}
use Rattle.liq_types.specs.WellFormed.{IsMoment, AreFinished, Ascends}
use Rattle.liq_types.proofs.Lookups.{at-put_same, at-put_other, at-without_same, at-without_other}
use Rattle.liq_types.proofs.Places.{rises-snoc, later_none}
use Rattle.liq_types.proofs.Rounding.{weight_covers}
use Rattle.liq_types.proofs.Watching.{Watch, watch_after}
use Rattle.liq_stability.specs.Own.{offset, with_deposit}
use Rattle.liq_stability.specs.Position.{mark_of, sums_from, balance_by, gain_by}
use Rattle.liq_stability.specs.Words.{words_of}
use Rattle.liq_stability.specs.Worth.{base_of, reach}
use Rattle.liq_stability.proofs.Falling.{where_left, stays_past, gained_low, gained_near, live_place, past_place}
use Rattle.liq_stability.proofs.Holding.{HoldsNothing, HoldsLive, HoldsPast, IsRead, live_to_live, live_to_past, past_to_past, none_to_none, read_none, read_live, read_past, moved, own_live, own_none}
use Rattle.liq_stability.proofs.Pool.{offset_now, moment-more, length-more, mark-grown, mark-full, words-snoc}
use Rattle.liq_stability.proofs.Reading.{IsLive, IsPast, reach_whole, some_power, balance_low, balance_high, balance-past, gain_low, gain_high, grown, grown_more, grown_same, grown_none}

-- ---- what an account holds

-- a mark, beside what the plain account of the events says of it
pub record IsMarked (mark : PoolMark) (sum : ℕ) (w : Watch) (amount lost : ℕ) : Type 0 where
  pub amount_is : w.amount ≡ amount
  pub some : 1 ≤ amount
  pub most : amount ≤ 10 ^ 27
  pub least_p : P_LEAST ≤ mark.p
  pub epoch_is : w.place.0 ≡ mark.epoch
  pub scale_is : w.place.1 ≡ mark.scale
  pub events : w.own_events ≡ lost + 1
  pub sum_then : mark.sum ≤ sum

pub record StandsLive (now : ScaledProduct) (share : Share) (w : Watch) (got amount lost s : ℕ) (mark : PoolMark)
    (j : ℕ) : Type 0 where
  pub live : IsLive now mark j
  pub holds : HoldsLive share w.weight got amount lost (now.p * reach j) (base_of mark) s

pub record StandsPast (now : ScaledProduct) (share : Share) (w : Watch) (got amount lost s : ℕ) (mark : PoolMark) :
    Type 0 where
  pub past : IsPast now mark
  pub holds : HoldsPast share w.weight got amount lost (base_of mark) s

abbrev pub StandsEither : ScaledProduct → Share → Watch → ℕ → ℕ → ℕ → ℕ → PoolMark → Type 0
StandsEither now share w got amount lost s mark = ((j : ℕ) × StandsLive now share w got amount lost s mark j)
    ⊎ StandsPast now share w got amount lost s mark

abbrev pub StandsAt : State → Share → Watch → ℕ → ℕ → PoolMark → Type 0
StandsAt s share w got amount mark =
    (lost : ℕ) × IsMarked mark (sums_from s mark 0) w amount lost × StandsEither (words_of s) share w got amount lost
    (grown mark (sums_from s mark)) mark

abbrev pub StandsBy : State → Share → Watch → ℕ → Option DepositEntry → Type 0
StandsBy s share w got None = (w.amount ≡ 0) × HoldsNothing share w.weight w.own_events got
StandsBy s share w got (Some d) = IsMoment (length s.offsets) d.mark
    × StandsAt s share w got d.amount (mark_of s d.mark)

-- ---- what is read of it, before any cap

abbrev pub bare_balance : State → Option DepositEntry → ℕ
bare_balance s None = 0
bare_balance s (Some d) = balance_by d.amount (mark_of s d.mark) (words_of s)

abbrev pub bare_gain : State → Option DepositEntry → ℕ
bare_gain s None = 0
bare_gain s (Some d) = gain_by d.amount (mark_of s d.mark) (sums_from s (mark_of s d.mark))

positive_base : (mark : PoolMark) → P_LEAST ≤ mark.p → 0 < base_of mark
positive_base mark h = omega arith

module _ (s : State) (share : Share) (w : Watch) (got : ℕ) where
  reads_at : (amount : ℕ) (mark : PoolMark) → StandsAt s share w got amount mark
      → IsRead share w.weight w.own_events (balance_by amount mark (words_of s)) (got + gain_by amount mark
      (sums_from s mark))
  reads_at amount mark h =
      let pos = positive_base mark h.1.least_p in
      let some : 1 ≤ mark.p = omega (arith, h.1.least_p) in
      let gain = gain_by amount mark (sums_from s mark) in
      let low = gain_low amount mark (sums_from s mark) in
      let high = gain_high amount mark (sums_from s mark) some in
      subst (λ events. IsRead share w.weight events (balance_by amount mark (words_of s)) (got + gain)) (sym h.1.events)
      (elim h.2 [
        | inl k ↦
            read_live share w.weight got amount h.0 ((words_of s).p * reach k.0) (base_of mark)
            (grown mark (sums_from s mark)) (balance_by amount mark (words_of s)) gain pos
            (balance_low amount (words_of s) mark k.0 k.1.live) (balance_high amount (words_of s) mark k.0 some
            k.1.live) low high k.1.holds
        | inr k ↦
            subst (λ b. IsRead share w.weight (h.0 + 1) b (got + gain))
            (sym (balance-past amount (words_of s) mark k.past))
            (read_past share w.weight got amount h.0 (base_of mark) (grown mark (sums_from s mark)) gain pos low high
            k.holds)
      ])

  pub reads : (o : Option DepositEntry) → StandsBy s share w got o
      → IsRead share w.weight w.own_events (bare_balance s o) (got + bare_gain s o)
  reads None h = subst (λ g. IsRead share w.weight w.own_events 0 g) (plus_none got)
      (read_none share w.weight w.own_events got h.1) where
        plus_none : (n : ℕ) → n ≡ n + 0
        plus_none n = omega arith
  reads (Some d) h = reads_at d.amount (mark_of s d.mark) h.1

-- ---- through an offset

-- what an offset may cost a deposit that counts
weighs : (w : Watch) (now : ScaledProduct) (mark : PoolMark) (j sum amount lost : ℕ) → w.now ≡ now
    → IsMarked mark sum w amount lost → IsLive now mark j
    → amount ≤ cost_of w.amount w.place (place_of w.now) * 10 ^ (9 * j)
weighs w now mark j sum amount lost is m h =
    let epoch_now : w.now.epoch ≡ now.epoch = ap (λ (v : ScaledProduct). v.epoch) is in
    let scale_now : w.now.scale ≡ now.scale = ap (λ (v : ScaledProduct). v.scale) is in
    let rise : w.now.scale - w.place.1 ≡ j = omega (arith, scale_now, m.scale_is, h.scale) in
    let test : (not (w.amount == 0) && w.now.epoch == w.place.0) ≡ true =
    tested w.amount w.now.epoch w.place.0 (omega (arith, m.amount_is, m.some)) (epoch_now ∙ h.epoch
    ∙ sym m.epoch_is) in
    let is_ceiling : cost_of w.amount w.place (place_of w.now) ≡ ceiling_of w.amount 1 (10 ^ (9 * j)) =
    ap (λ b. cond b (ceiling_of w.amount 1 (10 ^ (9 * (w.now.scale - w.place.1)))) 0) test
    ∙ ap (λ r. ceiling_of w.amount 1 (10 ^ (9 * r))) rise in
    let above : w.amount * 1 ≤ ceiling_of w.amount 1 (10 ^ (9 * j)) * 10 ^ (9 * j) =
    (div_ceil_times (w.amount * 1) (10 ^ (9 * j)) (some_power (9 * j))).0 in
    let same : cost_of w.amount w.place (place_of w.now) * 10 ^ (9 * j) ≡ ceiling_of w.amount 1 (10 ^ (9 * j)) * 10 ^
    (9 * j) = ap (λ n. n * 10 ^ (9 * j)) is_ceiling in
    omega (arith, above, same, m.amount_is) where
      tested : (amount epoch then_epoch : ℕ) → 1 ≤ amount → epoch ≡ then_epoch
          → (not (amount == 0) && epoch == then_epoch) ≡ true
      tested amount epoch then_epoch some e = grind (arith, nat_tests, some, e)

module _ (most : ℕ) (served : most ≤ 10 ^ (9 * RISES_MOST)) (s : State) (debt coll rise : ℕ) (range : IsWithinRange
    (words_of s)) (takes : TakesPartUpTo most (offset_now s debt coll)) (worth_less : coll ≤ 11 * debt) (account :
    ℕ) (share : Share) (w : Watch) (got : ℕ) (now_is : w.now ≡ words_of s) where
  abbrev share_then : Share
  share_then = share_after account share (event.Offset debt coll (pool_total s) rise)

  abbrev watch_then : Watch
  watch_then = watch_after account w (event.Offset debt coll (pool_total s) rise)

  sums_more : (mark : PoolMark) (i : ℕ) → sums_from (offset s debt coll) mark i
      ≡ sums_from s mark i + cond (is_place (place_of (words_of s)) (mark.epoch, mark.scale + i))
      (sum_growth (words_of s) (offset_now s debt coll)) 0
  sums_more mark i =
      let snoc = rises-snoc (start_words s.start) s.offsets (offset_now s debt coll) (mark.epoch, mark.scale + i) in
      omega (arith, snoc)

  marked_then : (mark : PoolMark) (amount lost : ℕ) → IsMarked mark (sums_from s mark 0) w amount lost
      → IsMarked mark (sums_from (offset s debt coll) mark 0) watch_then amount lost
  marked_then mark amount lost m = record {
    amount_is = m.amount_is;
    some = m.some;
    most = m.most;
    least_p = m.least_p;
    epoch_is = m.epoch_is;
    scale_is = m.scale_is;
    events = m.events;
    sum_then = let more = sums_more mark 0 in omega (arith, more, m.sum_then);
  }

  live_then : (mark : PoolMark) (amount lost : ℕ) → IsMarked mark (sums_from s mark 0) w amount lost → (j : ℕ)
      → StandsLive (words_of s) share w got amount lost (grown mark (sums_from s mark)) mark j
      → StandsEither (after_offset (words_of s) (offset_now s debt coll)) share_then watch_then got amount lost
      (grown mark (sums_from (offset s debt coll) mark)) mark
  live_then mark amount lost m j h =
      let o = offset_now s debt coll in
      let now = words_of s in
      let x = sum_growth now o in
      let total = pool_total s in
      let pos : 0 < total = omega (arith, takes.some, takes.within) in
      let light : 10 ^ 9 * amount * reach j ≤ cost_of w.amount w.place (place_of w.now) * base_of mark =
      weight_covers amount (cost_of w.amount w.place (place_of w.now)) (10 ^ 9) mark.p (10 ^ (9 * j)) (reach j)
      (10 ^ 27) (reach_whole j h.live.few) m.least_p (weighs w now mark j (sums_from s mark 0) amount lost now_is m
      h.live) in
      let grows : grown mark (sums_from (offset s debt coll) mark) ≡ grown mark (sums_from s mark) + x * reach j =
      grown_more mark (sums_from (offset s debt coll) mark) (sums_from s mark) x j h.live.few m.sum_then
      (λ i. sums_more mark i ∙ ap (λ b. sums_from s mark i + cond b x 0) (live_place now mark j i h.live)) in
      elim (where_left most served now o range takes mark m.least_p j h.live) [
        | inl k ↦ inl (
          k.0,
          record {
            live = k.1.live;
            holds =
                subst (λ z. HoldsLive share_then (w.weight + cost_of w.amount w.place (place_of w.now)) got amount lost
                ((after_offset now o).p * reach k.0) (base_of mark) z) (sym grows)
                (live_to_live account share debt coll total rise takes.within worth_less w.weight
                (cost_of w.amount w.place (place_of w.now)) got amount lost (now.p * reach j) ((after_offset now o).p
                * reach k.0) (base_of mark) (grown mark (sums_from s mark)) (x * reach j) (reach j) k.1.low k.1.near
                (gained_low now o j) (gained_near now o j pos) light h.holds);
          },
        )
        | inr k ↦ inr (record {
          past = k.past;
          holds =
              subst (λ z. HoldsPast share_then (w.weight + cost_of w.amount w.place (place_of w.now)) got amount lost
              (base_of mark) z) (sym grows)
              (live_to_past account share debt coll total rise takes.within worth_less w.weight
              (cost_of w.amount w.place (place_of w.now)) got amount lost (now.p * reach j) (base_of mark)
              (grown mark (sums_from s mark)) (x * reach j) (reach j) (positive_base mark m.least_p)
              (k.little amount m.most) (gained_low now o j) (gained_near now o j pos) light h.holds);
        })
      ]

  past_then : (mark : PoolMark) (amount lost : ℕ) → IsMarked mark (sums_from s mark 0) w amount lost
      → StandsPast (words_of s) share w got amount lost (grown mark (sums_from s mark)) mark
      → StandsPast (after_offset (words_of s) (offset_now s debt coll)) share_then watch_then got amount lost
      (grown mark (sums_from (offset s debt coll) mark)) mark
  past_then mark amount lost m h =
      let o = offset_now s debt coll in
      let now = words_of s in
      let same : grown mark (sums_from (offset s debt coll) mark) ≡ grown mark (sums_from s mark) =
      grown_same mark (sums_from (offset s debt coll) mark) (sums_from s mark) (λ i few. sums_more mark i
      ∙ unchanged (sums_from s mark i) (sum_growth now o) (is_place (place_of now) (mark.epoch, mark.scale + i))
      (past_place now mark i few h.past)) in
      record {
        past = stays_past most served now o range takes mark m.least_p h.past;
        holds =
            subst (λ z. HoldsPast share_then (w.weight + cost_of w.amount w.place (place_of w.now)) got amount lost
            (base_of mark) z) (sym same)
            (past_to_past account share debt coll (pool_total s) rise takes.within worth_less w.weight
            (cost_of w.amount w.place (place_of w.now)) got amount lost (base_of mark) (grown mark (sums_from s mark))
            h.holds);
      } where
        unchanged : (n x : ℕ) (b : Bool) → b ≡ false → n + cond b x 0 ≡ n
        unchanged n x b e = ap (λ c. n + cond c x 0) e ∙ none n where
          none : (m : ℕ) → m + 0 ≡ m
          none m = omega arith

  at_then : (amount : ℕ) (mark : PoolMark) → StandsAt s share w got amount mark
      → StandsAt (offset s debt coll) share_then watch_then got amount mark
  at_then amount mark h = (
    h.0,
    marked_then mark amount h.0 h.1,
    subst (λ (v : ScaledProduct). StandsEither v share_then watch_then got amount h.0
        (grown mark (sums_from (offset s debt coll) mark)) mark) (sym (words-snoc s debt coll))
        (elim h.2 [
          | inl k ↦ live_then mark amount h.0 h.1 k.0 k.1
          | inr k ↦ inr (past_then mark amount h.0 h.1 k)
        ]),
  )

  pub offset_stands : (o : Option DepositEntry) → StandsBy s share w got o
      → StandsBy (offset s debt coll) share_then watch_then got o
  offset_stands None h = (
    h.0,
    none_to_none account share debt coll (pool_total s) rise takes.within worth_less w.weight
        (cost_of w.amount w.place (place_of w.now)) w.own_events got h.1,
  )
  offset_stands (Some d) h = (
    moment-more (length s.offsets) (length (s.offsets ++ offset_now s debt coll ∷ [])) (length-more s.offsets
        (offset_now s debt coll)) d.mark h.0,
    subst (StandsAt (offset s debt coll) share_then watch_then got d.amount) (sym (mark-grown s debt coll d.mark h.0))
        (at_then d.amount (mark_of s d.mark) h.1),
  )

-- ---- through an own operation

-- what its account has then
deposit_left : (table : Table DepositEntry) (account : ℕ) (d : DepositEntry) → Ascends table
    → ((at (with_deposit table account d) account ≡ None) × (d.amount ≡ 0))
    ⊎ ((at (with_deposit table account d) account ≡ Some d) × (1 ≤ d.amount))
deposit_left table account d h = by (d.amount == 0) refl where
  none : (n : ℕ) → (n == 0) ≡ true → n ≡ 0
  none n e = grind (arith, nat_tests, e)

  some : (n : ℕ) → (n == 0) ≡ false → 1 ≤ n
  some n e = grind (arith, nat_tests, e)

  by : (b : Bool) → (d.amount == 0) ≡ b → ((at (cond b (without table account) (put table account d)) account ≡ None)
      × (d.amount ≡ 0)) ⊎ ((at (cond b (without table account) (put table account d)) account ≡ Some d)
      × (1 ≤ d.amount))
  by true e = inl (at-without_same table account h, none d.amount e)
  by false e = inr (at-put_same table account d, some d.amount e)

-- and what every other has
pub deposit_other : (table : Table DepositEntry) (account : ℕ) (d : DepositEntry) (q : ℕ) → (account == q) ≡ false
    → at (with_deposit table account d) q ≡ at table q
deposit_other table account d q h = by (d.amount == 0) where
  by : (b : Bool) → at (cond b (without table account) (put table account d)) q ≡ at table q
  by true = at-without_other table account q h
  by false = at-put_other table account d q h

module _ (s : State) (finished : AreFinished s.start) (range : IsWithinRange (words_of s))
    (ascends : Ascends s.deposits) (account put_in out : ℕ) (share : Share) (w : Watch) (g : ℕ) (now_is : w.now
    ≡ words_of s) (b : ℕ) (within : out ≤ b) (read : IsRead share w.weight w.own_events b g) (left : ℕ) (left_is :
    left ≡ b + put_in - out) (most : left ≤ 10 ^ 27) where
  -- what the plain account of the events has then
  abbrev pub watch_moved : Watch
  watch_moved = record w { amount = left; place = place_of w.now; own_events = w.own_events + 1 }

  abbrev pub share_moved : Share
  share_moved = moved account share w.weight w.own_events b g put_in out within read

  abbrev mark_now : PoolMark
  mark_now = mark_after s.start s.offsets

  here : sums_from s mark_now 0 ≡ mark_now.sum
  here = ap (λ n. sumat s.start s.offsets ((words_of s).epoch, n)) (same (words_of s).scale) where
    same : (n : ℕ) → n + 0 ≡ n
    same n = omega arith

  nothing_yet : grown mark_now (sums_from s mark_now) ≡ 0
  nothing_yet = grown_none mark_now (sums_from s mark_now) here (λ i. later_none s.start s.offsets finished
      ((words_of s).epoch, (words_of s).scale + suc i) (inr (refl, omega arith)))

  at_now : 1 ≤ left → StandsAt s share_moved watch_moved g left mark_now
  at_now some = (
    w.own_events,
    record {
      amount_is = refl;
      some = some;
      most = most;
      least_p = range.least;
      epoch_is = ap (λ (v : ScaledProduct). v.epoch) now_is;
      scale_is = ap (λ (v : ScaledProduct). v.scale) now_is;
      events = refl;
      sum_then = omega (arith, here);
    },
    inl (
      0,
      record {
        live = record { few = omega arith; epoch = refl; scale = omega arith };
        holds =
            subst (λ z. HoldsLive share_moved w.weight g left w.own_events (base_of mark_now) (base_of mark_now) z)
            (sym nothing_yet)
            (own_live account share w.weight w.own_events b g put_in out within read left (base_of mark_now)
            (omega (arith, left_is, within)));
      },
    ),
  )

  pub own_stands : StandsBy s share_moved watch_moved g (at (with_deposit s.deposits account (record {
    amount = left;
    mark = After (length s.offsets);
  })) account)
  own_stands =
      let d : DepositEntry = record { amount = left; mark = After (length s.offsets) } in
      elim (deposit_left s.deposits account d ascends) [
        | inl k ↦
            subst (StandsBy s share_moved watch_moved g) (sym k.0) (
              k.1,
              own_none account share w.weight w.own_events b g put_in out within read (omega (
                arith,
                left_is,
                within,
                k.1,
              )),
            )
        | inr k ↦
            subst (StandsBy s share_moved watch_moved g) (sym k.0)
            (omega arith, subst (StandsAt s share_moved watch_moved g left) (sym (mark-full s)) (at_now k.1))
      ]
