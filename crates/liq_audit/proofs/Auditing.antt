-- The loop of an audit over the events, for one account.
use Rattle.std.proofs.Common.{◌≡◌, ℕ, ◌+◌, ◌*◌, ◌^◌, ◌<◌, ◌≤◌, cond, List, [], ◌∷◌, ◌++◌, length, take, get_or, map, refl, ap, sym, ◌∙◌, subst, arith, length-take}
use Rattle.std.specs.Prelude.{fold, All}
use Rattle.std.proofs.lemmas.List.{take_more}
use Rattle.std.proofs.lemmas.List.Elements.{All-map}
use Rattle.std.proofs.lemmas.List.Sums.{fold-append, sum_by-take-le}
use Rattle.liq_num.specs.Quotient.{ceiling_of}
use Rattle.liq_types.specs.declared.amounts.TheConstants.{LIM}
use Rattle.liq_types.specs.declared.events.PoolEvent.{PoolEvent}
use Rattle.liq_types.specs.declared.events.PoolEvent.TheVariants as event
use Rattle.liq_types.specs.Allowance.{weight_of, balance_allowance, gain_allowance}
use Rattle.liq_types.specs.PlainLedger.{coll_of, offsets_coll}
use Rattle.liq_types.specs.Product.{ScaledProduct}
use Rattle.liq_audit.specs.declared.enclosure.Enclosure.{Enclosure}
use Rattle.liq_audit.specs.declared.rows.TheConstants.{OFFSETS_MOST}
use Rattle.liq_audit.specs.declared.watcher.Watcher.{Watcher}
use Rattle.liq_audit.specs.declared.rows.EngineRow.{EngineRow}
use Rattle.liq_audit.specs.Auditable.{IsAuditable, IsAuditableEvent, AreAuditable, words_along, is_offset, offsets_in, row_of, EnclosesShare}
use Rattle.liq_audit.specs.Enclosure.{enclosed, HasParts, HasTotals, IsSmall}
use Rattle.liq_audit.specs.Watching.{weight_most, IsShort}
use Rattle.liq_audit.proofs.Watchers.{watcher_of, HasRise}
use Rattle.liq_types.proofs.Watching.{watched, weight_is, own_events_are}
use Rattle.liq_audit.proofs.Enclosing.{encloses}
use Rattle.liq_audit.proofs.Fitting.{bounded_none, StandsAlong, along, small, watched_words, few_own_events, has_parts, has_rise, is_few}

take_few : {X : Type 0} (k : ℕ) (xs : List X) → k ≤ length xs → length (take k xs) ≡ k
take_few k xs h = let long = length-take k xs in omega arith

-- ---- one more event

module _ {B : Type 0} (f : B → PoolEvent → B) (b : B) where
  pub fold_more : (events : List PoolEvent) (k : ℕ) (d : PoolEvent) → k < length events → fold f b (take (k + 1) events)
      ≡ f (fold f b (take k events)) (get_or events k d)
  fold_more events k d h = ap (λ (xs : List PoolEvent). fold f b xs) (take_more events k d h)
      ∙ fold-append f b (take k events) (get_or events k d ∷ [])

one_offset : (e : PoolEvent) → weight_most e ≡ cond (is_offset e) 1 0 * 2 ^ 64
one_offset (event.Own owner put_in out gain amount) = refl
one_offset (event.Offset debt coll total rise) = refl

pub offsets_more : (events : List PoolEvent) (k : ℕ) (d : PoolEvent) → k < length events
    → offsets_in (take (k + 1) events) ≡ offsets_in (take k events) + cond (is_offset (get_or events k d)) 1 0
offsets_more events k d h = fold_more (λ a x. a + cond (is_offset x) 1 0) 0 events k d h

pub offsets_few : (events : List PoolEvent) (k : ℕ) → offsets_in (take k events) ≤ offsets_in events
offsets_few events k = sum_by-take-le (λ e. cond (is_offset e) 1 0) events k

pub weight_more : (events : List PoolEvent) (k : ℕ) (d : PoolEvent) (before after : ℕ) → k < length events
    → before ≤ offsets_in (take k events) * 2 ^ 64 → after ≤ before + weight_most (get_or events k d)
    → after ≤ offsets_in (take (k + 1) events) * 2 ^ 64
weight_more events k d before after h low more =
    let one = one_offset (get_or events k d) in
    let counted = offsets_more events k d h in
    omega (arith, low, more, one, counted)

-- ---- what the next event's calls ask

module _ (events : List PoolEvent) (h : IsAuditable events) (account k : ℕ) (low : k ≤ length events) where
  stands : StandsAlong account [] events k
  stands = along account [] events k low h.few h.gains h.each (bounded_none account)

  few_then : length (take k events) < 2 ^ 40
  few_then = let is = take_few k events low in omega (arith, is, low, h.few)

  pub small_at : (e : Enclosure) → e ≡ enclosed account (take k events) → IsSmall e
  small_at e is =
      let colls : offsets_coll (take k events) ≤ LIM = (let part = sum_by-take-le coll_of events k
      in omega (arith, part, h.gains)) in
      subst IsSmall (sym is) (small (length (take k events)) (offsets_coll (take k events))
      (enclosed account (take k events)) _ (words_along (take k events)) few_then colls stands.bounded)

  pub next_at : (d : PoolEvent) → k < length events → IsAuditableEvent (take k events) (get_or events k d)
  next_at d less = stands.next d less

  pub parts_at : (d : PoolEvent) → k < length events → HasParts (get_or events k d)
  parts_at d less = has_parts (take k events) (get_or events k d) (next_at d less)

  pub rise_at : (d : PoolEvent) → k < length events → HasRise (watched account (take k events)) (get_or events k d)
  rise_at d less = has_rise account (take k events) (get_or events k d) (next_at d less)

  pub own_at : (v : Watcher) → v ≡ watcher_of (watched account (take k events)) → v.own_events ≤ k
  own_at v is =
      let few = few_own_events account (take k events) in
      let same : v.own_events ≡ (watched account (take k events)).own_events = ap (λ (u : Watcher). u.own_events) is in
      let long = take_few k events low in
      omega (arith, few, same, long)

  pub short_at : (d : PoolEvent) → k < length events → offsets_in events ≤ OFFSETS_MOST → (v : Watcher)
      → v ≡ watcher_of (watched account (take k events)) → v.weight ≤ offsets_in (take k events) * 2 ^ 64
      → IsShort v (get_or events k d)
  short_at d less limit v is light =
      let words = watched_words account (take k events) in
      let scale : v.scale ≡ (words_along (take k events)).scale = ap (λ (u : Watcher). u.scale) is
      ∙ ap (λ (w : ScaledProduct). w.scale) words in
      let epoch : v.epoch ≡ (words_along (take k events)).epoch = ap (λ (u : Watcher). u.epoch) is
      ∙ ap (λ (w : ScaledProduct). w.epoch) words in
      let bounded = stands.bounded in
      let offsets = offsets_few events k in
      let own = own_at v is in
      let few = few_then in
      let long = take_few k events low in
      record {
        scale = omega (arith, scale, bounded.scale, few);
        epoch = omega (arith, epoch, bounded.epoch, few);
        weight = omega (arith, light, offsets, limit);
        own_events = omega (arith, own, few, long);
        rise = is_few (take k events) (get_or events k d) bounded.range (next_at d less);
      }

-- ---- the allowances

-- as they are read from the watcher after all events
pub balance_allowed : (account : ℕ) (events : List PoolEvent) (v : Watcher) → v ≡ watcher_of (watched account events)
    → ceiling_of v.weight 1 (10 ^ 9) + v.own_events ≡ balance_allowance account events
balance_allowed account events v is =
    ap (λ (u : Watcher). ceiling_of u.weight 1 (10 ^ 9) + u.own_events) is
    ∙ ap (λ w. ceiling_of w 1 (10 ^ 9) + (watched account events).own_events) (weight_is account events)
    ∙ ap (λ m. ceiling_of (weight_of account events) 1 (10 ^ 9) + m) (own_events_are account events)

pub gain_allowed : (account : ℕ) (events : List PoolEvent) (v : Watcher) → v ≡ watcher_of (watched account events)
    → ceiling_of 12 v.weight (10 ^ 9) + 15 * v.own_events ≡ gain_allowance account events
gain_allowed account events v is =
    ap (λ (u : Watcher). ceiling_of 12 u.weight (10 ^ 9) + 15 * u.own_events) is
    ∙ ap (λ w. ceiling_of 12 w (10 ^ 9) + 15 * (watched account events).own_events) (weight_is account events)
    ∙ ap (λ m. ceiling_of 12 (weight_of account events) (10 ^ 9) + 15 * m) (own_events_are account events)

-- ---- the rows

-- a row, made from its enclosure and its allowance
pub row_made : (events : List PoolEvent) (engine : EngineRow) (e : Enclosure) (balance_allow gain_allow : ℕ)
    → e ≡ enclosed engine.account events → balance_allow ≡ balance_allowance engine.account events
    → gain_allow ≡ gain_allowance engine.account events → record {
      account = engine.account;
      balance_lo = e.balance_lo;
      balance_hi = e.balance_hi;
      balance = engine.balance;
      balance_allow = balance_allow;
      gain_lo = e.gain_lo;
      gain_hi = e.gain_hi;
      gain = engine.gain;
      gain_allow = gain_allow;
    } ≡ row_of events engine
row_made events engine e balance_allow gain_allow is b g =
    let row = row_of events engine in
    ap (λ (x : Enclosure). record row {
      balance_lo = x.balance_lo;
      balance_hi = x.balance_hi;
      gain_lo = x.gain_lo;
      gain_hi = x.gain_hi;
      balance_allow = balance_allow;
      gain_allow = gain_allow;
    }) is
    ∙ ap (λ n. record row { balance_allow = n; gain_allow = gain_allow }) b
    ∙ ap (λ n. record row { gain_allow = n }) g

have_totals : (before events : List PoolEvent) → AreAuditable before events → HasTotals events
have_totals before [] h = tt
have_totals before (event.Own owner put_in out gain amount ∷ es) h =
    (tt, have_totals (before ++ event.Own owner put_in out gain amount ∷ []) es h.2)
have_totals before (event.Offset debt coll total rise ∷ es) h = (
  omega (arith, h.0.some, h.0.within),
  have_totals (before ++ event.Offset debt coll total rise ∷ []) es h.2,
)

pub encloses_row : (events : List PoolEvent) → IsAuditable events → (engine : EngineRow)
    → EnclosesShare events (row_of events engine)
encloses_row events h engine =
    let e = encloses engine.account events (have_totals [] events h.each) in
    record {
      balance_lo = e.balance_lo;
      balance_hi = e.balance_hi;
      gain_lo = e.gain_lo;
      gain_hi = e.gain_hi;
      balance_allow = refl;
      gain_allow = refl;
    }

pub encloses_rows : (events : List PoolEvent) → IsAuditable events → (engine : List EngineRow)
    → All (EnclosesShare events) (map (row_of events) engine)
encloses_rows events h engine = All-map (EnclosesShare events) (row_of events) engine (λ k d low. encloses_row events h
    (get_or engine k d))
