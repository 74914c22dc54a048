-- The numbers of an audit stay small along auditable events.
use Rattle.std.proofs.Common.{◌≡◌, ℕ, zero, suc, ◌+◌, ◌-◌, ◌*◌, ◌^◌, ◌<◌, ◌≤◌, Bool, true, false, cond, List, [], ◌∷◌, ◌++◌, length, take, get_or, refl, ap, sym, ◌∙◌, subst, arith, inl, inr, length-append, append_assoc}
use Rattle.std.specs.Prelude.{fold, ◌==◌}
use Rattle.std.proofs.Math.Nat.{mul-le-mul_right, mul-sub, div-le_self, le_of_mul-le-mul_right}
use Rattle.std.proofs.lemmas.Bool.{cases_lt}
use Rattle.std.proofs.lemmas.Grind.{div_ceil_times}
use Rattle.std.proofs.lemmas.List.Sums.{fold-append}
use Rattle.liq_num.specs.Quotient.{floor_of, ceiling_of}
use Rattle.liq_types.specs.declared.amounts.TheConstants.{LIM, RISES_MOST}
use Rattle.liq_types.specs.declared.events.PoolEvent.{PoolEvent}
use Rattle.liq_types.specs.declared.events.PoolEvent.TheVariants as event
use Rattle.liq_types.specs.PlainLedger.{Share, no_share, share_after, exact_share, den_of, coll_of, offsets_coll}
use Rattle.liq_types.specs.Product.{ScaledProduct, opening_words, after_offset, rise_of, IsWithinRange, TakesPartUpTo}
use Rattle.liq_types.specs.State.{PoolOffset}
use Rattle.liq_types.proofs.Watching.{Watch, no_watch, watch_after, watched}
use Rattle.liq_types.proofs.Accounts.{over-term, above_with, owned_with, under_with, share_den}
use Rattle.liq_types.proofs.Ranges.{offset_within, rise_few}
use Rattle.liq_types.proofs.Sums.{leaves_part, takes_all}
use Rattle.liq_audit.specs.declared.enclosure.Enclosure.{Enclosure}
use Rattle.liq_audit.specs.Auditable.{word_after, words_along, AddUpWithin, IsAuditableOffset, IsAuditableEvent, AreAuditable}
use Rattle.liq_audit.specs.Enclosure.{nothing_enclosed, enclosure_after, enclosure_shared, enclosed, HasParts, IsSmall}
use Rattle.liq_audit.specs.Watching.{IsFew}
use Rattle.liq_audit.proofs.Watchers.{HasRise}
use Rattle.liq_audit.proofs.Enclosing.{IsEnclosed, event_encloses}

-- ---- along the events

-- after so many events, with so much collateral brought
pub record IsBounded (k colls : ℕ) (e : Enclosure) (share : Share) (now : ScaledProduct) : Type 0 where
  pub some : 0 < share.den
  pub balance : share.bal ≤ LIM * share.den
  pub encloses : IsEnclosed e share
  pub near : e.balance_hi * share.den ≤ share.bal + k * share.den
  pub gain_lo : e.gain_lo ≤ 11 * 10 ^ 18 * colls
  pub gain_hi : e.gain_hi ≤ 11 * 10 ^ 18 * colls
  pub range : IsWithinRange now
  pub scale : now.scale ≤ RISES_MOST * k
  pub epoch : now.epoch ≤ k

hi_most : (hi den bal k : ℕ) → 0 < den → bal ≤ LIM * den → hi * den ≤ bal + k * den → hi ≤ LIM + k
hi_most hi den bal k pos limit near = le_of_mul-le-mul_right {m = hi} {n = LIM + k} {k = den} (omega (
  arith,
  limit,
  near,
)) pos

lo_most : (lo den bal : ℕ) → 0 < den → bal ≤ LIM * den → lo * den ≤ bal → lo ≤ LIM
lo_most lo den bal pos limit low = le_of_mul-le-mul_right {m = lo} {n = LIM} {k = den} (omega (arith, limit, low)) pos

pub small : (k colls : ℕ) (e : Enclosure) (share : Share) (now : ScaledProduct) → k < 2 ^ 40 → colls ≤ LIM
    → IsBounded k colls e share now → IsSmall e
small k colls e share now few limit h =
    let hi = hi_most e.balance_hi share.den share.bal k h.some h.balance h.near in
    let lo = lo_most e.balance_lo share.den share.bal h.some h.balance h.encloses.balance_lo in
    record {
      balance_lo = omega (arith, lo);
      balance_hi = omega (arith, hi, few);
      gain_lo = omega (arith, h.gain_lo, limit);
      gain_hi = omega (arith, h.gain_hi, limit);
    }

near_shared : (hi den bal k rest total q : ℕ) → rest ≤ total → q * total ≤ hi * rest + total → hi * den ≤ bal + k * den
    → q * (den * total) ≤ bal * rest + (k + 1) * (den * total)
near_shared hi den bal k rest total q part up h =
    let first : q * total * den ≤ (hi * rest + total) * den = mul-le-mul_right den up in
    let second : hi * den * rest ≤ (bal + k * den) * rest = mul-le-mul_right rest h in
    let third : rest * (k * den) ≤ total * (k * den) = mul-le-mul_right (k * den) part in
    omega arith

near_moved : (left hi den bal k put_in out : ℕ) → den * left ≡ den * (hi + put_in) - den * out
    → hi * den ≤ bal + k * den → left * den ≤ bal + put_in * den - out * den + (k + 1) * den
near_moved left hi den bal k put_in out spread h = omega arith

-- a quotient is no more than what is divided
ceiling_most : (a b c : ℕ) → 0 < c → ceiling_of a b c ≤ a * b
ceiling_most a b c pos = by (ceiling_of a b c) (div_ceil_times (a * b) c pos).1 where
  by : (q : ℕ) → q * c < a * b + c → q ≤ a * b
  by q less = elim (cases_lt (a * b) q) [
    | inl more ↦
        let above : a * b + 1 ≤ q = omega arith in
        let first : (a * b + 1) * c ≤ q * c = mul-le-mul_right c above in
        let second : 1 * (a * b) ≤ c * (a * b) = mul-le-mul_right (a * b) pos in
        absurd (omega (arith, first, second, less))
    | inr low ↦ low
  ]

gained_most : (gain colls balance coll q : ℕ) → balance ≤ 11 * 10 ^ 18 → q ≤ balance * coll
    → gain ≤ 11 * 10 ^ 18 * colls → gain + q ≤ 11 * 10 ^ 18 * (colls + coll)
gained_most gain colls balance coll q low most h =
    let first : balance * coll ≤ 11 * 10 ^ 18 * coll = mul-le-mul_right coll low in
    omega arith

words_after : (k : ℕ) (now : ScaledProduct) (o : PoolOffset) → IsWithinRange now → TakesPartUpTo LIM o
    → now.scale ≤ RISES_MOST * k → now.epoch ≤ k → ((after_offset now o).scale ≤ RISES_MOST * (k + 1))
    × ((after_offset now o).epoch ≤ k + 1)
words_after k now o range takes scale epoch = by (o.debt == o.total) refl where
  by : (b : Bool) → (o.debt == o.total) ≡ b → ((after_offset now o).scale ≤ RISES_MOST * (k + 1))
      × ((after_offset now o).epoch ≤ k + 1)
  by true e = let all = takes_all now o e in (omega (arith, all.scale), omega (arith, all.epoch, epoch))
  by false e =
      let part = leaves_part now o takes.within e in
      let few = rise_few LIM (omega arith) now o range takes in
      (omega (arith, part.scale, few, scale), omega (arith, part.epoch, epoch))

taken : (before : List PoolEvent) (debt coll total rise : ℕ) → IsAuditableOffset before debt coll total rise
    → TakesPartUpTo LIM (record { debt = debt; coll = coll; total = total })
taken before debt coll total rise h = record { some = h.some; within = h.within; limit = h.limit }

module _ (account k colls : ℕ) (e : Enclosure) (share : Share) (now : ScaledProduct) (few : k < 2 ^ 40) (limit : colls
    ≤ LIM) (h : IsBounded k colls e share now) where
  after_own : (owner put_in out gain amount : ℕ)
      → (share_after account share (event.Own owner put_in out gain amount)).bal
      ≤ LIM * (share_after account share (event.Own owner put_in out gain amount)).den
      → IsBounded (k + 1) (colls + 0) (enclosure_after account e (event.Own owner put_in out gain amount))
      (share_after account share (event.Own owner put_in out gain amount)) now
  after_own owner put_in out gain amount most = record {
    some = positive (owner == account);
    balance = most;
    encloses = event_encloses account e share (event.Own owner put_in out gain amount) tt h.encloses;
    near = nearby (owner == account);
    gain_lo = low (owner == account);
    gain_hi = high (owner == account);
    range = h.range;
    scale = omega (arith, h.scale);
    epoch = omega (arith, h.epoch);
  } where
    share_moved : Share
    share_moved = record share { bal = share.bal + put_in * share.den - out * share.den }

    moved : Enclosure
    moved = record e { balance_lo = e.balance_lo + put_in - out; balance_hi = e.balance_hi + put_in - out }

    positive : (b : Bool)
        → 0 < (cond b (record share { bal = share.bal + put_in * share.den - out * share.den }) share).den
    positive true = h.some
    positive false = h.some

    nearby : (b : Bool)
        → (cond b (record e { balance_lo = e.balance_lo + put_in - out; balance_hi = e.balance_hi + put_in - out })
        e).balance_hi * (cond b (record share { bal = share.bal + put_in * share.den - out * share.den }) share).den
        ≤ (cond b (record share { bal = share.bal + put_in * share.den - out * share.den }) share).bal
        + (k + 1) * (cond b (record share { bal = share.bal + put_in * share.den - out * share.den }) share).den
    nearby true = near_moved (e.balance_hi + put_in - out) e.balance_hi share.den share.bal k put_in out
        (mul-sub share.den (e.balance_hi + put_in) out) h.near
    nearby false = omega (arith, h.near)

    low : (b : Bool)
        → (cond b (record e { balance_lo = e.balance_lo + put_in - out; balance_hi = e.balance_hi + put_in - out })
        e).gain_lo ≤ 11 * 10 ^ 18 * (colls + 0)
    low true = omega (arith, h.gain_lo)
    low false = omega (arith, h.gain_lo)

    high : (b : Bool)
        → (cond b (record e { balance_lo = e.balance_lo + put_in - out; balance_hi = e.balance_hi + put_in - out })
        e).gain_hi ≤ 11 * 10 ^ 18 * (colls + 0)
    high true = omega (arith, h.gain_hi)
    high false = omega (arith, h.gain_hi)

  after_shared : (before : List PoolEvent) (debt coll total rise : ℕ) → IsAuditableOffset before debt coll total rise
      → (share_after account share (event.Offset debt coll total rise)).bal
      ≤ LIM * (share_after account share (event.Offset debt coll total rise)).den
      → IsBounded (k + 1) (colls + coll) (enclosure_shared e debt coll total) (share_after account share
      (event.Offset debt coll total rise)) (after_offset now (record { debt = debt; coll = coll; total = total }))
  after_shared before debt coll total rise offset most =
      let pos : 0 < total = omega (arith, offset.some, offset.within) in
      let takes = taken before debt coll total rise offset in
      let fits = small k colls e share now few limit h in
      let later = words_after k now (record { debt = debt; coll = coll; total = total }) h.range takes h.scale h.epoch
      in
      let up = (div_ceil_times (e.balance_hi * (total - debt)) total pos).1 in
      let divided = div-le_self (e.balance_lo * coll) total in
      record {
        some =
            let times : 1 * total ≤ share.den * total = mul-le-mul_right total h.some in
            omega (arith, times, pos);
        balance = most;
        encloses = event_encloses account e share (event.Offset debt coll total rise) pos h.encloses;
        near = near_shared e.balance_hi share.den share.bal k (total - debt) total (ceiling_of e.balance_hi
            (total - debt) total) (omega arith) (omega (arith, up)) h.near;
        gain_lo = gained_most e.gain_lo colls e.balance_lo coll (floor_of e.balance_lo coll total) (omega (
          arith,
          fits.balance_lo,
        )) divided h.gain_lo;
        gain_hi = gained_most e.gain_hi colls e.balance_hi coll (ceiling_of e.balance_hi coll total) (omega (
          arith,
          fits.balance_hi,
        )) (ceiling_most e.balance_hi coll total pos) h.gain_hi;
        range = offset_within LIM (omega arith) now (record { debt = debt; coll = coll; total = total }) h.range takes;
        scale = later.0;
        epoch = later.1;
      }

  pub after_event : (before : List PoolEvent) (ev : PoolEvent) → IsAuditableEvent before ev
      → (share_after account share ev).bal ≤ LIM * (share_after account share ev).den
      → IsBounded (k + 1) (colls + coll_of ev) (enclosure_after account e ev) (share_after account share ev)
      (word_after now ev)
  after_event before (event.Own owner put_in out gain amount) fine most = after_own owner put_in out gain amount most
  after_event before (event.Offset debt coll total rise) fine most = after_shared before debt coll total rise fine most

-- ---- after a part of the events

abbrev pub BoundedAt : ℕ → List PoolEvent → Type 0
BoundedAt account before = IsBounded (length before) (offsets_coll before) (enclosed account before)
    (exact_share account before) (words_along before)

pub bounded_none : (account : ℕ) → BoundedAt account []
bounded_none account = record {
  some = omega arith;
  balance = omega arith;
  encloses = record {
    balance_lo = omega arith;
    balance_hi = omega arith;
    gain_lo = omega arith;
    gain_hi = omega arith;
  };
  near = omega arith;
  gain_lo = omega arith;
  gain_hi = omega arith;
  range = record { least = omega arith; most = omega arith };
  scale = omega arith;
  epoch = omega arith;
}

-- the balances of all are not below that of one
one_of_all : (account most : ℕ) (events : List PoolEvent) → AddUpWithin events most → (exact_share account events).bal
    ≤ most * (exact_share account events).den
one_of_all account most events h =
    let one = over-term (above_with account events) (λ a. (exact_share a events).bal) account
    (under_with account events) in
    let all = h (above_with account events) (owned_with account events) in
    let den : most * (exact_share account events).den ≡ most * den_of events =
    ap (λ d. most * d) (share_den account events) in
    omega (arith, one, all, den)

module _ (account : ℕ) (before : List PoolEvent) (ev : PoolEvent) where
  share-snoc : exact_share account (before ++ ev ∷ []) ≡ share_after account (exact_share account before) ev
  share-snoc = fold-append (share_after account) no_share before (ev ∷ [])

  bounded-snoc : length before < 2 ^ 40 → offsets_coll before ≤ LIM → IsAuditableEvent before ev
      → AddUpWithin (before ++ ev ∷ []) LIM → BoundedAt account before → BoundedAt account (before ++ ev ∷ [])
  bounded-snoc few limit fine within h =
      let most = subst (λ (s : Share). s.bal ≤ LIM * s.den) share-snoc (one_of_all account LIM (before ++ ev
      ∷ []) within) in
      let made = after_event account (length before) (offsets_coll before) (enclosed account before)
      (exact_share account before) (words_along before) few limit h before ev fine most in
      subst (λ k. IsBounded k (offsets_coll (before ++ ev ∷ [])) (enclosed account (before ++ ev ∷ []))
      (exact_share account (before ++ ev ∷ [])) (words_along (before ++ ev ∷ [])))
      (sym (length-append before (ev ∷ [])))
      (subst (λ c. IsBounded (length before + 1) c (enclosed account (before ++ ev ∷ [])) (exact_share account (before
      ++ ev ∷ [])) (words_along (before ++ ev ∷ []))) (sym (fold-append (λ c e. c + coll_of e) 0 before (ev ∷ [])))
      (subst (λ (e : Enclosure). IsBounded (length before + 1) (offsets_coll before + coll_of ev) e (exact_share account
      (before ++ ev ∷ [])) (words_along (before ++ ev ∷ [])))
      (sym (fold-append (enclosure_after account) nothing_enclosed before (ev ∷ [])))
      (subst (λ (s : Share). IsBounded (length before + 1) (offsets_coll before + coll_of ev) (enclosure_after account
      (enclosed account before) ev) s (words_along (before ++ ev ∷ []))) (sym share-snoc)
      (subst (λ (w : ScaledProduct). IsBounded (length before + 1) (offsets_coll before + coll_of ev)
      (enclosure_after account (enclosed account before) ev) (share_after account (exact_share account before) ev) w)
      (sym (fold-append word_after opening_words before (ev ∷ []))) made))))

coll_more : (before : List PoolEvent) (ev : PoolEvent) (es : List PoolEvent) (most : ℕ)
    → offsets_coll (before ++ ev ∷ es) ≤ most → offsets_coll before ≤ most
coll_more before ev es most h =
    let all = fold-append (λ c e. c + coll_of e) 0 before (ev ∷ es) in
    let rest = fold_up (offsets_coll before) (ev ∷ es) in
    omega (arith, all, rest, h) where
      fold_up : (n : ℕ) (xs : List PoolEvent) → n ≤ fold (λ c e. c + coll_of e) n xs
      fold_up n [] = omega arith
      fold_up n (x ∷ xs) = let more = fold_up (n + coll_of x) xs in omega (arith, more)

-- what holds after the first so many of the rest, and of the next
pub record StandsAlong (account : ℕ) (before : List PoolEvent) (rest : List PoolEvent) (k : ℕ) : Type 0 where
  pub bounded : BoundedAt account (before ++ take k rest)
  pub next : (d : PoolEvent) → k < length rest → IsAuditableEvent (before ++ take k rest) (get_or rest k d)

pub along : (account : ℕ) (before rest : List PoolEvent) (k : ℕ) → k ≤ length rest → length (before ++ rest) < 2 ^ 40
    → offsets_coll (before ++ rest) ≤ LIM → AreAuditable before rest → BoundedAt account before
    → StandsAlong account before rest k
along account before [] k low few limit h b = record {
  bounded = subst (BoundedAt account) (sym (none before k)) b;
  next = λ d less. absurd (omega arith);
} where
  none : (xs : List PoolEvent) (i : ℕ) → xs ++ take i [] ≡ xs
  none [] zero = refl
  none [] (suc i) = refl
  none (x ∷ xs) i = ap (λ (ys : List PoolEvent). x ∷ ys) (none xs i)
along account before (ev ∷ es) zero low few limit h b = record {
  bounded = subst (BoundedAt account) (sym (none before)) b;
  next = λ d less. subst (λ (xs : List PoolEvent). IsAuditableEvent xs ev) (sym (none before)) h.0;
} where
  none : (xs : List PoolEvent) → xs ++ [] ≡ xs
  none [] = refl
  none (x ∷ xs) = ap (λ (ys : List PoolEvent). x ∷ ys) (none xs)
along account before (ev ∷ es) (suc j) low few limit h b =
    let long = length-append before (ev ∷ es) in
    let here = bounded-snoc account before ev (omega (arith, few, long)) (coll_more before ev es LIM limit) h.0 h.1 b in
    let same : before ++ ev ∷ es ≡ (before ++ ev ∷ []) ++ es = sym (append_assoc before (ev ∷ []) es) in
    let later = along account (before ++ ev ∷ []) es j (omega arith) (subst (λ (xs : List PoolEvent). length xs
    < 2 ^ 40) same few) (subst (λ (xs : List PoolEvent). offsets_coll xs ≤ LIM) same limit) h.2 here in
    record {
      bounded = subst (BoundedAt account) (append_assoc before (ev ∷ []) (take j es)) later.bounded;
      next = λ d less. subst (λ (xs : List PoolEvent). IsAuditableEvent xs (get_or es j d)) (append_assoc before (ev
          ∷ []) (take j es)) (later.next d (omega arith));
    }

-- ---- the words of an account's watch

watch_words : (account : ℕ) (w : Watch) (now : ScaledProduct) → w.now ≡ now → (events : List PoolEvent)
    → (fold (watch_after account) w events).now ≡ fold word_after now events
watch_words account w now h [] = h
watch_words account w now h (event.Own owner put_in out gain amount ∷ es) =
    watch_words account (watch_after account w (event.Own owner put_in out gain amount)) now (either (owner == account)
    ∙ h) es where
      either : (b : Bool)
          → (cond b (record w { amount = amount; place = (w.now.epoch, w.now.scale); own_events = w.own_events + 1 })
          w).now ≡ w.now
      either true = refl
      either false = refl
watch_words account w now h (event.Offset debt coll total rise ∷ es) =
    watch_words account (watch_after account w (event.Offset debt coll total rise))
    (word_after now (event.Offset debt coll total rise)) (ap (λ (v : ScaledProduct). after_offset v
    (record { debt = debt; coll = coll; total = total })) h) es

pub watched_words : (account : ℕ) (events : List PoolEvent) → (watched account events).now ≡ words_along events
watched_words account events = watch_words account no_watch opening_words refl events

few_own : (account : ℕ) (w : Watch) (events : List PoolEvent) → (fold (watch_after account) w events).own_events
    ≤ w.own_events + length events
few_own account w [] = omega arith
few_own account w (event.Own owner put_in out gain amount ∷ es) =
    let more = few_own account (watch_after account w (event.Own owner put_in out gain amount)) es in
    let one = either (owner == account) in
    omega (arith, more, one) where
      either : (b : Bool)
          → (cond b (record w { amount = amount; place = (w.now.epoch, w.now.scale); own_events = w.own_events + 1 })
          w).own_events ≤ w.own_events + 1
      either true = omega arith
      either false = omega arith
few_own account w (event.Offset debt coll total rise ∷ es) =
    let more = few_own account (watch_after account w (event.Offset debt coll total rise)) es in
    omega (arith, more)

pub few_own_events : (account : ℕ) (events : List PoolEvent) → (watched account events).own_events ≤ length events
few_own_events account events = let more = few_own account no_watch events in omega (arith, more)

-- ---- what an event's call asks

pub has_parts : (before : List PoolEvent) (ev : PoolEvent) → IsAuditableEvent before ev → HasParts ev
has_parts before (event.Own owner put_in out gain amount) h = tt
has_parts before (event.Offset debt coll total rise) h = (omega (arith, h.some, h.within), h.within)

pub has_rise : (account : ℕ) (before : List PoolEvent) (ev : PoolEvent) → IsAuditableEvent before ev
    → HasRise (watched account before) ev
has_rise account before (event.Own owner put_in out gain amount) h = tt
has_rise account before (event.Offset debt coll total rise) h =
    subst (λ (v : ScaledProduct). rise ≡ rise_of v.p (record { debt = debt; coll = coll; total = total }))
    (sym (watched_words account before)) h.rise_is

pub is_few : (before : List PoolEvent) (ev : PoolEvent) → IsWithinRange (words_along before)
    → IsAuditableEvent before ev → IsFew ev
is_few before (event.Own owner put_in out gain amount) range h = tt
is_few before (event.Offset debt coll total rise) range h =
    let few = rise_few LIM (omega arith) (words_along before) (record { debt = debt; coll = coll; total = total }) range
    (taken before debt coll total rise h) in
    omega (arith, few, h.rise_is)
