-- What is kept stands for the same list after an event.
use Rattle.std.proofs.Common.{◌≡◌, ℕ, zero, suc, ◌+◌, ◌-◌, ◌*◌, ◌≤◌, ◌<◌, Bool, true, false, cond, List, [], ◌∷◌, length, map, refl, ap, sym, ◌∙◌, subst, arith, inl, inr, Some, None, Option}
use Rattle.std.specs.Prelude.{◌==◌, ◌||◌}
use Rattle.std.specs.List.{AllByRecursion}
use Rattle.std.proofs.lemmas.Bool.{eq-eqb}
use Rattle.std.proofs.lemmas.Bool.Decides.{nat_tests}
use Rattle.std.proofs.lemmas.Grind.{div_ceil_times}
use Rattle.liq_num.specs.Quotient.{ceiling_of}
use Rattle.liq_types.specs.declared.amounts.TheConstants.{LIM}
use Rattle.liq_types.specs.declared.events.PoolEvent.{PoolEvent}
use Rattle.liq_types.specs.declared.events.PoolEvent.TheVariants as event
use Rattle.liq_types.specs.Allowance.{weight_of, cost_of}
use Rattle.liq_types.specs.PlainLedger.{Share, exact_share, gains_paid_to}
use Rattle.liq_types.specs.Product.{ScaledProduct, after_offset, place_of, mark_after}
use Rattle.liq_types.specs.State.{State, PoolMark, DepositEntry, After, opening}
use Rattle.liq_types.specs.Tables.{EpochScale, at}
use Rattle.liq_types.specs.Totals.{pool_total}
use Rattle.liq_types.specs.WellFormed.{IsBefore}
use Rattle.liq_types.proofs.Watching.{Watch, watched, watch_after, weight_is}
use Rattle.liq_stability.specs.Lawful.{IsLawful, IsLawfulEvent, IsWithinLimit}
use Rattle.liq_stability.specs.Own.{after_event, owned, offset, amount_after}
use Rattle.liq_stability.specs.Position.{mark_of, growth}
use Rattle.liq_stability.specs.Words.{words_of}
use Rattle.liq_stability.specs.declared.words.PoolWords.{PoolWords}
use Rattle.liq_stability.proofs.Pool.{balance_within, owned-total, offset-total, offset_now, words-snoc, mark-grown, mark-full}
use Rattle.liq_stability.proofs.Promise.{whole_with}
use Rattle.liq_stability.proofs.Standing.{StandsBy, deposit_other}
use Rattle.liq_rewards.specs.declared.earner.Earner.{Earner}
use Rattle.liq_rewards.specs.declared.earner.Sums.{Sums}
use Rattle.liq_rewards.specs.declared.sharing.Sharing.{Sharing}
use Rattle.liq_rewards.specs.Timed.{Timed, events_of, state_of, words_at, place_at, due_at, is_shared_at}
use Rattle.liq_rewards.specs.Earner.{no_earner, no_sums, sharing_of, shared_with, dealt_with, owned_by, with_event, earner_after, cost_now}
use Rattle.liq_rewards.specs.Earning.{rise_by, sum_of, sum_at, mark_sum, reading, earned_of}
use Rattle.liq_rewards.specs.Exact.{recorded, own_place}
use Rattle.liq_rewards.specs.Kept.{has_row, HasRoomFor, IsDepositOf, IsEarnerOf, words_kept, words_then}
use Rattle.liq_rewards.proofs.Along.{state-more, watched-more, owns-more, amount_is, place_is, later_at, later_of, enough}
use Rattle.liq_rewards.proofs.Dealing.{IsDealtOf, dealt, reads}
use Rattle.liq_rewards.proofs.Earning.{deposit_left}
use Rattle.liq_rewards.proofs.Small.{served, happens, stands}

-- ---- the weight

-- what an event adds to it
abbrev weighed : ℕ → List Timed → PoolEvent → ℕ
weighed account past (event.Own owner put out gain left) = 0
weighed account past (event.Offset debt coll total rise) = cost_of (recorded account past) (own_place account past)
    (place_at past)

weight-more : (account : ℕ) (t : Timed) (past : List Timed) → IsLawful opening (events_of past)
    → weight_of account (events_of (t ∷ past)) ≡ weight_of account (events_of past) + weighed account past t.event
weight-more account t past lawful =
    let now : (watched account (events_of past)).now ≡ words_at past =
    (whole_with LIM served (events_of past) lawful account).now account in
    sym (weight_is account (events_of (t ∷ past))) ∙ ap (λ (w : Watch). w.weight) (watched-more account t past)
    ∙ by t.event (watched account (events_of past)) (weight_is account (events_of past))
    (amount_is LIM served account past) (place_is LIM served account past lawful) (ap place_of now) where
      either : (b : Bool) (w : Watch) (left : ℕ)
          → (cond b (record w { amount = left; place = place_of w.now; own_events = w.own_events + 1 }) w).weight
          ≡ w.weight
      either true w left = refl
      either false w left = refl

      by : (e : PoolEvent) (w : Watch) → w.weight ≡ weight_of account (events_of past)
          → w.amount ≡ recorded account past → w.place ≡ own_place account past → place_of w.now ≡ place_at past
          → (watch_after account w e).weight ≡ weight_of account (events_of past) + weighed account past e
      by (event.Own owner put out gain left) w h a p n = let same = either (owner == account) w left
          in omega (arith, same, h)
      by (event.Offset debt coll total rise) w h a p n =
          let cost : cost_of w.amount w.place (place_of w.now) ≡ cost_of (recorded account past)
          (own_place account past) (place_at past) =
          ap (λ x. cost_of x w.place (place_of w.now)) a
          ∙ ap (λ (q : EpochScale). cost_of (recorded account past) q (place_of w.now)) p
          ∙ ap (λ (q : EpochScale). cost_of (recorded account past) (own_place account past) q) n in
          omega (arith, h, cost)

-- ---- the deposit, by a state

abbrev grown_by : PoolMark → (EpochScale → ℕ) → Sums
grown_by mark sums =
    let grown = growth mark (λ i. sums (mark.epoch, mark.scale + i)) in
    record { first = grown 0; second = grown 1; third = grown 2; fourth = grown 3 }

abbrev sums_in : State → ℕ → (EpochScale → ℕ) → DepositEntry → Sums
sums_in s sum sums d = grown_by (record (mark_of s d.mark) { sum = sum }) sums

abbrev IsDepositIn : State → ℕ → (EpochScale → ℕ) → Earner → Option DepositEntry → Type 0
IsDepositIn s sum sums e None = Unit {0}
IsDepositIn s sum sums e (Some d) = (e.p ≡ (mark_of s d.mark).p) × (e.sums ≡ sums_in s sum sums d)

told_in : (sums : EpochScale → ℕ) (e : Earner) (past : List Timed) (o : Option DepositEntry) → IsDepositOf sums e past o
    → IsDepositIn (state_of past) (mark_sum e.account past) sums e o
told_in sums e past None h = tt
told_in sums e past (Some d) h = h

told_of : (sums : EpochScale → ℕ) (e : Earner) (past : List Timed) (o : Option DepositEntry)
    → IsDepositIn (state_of past) (mark_sum e.account past) sums e o → IsDepositOf sums e past o
told_of sums e past None h = tt
told_of sums e past (Some d) h = h

deposit_grown : (s : State) (debt coll sum : ℕ) (sums : EpochScale → ℕ) (e : Earner) (plain : Share) (w : Watch)
    (got : ℕ)
    (o : Option DepositEntry) → StandsBy s plain w got o → IsDepositIn s sum sums e o
    → IsDepositIn (offset s debt coll) sum sums e o
deposit_grown s debt coll sum sums e plain w got None stands h = tt
deposit_grown s debt coll sum sums e plain w got (Some d) stands h =
    subst (λ (m : PoolMark). (e.p ≡ m.p) × (e.sums ≡ grown_by (record m { sum = sum }) sums))
    (sym (mark-grown s debt coll d.mark stands.0)) h

-- an own operation of another account
deposit_stays : (s : State) (owner put out sum : ℕ) (sums : EpochScale → ℕ) (e : Earner) (o : Option DepositEntry)
    → IsDepositIn s sum sums e o → IsDepositIn (owned s owner put out) sum sums e o
deposit_stays s owner put out sum sums e None h = tt
deposit_stays s owner put out sum sums e (Some d) h = h

-- one that begins now
deposit_begun : (s : State) (account put out : ℕ) (sums : EpochScale → ℕ) (e : Earner) → e.p ≡ (words_of s).p
    → e.sums ≡ no_sums → ((q : EpochScale) → IsBefore (place_of (words_of s)) q → sums q ≡ 0)
    → IsDepositIn (owned s account put out) (sums (place_of (words_of s))) sums e
    (Some (record { amount = amount_after s account put out; mark = After (length s.offsets) }))
deposit_begun s account put out sums e p none later =
    let now = words_of s in
    let m : PoolMark = mark_after s.start s.offsets in
    let here : sums (now.epoch, now.scale + 0) - sums (place_of now) ≡ 0 = nothing (sums (now.epoch, now.scale + 0))
    (sums (place_of now)) (ap (λ n. sums (now.epoch, n)) (plus_none now.scale)) in
    subst (λ (m : PoolMark). (e.p ≡ m.p) × (e.sums ≡ grown_by (record m { sum = sums (place_of now) }) sums))
    (sym (mark-full s)) (
      p,
      none ∙ sym (all_none here (later (now.epoch, now.scale + 1) (inr (refl, omega arith))) (later (
        now.epoch,
        now.scale + 2,
      ) (inr (refl, omega arith))) (later (now.epoch, now.scale + 3) (inr (refl, omega arith)))),
    ) where
      plus_none : (n : ℕ) → n + 0 ≡ n
      plus_none n = omega arith

      nothing : (a b : ℕ) → a ≡ b → a - b ≡ 0
      nothing a b h = omega (arith, h)

      all_none : {a b c d : ℕ} → a ≡ 0 → b ≡ 0 → c ≡ 0 → d ≡ 0 → let one : Sums = record {
        first = a;
        second = b;
        third = c;
        fourth = d;
      } in one ≡ no_sums
      all_none f g h i = rw (f, g, h, i) refl

-- ---- an event

none_more : (b : Bool) → b ≡ false → cond b 1 0 ≡ zero
none_more b e = ap (λ b. cond b 1 0) e

one_more : (b : Bool) → b ≡ true → cond b 1 0 ≡ suc 0
one_more b e = ap (λ b. cond b 1 0) e

module _ (minute : ℕ) (past : List Timed) (lawful : IsLawful opening (events_of past)) (e : Earner)
    (h : IsDealtOf e minute past) where
  abbrev s : State
  s = state_of past

  abbrev stands_here : StandsBy (state_of past) (exact_share e.account (events_of past))
      (watched e.account (events_of past)) (gains_paid_to e.account (events_of past))
      (at (state_of past).deposits e.account)
  stands_here = (whole_with LIM served (events_of past) lawful e.account).each e.account

  offset_happened : (debt coll total rise : ℕ)
      → IsEarnerOf (record e { weight = e.weight + cost_now e (words_kept past) }) (record {
        minute = minute;
        event = event.Offset debt coll total rise;
      } ∷ past)
  offset_happened debt coll total rise =
      let t : Timed = record { minute = minute; event = event.Offset debt coll total rise } in
      let x : Earner = record e { weight = e.weight + cost_now e (words_kept past) } in
      let owns = owns-more e.account t past in
      let weighs = weight-more e.account t past lawful in
      let cost : cost_of e.amount (e.epoch, e.scale) (place_at past) ≡ cost_of (recorded e.account past)
      (own_place e.account past) (place_at past) =
      ap (λ n. cost_of n (e.epoch, e.scale) (place_at past)) h.amount
      ∙ ap (λ (q : EpochScale). cost_of (recorded e.account past) q (place_at past)) h.place in
      record {
        amount = h.amount;
        place = h.place;
        earned = h.earned;
        own_events = omega (arith, owns, h.own_events);
        weight = omega (arith, weighs, cost, h.weight);
        withheld = h.withheld;
        costs = h.costs;
        deposit = told_of (sum_of (t ∷ past)) x (t ∷ past) (at (state_of (t ∷ past)).deposits e.account)
            (subst (λ (s : State). IsDepositIn s (mark_sum e.account past) (sum_at minute past) x
            (at s.deposits e.account)) (sym (state-more t past))
            (deposit_grown (state_of past) debt coll (mark_sum e.account past) (sum_at minute past) x _ _ _
            (at (state_of past).deposits e.account) stands_here (told_in (sum_at minute past) x past
            (at (state_of past).deposits e.account) h.deposit)));
      }

  other_happened : (owner put out gain left : ℕ) → (owner == e.account) ≡ false
      → IsEarnerOf e (record { minute = minute; event = event.Own owner put out gain left } ∷ past)
  other_happened owner put out gain left apart =
      let t : Timed = record { minute = minute; event = event.Own owner put out gain left } in
      let owns = owns-more e.account t past in
      let weighs = weight-more e.account t past lawful in
      let none = none_more (owner == e.account) apart in
      let there : at (owned (state_of past) owner put out).deposits e.account ≡ at (state_of past).deposits e.account =
      deposit_other (state_of past).deposits owner (record {
        amount = amount_after (state_of past) owner put out;
        mark = After (length (state_of past).offsets);
      }) e.account apart in
      let mark : mark_sum e.account (t ∷ past) ≡ mark_sum e.account past =
      ap (λ b. cond b (sum_at minute past (place_at past)) (mark_sum e.account past)) apart in
      record {
        amount = h.amount ∙ sym (ap (λ b. cond b left (recorded e.account past)) apart);
        place = h.place ∙ sym (ap (λ b. cond b (place_at past) (own_place e.account past)) apart);
        earned = h.earned
            ∙ sym (ap (λ b. cond b (earned_of e.account past + reading e.account minute past
            (at (state_of past).deposits e.account)) (earned_of e.account past)) apart);
        own_events = omega (arith, owns, none, h.own_events);
        weight = omega (arith, weighs, h.weight);
        withheld = h.withheld;
        costs = h.costs;
        deposit = told_of (sum_of (t ∷ past)) e (t ∷ past) (at (state_of (t ∷ past)).deposits e.account)
            (subst (λ (s : State). IsDepositIn s (mark_sum e.account (t ∷ past)) (sum_at minute past) e
            (at s.deposits e.account)) (sym (state-more t past))
            (subst (λ m. IsDepositIn (owned (state_of past) owner put out) m (sum_at minute past) e
            (at (owned (state_of past) owner put out).deposits e.account)) (sym mark)
            (subst (λ (o : Option DepositEntry). IsDepositIn (owned (state_of past) owner put out)
            (mark_sum e.account past) (sum_at minute past) e o) (sym there)
            (deposit_stays (state_of past) owner put out (mark_sum e.account past) (sum_at minute past) e
            (at (state_of past).deposits e.account) (told_in (sum_at minute past) e past
            (at (state_of past).deposits e.account) h.deposit)))));
      }

  own_happened : (put out gain left : ℕ) → IsEarnerOf (owned_by e (words_kept past) left) (record {
    minute = minute;
    event = event.Own e.account put out gain left;
  } ∷ past)
  own_happened put out gain left =
      let t : Timed = record { minute = minute; event = event.Own e.account put out gain left } in
      let x : Earner = owned_by e (words_kept past) left in
      let alike = eq-eqb e.account e.account refl in
      let owns = owns-more e.account t past in
      let weighs = weight-more e.account t past lawful in
      let one = one_more (e.account == e.account) alike in
      let mark : mark_sum e.account (t ∷ past) ≡ sum_at minute past (place_at past) =
      ap (λ b. cond b (sum_at minute past (place_at past)) (mark_sum e.account past)) alike in
      let entry : DepositEntry = record {
        amount = amount_after (state_of past) e.account put out;
        mark = After (length (state_of past).offsets);
      } in
      let In : Option DepositEntry → Type 0 = λ o. IsDepositIn (owned (state_of past) e.account put out)
      (sum_at minute past (place_at past)) (sum_at minute past) x o in
      let has : In (at (owned (state_of past) e.account put out).deposits e.account) =
      elim (deposit_left (state_of past).deposits e.account entry (stands past lawful).ascends) [
        | inl k ↦ subst In (sym k) tt
        | inr k ↦ subst In (sym k) (deposit_begun (state_of past) e.account put out (sum_at minute past) x refl refl
            (λ q b. later_at minute past q b (later_of past q b)))
      ] in
      record {
        amount = sym (ap (λ b. cond b left (recorded e.account past)) alike);
        place = sym (ap (λ b. cond b (place_at past) (own_place e.account past)) alike);
        earned = reads e minute past lawful h
            ∙ sym (ap (λ b. cond b (earned_of e.account past + reading e.account minute past
            (at (state_of past).deposits e.account)) (earned_of e.account past)) alike);
        own_events = omega (arith, owns, one, h.own_events);
        weight = omega (arith, weighs, h.weight);
        withheld = h.withheld;
        costs = h.costs;
        deposit = told_of (sum_of (t ∷ past)) x (t ∷ past) (at (state_of (t ∷ past)).deposits e.account)
            (subst (λ (s : State). IsDepositIn s (mark_sum e.account (t ∷ past)) (sum_at minute past) x
            (at s.deposits e.account)) (sym (state-more t past))
            (subst (λ m. IsDepositIn (owned (state_of past) e.account put out) m (sum_at minute past) x
            (at (owned (state_of past) e.account put out).deposits e.account)) (sym mark) has));
      }

  pub happened : (ev : PoolEvent) → IsEarnerOf (with_event e (words_kept past) ev) (record {
    minute = minute;
    event = ev;
  } ∷ past)
  happened (event.Offset debt coll total rise) = offset_happened debt coll total rise
  happened (event.Own owner put out gain left) = by (owner == e.account) refl where
    by : (b : Bool) → (owner == e.account) ≡ b → IsEarnerOf (cond b (owned_by e (words_kept past) left) e)
        (record { minute = minute; event = event.Own owner put out gain left } ∷ past)
    by false apart = other_happened owner put out gain left apart
    by true alike =
        let same : owner ≡ e.account = grind (arith, nat_tests, alike) in
        subst (λ q. IsEarnerOf (owned_by e (words_kept past) left) (record {
          minute = minute;
          event = event.Own q put out gain left;
        } ∷ past)) (sym same) (own_happened put out gain left)

-- ---- an account that has done nothing

ceiling_none : (units total : ℕ) → 0 < total → ceiling_of units 0 total ≡ 0
ceiling_none units total pos = by (ceiling_of units 0 total) (div_ceil_times (units * 0) total pos).1 where
  by : (q : ℕ) → q * total < units * 0 + total → q ≡ 0
  by zero h = refl
  by (suc r) h = absurd (omega (arith, h))

none_shared : (account : ℕ) (words : PoolWords) (sharing : Sharing) → 0 < words.total
    → shared_with (no_earner account) words sharing ≡ no_earner account
none_shared account words sharing pos =
    let none : 0 + ceiling_of sharing.units 0 words.total ≡ 0 = (let c = ceiling_none sharing.units words.total pos
    in omega (arith, c)) in
    ap (λ n. record (no_earner account) { withheld = n }) none

none_happened : (account : ℕ) (words : PoolWords) (ev : PoolEvent) (es : List Earner) → has_row es account ≡ false
    → HasRoomFor es ev → with_event (no_earner account) words ev ≡ no_earner account
none_happened account words (event.Offset debt coll total rise) es absent room = refl
none_happened account words (event.Own owner put out gain left) es absent room = by (owner == account) refl where
  by : (b : Bool) → (owner == account) ≡ b → cond b (owned_by (no_earner account) words left) (no_earner account)
      ≡ no_earner account
  by false e = refl
  by true e =
      let same : owner ≡ account = grind (arith, nat_tests, e) in
      let row : has_row es account ≡ true = subst (λ a. has_row es a ≡ true) same room in
      absurd (clash (has_row es account) row absent) where
        clash : (b : Bool) → b ≡ true → b ≡ false → ⊥
        clash b h k = cc

-- ---- all rows

pub account-dealt : (e : Earner) (words : PoolWords) (sharing : Option Sharing) → (dealt_with e words sharing).account
    ≡ e.account
account-dealt e words None = refl
account-dealt e words (Some sharing) = refl

account-event : (e : Earner) (words : PoolWords) (ev : PoolEvent) → (with_event e words ev).account ≡ e.account
account-event e words (event.Offset debt coll total rise) = refl
account-event e words (event.Own owner put out gain left) = by (owner == e.account) where
  by : (b : Bool) → (cond b (owned_by e words left) e).account ≡ e.account
  by true = refl
  by false = refl

pub account-after : (words : PoolWords) (sharing : Option Sharing) (ev : PoolEvent) (e : Earner)
    → (earner_after words sharing ev e).account ≡ e.account
account-after words sharing ev e = account-event (dealt_with e words sharing) words ev ∙ account-dealt e words sharing

pub rows-after : (words : PoolWords) (sharing : Option Sharing) (ev : PoolEvent) (es : List Earner) (account : ℕ)
    → has_row (map (earner_after words sharing ev) es) account ≡ has_row es account
rows-after words sharing ev [] account = refl
rows-after words sharing ev (e ∷ es) account =
    ap (λ n. (n == account) || has_row (map (earner_after words sharing ev) es) account)
    (account-after words sharing ev e)
    ∙ ap (λ b. (e.account == account) || b) (rows-after words sharing ev es account)

module _ (minute : ℕ) (past : List Timed) (lawful : IsLawful opening (events_of past)) (ev : PoolEvent) where
  abbrev pub due_sharing : Option Sharing
  due_sharing = sharing_of (words_kept past) (due_at minute past)

  abbrev pub after_it : Earner → Earner
  after_it e = earner_after (words_kept past) (sharing_of (words_kept past) (due_at minute past)) ev e

  row_after : (e : Earner) → IsEarnerOf e past
      → IsEarnerOf (earner_after (words_kept past) (sharing_of (words_kept past) (due_at minute past)) ev e)
      (record { minute = minute; event = ev } ∷ past)
  row_after e h = happened minute past lawful (dealt_with e (words_kept past) (sharing_of (words_kept past)
      (due_at minute past))) (dealt past lawful e minute h) ev

  pub all_after : (es : List Earner) → AllByRecursion (λ e. IsEarnerOf e past) es
      → AllByRecursion (λ e. IsEarnerOf e (record { minute = minute; event = ev } ∷ past))
      (map (earner_after (words_kept past) (sharing_of (words_kept past) (due_at minute past)) ev) es)
  all_after [] h = tt
  all_after (e ∷ es) h = (row_after e h.0, all_after es h.1)

  none_dealt : (account : ℕ) → dealt_with (no_earner account) (words_kept past) (sharing_of (words_kept past)
      (due_at minute past)) ≡ no_earner account
  none_dealt account = by (is_shared_at minute past) refl where
    by : (b : Bool) → is_shared_at minute past ≡ b
        → dealt_with (no_earner account) (words_kept past) (cond b (Some (record {
          units = due_at minute past;
          rise = rise_by minute past;
        })) None) ≡ no_earner account
    by false e = refl
    by true e = let least = enough minute past e
        in none_shared account (words_kept past) (record { units = due_at minute past; rise = rise_by minute past })
        (omega (arith, least))

  pub others_after : (es : List Earner) → HasRoomFor es ev → (account : ℕ)
      → has_row (map (earner_after (words_kept past) (sharing_of (words_kept past) (due_at minute past)) ev) es)
      account ≡ false
      → (has_row es account ≡ false → IsEarnerOf (no_earner account) past)
      → IsEarnerOf (no_earner account) (record { minute = minute; event = ev } ∷ past)
  others_after es room account absent h =
      let before : has_row es account ≡ false =
      sym (rows-after (words_kept past) (sharing_of (words_kept past) (due_at minute past)) ev es account) ∙ absent in
      let same : earner_after (words_kept past) (sharing_of (words_kept past) (due_at minute past)) ev
      (no_earner account) ≡ no_earner account =
      ap (λ (e : Earner). with_event e (words_kept past) ev) (none_dealt account)
      ∙ none_happened account (words_kept past) ev es before room in
      subst (λ (e : Earner). IsEarnerOf e (record { minute = minute; event = ev } ∷ past)) same
      (row_after (no_earner account) (h before))

-- ---- the words

abbrev words_by : State → PoolWords
words_by s = record {
  p = (words_of s).p;
  scale = (words_of s).scale;
  epoch = (words_of s).epoch;
  sum = 0;
  total = pool_total s;
  coll = 0;
}

abbrev made : ScaledProduct → ℕ → PoolWords
made w n = record { p = w.p; scale = w.scale; epoch = w.epoch; sum = 0; total = n; coll = 0 }

total_turned : (total put out : ℕ) → out ≤ total → total - out + put ≡ total + put - out
total_turned total put out h = omega (arith, h)

pub words_follow : (past : List Timed) → IsLawful opening (events_of past) → (minute : ℕ) (ev : PoolEvent)
    → IsLawful opening (events_of (record { minute = minute; event = ev } ∷ past)) → words_then (words_kept past) ev
    ≡ words_kept (record { minute = minute; event = ev } ∷ past)
words_follow past lawful minute ev then =
    by ev (happens (record { minute = minute; event = ev }) past then)
    ∙ sym (ap words_by (state-more (record { minute = minute; event = ev }) past)) where
      by : (ev : PoolEvent) → IsWithinLimit LIM (state_of past) × IsLawfulEvent (state_of past) ev
          × IsWithinLimit LIM (after_event (state_of past) ev) → words_then (words_kept past) ev
          ≡ words_by (after_event (state_of past) ev)
      by (event.Own owner put out gain left) now =
          let cap = balance_within (state_of past) (at (state_of past).deposits owner) in
          let total = owned-total (state_of past) (stands past lawful).covered owner put out in
          let within : out ≤ pool_total (state_of past) = omega (arith, cap, now.1.paid_is) in
          ap (λ n. record (words_kept past) { total = n }) (total_turned (pool_total (state_of past)) put out within
          ∙ sym total)
      by (event.Offset debt coll total rise) now =
          let next : words_of (offset (state_of past) debt coll) ≡ after_offset (words_of (state_of past))
          (offset_now (state_of past) debt coll) = words-snoc (state_of past) debt coll in
          let left = offset-total (state_of past) debt coll in
          sym (ap (λ (w : ScaledProduct). made w (pool_total (offset (state_of past) debt coll))) next
          ∙ ap (λ n. made (after_offset (words_of (state_of past)) (offset_now (state_of past) debt coll)) n) left)
