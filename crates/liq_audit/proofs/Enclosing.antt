-- An account's exact share stays between its whole numbers, event by event.
use Rattle.std.proofs.Common.{◌≡◌, ℕ, ◌+◌, ◌-◌, ◌*◌, ◌/◌, ◌<◌, ◌≤◌, Bool, true, false, cond, List, [], ◌∷◌, arith}
use Rattle.std.specs.Prelude.{fold, ◌==◌}
use Rattle.std.proofs.Math.Nat.{div-mul-le_self, mul-le-mul_right, mul-sub}
use Rattle.std.proofs.lemmas.Grind.{div_ceil_times}
use Rattle.liq_num.specs.Quotient.{ceiling_of}
use Rattle.liq_types.specs.declared.events.PoolEvent.{PoolEvent}
use Rattle.liq_types.specs.declared.events.PoolEvent.TheVariants.{Own, Offset}
use Rattle.liq_types.specs.PlainLedger.{Share, no_share, share_after, exact_share}
use Rattle.liq_audit.specs.declared.enclosure.Enclosure.{Enclosure}
use Rattle.liq_audit.specs.Enclosure.{nothing_enclosed, enclosure_after, enclosed, HasTotal, HasTotals}

-- the share lies between the numbers
pub record IsEnclosed (e : Enclosure) (share : Share) : Type 0 where
  pub balance_lo : e.balance_lo * share.den ≤ share.bal
  pub balance_hi : share.bal ≤ e.balance_hi * share.den
  pub gain_lo : e.gain_lo * share.den ≤ share.gain
  pub gain_hi : share.gain ≤ e.gain_hi * share.den

-- ---- an offset

below : (lo den bal part total quotient : ℕ) → quotient * total ≤ lo * part → lo * den ≤ bal → quotient * (den * total)
    ≤ bal * part
below lo den bal part total quotient q h =
    let first : quotient * total * den ≤ lo * part * den = mul-le-mul_right den q in
    let second : lo * den * part ≤ bal * part = mul-le-mul_right part h in
    omega arith

above : (hi den bal part total quotient : ℕ) → hi * part ≤ quotient * total → bal ≤ hi * den
    → bal * part ≤ quotient * (den * total)
above hi den bal part total quotient q h =
    let first : hi * part * den ≤ quotient * total * den = mul-le-mul_right den q in
    let second : bal * part ≤ hi * den * part = mul-le-mul_right part h in
    omega arith

gained_below : (gain_lo gain lo den bal coll total quotient : ℕ) → quotient * total ≤ lo * coll → lo * den ≤ bal
    → gain_lo * den ≤ gain → (gain_lo + quotient) * (den * total) ≤ gain * total + coll * bal
gained_below gain_lo gain lo den bal coll total quotient q h g =
    let more : quotient * (den * total) ≤ bal * coll = below lo den bal coll total quotient q h in
    let had : gain_lo * den * total ≤ gain * total = mul-le-mul_right total g in
    omega arith

gained_above : (gain_hi gain hi den bal coll total quotient : ℕ) → hi * coll ≤ quotient * total → bal ≤ hi * den
    → gain ≤ gain_hi * den → gain * total + coll * bal ≤ (gain_hi + quotient) * (den * total)
gained_above gain_hi gain hi den bal coll total quotient q h g =
    let more : bal * coll ≤ quotient * (den * total) = above hi den bal coll total quotient q h in
    let had : gain * total ≤ gain_hi * den * total = mul-le-mul_right total g in
    omega arith

offset_encloses : (account : ℕ) (e : Enclosure) (share : Share) (debt coll total rise : ℕ) → 0 < total
    → IsEnclosed e share → IsEnclosed (enclosure_after account e (Offset debt coll total rise))
    (share_after account share (Offset debt coll total rise))
offset_encloses account e share debt coll total rise pos h =
    let part = total - debt in
    record {
      balance_lo = below e.balance_lo share.den share.bal part total (e.balance_lo * part / total)
          (div-mul-le_self (e.balance_lo * part) total) h.balance_lo;
      balance_hi = above e.balance_hi share.den share.bal part total (ceiling_of e.balance_hi part total)
          (div_ceil_times (e.balance_hi * part) total pos).0 h.balance_hi;
      gain_lo = gained_below e.gain_lo share.gain e.balance_lo share.den share.bal coll total
          (e.balance_lo * coll / total) (div-mul-le_self (e.balance_lo * coll) total) h.balance_lo h.gain_lo;
      gain_hi = gained_above e.gain_hi share.gain e.balance_hi share.den share.bal coll total
          (ceiling_of e.balance_hi coll total) (div_ceil_times (e.balance_hi * coll) total pos).0
          h.balance_hi h.gain_hi;
    }

-- ---- an own event

spread_below : (left lo den bal put_in out : ℕ) → den * left ≡ den * (lo + put_in) - den * out → lo * den ≤ bal
    → left * den ≤ bal + put_in * den - out * den
spread_below left lo den bal put_in out spread h = omega arith

spread_above : (left hi den bal put_in out : ℕ) → den * left ≡ den * (hi + put_in) - den * out → bal ≤ hi * den
    → bal + put_in * den - out * den ≤ left * den
spread_above left hi den bal put_in out spread h = omega arith

own_below : (lo den bal put_in out : ℕ) → lo * den ≤ bal → (lo + put_in - out) * den ≤ bal + put_in * den - out * den
own_below lo den bal put_in out h =
    let spread : den * (lo + put_in - out) ≡ den * (lo + put_in) - den * out = mul-sub den (lo + put_in) out in
    spread_below (lo + put_in - out) lo den bal put_in out spread h

own_above : (hi den bal put_in out : ℕ) → bal ≤ hi * den → bal + put_in * den - out * den ≤ (hi + put_in - out) * den
own_above hi den bal put_in out h =
    let spread : den * (hi + put_in - out) ≡ den * (hi + put_in) - den * out = mul-sub den (hi + put_in) out in
    spread_above (hi + put_in - out) hi den bal put_in out spread h

own_encloses : (account owner put_in out gain amount : ℕ) (e : Enclosure) (share : Share) → IsEnclosed e share
    → IsEnclosed (enclosure_after account e (Own owner put_in out gain amount)) (share_after account share
    (Own owner put_in out gain amount))
own_encloses account owner put_in out gain amount e share h = by (owner == account) where
  by : (own : Bool)
      → IsEnclosed (cond own (record e {
        balance_lo = e.balance_lo + put_in - out;
        balance_hi = e.balance_hi + put_in
            - out;
      }) e) (cond own (record share { bal = share.bal + put_in * share.den - out * share.den }) share)
  by true = record {
    balance_lo = own_below e.balance_lo share.den share.bal put_in out h.balance_lo;
    balance_hi = own_above e.balance_hi share.den share.bal put_in out h.balance_hi;
    gain_lo = h.gain_lo;
    gain_hi = h.gain_hi;
  }
  by false = h

-- ---- all events

pub event_encloses : (account : ℕ) (e : Enclosure) (share : Share) (event : PoolEvent) → HasTotal event
    → IsEnclosed e share → IsEnclosed (enclosure_after account e event) (share_after account share event)
event_encloses account e share (Own owner put_in out gain amount) some h =
    own_encloses account owner put_in out gain amount e share h
event_encloses account e share (Offset debt coll total rise) some h =
    offset_encloses account e share debt coll total rise some h

events_enclose : (account : ℕ) (e : Enclosure) (share : Share) (events : List PoolEvent) → HasTotals events
    → IsEnclosed e share
    → IsEnclosed (fold (enclosure_after account) e events) (fold (share_after account) share events)
events_enclose account e share [] some h = h
events_enclose account e share (event ∷ events) some h =
    events_enclose account (enclosure_after account e event) (share_after account share event) events some.1
    (event_encloses account e share event some.0 h)

pub encloses : (account : ℕ) (events : List PoolEvent) → HasTotals events
    → IsEnclosed (enclosed account events) (exact_share account events)
encloses account events some =
    events_enclose account nothing_enclosed no_share events some
    (record { balance_lo = omega arith; balance_hi = omega arith; gain_lo = omega arith; gain_hi = omega arith })
