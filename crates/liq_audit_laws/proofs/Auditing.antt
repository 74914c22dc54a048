-- Lawful events can be audited.
use Rattle.std.proofs.Common.{◌≡◌, ℕ, ◌+◌, ◌*◌, ◌^◌, ◌<◌, ◌≤◌, List, [], ◌∷◌, ◌++◌, length, ap, sym, ◌∙◌, subst, arith, refl}
use Rattle.std.proofs.Math.Nat.{mul-le-mul_right, le_of_mul-le-mul_right}
use Rattle.std.proofs.lemmas.List.Sums.{fold-append}
use Rattle.liq_types.specs.declared.amounts.TheConstants.{LIM}
use Rattle.liq_types.specs.declared.events.PoolEvent.{PoolEvent}
use Rattle.liq_types.specs.declared.events.PoolEvent.TheVariants as event
use Rattle.liq_types.specs.PlainLedger.{exact_share, den_of, offsets_coll}
use Rattle.liq_types.specs.Product.{ScaledProduct, rise_of}
use Rattle.liq_types.specs.State.{State, opening}
use Rattle.liq_types.specs.Totals.{pool_total}
use Rattle.liq_stability.specs.Lawful.{IsLawful, IsLawfulEvent, IsLawfulUpTo}
use Rattle.liq_stability.specs.Own.{after_event, after_events}
use Rattle.liq_stability.specs.Position.{balance_of}
use Rattle.liq_stability.specs.Promise.{IsWithinAllowance, gained_of}
use Rattle.liq_stability.specs.Words.{words_of}
use Rattle.liq_stability.proofs.LawfulLists.{lawful_limit, lawful_joined, lawful_first, lawful_rest}
use Rattle.liq_stability.proofs.Promise.{whole_with, all_balances_are, one_den, within_allowance}
use Rattle.liq_audit.specs.declared.rows.EngineRow.{EngineRow}
use Rattle.liq_audit.specs.Auditable.{AddUpWithin, IsAuditableEvent, AreAuditable, IsAuditable, words_along, row_of, IsWithinRow}
use Rattle.liq_audit.proofs.Auditing.{encloses_row}
use Rattle.liq_audit.proofs.Fitting.{watched_words}

same_words : (before : List PoolEvent) → IsLawful opening before → words_along before ≡ words_of (after_events before)
same_words before h = sym (watched_words 0 before) ∙ (whole_with LIM (omega arith) before h 0).now 0

lawful_one : (before : List PoolEvent) (e : PoolEvent) (es : List PoolEvent) → IsLawful opening before
    → IsLawfulUpTo LIM (after_events before) (e ∷ es) → IsLawful opening (before ++ e ∷ [])
lawful_one before e es h k = lawful_joined LIM opening before (e ∷ []) h (
  k.0,
  k.1,
  lawful_limit LIM (after_event (after_events before) e) es k.2,
)

add_up : (before : List PoolEvent) → IsLawful opening before → AddUpWithin before LIM
add_up before h n below =
    let all = all_balances_are LIM (omega arith) before h n below in
    let limit = (lawful_limit LIM (after_events before) [] (lawful_rest LIM opening before [] (subst (IsLawful opening)
    (none before) h))).total in
    let most : pool_total (after_events before) * den_of before ≤ LIM * den_of before =
    mul-le-mul_right (den_of before) limit in
    omega (arith, all, most) where
      none : (xs : List PoolEvent) → xs ≡ xs ++ []
      none [] = refl
      none (x ∷ xs) = ap (λ (ys : List PoolEvent). x ∷ ys) (none xs)

auditable_event : (before : List PoolEvent) (e : PoolEvent) → IsLawful opening before → pool_total (after_events before)
    ≤ LIM → IsLawfulEvent (after_events before) e → IsAuditableEvent before e
auditable_event before (event.Own owner put_in out gain amount) h limit k = tt
auditable_event before (event.Offset debt coll total rise) h limit k = record {
  some = k.some;
  within = k.within;
  limit = omega (arith, k.total_is, limit);
  total_is = λ n below. all_balances_are LIM (omega arith) before h n below
      ∙ ap (λ t. t * den_of before) (sym k.total_is);
  rise_is = subst (λ (w : ScaledProduct). rise ≡ rise_of w.p (record { debt = debt; coll = coll; total = total }))
      (sym (same_words before h)) k.rise_is;
}

auditable_along : (before es : List PoolEvent) → IsLawful opening before → IsLawfulUpTo LIM (after_events before) es
    → AreAuditable before es
auditable_along before [] h k = tt
auditable_along before (e ∷ es) h k =
    let one = lawful_one before e es h k in
    let after : after_events (before ++ e ∷ []) ≡ after_event (after_events before) e =
    fold-append after_event opening before (e ∷ []) in (
      auditable_event before e h k.0.total k.1,
      add_up (before ++ e ∷ []) one,
      auditable_along (before ++ e ∷ []) es one (subst (λ (s : State). IsLawfulUpTo LIM s es) (sym after) k.2),
    )

pub auditable : (events : List PoolEvent) → IsLawful opening events → offsets_coll events ≤ LIM → length events < 2 ^ 40
    → IsAuditable events
auditable events h gains few = record {
  each = auditable_along [] events (lawful_first LIM opening [] events h) h;
  gains = gains;
  few = few;
}

-- ---- the rows

between : (low high den : ℕ) (bal : ℕ) → 0 < den → low * den ≤ bal → bal ≤ high * den → low ≤ high
between low high den bal pos l h = le_of_mul-le-mul_right {m = low} {n = high} {k = den} (omega arith) pos

-- what is promised of an account in a state is within its row
pub within_with : (events : List PoolEvent) → IsLawful opening events → offsets_coll events ≤ LIM
    → length events < 2 ^ 40 → (s : State) (engine : EngineRow) → IsWithinAllowance s engine.account events
    → engine.balance ≡ balance_of s engine.account → engine.gain ≡ gained_of s engine.account events
    → IsWithinRow (row_of events engine)
within_with events h gains few s engine promise balance_is gain_is =
    let account = engine.account in
    let share = exact_share account events in
    let row = encloses_row events (auditable events h gains few) engine in
    let den = one_den LIM (omega arith) events h account in
    let pos : 0 < share.den = omega (arith, den.0, den.1) in
    record {
      balance_hi = subst (λ b. b ≤ (row_of events engine).balance_hi) (sym balance_is) (between (balance_of s account)
          (row_of events engine).balance_hi share.den share.bal pos promise.balance_at_most row.balance_hi);
      balance_lo = subst (λ b. (row_of events engine).balance_lo ≤ b + (row_of events engine).balance_allow)
          (sym balance_is) (between (row_of events engine).balance_lo (balance_of s account
          + (row_of events engine).balance_allow) share.den share.bal pos row.balance_lo promise.balance_at_least);
      gain_hi = subst (λ g. g ≤ (row_of events engine).gain_hi) (sym gain_is) (between (gained_of s account events)
          (row_of events engine).gain_hi share.den share.gain pos promise.gain_at_most row.gain_hi);
      gain_lo = subst (λ g. (row_of events engine).gain_lo ≤ g + (row_of events engine).gain_allow) (sym gain_is)
          (between (row_of events engine).gain_lo (gained_of s account events + (row_of events engine).gain_allow)
          share.den share.gain pos row.gain_lo promise.gain_at_least);
    }

pub within_row : (events : List PoolEvent) → IsLawful opening events → offsets_coll events ≤ LIM
    → length events < 2 ^ 40 → (engine : EngineRow) → engine.balance ≡ balance_of (after_events events) engine.account
    → engine.gain ≡ gained_of (after_events events) engine.account events → IsWithinRow (row_of events engine)
within_row events h gains few engine balance_is gain_is =
    within_with events h gains few (after_events events) engine (within_allowance LIM (omega arith) events h
    engine.account) balance_is gain_is
