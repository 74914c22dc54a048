-- A pool that has what a state says of it goes on to have it.
use Rattle.std.proofs.Common.{◌≡◌, ℕ, ◌+◌, ◌-◌, Bool, true, false, cond, List, refl, ap, sym, ◌∙◌, Some, None, Option, length}
use Rattle.std.specs.Prelude.{◌==◌, option_map}
use Rattle.liq_types.specs.declared.figures.Deposit.{Deposit}
use Rattle.liq_types.specs.Product.{sumat}
use Rattle.liq_types.specs.State.{State, DepositEntry, PoolMark, After}
use Rattle.liq_types.specs.Tables.{EpochScale, Table, at, put, without, map_rows}
use Rattle.liq_types.specs.Totals.{pool_total, pool_coll}
use Rattle.liq_types.specs.WellFormed.{AreFinished, DepositsAreMarked, IsMoment, IsPoolCovered}
use Rattle.liq_types.proofs.MapRows.{at-map, map-put, map-without, map-cong}
use Rattle.liq_types.proofs.Places.{sum_shown}
use Rattle.liq_stability.specs.declared.words.PoolWords.{PoolWords}
use Rattle.liq_stability.specs.Kept.{Kept, IsPoolOf, sum_at, sums_for, position_of, position_at, words_owned, left_in}
use Rattle.liq_stability.specs.Own.{owned, offset, amount_after}
use Rattle.liq_stability.specs.Position.{position_by, deposit_row, deposit_rows, sums_from, mark_of, balance_in, gain_in, balance_of, gain_of}
use Rattle.liq_stability.specs.Words.{pool_words, words_after, finished_by, finished_with}
use Rattle.liq_stability.proofs.Pool.{owned-total, owned-coll, mark-grown, mark-full, offset-words, offset-finishes}

-- ---- what is read

module _ (s : State) (pool : Kept) (f : AreFinished s.start) (h : IsPoolOf s pool) where
  shown : (q : EpochScale) → sum_at pool.words pool.finished q ≡ sumat s.start s.offsets q
  shown q =
      ap (λ (w : PoolWords). sum_at w pool.finished q) h.words
      ∙ ap (λ (t : List (EpochScale × ℕ)). sum_at (pool_words s) t q) h.finished
      ∙ sum_shown s.start s.offsets f q

  sums_shown : (d : DepositEntry) → sums_for pool.words pool.finished (deposit_row s d) ≡ sums_from s (mark_of s d.mark)
  sums_shown d = λ i n. shown ((deposit_row s d).epoch, (deposit_row s d).scale + n) i

  reads : (o : Option DepositEntry) → position_of pool (option_map (deposit_row s) o) ≡ (balance_in s o, gain_in s o)
  reads None = refl
  reads (Some d) =
      ap (λ (w : PoolWords). position_by (deposit_row s d) w (sums_for pool.words pool.finished
      (deposit_row s d))) h.words
      ∙ ap (λ (v : ℕ → ℕ). position_by (deposit_row s d) (pool_words s) v) (sums_shown d)

  pub position_follows : (account : ℕ) → position_at pool account ≡ (balance_of s account, gain_of s account)
  position_follows account =
      ap (λ (o : Option Deposit). position_of pool o) (ap (λ (t : Table Deposit). at t account) h.deposits
      ∙ at-map (deposit_row s) s.deposits account)
      ∙ reads (at s.deposits account)

-- ---- an own operation

owned_words : (s : State) → IsPoolCovered s → (account put_in out : ℕ)
    → words_owned (pool_words s) put_in out (gain_of s account) ≡ pool_words (owned s account put_in out)
owned_words s h account put_in out =
    sym (ap (λ n. record (pool_words s) { total = n; coll = pool_coll (owned s account put_in out) })
    (owned-total s h account put_in out)
    ∙ ap (λ n. record (pool_words s) { total = pool_total s + put_in - out; coll = n })
    (owned-coll s account put_in out))

owned_rows : (s : State) (account put_in out : ℕ)
    → left_in (deposit_rows s) (pool_words s) account (amount_after s account put_in out)
    ≡ deposit_rows (owned s account put_in out)
owned_rows s account put_in out =
    let left = amount_after s account put_in out in
    ap (λ (m : PoolMark). cond (left == 0) (without (deposit_rows s) account) (put (deposit_rows s) account
    (record { amount = left; p = m.p; sum = m.sum; scale = m.scale; epoch = m.epoch }))) (sym (mark-full s))
    ∙ mapped (left == 0)
  where
    mapped : (b : Bool)
        → cond b (without (deposit_rows s) account) (put (deposit_rows s) account
        (deposit_row s (record { amount = amount_after s account put_in out; mark = After (length s.offsets) })))
        ≡ map_rows (deposit_row s) (cond b (without s.deposits account) (put s.deposits account
        (record { amount = amount_after s account put_in out; mark = After (length s.offsets) })))
    mapped true = sym (map-without (deposit_row s) s.deposits account)
    mapped false = sym (map-put (deposit_row s) s.deposits account (record {
      amount = amount_after s account put_in out;
      mark = After (length s.offsets);
    }))

pub owned_follows : (s : State) (pool next : Kept) → IsPoolCovered s → IsPoolOf s pool → (account put_in out : ℕ)
    → next.words ≡ words_owned pool.words put_in out (gain_of s account) → next.finished ≡ pool.finished
    → next.deposits.rows ≡ left_in pool.deposits.rows pool.words account (amount_after s account put_in out)
    → IsPoolOf (owned s account put_in out) next
owned_follows s pool next covered h account put_in out words finished rows = record {
  words = words ∙ ap (λ (w : PoolWords). words_owned w put_in out (gain_of s account)) h.words
      ∙ owned_words s covered account put_in out;
  finished = finished ∙ h.finished;
  deposits =
      rows ∙ ap (λ (t : Table Deposit). left_in t pool.words account (amount_after s account put_in out)) h.deposits
      ∙ ap (λ (w : PoolWords). left_in (deposit_rows s) w account (amount_after s account put_in out)) h.words
      ∙ owned_rows s account put_in out;
}

-- ---- an offset

row_stays : (s : State) (debt coll : ℕ) (d : DepositEntry) → IsMoment (length s.offsets) d.mark
    → deposit_row s d ≡ deposit_row (offset s debt coll) d
row_stays s debt coll d h =
    sym (ap (λ (m : PoolMark). record { amount = d.amount; p = m.p; sum = m.sum; scale = m.scale; epoch = m.epoch })
    (mark-grown s debt coll d.mark h))

pub offset_follows : (s : State) (pool next : Kept) → AreFinished s.start
    → DepositsAreMarked (length s.offsets) s.deposits → IsPoolCovered s → IsPoolOf s pool → (debt coll : ℕ)
    → next.words ≡ words_after pool.words debt coll
    → next.finished ≡ finished_with pool.finished (finished_by pool.words debt coll)
    → next.deposits.rows ≡ pool.deposits.rows → IsPoolOf (offset s debt coll) next
offset_follows s pool next f marked covered h debt coll words finished rows = record {
  words = words ∙ ap (λ (w : PoolWords). words_after w debt coll) h.words ∙ sym (offset-words s f covered debt coll);
  finished =
      finished ∙ ap (λ (w : PoolWords). finished_with pool.finished (finished_by w debt coll)) h.words
      ∙ ap (λ (t : List (EpochScale × ℕ)). finished_with t (finished_by (pool_words s) debt coll)) h.finished
      ∙ sym (offset-finishes s debt coll);
  deposits =
      rows ∙ h.deposits
      ∙ map-cong (deposit_row s) (deposit_row (offset s debt coll)) (λ (d : DepositEntry). IsMoment
      (length s.offsets) d.mark) (row_stays s debt coll) s.deposits marked;
}
