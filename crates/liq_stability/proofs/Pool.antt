-- What own operations and offsets make of the pool's total, its collateral, its words and its marks.
use Rattle.std.proofs.Common.{◌≡◌, ℕ, ◌+◌, ◌-◌, ◌≤◌, Bool, true, false, cond, List, [], ◌∷◌, ◌++◌, refl, ap, ◌∙◌, arith, Some, None, Option, length, length-append}
use Rattle.std.specs.Prelude.{sum_by, ◌==◌, ◌||◌}
use Rattle.std.specs.BTreeMap.{insert_entry}
use Rattle.std.proofs.Math.Seq.{take-length}
use Rattle.std.proofs.lemmas.List.{take-append-le}
use Rattle.std.proofs.lemmas.List.Sums.{sum_by-append, fold-append}
use Rattle.liq_types.specs.Product.{ScaledProduct, after_offset, sumat, start_words, place_of, is_place, place_order, mark_after, with_finished, finished_sums}
use Rattle.liq_types.specs.State.{State, PoolMark, Mark, AtStart, After, DepositEntry, PoolOffset}
use Rattle.liq_types.specs.Tables.{EpochScale, Table, at, put, without}
use Rattle.liq_types.specs.Totals.{pool_total, pool_coll}
use Rattle.liq_types.specs.WellFormed.{IsMoment, AreFinished, DepositsAreMarked, IsPoolCovered, Ascends}
use Rattle.liq_types.proofs.Ascending.{none-ascends}
use Rattle.liq_types.proofs.MapRows.{all-put, all-without, all-weaken}
use Rattle.liq_types.proofs.Places.{sum-snoc, finished-snoc, sum_after, finished_after}
use Rattle.liq_stability.specs.declared.words.PoolWords.{PoolWords}
use Rattle.liq_stability.specs.Own.{owned, offset, with_deposit}
use Rattle.liq_stability.specs.Position.{mark_of, balance_in, gain_in, balance_of, gain_of, deposit_row}
use Rattle.liq_stability.specs.Words.{words_of, pool_words, words_after, sum_with, finished_by, finished_with}

-- ---- caps

pub balance_within : (s : State) (o : Option DepositEntry) → balance_in s o ≤ pool_total s
balance_within s None = omega arith
balance_within s (Some d) = omega arith

pub gain_within : (s : State) (o : Option DepositEntry) → gain_in s o ≤ pool_coll s
gain_within s None = omega arith
gain_within s (Some d) = omega arith

-- ---- totals

pub own_total : (start_total provided withdrawn debts put_in out : ℕ) → withdrawn + debts ≤ start_total + provided
    → start_total + (provided + put_in) - (withdrawn + out) - debts ≡ start_total + provided - withdrawn - debts
    + put_in - out
own_total start_total provided withdrawn debts put_in out h = omega arith

pub own_coll : (had paid_before gain : ℕ) → had - (paid_before + gain) ≡ had - paid_before - gain
own_coll had paid_before gain = omega arith

pub owned-total : (s : State) → IsPoolCovered s → (account put_in out : ℕ) → pool_total (owned s account put_in out)
    ≡ pool_total s + put_in - out
owned-total s h account put_in out = own_total s.start.total s.provided s.withdrawn
    (sum_by (λ (o : PoolOffset). o.debt) s.offsets) put_in out h.0

pub owned-coll : (s : State) (account put_in out : ℕ) → pool_coll (owned s account put_in out)
    ≡ pool_coll s - gain_of s account
owned-coll s account put_in out = own_coll (s.start.pool_coll + sum_by (λ (o : PoolOffset). o.coll) s.offsets)
    s.gains_paid (gain_of s account)

pub less_debt : (start_total provided withdrawn debts more debt : ℕ) → more ≡ debts + debt
    → start_total + provided - withdrawn - more ≡ start_total + provided - withdrawn - debts - debt
less_debt start_total provided withdrawn debts more debt e = omega (arith, e)

pub more_coll : (had gains colls more coll : ℕ) → more ≡ colls + coll → gains ≤ had + colls
    → had + more - gains ≡ had + colls - gains + coll
more_coll had gains colls more coll e h = omega (arith, e)

-- the offset that a state adds to its list
abbrev pub offset_now : State → ℕ → ℕ → PoolOffset
offset_now s debt coll = record { debt = debt; coll = coll; total = pool_total s }

debts-snoc : (os : List PoolOffset) (o : PoolOffset) → sum_by (λ (x : PoolOffset). x.debt) (os ++ o ∷ [])
    ≡ sum_by (λ (x : PoolOffset). x.debt) os + o.debt
debts-snoc os o = sum_by-append (λ (x : PoolOffset). x.debt) os (o ∷ []) ∙ omega arith

colls-snoc : (os : List PoolOffset) (o : PoolOffset) → sum_by (λ (x : PoolOffset). x.coll) (os ++ o ∷ [])
    ≡ sum_by (λ (x : PoolOffset). x.coll) os + o.coll
colls-snoc os o = sum_by-append (λ (x : PoolOffset). x.coll) os (o ∷ []) ∙ omega arith

pub offset-total : (s : State) (debt coll : ℕ) → pool_total (offset s debt coll) ≡ pool_total s - debt
offset-total s debt coll =
    let o = offset_now s debt coll in
    less_debt s.start.total s.provided s.withdrawn (sum_by (λ (x : PoolOffset). x.debt) s.offsets)
    (sum_by (λ (x : PoolOffset). x.debt) (s.offsets ++ o ∷ [])) debt (debts-snoc s.offsets o)

pub offset-coll : (s : State) → IsPoolCovered s → (debt coll : ℕ) → pool_coll (offset s debt coll) ≡ pool_coll s + coll
offset-coll s h debt coll =
    let o = offset_now s debt coll in
    more_coll s.start.pool_coll s.gains_paid (sum_by (λ (x : PoolOffset). x.coll) s.offsets)
    (sum_by (λ (x : PoolOffset). x.coll) (s.offsets ++ o ∷ [])) coll (colls-snoc s.offsets o) h.1

-- ---- what is covered stays so

pub still_covered : (withdrawn debts total provided put_in out : ℕ) → withdrawn + debts ≤ total + provided
    → out ≤ total + provided - withdrawn - debts → withdrawn + out + debts ≤ total + (provided + put_in)
still_covered withdrawn debts total provided put_in out h k = omega arith

pub gains_covered : (gains had gain : ℕ) → gains ≤ had → gain ≤ had - gains → gains + gain ≤ had
gains_covered gains had gain h k = omega arith

pub owned-covered : (s : State) (account put_in out : ℕ) → out ≤ balance_of s account → IsPoolCovered s
    → IsPoolCovered (owned s account put_in out)
owned-covered s account put_in out within h =
    let some = balance_within s (at s.deposits account) in (
      still_covered s.withdrawn (sum_by (λ (o : PoolOffset). o.debt) s.offsets) s.start.total s.provided put_in out h.0
          (omega (arith, within, some)),
      gains_covered s.gains_paid (s.start.pool_coll + sum_by (λ (o : PoolOffset). o.coll) s.offsets) (gain_of s account)
          h.1 (gain_within s (at s.deposits account)),
    )

pub taken_covered : (withdrawn debts more total provided debt : ℕ) → more ≡ debts + debt
    → withdrawn + debts ≤ total + provided → debt ≤ total + provided - withdrawn - debts
    → withdrawn + more ≤ total + provided
taken_covered withdrawn debts more total provided debt e h k = omega (arith, e)

more_gains : (gains had colls more c : ℕ) → more ≡ colls + c → gains ≤ had + colls → gains ≤ had + more
more_gains gains had colls more c e k = omega (arith, e)

pub offset-covered : (s : State) (debt coll : ℕ) → debt ≤ pool_total s → IsPoolCovered s
    → IsPoolCovered (offset s debt coll)
offset-covered s debt coll within h =
    let o = offset_now s debt coll in (
      taken_covered s.withdrawn (sum_by (λ (x : PoolOffset). x.debt) s.offsets) (sum_by (λ (x : PoolOffset). x.debt)
          (s.offsets ++ o ∷ [])) s.start.total s.provided debt (debts-snoc s.offsets o) h.0 within,
      more_gains s.gains_paid s.start.pool_coll (sum_by (λ (x : PoolOffset). x.coll) s.offsets)
          (sum_by (λ (x : PoolOffset). x.coll) (s.offsets ++ o ∷ [])) coll (colls-snoc s.offsets o) h.1,
    )

-- ---- marks

pub moment-more : {F : Type 0} (n m : ℕ) → n ≤ m → (mark : Mark F) → IsMoment n mark → IsMoment m mark
moment-more n m h (AtStart fields) k = tt
moment-more n m h (After items) k = omega (arith, h, k)

pub length-more : {X : Type 0} (xs : List X) (x : X) → length xs ≤ length (xs ++ x ∷ [])
length-more xs x = let long = length-append xs (x ∷ []) in omega (arith, long)

pub deposits-more : (n m : ℕ) → n ≤ m → (table : Table DepositEntry) → DepositsAreMarked n table
    → DepositsAreMarked m table
deposits-more n m h table = all-weaken (λ (d : DepositEntry). IsMoment n d.mark) (λ d. IsMoment m d.mark)
    (λ d k. moment-more n m h d.mark k) table

pub with_deposit-marked : (n : ℕ) (table : Table DepositEntry) (account : ℕ) (d : DepositEntry) → IsMoment n d.mark
    → DepositsAreMarked n table → DepositsAreMarked n (with_deposit table account d)
with_deposit-marked n table account d k h = by (d.amount == 0) where
  by : (b : Bool) → DepositsAreMarked n (cond b (without table account) (put table account d))
  by true = all-without (λ (x : DepositEntry). IsMoment n x.mark) table account h
  by false = all-put (λ (x : DepositEntry). IsMoment n x.mark) table account d k h

pub with_deposit-ascends : (table : Table DepositEntry) (account : ℕ) (d : DepositEntry) → Ascends table
    → Ascends (with_deposit table account d)
with_deposit-ascends table account d h = none-ascends (d.amount == 0) table account d h

-- a record's mark stays
pub mark-grown : (s : State) (debt coll : ℕ) (mark : Mark PoolMark) → IsMoment (length s.offsets) mark
    → mark_of (offset s debt coll) mark ≡ mark_of s mark
mark-grown s debt coll (AtStart fields) h = refl
mark-grown s debt coll (After n) h = ap (mark_after s.start) (take-append-le n s.offsets (offset_now s debt coll
    ∷ []) h)

pub deposit-grown : (s : State) (debt coll : ℕ) (d : DepositEntry) → IsMoment (length s.offsets) d.mark
    → deposit_row (offset s debt coll) d ≡ deposit_row s d
deposit-grown s debt coll d h =
    ap (λ (m : PoolMark). record { amount = d.amount; p = m.p; sum = m.sum; scale = m.scale; epoch = m.epoch })
    (mark-grown s debt coll d.mark h)

-- the mark of now
pub mark-full : (s : State) → mark_of s (After (length s.offsets)) ≡ mark_after s.start s.offsets
mark-full s = ap (mark_after s.start) (take-length s.offsets)

-- ---- the words

pub words-snoc : (s : State) (debt coll : ℕ) → words_of (offset s debt coll)
    ≡ after_offset (words_of s) (offset_now s debt coll)
words-snoc s debt coll = fold-append after_offset (start_words s.start) s.offsets (offset_now s debt coll ∷ [])

pub offset-words : (s : State) → AreFinished s.start → IsPoolCovered s → (debt coll : ℕ)
    → pool_words (offset s debt coll) ≡ words_after (pool_words s) debt coll
unfolding sum_after
offset-words s f h debt coll =
    let made = pool_words (offset s debt coll) in
    let target = words_after (pool_words s) debt coll in
    ap (λ (v : ScaledProduct). record made {
      p = v.p;
      scale = v.scale;
      epoch = v.epoch;
      sum = sumat s.start (s.offsets
          ++ offset_now s debt coll ∷ []) (place_of v);
    }) (words-snoc s debt coll)
    ∙ ap (λ n. record target { sum = n; total = made.total; coll = made.coll }) (sum-snoc s.start s.offsets
    (offset_now s debt coll) f)
    ∙ ap (λ n. record target { total = n; coll = made.coll }) (offset-total s debt coll)
    ∙ ap (λ n. record target { coll = n }) (offset-coll s h debt coll)

-- the table after the sum that an offset finishes, if it finishes one
finish_by : (table : List (EpochScale × ℕ)) (w : PoolWords) (debt coll : ℕ) (b : Bool)
    → cond b table (with_finished table (w.epoch, w.scale) (sum_with w debt coll))
    ≡ finished_with table (cond (b || sum_with w debt coll == 0) None (Some (record {
      epoch = w.epoch;
      scale = w.scale;
      sum = sum_with w debt coll;
    })))
finish_by table w debt coll true = refl
finish_by table w debt coll false = by (sum_with w debt coll == 0) where
  by : (b : Bool) → cond b table (insert_entry place_order table (w.epoch, w.scale) (sum_with w debt coll))
      ≡ finished_with table (cond b None (Some (record {
        epoch = w.epoch;
        scale = w.scale;
        sum = sum_with w debt coll;
      })))
  by true = refl
  by false = refl

pub offset-finishes : (s : State) (debt coll : ℕ) → finished_sums s.start (offset s debt coll).offsets
    ≡ finished_with (finished_sums s.start s.offsets) (finished_by (pool_words s) debt coll)
unfolding finished_after
offset-finishes s debt coll =
    finished-snoc s.start s.offsets (offset_now s debt coll)
    ∙ finish_by (finished_sums s.start s.offsets) (pool_words s) debt coll (is_place (place_of (words_of s))
    (place_of (after_offset (words_of s) (offset_now s debt coll))))
