-- States with the same image: what is read of them is the same, and what each change makes of them has the same image.
use Rattle.std.proofs.Common.{◌≡◌, ℕ, ◌+◌, ◌-◌, Bool, true, false, cond, List, [], ◌∷◌, ◌++◌, refl, ap, sym, ◌∙◌, arith, Some, None, Option, length, take}
use Rattle.std.specs.Prelude.{option_map, fold, sum_by, min, max, ◌==◌, if◌then◌else◌}
use Rattle.std.specs.Map.{values_of}
use Rattle.std.proofs.Math.Seq.{take-length}
use Rattle.std.proofs.lemmas.List.Sums.{sum_by-append, fold-append}
use Rattle.liq_num.specs.Quotient.{floor_of}
use Rattle.liq_types.specs.declared.amounts.TheConstants.{ONE}
use Rattle.liq_types.specs.declared.figures.Trove.{Trove}
use Rattle.liq_types.specs.declared.figures.Deposit.{Deposit}
use Rattle.liq_types.specs.declared.image.Image.{Image}
use Rattle.liq_types.specs.Product.{ScaledProduct, after_offset, prod, sumat, start_sum, sum_growth, place_of, mark_after}
use Rattle.liq_types.specs.State.{State, PoolMark, After, TroveEntry, DepositEntry, PoolOffset, Redistribution}
use Rattle.liq_types.specs.Tables.{EpochScale, Table, at, put, without, map_rows}
use Rattle.liq_types.specs.Totals.{stakes_of, pool_total, pool_coll}
use Rattle.liq_troves.specs.StakeSums.{trove_row, pending, coll_growth, debt_growth}
use Rattle.liq_troves.specs.Own.{lifted_entry, lifted, placed, stake_for, redistributed}
use Rattle.liq_stability.specs.Position.{words_of, mark_of, deposit_row, balance_by, gain_by, balance_in, gain_in, balance_of, gain_of, sums_from}
use Rattle.liq_stability.specs.Own.{owned, offset, with_deposit, amount_after}
use Rattle.liq_rule_step.specs.Image.{image}
use Rattle.liq_types.specs.WellFormed.{IsMoment, IsWellFormed}
use Rattle.liq_types.proofs.MapRows.{at-map, map-put, map-without, map-sum, map-cong}
use Rattle.liq_types.proofs.Places.{sum_shown, sum-snoc, finished-snoc, sum_after, finished_after}
use Rattle.liq_troves.proofs.BooksOf.{sum_more, row_grown}
use Rattle.liq_stability.proofs.Pool.{own_total, own_coll, deposit-grown, less_debt, more_coll}

-- ---- troves, by the image

-- the image with these troves
pub with_troves : Image → Table Trove → Image
with_troves i rows = record i { troves = rows; stakes = sum_by (λ (t : Trove). t.stake) (values_of rows) }

stakes_shown : (s : State) (table : Table TroveEntry) → sum_by (λ (t : TroveEntry). t.stake) (values_of table)
    ≡ sum_by (λ (t : Trove). t.stake) (values_of (map_rows (trove_row s) table))
stakes_shown s table = sym (map-sum (trove_row s) (λ (t : Trove). t.stake) table)

pub lift_entry : Image → ℕ → Option Trove → Image
lift_entry i account None = i
lift_entry i account (Some t) =
    with_troves
    (record i {
      active_coll = i.active_coll - t.coll;
      active_debt = i.active_debt - t.debt;
      default_coll = i.default_coll - pending t.stake i.sum_coll t.mark_coll;
      default_debt = i.default_debt - pending t.stake i.sum_debt t.mark_debt;
    })
    (without i.troves account)

lift-image_entry : (s : State) (account : ℕ) (o : Option TroveEntry) → image (lifted_entry s account o)
    ≡ lift_entry (image s) account (option_map (trove_row s) o)
unfolding lift_entry with_troves
lift-image_entry s account None = refl
lift-image_entry s account (Some t) =
    let left = image (lifted_entry s account (Some t)) in
    ap (λ n. record left { stakes = n }) (stakes_shown s (without s.troves account))
    ∙ ap (λ (rows : Table Trove). record left {
      troves = rows;
      stakes = sum_by (λ (r : Trove). r.stake)
          (values_of rows);
    }) (map-without (trove_row s) s.troves account)

pub lift : Image → ℕ → Image
lift i account = lift_entry i account (at i.troves account)

pub lift-image : (s : State) (account : ℕ) → image (lifted s account) ≡ lift (image s) account
unfolding lift
lift-image s account =
    lift-image_entry s account (at s.troves account)
    ∙ ap (lift_entry (image s) account) (sym (at-map (trove_row s) s.troves account))

pub stake_by : Image → ℕ → ℕ
stake_by i coll = if i.snap_coll == 0 then coll else max 1 (floor_of coll i.snap_stakes i.snap_coll)

pub place : Image → ℕ → ℕ → ℕ → Image
place i account coll debt =
    with_troves
    (record i { active_coll = i.active_coll + coll; active_debt = i.active_debt + debt })
    (put i.troves account (record {
      coll = coll;
      debt = debt;
      stake = stake_by i coll;
      mark_coll = i.sum_coll;
      mark_debt = i.sum_debt;
    }))

-- the row of a trove that is placed
abbrev pub placed_entry : State → ℕ → ℕ → TroveEntry
placed_entry s coll debt =
    record { coll = coll; debt = debt; stake = stake_for s coll; mark = After (length s.redistributions) }

pub place-image : (s : State) (account coll debt : ℕ) → image (placed s account coll debt)
    ≡ place (image s) account coll debt
unfolding place with_troves stake_by
place-image s account coll debt =
    let entry = placed_entry s coll debt in
    let left = image (placed s account coll debt) in
    ap (λ n. record left { stakes = n }) (stakes_shown s (put s.troves account entry))
    ∙ ap (λ (rows : Table Trove). record left {
      troves = rows;
      stakes = sum_by (λ (r : Trove). r.stake)
          (values_of rows);
    }) (map-put (trove_row s) s.troves account entry)

pub redistribute : Image → ℕ → ℕ → Image
redistribute i coll debt =
    record i {
      default_coll = i.default_coll + coll;
      default_debt = i.default_debt + debt;
      sum_coll = i.sum_coll + floor_of coll ONE i.stakes;
      sum_debt = i.sum_debt + floor_of debt ONE i.stakes;
    }

pub redistribute-image : (s : State) (coll debt : ℕ) → IsWellFormed s → image (redistributed s coll debt)
    ≡ redistribute (image s) coll debt
unfolding redistribute
redistribute-image s coll debt h =
    let more : Redistribution = record { coll = coll; debt = debt; stakes = stakes_of s } in
    let left = image (redistributed s coll debt) in
    ap (λ (rows : Table Trove). record left { troves = rows }) (map-cong (trove_row (redistributed s coll debt))
    (trove_row s) (λ t. IsMoment (length s.redistributions) t.mark) (row_grown s coll debt) s.troves h.1)
    ∙ ap (λ n. record (image s) {
      default_coll = s.default_coll + coll;
      default_debt = s.default_debt + debt;
      sum_coll = n;
      sum_debt = left.sum_debt;
    }) (sum_more coll_growth s.start.sum_coll s.redistributions more)
    ∙ ap (λ n. record (image s) {
      default_coll = s.default_coll + coll;
      default_debt = s.default_debt + debt;
      sum_coll = (image s).sum_coll + coll_growth more;
      sum_debt = n;
    })
    (sum_more debt_growth s.start.sum_debt s.redistributions more)

-- ---- the Stability Pool, by the image

unfoldable pub words_by : Image → ScaledProduct
words_by i = record { p = i.p; scale = i.scale; epoch = i.epoch }

pub mark_by : Deposit → PoolMark
mark_by d = record { p = d.p; sum = d.sum; scale = d.scale; epoch = d.epoch }

pub balance_row : Image → Option Deposit → ℕ
balance_row i None = 0
balance_row i (Some d) = min i.total (balance_by d.amount (mark_by d) (words_by i))

pub gain_row : Image → Option Deposit → ℕ
gain_row i None = 0
gain_row i (Some d) = min i.pool_coll (gain_by d.amount (mark_by d) (λ k. start_sum i (d.epoch, d.scale + k)))

balance-image_in : (s : State) (o : Option DepositEntry)
    → balance_in s o ≡ balance_row (image s) (option_map (deposit_row s) o)
unfolding balance_row mark_by words_by
balance-image_in s None = refl
balance-image_in s (Some d) = refl

gain-image_in : (s : State) → IsWellFormed s → (o : Option DepositEntry)
    → gain_in s o ≡ gain_row (image s) (option_map (deposit_row s) o)
unfolding gain_row mark_by
gain-image_in s h None = refl
gain-image_in s h (Some d) =
    let mark = mark_of s d.mark in
    let shown : sums_from s mark ≡ (λ k. start_sum (image s) (mark.epoch, mark.scale + k)) =
    λ i k. sym (sum_shown s.start s.offsets h.0 (mark.epoch, mark.scale + k)) i in
    ap (λ (sums : ℕ → ℕ). min (pool_coll s) (gain_by d.amount mark sums)) shown

pub balance-image : (s : State) (account : ℕ)
    → balance_of s account ≡ balance_row (image s) (at (image s).deposits account)
balance-image s account = balance-image_in s (at s.deposits account)
    ∙ ap (balance_row (image s)) (sym (at-map (deposit_row s) s.deposits account))

pub gain-image : (s : State) → IsWellFormed s → (account : ℕ)
    → gain_of s account ≡ gain_row (image s) (at (image s).deposits account)
gain-image s h account = gain-image_in s h (at s.deposits account)
    ∙ ap (gain_row (image s)) (sym (at-map (deposit_row s) s.deposits account))

pub with_deposit_row : Table Deposit → ℕ → Deposit → Table Deposit
with_deposit_row table account d = if d.amount == 0 then without table account else put table account d

-- an own operation, with what it makes of balance and gain
pub own : Image → ℕ → ℕ → ℕ → ℕ → ℕ → Image
own i account put_in out gain left =
    record i {
      total = i.total + put_in - out;
      pool_coll = i.pool_coll - gain;
      deposits = with_deposit_row i.deposits account (record {
        amount = left;
        p = i.p;
        sum = i.sum;
        scale = i.scale;
        epoch = i.epoch;
      });
    }

deposit-map : (f : DepositEntry → Deposit) (table : Table DepositEntry) (account : ℕ) (d : DepositEntry)
    → (f d).amount ≡ d.amount → map_rows f (with_deposit table account d)
    ≡ with_deposit_row (map_rows f table) account (f d)
unfolding with_deposit_row
deposit-map f table account d e =
    by (d.amount == 0) ∙ ap (λ n. if n == 0 then without (map_rows f table) account
    else put (map_rows f table) account (f d)) (sym e) where
      by : (b : Bool) → map_rows f (cond b (without table account) (put table account d))
          ≡ cond b (without (map_rows f table) account) (put (map_rows f table) account (f d))
      by true = map-without f table account
      by false = map-put f table account d

mark-full : (s : State) → mark_after s.start (take (length s.offsets) s.offsets) ≡ mark_after s.start s.offsets
mark-full s = ap (mark_after s.start) (take-length s.offsets)

pub own-image : (s : State) → IsWellFormed s → (account put_in out : ℕ) → image (owned s account put_in out)
    ≡ own (image s) account put_in out (gain_of s account) (amount_after s account put_in out)
unfolding own
own-image s h account put_in out =
    let left = amount_after s account put_in out in
    let gain = gain_of s account in
    let entry : DepositEntry = record { amount = left; mark = After (length s.offsets) } in
    let made = image (owned s account put_in out) in
    ap (λ (rows : Table Deposit). record made { deposits = rows }) (deposit-map (deposit_row s) s.deposits account
    entry refl)
    ∙ ap (λ (m : PoolMark). record made {
      deposits = with_deposit_row (image s).deposits account
          (record { amount = left; p = m.p; sum = m.sum; scale = m.scale; epoch = m.epoch });
    }) (mark-full s)
    ∙ ap (λ n. record (own (image s) account put_in out gain left) { total = n; pool_coll = made.pool_coll })
    (own_total s.start.total s.provided s.withdrawn (sum_by (λ (o : PoolOffset). o.debt) s.offsets) put_in out h.3.0)
    ∙ ap (λ n. record (own (image s) account put_in out gain left) { pool_coll = n })
    (own_coll (s.start.pool_coll + sum_by (λ (o : PoolOffset). o.coll) s.offsets) s.gains_paid gain)

-- the pool after an own operation
pub owned_total : (s : State) → IsWellFormed s → (account put_in out : ℕ) → pool_total (owned s account put_in out)
    ≡ pool_total s + put_in - out
unfolding own
owned_total s w account put_in out = ap (λ (i : Image). i.total) (own-image s w account put_in out)

pub owned_coll : (s : State) → IsWellFormed s → (account put_in out : ℕ) → pool_coll (owned s account put_in out)
    ≡ pool_coll s - gain_of s account
unfolding own
owned_coll s w account put_in out = ap (λ (i : Image). i.pool_coll) (own-image s w account put_in out)

-- an offset
unfoldable pub offset_by : Image → ℕ → ℕ → Image
offset_by i debt coll =
    let o : PoolOffset = record { debt = debt; coll = coll; total = i.total } in
    let w = words_by i in
    let next = after_offset w o in
    record i {
      p = next.p;
      scale = next.scale;
      epoch = next.epoch;
      sum = sum_after w o i.sum;
      finished = finished_after i.finished w o (i.sum + sum_growth w o);
      total = i.total - debt;
      pool_coll = i.pool_coll + coll;
    }

fold-snoc : {A B : Type 0} (f : B → A → B) (a : B) (xs : List A) (x : A) → fold f a (xs ++ x ∷ []) ≡ f (fold f a xs) x
fold-snoc f a xs x = fold-append f a xs (x ∷ [])

pub offset-image : (s : State) → IsWellFormed s → (debt coll : ℕ) → image (offset s debt coll)
    ≡ offset_by (image s) debt coll
unfolding offset_by words_by
offset-image s h debt coll =
    let o : PoolOffset = record { debt = debt; coll = coll; total = pool_total s } in
    let w = words_of s in
    let made = image (offset s debt coll) in
    let target = offset_by (image s) debt coll in
    ap (λ (rows : Table Deposit). record made { deposits = rows }) (map-cong (deposit_row (offset s debt coll))
    (deposit_row s) (λ d. IsMoment (length s.offsets) d.mark) (deposit-grown s debt coll) s.deposits h.2)
    ∙ ap (λ (v : ScaledProduct). record made {
      deposits = target.deposits;
      p = v.p;
      scale = v.scale;
      epoch = v.epoch;
      sum = sumat s.start (s.offsets ++ o ∷ []) (place_of v);
    }) (fold-snoc after_offset (prod s.start []) s.offsets o)
    ∙ ap (λ n. record target { sum = n; finished = made.finished; total = made.total; pool_coll = made.pool_coll })
    (sum-snoc s.start s.offsets o h.0)
    ∙ ap (λ (f : List (EpochScale × ℕ)). record target { finished = f; total = made.total; pool_coll = made.pool_coll })
    (finished-snoc s.start s.offsets o)
    ∙ ap (λ n. record target { total = n; pool_coll = made.pool_coll })
    (less_debt s.start.total s.provided s.withdrawn (sum_by (λ (x : PoolOffset). x.debt) s.offsets)
    (sum_by (λ (x : PoolOffset). x.debt) (s.offsets ++ o ∷ [])) debt (sum_by-append (λ (x : PoolOffset). x.debt)
    s.offsets (o ∷ []) ∙ omega arith))
    ∙ ap (λ n. record target { pool_coll = n })
    (more_coll s.start.pool_coll s.gains_paid (sum_by (λ (x : PoolOffset). x.coll) s.offsets)
    (sum_by (λ (x : PoolOffset). x.coll) (s.offsets ++ o ∷ [])) coll (sum_by-append (λ (x : PoolOffset). x.coll)
    s.offsets (o ∷ []) ∙ omega arith) h.3.1)
