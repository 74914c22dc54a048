-- States with the same image have the same image after each change.
use Rattle.std.proofs.Common.{◌≡◌, ℕ, ◌+◌, ◌-◌, ◌≤◌, [], ◌∷◌, ◌++◌, refl, ap, sym, ◌∙◌, arith, Some, None, Option, length}
use Rattle.std.specs.Prelude.{unwrap_or, sum_by}
use Rattle.std.proofs.lemmas.List.Sums.{sum_by-append}
use Rattle.liq_types.specs.declared.image.Image.{Image}
use Rattle.liq_types.specs.Payments.{credited, charged, surplus_added, surplus_taken}
use Rattle.liq_types.specs.State.{State, TroveEntry, PoolOffset, Redistribution, no_wallet, with_wallet, with_surplus}
use Rattle.liq_types.specs.Tables.{Table, at}
use Rattle.liq_types.specs.Totals.{stakes_of, pool_total}
use Rattle.liq_troves.specs.Own.{lifted_entry, lifted, placed, redistributed, snapped, set_trove}
use Rattle.liq_stability.specs.Position.{balance_of, gain_of}
use Rattle.liq_stability.specs.Own.{owned, offset, amount_after}
use Rattle.liq_rule_step.specs.Image.{image}
use Rattle.liq_types.specs.WellFormed.{IsMoment, IsWellFormed, TrovesAreMarked}
use Rattle.liq_types.proofs.MapRows.{all-put, all-without, all-weaken}
use Rattle.liq_rule_step.proofs.Alike.{lift, lift-image, place, place-image, redistribute, redistribute-image, own, own-image, offset_by, offset-image}
use Rattle.liq_rule_step.proofs.AlikeReads.{Alike, gain_alike, amount_alike}
use Rattle.liq_stability.proofs.Pool.{moment-more, deposits-more, length-more, with_deposit-marked, balance_within, gain_within, still_covered, gains_covered, taken_covered}
use Rattle.liq_rule_step.proofs.Allowed.{lifted-records}

-- ---- what is well formed stays so

troves-more : (n m : ℕ) → n ≤ m → (table : Table TroveEntry) → TrovesAreMarked n table → TrovesAreMarked m table
troves-more n m h table = all-weaken (λ (t : TroveEntry). IsMoment n t.mark) (λ t. IsMoment m t.mark)
    (λ t k. moment-more n m h t.mark k) table

formed-lifted_entry : (s : State) (account : ℕ) (o : Option TroveEntry) → IsWellFormed s
    → IsWellFormed (lifted_entry s account o)
formed-lifted_entry s account None h = h
formed-lifted_entry s account (Some t) h =
    (h.0, all-without (λ (x : TroveEntry). IsMoment (length s.redistributions) x.mark) s.troves account h.1, h.2, h.3)

pub formed-lifted : (s : State) (account : ℕ) → IsWellFormed s → IsWellFormed (lifted s account)
formed-lifted s account = formed-lifted_entry s account (at s.troves account)

pub formed-placed : (s : State) (account coll debt : ℕ) → IsWellFormed s → IsWellFormed (placed s account coll debt)
formed-placed s account coll debt h = (
  h.0,
  all-put (λ (x : TroveEntry). IsMoment (length s.redistributions) x.mark) s.troves account _ (omega arith) h.1,
  h.2,
  h.3,
)

pub formed-redistributed : (s : State) (coll debt : ℕ) → IsWellFormed s → IsWellFormed (redistributed s coll debt)
formed-redistributed s coll debt h =
    let r : Redistribution = record { coll = coll; debt = debt; stakes = stakes_of s } in (
      h.0,
      troves-more (length s.redistributions) (length (s.redistributions ++ r ∷ []))
          (length-more s.redistributions r) s.troves h.1,
      h.2,
      h.3,
    )

pub formed-owned : (s : State) (account put_in out : ℕ) → out ≤ balance_of s account → IsWellFormed s
    → IsWellFormed (owned s account put_in out)
formed-owned s account put_in out within h =
    let some = balance_within s (at s.deposits account) in (
      h.0,
      h.1,
      with_deposit-marked (length s.offsets) s.deposits account _ (omega arith) h.2,
      (
        still_covered s.withdrawn (sum_by (λ (o : PoolOffset). o.debt) s.offsets) s.start.total s.provided put_in out
            h.3.0 (omega (arith, within, some)),
        gains_covered s.gains_paid (s.start.pool_coll + sum_by (λ (o : PoolOffset). o.coll) s.offsets)
            (gain_of s account) h.3.1 (gain_within s (at s.deposits account)),
      ),
    )

pub formed-offset : (s : State) (debt coll : ℕ) → debt ≤ pool_total s → IsWellFormed s
    → IsWellFormed (offset s debt coll)
formed-offset s debt coll within h =
    let o : PoolOffset = record { debt = debt; coll = coll; total = pool_total s } in
    let debts = sum_by-append (λ (x : PoolOffset). x.debt) s.offsets (o ∷ []) in
    let colls = sum_by-append (λ (x : PoolOffset). x.coll) s.offsets (o ∷ []) in (
      h.0,
      h.1,
      deposits-more (length s.offsets) (length (s.offsets ++ o ∷ [])) (length-more s.offsets o) s.deposits h.2,
      (
        taken_covered s.withdrawn (sum_by (λ (x : PoolOffset). x.debt) s.offsets) (sum_by (λ (x : PoolOffset). x.debt)
            (s.offsets ++ o ∷ [])) s.start.total s.provided debt (debts ∙ omega arith) h.3.0 within,
        more_gains s.gains_paid s.start.pool_coll (sum_by (λ (x : PoolOffset). x.coll) s.offsets)
            (sum_by (λ (x : PoolOffset). x.coll) (s.offsets ++ o ∷ [])) coll (colls ∙ omega arith) h.3.1,
      ),
    ) where
      more_gains : (gains had colls more c : ℕ) → more ≡ colls + c → gains ≤ had + colls → gains ≤ had + more
      more_gains gains had colls more c e k = omega (arith, e)

-- ---- changes

-- by what a change makes of the image
pub alike_by : (f : Image → Image) (s t new_s new_t : State) → Alike s t → image new_s ≡ f (image s)
    → image new_t ≡ f (image t) → new_s.records ≡ s.records → new_t.records ≡ t.records → IsWellFormed new_s
    → IsWellFormed new_t → Alike new_s new_t
alike_by f s t new_s new_t h is it rs rt ws wt =
    record { image = is ∙ ap f h.image ∙ sym it; records = rs ∙ h.records ∙ sym rt; left = ws; right = wt }

-- a change of the image that takes the same numbers from both
pub alike_by_two : {A : Type 0} (f : A → Image → Image) (a b : A) (s t new_s new_t : State) → a ≡ b → Alike s t
    → image new_s ≡ f a (image s) → image new_t ≡ f b (image t) → new_s.records ≡ s.records → new_t.records ≡ t.records
    → IsWellFormed new_s → IsWellFormed new_t → Alike new_s new_t
alike_by_two f a b s t new_s new_t e h is it rs rt ws wt =
    record {
      image = is ∙ ap (f a) h.image ∙ ap (λ x. f x (image t)) e ∙ sym it;
      records = rs ∙ h.records
          ∙ sym rt;
      left = ws;
      right = wt;
    }

abbrev pay : ℕ → ℕ × ℕ → Image → Image
pay account amounts i =
    let had = unwrap_or (at i.wallets account) no_wallet in
    record i {
      wallets = with_wallet i.wallets account (record {
        coll = had.coll + amounts.0;
        lusd = had.lusd + amounts.1;
      });
    }

abbrev charge : ℕ → ℕ × ℕ → Image → Image
charge account amounts i =
    let had = unwrap_or (at i.wallets account) no_wallet in
    record i {
      wallets = with_wallet i.wallets account (record {
        coll = had.coll - amounts.0;
        lusd = had.lusd - amounts.1;
      });
    }

pub paid_alike : {s t : State} → Alike s t → (account : ℕ) (c d m n : ℕ) → c ≡ d → m ≡ n
    → Alike (credited s account c m) (credited t account d n)
paid_alike {s} {t} h account c d m n e f =
    alike_by_two (pay account) (c, m) (d, n) s t (credited s account c m) (credited t account d n) (ap (λ x. (x, m)) e
    ∙ ap (λ x. (d, x)) f) h refl refl refl refl h.left h.right

pub charged_alike : {s t : State} → Alike s t → (account : ℕ) (c d m n : ℕ) → c ≡ d → m ≡ n
    → Alike (charged s account c m) (charged t account d n)
charged_alike {s} {t} h account c d m n e f =
    alike_by_two (charge account) (c, m) (d, n) s t (charged s account c m) (charged t account d n) (ap (λ x. (x, m)) e
    ∙ ap (λ x. (d, x)) f) h refl refl refl refl h.left h.right

abbrev add_surplus : ℕ → ℕ → Image → Image
add_surplus account coll i =
    record i {
      surplus = i.surplus + coll;
      surplus_rows = with_surplus i.surplus_rows account
          (unwrap_or (at i.surplus_rows account) 0 + coll);
    }

pub surplus_added_alike : {s t : State} → Alike s t → (account c d : ℕ) → c ≡ d
    → Alike (surplus_added s account c) (surplus_added t account d)
surplus_added_alike {s} {t} h account c d e =
    alike_by_two (add_surplus account) c d s t (surplus_added s account c) (surplus_added t account d) e h refl refl
    refl refl h.left h.right

abbrev take_surplus : ℕ → Image → Image
take_surplus account i =
    record i {
      surplus = i.surplus - unwrap_or (at i.surplus_rows account) 0;
      surplus_rows = with_surplus i.surplus_rows account 0;
    }

pub surplus_taken_alike : {s t : State} → Alike s t → (account : ℕ)
    → Alike (surplus_taken s account) (surplus_taken t account)
surplus_taken_alike {s} {t} h account =
    alike_by (take_surplus account) s t (surplus_taken s account) (surplus_taken t account) h refl refl refl refl
    h.left h.right

pub lifted_alike : {s t : State} → Alike s t → (account : ℕ) → Alike (lifted s account) (lifted t account)
lifted_alike {s} {t} h account =
    alike_by (λ i. lift i account) s t (lifted s account) (lifted t account) h (lift-image s account)
    (lift-image t account)
    (lifted-records s account (at s.troves account)) (lifted-records t account (at t.troves account))
    (formed-lifted s account h.left) (formed-lifted t account h.right)

pub placed_alike : {s t : State} → Alike s t → (account c d m n : ℕ) → c ≡ d → m ≡ n
    → Alike (placed s account c m) (placed t account d n)
placed_alike {s} {t} h account c d m n e f =
    alike_by_two (λ (amounts : ℕ × ℕ) i. place i account amounts.0 amounts.1) (c, m) (d, n) s t (placed s account c m)
    (placed t account d n)
    (ap (λ x. (x, m)) e ∙ ap (λ x. (d, x)) f) h (place-image s account c m) (place-image t account d n) refl refl
    (formed-placed s account c m h.left) (formed-placed t account d n h.right)

pub set_alike : {s t : State} → Alike s t → (account c d m n : ℕ) → c ≡ d → m ≡ n
    → Alike (set_trove s account c m) (set_trove t account d n)
set_alike h account c d m n e f = placed_alike (lifted_alike h account) account c d m n e f

pub redistributed_alike : {s t : State} → Alike s t → (coll debt : ℕ)
    → Alike (redistributed s coll debt) (redistributed t coll debt)
redistributed_alike {s} {t} h coll debt =
    alike_by (λ i. redistribute i coll debt) s t (redistributed s coll debt) (redistributed t coll debt) h
    (redistribute-image s coll debt h.left) (redistribute-image t coll debt h.right) refl refl
    (formed-redistributed s coll debt h.left) (formed-redistributed t coll debt h.right)

abbrev snap : Image → Image
snap i = record i { snap_stakes = i.stakes; snap_coll = i.active_coll + i.default_coll }

pub snapped_alike : {s t : State} → Alike s t → Alike (snapped s) (snapped t)
snapped_alike {s} {t} h = alike_by snap s t (snapped s) (snapped t) h refl refl refl refl h.left h.right

pub owned_alike : {s t : State} → Alike s t → (account put_in out : ℕ) → out ≤ balance_of s account
    → out ≤ balance_of t account → Alike (owned s account put_in out) (owned t account put_in out)
owned_alike {s} {t} h account put_in out ws wt =
    alike_by_two (λ (made : ℕ × ℕ) i. own i account put_in out made.0 made.1)
    (gain_of s account, amount_after s account put_in out) (gain_of t account, amount_after t account put_in out)
    s t (owned s account put_in out) (owned t account put_in out)
    (ap (λ n. (n, amount_after s account put_in out)) (gain_alike h account)
    ∙ ap (λ n. (gain_of t account, n)) (amount_alike h account put_in out)) h
    (own-image s h.left account put_in out) (own-image t h.right account put_in out) refl refl
    (formed-owned s account put_in out ws h.left) (formed-owned t account put_in out wt h.right)

pub offset_alike : {s t : State} → Alike s t → (debt coll : ℕ) → debt ≤ pool_total s → debt ≤ pool_total t
    → Alike (offset s debt coll) (offset t debt coll)
offset_alike {s} {t} h debt coll ws wt =
    alike_by (λ i. offset_by i debt coll) s t (offset s debt coll) (offset t debt coll) h
    (offset-image s h.left debt coll) (offset-image t h.right debt coll) refl refl
    (formed-offset s debt coll ws h.left) (formed-offset t debt coll wt h.right)
