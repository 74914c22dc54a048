-- What is promised of every state that is reached, of every well-formed state with the same image.
use Rattle.std.proofs.Common.{◌≡◌, ℕ, ◌+◌, ◌*◌, List, [], ◌∷◌, refl, ap, sym, ◌∙◌, subst, Some, None, Option}
use Rattle.std.specs.Prelude.{pos, ◌-ℤ◌, ◌≤ℤ◌, map, sum, sum_by, option_map}
use Rattle.std.specs.Map.{keys_of, values_of}
use Rattle.liq_types.specs.declared.amounts.TheConstants.{ACCOUNTS}
use Rattle.liq_types.specs.declared.figures.Deposit.{Deposit}
use Rattle.liq_types.specs.declared.figures.Trove.{Trove}
use Rattle.liq_types.specs.declared.requests.Request.{Request}
use Rattle.liq_types.specs.declared.image.Image.{Image}
use Rattle.liq_types.specs.PlainLedger.{den_of, gains_paid_to, over_accounts}
use Rattle.liq_types.specs.Product.{start_sum}
use Rattle.liq_types.specs.Image.{IsLimit}
use Rattle.liq_types.specs.State.{State, DepositEntry, opening_with}
use Rattle.liq_types.specs.Tables.{Table, at, map_rows}
use Rattle.liq_types.specs.Totals.{pool_total, pool_coll}
use Rattle.liq_types.specs.WellFormed.{IsWellFormed}
use Rattle.liq_types.proofs.MapRows.{at-map, map-sum}
use Rattle.liq_types.proofs.Places.{sum_shown}
use Rattle.liq_troves.specs.StakeSums.{trove_row, pending, pending_coll, pending_debt}
use Rattle.liq_stability.specs.Position.{balance_of, gain_of, balance_by, gain_by, mark_in, mark_of, sums_from, words_of, deposit_row}
use Rattle.liq_rule_step.specs.Dust.{IsCovered, dust}
use Rattle.liq_rule_step.specs.Events.{events}
use Rattle.liq_rule_step.specs.Image.{image}
use Rattle.liq_rule_step.specs.Step.{accepted, run}
use Rattle.liq_rule_step.proofs.Alike.{balance_row, gain_row, balance-image, gain-image}
use Rattle.liq_rule_sound.specs.Exact.{IsExactPool, IsUncapped}
use Rattle.liq_rule_sound.proofs.SoundPromises.{reached_exact, reached_covered}
use Rattle.liq_rule_sound.proofs.SoundStart.{opening_sound}
use Rattle.liq_rule_sound.proofs.SoundStep.{run_sound}

-- ---- what is read of states with the same image

module _ (s t : State) (is : image s ≡ image t) where
  balance_same : (account : ℕ) → balance_of s account ≡ balance_of t account
  balance_same account =
      balance-image s account ∙ ap (λ (i : Image). balance_row i (at i.deposits account)) is
      ∙ sym (balance-image t account)

  module _ (f : IsWellFormed s) (g : IsWellFormed t) where
    gain_same : (account : ℕ) → gain_of s account ≡ gain_of t account
    gain_same account =
        gain-image s f account ∙ ap (λ (i : Image). gain_row i (at i.deposits account)) is
        ∙ sym (gain-image t g account)

-- ---- the caps on a position

left_by : Image → Deposit → ℕ
left_by i d = balance_by d.amount (mark_in d) (record { p = i.p; scale = i.scale; epoch = i.epoch })

gained_by : Image → Deposit → ℕ
gained_by i d = gain_by d.amount (mark_in d) (λ k. start_sum i (d.epoch, d.scale + k))

left_shown : (s : State) (d : DepositEntry) → balance_by d.amount (mark_of s d.mark) (words_of s)
    ≡ left_by (image s) (deposit_row s d)
unfolding left_by
left_shown s d = refl

gained_shown : (s : State) → IsWellFormed s → (d : DepositEntry)
    → gain_by d.amount (mark_of s d.mark) (sums_from s (mark_of s d.mark)) ≡ gained_by (image s) (deposit_row s d)
unfolding gained_by
gained_shown s h d =
    let mark = mark_of s d.mark in
    let shown : sums_from s mark ≡ (λ k. start_sum (image s) (mark.epoch, mark.scale + k)) =
    λ i k. sym (sum_shown s.start s.offsets h.0 (mark.epoch, mark.scale + k)) i in
    ap (λ (sums : ℕ → ℕ). gain_by d.amount mark sums) shown

module _ (s t : State) (is : image s ≡ image t) (f : IsWellFormed s) (g : IsWellFormed t) (account : ℕ)
    (d : DepositEntry) where
  uncapped_by : (e : DepositEntry) → deposit_row s d ≡ deposit_row t e → IsUncapped t account e → IsUncapped s account d
  uncapped_by e same h = (
    balance_same s t is account ∙ h.0 ∙ left_shown t e ∙ ap (λ (i : Image). left_by i (deposit_row t e)) (sym is)
        ∙ ap (left_by (image s)) (sym same) ∙ sym (left_shown s d),
    gain_same s t is f g account ∙ h.1 ∙ gained_shown t g e ∙ ap (λ (i : Image). gained_by i (deposit_row t e)) (sym is)
        ∙ ap (gained_by (image s)) (sym same) ∙ sym (gained_shown s f d),
  )

  uncapped_same : ((e : DepositEntry) → at t.deposits account ≡ Some e → IsUncapped t account e)
      → at s.deposits account ≡ Some d → IsUncapped s account d
  uncapped_same h there = by (at t.deposits account) refl row where
    row : option_map (deposit_row t) (at t.deposits account) ≡ Some (deposit_row s d)
    row =
        sym (at-map (deposit_row t) t.deposits account) ∙ ap (λ (i : Image). at i.deposits account) (sym is)
        ∙ at-map (deposit_row s) s.deposits account
        ∙ ap (option_map (deposit_row s)) there

    by : (o : Option DepositEntry) → at t.deposits account ≡ o → option_map (deposit_row t) o ≡ Some (deposit_row s d)
        → IsUncapped s account d
    by None e k = cc
    by (Some entry) e k = uncapped_by entry (cc k) (h entry e)

-- ---- dust

keys_shown : {X Y : Type 0} → (f : X → Y) → (table : Table X) → keys_of table ≡ keys_of (map_rows f table)
keys_shown f [] = refl
keys_shown f (e ∷ es) = ap (λ (keys : List ℕ). e.0 ∷ keys) (keys_shown f es)

module _ (s t : State) (is : image s ≡ image t) where
  owed_same : (read read' : ℕ → ℕ) → ((account : ℕ) → read account ≡ read' account)
      → sum (map read (keys_of s.deposits)) ≡ sum (map read' (keys_of t.deposits))
  owed_same read read' same =
      ap (λ (f : ℕ → ℕ). sum (map f (keys_of s.deposits))) (λ i account. same account i)
      ∙ ap (λ (keys : List ℕ). sum (map read' keys)) (keys_shown (deposit_row s) s.deposits
      ∙ ap (λ (i : Image). keys_of i.deposits) is ∙ sym (keys_shown (deposit_row t) t.deposits))

  pending_coll_same : sum_by (pending_coll s) (values_of s.troves) ≡ sum_by (pending_coll t) (values_of t.troves)
  pending_coll_same =
      sym (map-sum (trove_row s) (λ (r : Trove). pending r.stake (image s).sum_coll r.mark_coll) s.troves)
      ∙ ap (λ (i : Image). sum_by (λ (r : Trove). pending r.stake i.sum_coll r.mark_coll) (values_of i.troves)) is
      ∙ map-sum (trove_row t) (λ (r : Trove). pending r.stake (image t).sum_coll r.mark_coll) t.troves

  pending_debt_same : sum_by (pending_debt s) (values_of s.troves) ≡ sum_by (pending_debt t) (values_of t.troves)
  pending_debt_same =
      sym (map-sum (trove_row s) (λ (r : Trove). pending r.stake (image s).sum_debt r.mark_debt) s.troves)
      ∙ ap (λ (i : Image). sum_by (λ (r : Trove). pending r.stake i.sum_debt r.mark_debt) (values_of i.troves)) is
      ∙ map-sum (trove_row t) (λ (r : Trove). pending r.stake (image t).sum_debt r.mark_debt) t.troves

left_over_same : (a b a' b' : ℕ) → a ≡ a' → b ≡ b' → pos 0 ≤ℤ (pos a' -ℤ pos b') → pos 0 ≤ℤ (pos a -ℤ pos b)
left_over_same a b a' b' e k h = subst (λ n. pos 0 ≤ℤ (pos a -ℤ pos n)) (sym k) (subst (λ n. pos 0 ≤ℤ (pos n -ℤ pos b'))
    (sym e) h)

covered_same : (s t : State) → image s ≡ image t → IsWellFormed s → IsWellFormed t → IsCovered (dust t)
    → IsCovered (dust s)
covered_same s t is f g h =
    record {
      pool_total = left_over_same (pool_total s) _ (pool_total t) _ (ap (λ (i : Image). i.total) is)
          (owed_same s t is (balance_of s) (balance_of t) (balance_same s t is)) h.pool_total;
      pool_coll = left_over_same (pool_coll s) _ (pool_coll t) _ (ap (λ (i : Image). i.pool_coll) is)
          (owed_same s t is (gain_of s) (gain_of t) (gain_same s t is f g)) h.pool_coll;
      default_coll = left_over_same s.default_coll _ t.default_coll _ (ap (λ (i : Image). i.default_coll) is)
          (pending_coll_same s t is) h.default_coll;
      default_debt = left_over_same s.default_debt _ t.default_debt _ (ap (λ (i : Image). i.default_debt) is)
          (pending_debt_same s t is) h.default_debt;
    }

-- ---- of a reached state

module _ (limit : ℕ) (known : IsLimit limit) (requests : List Request) (s : State) (f : IsWellFormed s) (is : image s
    ≡ image (run (opening_with limit) requests).0) where
  reached_formed : IsWellFormed (run (opening_with limit) requests).0
  reached_formed = (run_sound requests (opening_with limit) (opening_sound limit known)).formed

  pub same_exact : IsExactPool s (events (opening_with limit) (accepted (opening_with limit) requests))
  same_exact =
      let told = events (opening_with limit) (accepted (opening_with limit) requests) in
      let reached = reached_exact limit known requests in
      record {
        balances = reached.balances ∙ ap (λ (i : Image). i.total * den_of told) (sym is);
        gains = reached.gains;
        paid = ap (λ (i : Image). i.pool_coll + over_accounts ACCOUNTS (λ account. gains_paid_to account told)) is
            ∙ reached.paid;
        caps = λ account d there. uncapped_same s (run (opening_with limit) requests).0 is f reached_formed account d
            (reached.caps account) there;
      }

  pub same_covered : IsCovered (dust s)
  same_covered = covered_same s (run (opening_with limit) requests).0 is f reached_formed
      (reached_covered limit known requests)
