-- What a redemption makes of a protocol.
use Rattle.std.proofs.Common.{◌≡◌, ℕ, ◌+◌, ◌-◌, ◌≤◌, ◌<◌, Bool, true, false, cond, List, [], ◌∷◌, refl, ap, sym, ◌∙◌, subst, arith, Some, None, Option}
use Rattle.std.specs.Prelude.{fold, sum_by, IsSome, Ok}
use Rattle.std.specs.BTreeMap.{is_at}
use Rattle.std.specs.Map.{values_of}
use Rattle.std.specs.Ordering.{nat_cmp}
use Rattle.std.proofs.lemmas.List.Sums.{sum_by-cons}
use Rattle.std.proofs.lemmas.Map.Entries.{sum_by-remove_entry}
use Rattle.liq_types.specs.declared.amounts.TheConstants.{ACCOUNTS, LIM, RESERVE}
use Rattle.liq_types.specs.declared.figures.Trove.{Trove}
use Rattle.liq_types.specs.declared.figures.Wallet.{Wallet}
use Rattle.liq_types.specs.declared.hints.HintWords.{HintWords}
use Rattle.liq_types.specs.declared.requests.Call.TheVariants.{Redeem}
use Rattle.liq_types.specs.declared.image.Image.{Image}
use Rattle.liq_types.specs.Ranked.{Ranked, with_ranked, without_ranked, key_in}
use Rattle.liq_types.specs.declared.replies.Refusal.{Refusal}
use Rattle.liq_types.specs.Payments.{surplus_added}
use Rattle.liq_types.specs.Rules.{first_refusal, outcome}
use Rattle.liq_types.specs.State.{State, TroveEntry, wallet_of, wallet_in}
use Rattle.liq_types.specs.Tables.{Table, at, without}
use Rattle.liq_types.specs.Totals.{market_of}
use Rattle.liq_types.specs.WellFormed.{Ascends}
use Rattle.liq_types.proofs.Ascending.{put-ascends, without-ascends}
use Rattle.liq_types.proofs.Lookups.{at-without_same}
use Rattle.liq_tables.specs.WithRoom.{WithRoom}
use Rattle.liq_ledger.specs.declared.pools.Pools.{Pools}
use Rattle.liq_troves.specs.declared.sums.Sums.{Sums}
use Rattle.liq_troves.specs.Kept.{Kept}
use Rattle.liq_troves.specs.Own.{lifted_entry, placed}
use Rattle.liq_troves.specs.Rows.{pending, entire_in, set_row, key_by}
use Rattle.liq_troves.specs.Standing.{Books, lifted_row, lift}
use Rattle.liq_troves.specs.StakeSums.{entire_of}
use Rattle.liq_troves.proofs.Standing.{pending_covered}
use Rattle.liq_order.specs.Listed.{Listed, AreDistinct}
use Rattle.liq_order.specs.Order.{order_by}
use Rattle.liq_redemption.specs.declared.cut.Cut.{Cut}
use Rattle.liq_redemption.specs.Given as given
use Rattle.liq_redemption.specs.Parts.{Parts, parts_of, parts_with, books_in, lifted_parts, placed_parts, closed_parts, cut_own, cut_parts, redeemed_parts, redeemed_wallets}
use Rattle.liq_redemption.specs.Redemption.{RedeemTerms, Visit, visited, visited_by, redeeming_terms, redeem_plan, cut_entire, cut_down, redeemed_by}
use Rattle.liq_redemption.proofs.Following.{redeemed_follows, redeemed_pays}
use Rattle.liq_order.proofs.Present.{order_has_each}
use Rattle.liq_core.proofs.Images.{pools_by, with_pools, with_sums}
use Rattle.liq_rule_step.proofs.AlikeReads.{sums_by}
use Rattle.liq_order.proofs.Ranking.{order_distinct}
use Rattle.liq_core.specs.declared.engine.Protocol.TheInside.{Inside}
use Rattle.liq_trove_moves.specs.Books.{books_kept}
use Rattle.liq_core.specs.Core.{Core, Changes, state_of}
use Rattle.liq_rule_step.specs.Image.{image}
use Rattle.liq_rule_step.specs.Rules.{rules}
use Rattle.liq_core.specs.Sound.{IsSound, core_of}
use Rattle.liq_core.proofs.Lending.{books_stand, coll_held, debt_held}
use Rattle.liq_rule_step.proofs.Moving.{read_or}
use Rattle.liq_rule_sound.proofs.SoundBounds.{surplus_covered}
use Rattle.liq_core.proofs.SoundCores.{core_finds, image_back, sound_after}
use Rattle.liq_rule_sound.proofs.SoundRedeem.{redeem_leaves}
use Rattle.liq_rule_sound.proofs.SoundStart.{started_with}
use Rattle.liq_order.proofs.Ranking.{left_order, more_list}
use Rattle.liq_types.proofs.SameRows.{without-absent}

-- ---- images by their parts

abbrev with_all : Image → Parts → Image
with_all i p = record (with_pools (with_sums i p.sums) p.pools) { troves = p.troves; surplus_rows = p.surplus }

-- a trove that has left is closed
abbrev closed_left : State → ℕ → ℕ → State
closed_left left account coll = surplus_added (record left { reserve = left.reserve - RESERVE }) account coll

-- a cut touches the parts alone
cut_image_entire : (s : State) (cut : Cut) (order : List Ranked) (o : Option (ℕ × ℕ)) → image (cut_entire s cut o)
    ≡ with_all (image s) (parts_with (cut_entire s cut o) order)
cut_image_entire s cut order None = refl
cut_image_entire s cut order (Some own) = by cut.full (at s.troves cut.account) where
  by : (b : Bool) (t : Option TroveEntry)
      → image (cond b (closed_left (lifted_entry s cut.account t) cut.account (own.0 - cut.draw))
      (placed (lifted_entry s cut.account t) cut.account (own.0 - cut.draw) (own.1 - cut.lot)))
      ≡ with_all (image s) (parts_with (cond b (closed_left (lifted_entry s cut.account t) cut.account
      (own.0 - cut.draw)) (placed (lifted_entry s cut.account t) cut.account (own.0 - cut.draw)
      (own.1 - cut.lot))) order)
  by true None = refl
  by true (Some t) = refl
  by false None = refl
  by false (Some t) = refl

cuts_image : (cuts : List Cut) (s : State) (order : List Ranked) → image (fold cut_down s cuts)
    ≡ with_all (image s) (parts_with (fold cut_down s cuts) order)
cuts_image [] s order = refl
cuts_image (cut ∷ cuts) s order =
    let next = cut_down s cut in
    cuts_image cuts next order
    ∙ ap (λ (i : Image). with_all i (parts_with (fold cut_down next cuts) order)) (cut_image_entire s cut order
    (entire_of s cut.account))

redeemed_image : (s : State) (account : ℕ) (terms : RedeemTerms) (order : List Ranked)
    → image (redeemed_by s account terms) ≡ with_all (record (image s) {
      base = terms.rate.base;
      fee_minute = terms.rate.minute;
      wallets = (redeemed_by s account terms).wallets;
    })
    (parts_with (redeemed_by s account terms) order)
redeemed_image s account terms order =
    let paid = (redeemed_by s account terms).wallets in
    ap (λ (i : Image). record i {
      base = terms.rate.base;
      fee_minute = terms.rate.minute;
      fee_coll = s.fee_coll + terms.fee;
      wallets = paid;
    }) (cuts_image terms.cuts s order)

-- ---- the list

record IsListed (p : Parts) : Type 0 where
  ascend : Ascends p.troves
  listed : p.order ≡ order_by p.troves

lift_troves : (b : Books) (account : ℕ) → Ascends b.troves → (lift b account).troves ≡ without b.troves account
lift_troves b account a = by (at b.troves account) refl where
  by : (o : Option Trove) → at b.troves account ≡ o → (lifted_row b account o).troves ≡ without b.troves account
  by None is = sym (without-absent b.troves account a is)
  by (Some t) is = refl

module _ (p : Parts) (h : IsListed p) (account : ℕ) where
  left_troves : (lifted_parts p account).troves ≡ without p.troves account
  left_troves = lift_troves (books_in p) account h.ascend

  left_listed : IsListed (lifted_parts p account)
  left_listed =
      record {
        ascend = subst (λ (t : Table Trove). Ascends t) (sym left_troves) (without-ascends p.troves account h.ascend);
        listed =
            ap (λ (l : List Ranked). without_ranked l account) h.listed
            ∙ sym (left_order p.troves account h.ascend)
            ∙ ap (λ (t : Table Trove). order_by t) (sym left_troves);
      }

  left_none : at (lifted_parts p account).troves account ≡ None
  left_none = ap (λ (t : Table Trove). at t account) left_troves ∙ at-without_same p.troves account h.ascend

cut_listed : (p : Parts) (cut : Cut) → IsListed p → (o : Option (ℕ × ℕ)) → IsListed (cut_own p cut o)
cut_listed p cut h None = h
cut_listed p cut h (Some own) = by cut.full where
  by : (b : Bool) → IsListed (cond b (closed_parts (lifted_parts p cut.account) cut.account (own.0 - cut.draw))
      (placed_parts (lifted_parts p cut.account) cut.account (own.0 - cut.draw) (own.1 - cut.lot)))
  by true = let l = left_listed p h cut.account in record { ascend = l.ascend; listed = l.listed }
  by false =
      let l = left_listed p h cut.account in
      let left = lifted_parts p cut.account in
      let row = set_row left.sums (own.0 - cut.draw) (own.1 - cut.lot) in
      record {
        ascend = put-ascends left.troves cut.account row l.ascend;
        listed = ap (λ (list : List Ranked). with_ranked list (key_by row, cut.account)) l.listed
            ∙ sym (more_list left.troves cut.account row (left_none p h cut.account));
      }

cuts_listed : (cuts : List Cut) (p : Parts) → IsListed p → IsListed (fold cut_parts p cuts)
cuts_listed [] p h = h
cuts_listed (cut ∷ cuts) p h =
    cuts_listed cuts (cut_parts p cut) (cut_listed p cut h (entire_in p.sums p.troves cut.account))

-- ---- what a redemption asks of a protocol

entire_all : (sums : Sums) (table : Table Trove) (a b c d : ℕ) → sum_by (λ (t : Trove). t.coll) (values_of table) ≤ a
    → sum_by (λ (t : Trove). pending t.stake sums.coll t.mark_coll) (values_of table) ≤ b
    → sum_by (λ (t : Trove). t.debt) (values_of table) ≤ c
    → sum_by (λ (t : Trove). pending t.stake sums.debt t.mark_debt) (values_of table) ≤ d → a + b ≤ LIM → c + d ≤ LIM
    → given.AreEntireWithin sums table
entire_all sums [] a b c d coll due debt owed coll_fits debt_fits = tt
entire_all sums (row ∷ rows) a b c d coll due debt owed coll_fits debt_fits =
    let e1 = sum_by-cons (λ (t : Trove). t.coll) row.1 (values_of rows) in
    let e2 = sum_by-cons (λ (t : Trove). pending t.stake sums.coll t.mark_coll) row.1 (values_of rows) in
    let e3 = sum_by-cons (λ (t : Trove). t.debt) row.1 (values_of rows) in
    let e4 = sum_by-cons (λ (t : Trove). pending t.stake sums.debt t.mark_debt) row.1 (values_of rows) in (
      record {
        coll = omega (arith, e1, e2, coll, due, coll_fits);
        debt = omega (
          arith,
          e3,
          e4,
          debt,
          owed,
          debt_fits,
        );
      },
      entire_all sums rows a b c d (omega (arith, e1, coll)) (omega (arith, e2, due)) (omega (arith, e3, debt))
          (omega (arith, e4, owed)) coll_fits debt_fits,
    )

abbrev parts_by : Image → List Ranked → Parts
parts_by i order = record {
  sums = sums_by i;
  troves = i.troves;
  pools = pools_by i;
  surplus = i.surplus_rows;
  order = order;
}

module _ (p : Inside) (sound : IsSound p) where
  parts_are : parts_with (state_of (core_of p)) p.order.entries ≡ parts_of p.pools p.surplus p.troves p.order
  parts_are = ap (λ (i : Image). parts_by i p.order.entries) (image_back (core_of p) sound.image)

  pub entire_within_all : given.AreEntireWithin p.troves.sums p.troves.table.rows
  entire_within_all =
      let b = books_kept p.troves p.pools in
      let stand = books_stand p sound in
      let dues = pending_covered b stand in
      let colls = stand.active_coll in
      let debts = stand.active_debt in
      entire_all p.troves.sums p.troves.table.rows p.pools.active_coll p.pools.default_coll p.pools.active_debt
      p.pools.default_debt (omega (arith, colls)) dues.0 (omega (arith, debts)) dues.1 (coll_held p sound)
      (debt_held p sound)

  pub once_each : AreDistinct p.order.entries
  once_each = subst AreDistinct (sym sound.order) (order_distinct p.troves.table.rows (books_stand p sound).ascend)

  pub visited_is : (order : List Ranked) → order ≡ p.order.entries → visited (state_of (core_of p))
      ≡ visited_by (state_of (core_of p)).price p.troves.sums p.troves.table.rows order
  visited_is order is =
      let price = (state_of (core_of p)).price in
      ap (λ (q : Parts). visited_by price q.sums q.troves (order_by q.troves)) parts_are
      ∙ ap (visited_by price p.troves.sums p.troves.table.rows) (sym sound.order ∙ sym is)

  pub redeem_market : (account : ℕ)
      → given.IsMarket (market_of (state_of (core_of p))) (wallet_of (state_of (core_of p)) account)
  redeem_market account =
      let f = core_finds (core_of p) sound.image in
      let r = f.ranges in
      let part = sum_by-remove_entry (λ (w : Wallet). w.lusd) (is_at (nat_cmp account)) p.wallets.rows in
      let had = read_or (λ (w : Wallet). w.lusd) refl (at p.wallets.rows account) in
      let homes = f.balanced.homes.lusd in
      record {
        price_least = r.price_least;
        price_most = r.price_most;
        base = r.base;
        past_fee = r.fee_minute;
        debt = f.balanced.debt_limit;
        supply = omega (arith, part, had, homes);
      }

  pub redeem_parts : (account : ℕ) → given.AreSoundParts (parts_of p.pools p.surplus p.troves p.order)
      (wallet_in p.wallets.rows account)
  redeem_parts account =
      let f = core_finds (core_of p) sound.image in
      let part = sum_by-remove_entry (λ (w : Wallet). w.coll) (is_at (nat_cmp account)) p.wallets.rows in
      let had = read_or (λ (w : Wallet). w.coll) refl (at p.wallets.rows account) in
      let homes = f.balanced.homes.coll in
      let limit = f.balanced.coll_limit in
      record {
        troves = books_stand p sound;
        listed = λ owner h. subst (λ (l : List Ranked). IsSome (key_in l owner)) (sym sound.order)
            (order_has_each p.troves.table.rows owner h);
        distinct = once_each;
        claims = surplus_covered (state_of (core_of p)) (started_with (core_of p).image (core_of p).records
            sound.image);
        coll = omega (arith, part, had, homes, limit);
        debt = debt_held p sound;
      }

  pub wallets_ascend : Ascends p.wallets.rows
  wallets_ascend = (core_finds (core_of p) sound.image).stands.wallets.ascend

-- ---- the redemption

module _ (p : Inside) (old : Core) (view : core_of p ≡ old) (sound : IsSound p) (account : ℕ) (plan : RedeemTerms)
    (k : account < ACCOUNTS)
    (h : (lusd : ℕ) × (bound : ℕ) × (words : HintWords)
    × (first_refusal (rules (state_of old) (Redeem account lusd bound words)) ≡ None)
    × (plan ≡ redeeming_terms (market_of (state_of old)) (visited (state_of old)) lusd)) where
  redeem_passes : first_refusal (rules (state_of (core_of p)) (Redeem account h.0 h.1 h.2)) ≡ None
  redeem_passes = subst (λ (core : Core). first_refusal (rules (state_of core) (Redeem account h.0 h.1 h.2))
      ≡ None) (sym view) h.3

  redeem_is : plan ≡ redeeming_terms (market_of (state_of (core_of p))) (visited (state_of (core_of p))) h.0
  redeem_is = subst (λ (core : Core). plan ≡ redeeming_terms (market_of (state_of core)) (visited (state_of core)) h.0)
      (sym view) h.4

  pub redeem_planned : given.IsPlannedOn (parts_of p.pools p.surplus p.troves p.order)
      (wallet_in p.wallets.rows account) plan
  redeem_planned =
      let s = state_of (core_of p) in
      let m = market_of s in
      let w = wallet_of s account in
      record {
        market = m;
        amount = h.0;
        bound = h.1;
        sound = redeem_market p sound account;
        planned =
            ap (λ (visits : List Visit). redeem_plan m w visits h.0 h.1) (sym (visited_is p sound p.order.entries refl))
            ∙ ap (λ (o : Option Refusal). outcome o (redeeming_terms m (visited s) h.0)) redeem_passes
            ∙ ap (λ (x : RedeemTerms). Ok x) (sym redeem_is);
      }

  module _ (wallets : WithRoom Wallet) (pools : Pools) (surplus : WithRoom ℕ) (troves : Kept) (order : Listed)
      (paid : wallets.rows ≡ redeemed_wallets p.wallets.rows account plan)
      (made : parts_of pools surplus troves order ≡ redeemed_parts (parts_of p.pools p.surplus p.troves p.order)
      plan) where
    -- the inside after it
    abbrev paid_out : Inside
    paid_out = record p {
      rate = plan.rate;
      wallets = wallets;
      pools = pools;
      surplus = surplus;
      troves = troves;
      order = order;
    }

    redeem_made : Changes (core_of p) (Redeem account h.0 h.1 h.2) (core_of paid_out)
    redeem_made =
        let s = state_of (core_of p) in
        let next = redeemed_by s account plan in
        let i = (core_of p).image in
        let start : Parts = parts_with s p.order.entries in
        let list = (redeemed_parts start plan).order in
        let parts_next : parts_of pools surplus troves order ≡ parts_with next list =
        made ∙ ap (λ (q : Parts). redeemed_parts q plan) (sym (parts_are p sound))
        ∙ redeemed_follows s p.order.entries account plan in
        let paid_next : wallets.rows ≡ next.wallets = paid ∙ sym (redeemed_pays s account plan) in
        record {
          image =
              ap (λ (q : Parts). with_all (record i {
                base = plan.rate.base;
                fee_minute = plan.rate.minute;
                wallets = wallets.rows;
              }) q) parts_next
              ∙ ap (λ (t : Table Wallet). with_all (record i {
                base = plan.rate.base;
                fee_minute = plan.rate.minute;
                wallets = t;
              }) (parts_with next list)) paid_next
              ∙ ap (λ (x : Image). with_all (record x {
                base = plan.rate.base;
                fee_minute = plan.rate.minute;
                wallets = next.wallets;
              }) (parts_with next list)) (sym (image_back (core_of p) sound.image))
              ∙ sym (redeemed_image s account plan list)
              ∙ ap (λ (x : RedeemTerms). image (redeemed_by s account x)) redeem_is;
          records = refl;
          clients = refl;
        }

    pub redeem_changes : (lusd bound : ℕ) (words : HintWords)
        → plan ≡ redeeming_terms (market_of (state_of old)) (visited (state_of old)) lusd
        → Changes old (Redeem account lusd bound words) (core_of paid_out)
    redeem_changes lusd bound words is =
        let now =
        subst (λ (core : Core). Changes core (Redeem account h.0 h.1 h.2) (core_of paid_out)) view redeem_made in
        record {
          image = now.image ∙ ap (λ (x : RedeemTerms). image (redeemed_by (state_of old) account x)) (sym h.4
              ∙ is);
          records = now.records;
          clients = now.clients;
        }

    -- the list is that of the troves
    redeem_listed : order.entries ≡ order_by troves.table.rows
    redeem_listed =
        let q = parts_of p.pools p.surplus p.troves p.order in
        let cut = cuts_listed plan.cuts q (record { ascend = (books_stand p sound).ascend; listed = sound.order }) in
        ap (λ (x : Parts). x.order) made ∙ cut.listed ∙ ap (λ (x : Parts). order_by x.troves) (sym made)

    pub redeem_sound : IsSound paid_out
    redeem_sound =
        sound_after p paid_out (core_of p) (Redeem account h.0 h.1 h.2) refl sound
        (redeem_leaves (state_of (core_of p)) (core_finds (core_of p) sound.image) account h.0 h.1 redeem_passes k)
        redeem_made redeem_listed
