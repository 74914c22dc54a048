-- What a redemption makes of a state's parts is what it makes of the state.
use Rattle.std.proofs.Common.{◌≡◌, ℕ, ◌+◌, ◌-◌, Bool, true, false, cond, List, [], ◌∷◌, fold, refl, sym, ap, ◌∙◌, Some, None, Option}
use Rattle.liq_types.specs.declared.figures.Wallet.{Wallet}
use Rattle.liq_types.specs.Ranked.{Ranked, with_ranked, without_ranked}
use Rattle.liq_types.specs.State.{State, TroveEntry}
use Rattle.liq_types.specs.Tables.{Table, at}
use Rattle.liq_troves.specs.Own.{lifted_entry, lifted, placed}
use Rattle.liq_troves.specs.Rows.{set_row, key_by}
use Rattle.liq_troves.specs.StakeSums.{sums_words, entire_of}
use Rattle.liq_troves.specs.Standing.{Books, books_of}
use Rattle.liq_troves.proofs.BooksOf.{lift_books, place_books}
use Rattle.liq_redemption.specs.declared.cut.Cut.{Cut}
use Rattle.liq_redemption.specs.Parts.{Parts, with_books, lifted_parts, placed_parts, closed_parts, cut_own, cut_parts, redeemed_parts, redeemed_wallets, parts_with}
use Rattle.liq_redemption.specs.Redemption.{RedeemTerms, closed_by, cut_entire, cut_down, redeemed_by}

-- ---- one cut

lifted_follows : (s : State) (order : List Ranked) (account : ℕ) → lifted_parts (parts_with s order) account
    ≡ parts_with (lifted s account) (without_ranked order account)
lifted_follows s order account =
    ap (λ (b : Books). record (with_books (parts_with s order) b) { order = without_ranked order account })
    (sym (lift_books s account))
    ∙ rest (at s.troves account)
  where
    rest : (o : Option TroveEntry)
        → record (with_books (parts_with s order) (books_of (lifted_entry s account o))) {
          order = without_ranked order
              account;
        } ≡ parts_with (lifted_entry s account o) (without_ranked order account)
    rest None = refl
    rest (Some t) = refl

placed_follows : (s : State) (order : List Ranked) (account coll debt : ℕ)
    → placed_parts (parts_with s order) account coll debt ≡ parts_with (placed s account coll debt)
    (with_ranked order (key_by (set_row (sums_words s) coll debt), account))
placed_follows s order account coll debt =
    ap (λ (b : Books). record (with_books (parts_with s order) b) {
      order = with_ranked order
          (key_by (set_row (sums_words s) coll debt), account);
    }) (sym (place_books s account coll debt))

-- the list that belongs to it
any_order : (p : Parts) (s : State) (order : List Ranked) → p ≡ parts_with s order → p ≡ parts_with s p.order
any_order p s order h = h ∙ ap (λ (l : List Ranked). parts_with s l) (sym (ap (λ (q : Parts). q.order) h))

-- of a trove that has these entire amounts, it is closed or left with less
module _ (s : State) (order : List Ranked) (cut : Cut) (own : ℕ × ℕ) where
  abbrev made : Bool → Parts
  made b = cond b (closed_parts (lifted_parts (parts_with s order) cut.account) cut.account (own.0 - cut.draw))
      (placed_parts (lifted_parts (parts_with s order) cut.account) cut.account (own.0 - cut.draw) (own.1 - cut.lot))

  abbrev state_made : Bool → State
  state_made b = cond b (closed_by s cut own) (placed (lifted s cut.account) cut.account (own.0 - cut.draw)
      (own.1 - cut.lot))

  own_follows : (b : Bool) → made b ≡ parts_with (state_made b) (made b).order
  own_follows true =
      any_order (made true) (state_made true) (without_ranked order cut.account)
      (ap (λ (p : Parts). closed_parts p cut.account (own.0 - cut.draw)) (lifted_follows s order cut.account))
  own_follows false =
      any_order (made false) (state_made false) (with_ranked (without_ranked order cut.account)
      (key_by (set_row (sums_words (lifted s cut.account)) (own.0 - cut.draw) (own.1 - cut.lot)), cut.account))
      (
      ap (λ (p : Parts). placed_parts p cut.account (own.0 - cut.draw) (own.1 - cut.lot))
      (lifted_follows s order cut.account)
      ∙ placed_follows (lifted s cut.account) (without_ranked order cut.account) cut.account (own.0 - cut.draw)
      (own.1 - cut.lot)
      )

pub cut_follows : (s : State) (order : List Ranked) (cut : Cut) → cut_parts (parts_with s order) cut
    ≡ parts_with (cut_down s cut) (cut_parts (parts_with s order) cut).order
cut_follows s order cut = by (entire_of s cut.account) where
  by : (o : Option (ℕ × ℕ)) → cut_own (parts_with s order) cut o ≡ parts_with (cut_entire s cut o)
      (cut_own (parts_with s order) cut o).order
  by None = refl
  by (Some own) = own_follows s order cut own cut.full

-- ---- all cuts

cuts_follow : (cuts : List Cut) (s : State) (order : List Ranked) → fold cut_parts (parts_with s order) cuts
    ≡ parts_with (fold cut_down s cuts) (fold cut_parts (parts_with s order) cuts).order
cuts_follow [] s order = refl
cuts_follow (cut ∷ cuts) s order =
    let one = cut_follows s order cut in
    let next = (cut_parts (parts_with s order) cut).order in
    any_order (fold cut_parts (parts_with s order) (cut ∷ cuts)) (fold cut_down s (cut ∷ cuts)) _
    (ap (λ (p : Parts). fold cut_parts p cuts) one ∙ cuts_follow cuts (cut_down s cut) next)

-- ---- what a cut leaves of a state

pub record Leaves (s t : State) : Type 0 where
  pub fees : t.fee_coll ≡ s.fee_coll
  pub wallets : t.wallets ≡ s.wallets

lifted_leaves : (s : State) (account : ℕ) → Leaves s (lifted s account)
lifted_leaves s account = by (at s.troves account) where
  by : (o : Option TroveEntry) → Leaves s (lifted_entry s account o)
  by None = record { fees = refl; wallets = refl }
  by (Some t) = record { fees = refl; wallets = refl }

cut_leaves : (s : State) (cut : Cut) → Leaves s (cut_down s cut)
cut_leaves s cut = by (entire_of s cut.account) where
  own_leaves : (own : ℕ × ℕ) (b : Bool)
      → Leaves s (cond b (closed_by s cut own) (placed (lifted s cut.account) cut.account (own.0 - cut.draw)
      (own.1 - cut.lot)))
  own_leaves own true = let l = lifted_leaves s cut.account in record { fees = l.fees; wallets = l.wallets }
  own_leaves own false = let l = lifted_leaves s cut.account in record { fees = l.fees; wallets = l.wallets }

  by : (o : Option (ℕ × ℕ)) → Leaves s (cut_entire s cut o)
  by None = record { fees = refl; wallets = refl }
  by (Some own) = own_leaves own cut.full

cuts_leave : (cuts : List Cut) (s : State) → Leaves s (fold cut_down s cuts)
cuts_leave [] s = record { fees = refl; wallets = refl }
cuts_leave (cut ∷ cuts) s =
    let one = cut_leaves s cut in
    let more = cuts_leave cuts (cut_down s cut) in
    record { fees = more.fees ∙ one.fees; wallets = more.wallets ∙ one.wallets }

-- ---- a whole redemption

pub redeemed_follows : (s : State) (order : List Ranked) (account : ℕ) (terms : RedeemTerms)
    → redeemed_parts (parts_with s order) terms ≡ parts_with (redeemed_by s account terms)
    (redeemed_parts (parts_with s order) terms).order
redeemed_follows s order account terms =
    let all = cuts_follow terms.cuts s order in
    let t = fold cut_down s terms.cuts in
    let p = fold cut_parts (parts_with s order) terms.cuts in
    any_order (redeemed_parts (parts_with s order) terms) (redeemed_by s account terms) p.order
    (
    ap (λ (q : Parts). record q { pools = record q.pools { fee_coll = q.pools.fee_coll + terms.fee } }) all
    ∙ ap (λ fees. record (parts_with t p.order) {
      pools = record (parts_with t p.order).pools {
        fee_coll = fees
            + terms.fee;
      };
    }) (cuts_leave terms.cuts s).fees
    )

pub redeemed_pays : (s : State) (account : ℕ) (terms : RedeemTerms) → (redeemed_by s account terms).wallets
    ≡ redeemed_wallets s.wallets account terms
redeemed_pays s account terms = ap (λ (t : Table Wallet). redeemed_wallets t account terms)
    (cuts_leave terms.cuts s).wallets
