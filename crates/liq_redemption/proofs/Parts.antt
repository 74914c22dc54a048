-- The parts of a state, and what a single cut makes of them.
use Rattle.std.proofs.Common.{◌≡◌, ℕ, ◌-◌, true, false, cond, List, sym, ap, ◌∙◌, Some, None, Option, refl}
use Rattle.liq_types.specs.declared.figures.Trove.{Trove}
use Rattle.liq_types.specs.Ranked.{Ranked, with_ranked, without_ranked}
use Rattle.liq_types.specs.Tables.{Table, at}
use Rattle.liq_ledger.specs.declared.pools.Pools.{Pools}
use Rattle.liq_troves.specs.declared.sums.Sums.{Sums}
use Rattle.liq_troves.specs.Rows.{entire_in, entire_by, key_by, set_row}
use Rattle.liq_troves.specs.Standing.{Books, lift, place}
use Rattle.liq_redemption.specs.declared.cut.Cut.{Cut}
use Rattle.liq_redemption.specs.Parts.{Parts, parts_of, lifted_parts, placed_parts, closed_parts, cut_own, cut_parts}
use Rattle.std.specs.Prelude.{option_map, IsSome}
use Rattle.liq_tables.specs.WithRoom.{WithRoom}
use Rattle.liq_troves.specs.Kept.{Kept}
use Rattle.liq_order.specs.Listed.{Listed}
use Rattle.liq_trove_moves.specs.Books.{books_kept, pools_with}

-- parts are the same where each of them is
pub same_parts : (p q : Parts) → p.sums ≡ q.sums → p.troves ≡ q.troves → p.pools ≡ q.pools → p.surplus ≡ q.surplus
    → p.order ≡ q.order → p ≡ q
same_parts p q sums troves pools surplus order =
    ap (λ (x : Sums). record p { sums = x }) sums
    ∙ ap (λ (x : Table Trove). record p { sums = q.sums; troves = x }) troves
    ∙ ap (λ (x : Pools). record p { sums = q.sums; troves = q.troves; pools = x }) pools
    ∙ ap (λ (x : Table ℕ). record p { sums = q.sums; troves = q.troves; pools = q.pools; surplus = x }) surplus
    ∙ ap (λ (x : List Ranked). record q { order = x }) order

-- ---- a cut is one of two

pub cut_closed : (p : Parts) (cut : Cut) (own : ℕ × ℕ) → Some own ≡ entire_in p.sums p.troves cut.account
    → cut.full ≡ true → cut_parts p cut ≡ closed_parts (lifted_parts p cut.account) cut.account (own.0 - cut.draw)
cut_closed p cut own is full =
    ap (λ (o : Option (ℕ × ℕ)). cut_own p cut o) (sym is)
    ∙ ap (λ b. cond b (closed_parts (lifted_parts p cut.account) cut.account (own.0 - cut.draw))
    (placed_parts (lifted_parts p cut.account) cut.account (own.0 - cut.draw) (own.1 - cut.lot))) full

pub cut_placed : (p : Parts) (cut : Cut) (own : ℕ × ℕ) → Some own ≡ entire_in p.sums p.troves cut.account
    → cut.full ≡ false → cut_parts p cut ≡ placed_parts (lifted_parts p cut.account) cut.account (own.0 - cut.draw)
    (own.1 - cut.lot)
cut_placed p cut own is full =
    ap (λ (o : Option (ℕ × ℕ)). cut_own p cut o) (sym is)
    ∙ ap (λ b. cond b (closed_parts (lifted_parts p cut.account) cut.account (own.0 - cut.draw))
    (placed_parts (lifted_parts p cut.account) cut.account (own.0 - cut.draw) (own.1 - cut.lot))) full

-- ---- a trove leaves, or comes

module _ (old new : Pools) (before after : Kept) (list next : Listed) (surplus : WithRoom ℕ) (account : ℕ) where
  pub lifted_is : books_kept after new ≡ lift (books_kept before old) account
      → new ≡ pools_with old (books_kept after new) → next.entries ≡ without_ranked list.entries account
      → parts_of new surplus after next ≡ lifted_parts (parts_of old surplus before list) account
  lifted_is books rest order =
      same_parts (parts_of new surplus after next) (lifted_parts (parts_of old surplus before list) account)
      (ap (λ (b : Books). b.sums) books) (ap (λ (b : Books). b.troves) books) (rest
      ∙ ap (λ (b : Books). pools_with old b) books) refl order

  pub placed_is : (coll debt : ℕ) → books_kept after new ≡ place (books_kept before old) account coll debt
      → new ≡ pools_with old (books_kept after new)
      → next.entries ≡ with_ranked list.entries (key_by (set_row before.sums coll debt), account)
      → parts_of new surplus after next ≡ placed_parts (parts_of old surplus before list) account coll debt
  placed_is coll debt books rest order =
      same_parts (parts_of new surplus after next) (placed_parts (parts_of old surplus before list) account coll debt)
      (ap (λ (b : Books). b.sums) books) (ap (λ (b : Books). b.troves) books) (rest
      ∙ ap (λ (b : Books). pools_with old b) books) refl order

-- an account that has entire amounts has a trove
pub trove_there : (p : Parts) (account : ℕ) (own : ℕ × ℕ) → entire_in p.sums p.troves account ≡ Some own
    → IsSome (at p.troves account)
trove_there p account own h = by (at p.troves account) h where
  by : (o : Option Trove) → option_map (entire_by p.sums) o ≡ Some own → IsSome o
  by None e = cc
  by (Some t) e = refl
