use Rattle.std.proofs.Common.{◌≡◌, Some, None, Option, refl, sym, subst}
use Rattle.std.specs.List.{Contains}
use Rattle.std.specs.Prelude.{ℕ, List, IsSome}
use Rattle.liq_types.proofs.Ascending.{without-ascends}
use Rattle.liq_types.specs.Tables.{Table, at}
use Rattle.liq_types.specs.WellFormed.{Ascends}
use Rattle.liq_list_keys.specs.declared.short_key.ShortKey.{ShortKey}
use Rattle.liq_list_keys.specs.declared.key_index.AccountKey.{AccountKey}
use Rattle.liq_list_keys.specs.Parts.{Parts, account_key}
use Rattle.liq_list_keys.specs.AccountKey.{settled_at, moved}
use Rattle.liq_list_keys.proofs.Moving.{IsWritten, as_before, as_taken, moves, parted}
use Rattle.liq_list_keys.proofs.key_index.KeyIndex.leave.Goals as goal

taken : (c : goal.After-take) → IsWritten c.args.account None c.self.inside.kept.rows c.take.new.self.rows
taken c = as_taken c.args.account c.self.inside.kept.rows c.take.new.self.rows c.self.invariant.ascend
    c.take.ensures.rows

-- a kept account is not apart
not_apart : (c : goal.After-take) → IsSome (at c.self.inside.apart.entries c.args.account) → ⊥
not_apart c h =
    let was : IsSome (at c.self.inside.kept.rows c.args.account) =
    subst (λ (p : Parts). IsSome (at p.kept c.args.account)) (sym c.self.view_is) c.requires in
    let clash : IsSome {T = ShortKey} None = subst (λ (o : Option ShortKey). IsSome o) (c.self.invariant.once
    c.args.account h)
    was in cc

none_apart : (c : goal.After-take) → at c.self.inside.apart.entries c.args.account ≡ None
none_apart c = by (at c.self.inside.apart.entries c.args.account) (not_apart c) where
  by : (o : Option AccountKey) → (IsSome o → ⊥) → o ≡ None
  by None h = refl
  by (Some s) h = absurd (h refl)

pub invariant_of-self : goal.invariant_of-self
invariant_of-self c =
    let apart = c.self.inside.apart.entries in
    parted c.args.account None None c.self.inside.kept c.take.new.self apart apart c.self.invariant
    (subst (λ (t : Table ShortKey). Ascends t) (sym c.take.ensures.rows) (without-ascends c.self.inside.kept.rows
    c.args.account c.self.invariant.ascend))
    (λ a h. subst (λ (l : List ℕ). Contains l a) (sym c.take.ensures.room) h)
    (λ h. cc) (λ h. cc) (taken c) (as_before c.args.account apart None (none_apart c))

pub returns : goal.returns
returns c a =
    let apart = c.self.inside.apart.entries in
    let old : Parts = record { kept = c.self.inside.kept.rows; apart = apart } in
    let new : Parts = record { kept = c.take.new.self.rows; apart = apart } in
    subst (λ (p : Parts). account_key new a ≡ moved (account_key p) c.args.account (settled_at None) a) c.self.view_is
    (moves c.args.account None None old new (taken c) (as_before c.args.account apart None (none_apart c)) a)
