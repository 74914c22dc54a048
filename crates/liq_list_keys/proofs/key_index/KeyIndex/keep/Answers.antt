use Rattle.std.proofs.Common.{◌≡◌, Some, None, Option, refl, sym, subst}
use Rattle.std.specs.Prelude.{IsSome}
use Rattle.liq_types.specs.Tables.{at}
use Rattle.liq_list_keys.specs.declared.short_key.ShortKey.{ShortKey}
use Rattle.liq_list_keys.specs.Parts.{Parts, account_key}
use Rattle.liq_list_keys.specs.AccountKey.{settled_at, moved}
use Rattle.liq_list_keys.proofs.Moving.{IsWritten, as_before, as_put, kept_parted, moves}
use Rattle.liq_list_keys.proofs.key_index.KeyIndex.keep.Goals as goal

was_kept : (c : goal.After-write) → IsSome (at c.self.inside.kept.rows c.args.account)
was_kept c = subst (λ (p : Parts). IsSome (at p.kept c.args.account)) (sym c.self.view_is) c.requires.kept

pub invariant_of-self : goal.invariant_of-self
invariant_of-self c =
    let apart = c.self.inside.apart.entries in
    kept_parted c.args.account c.args.key (at apart c.args.account) c.self.inside.kept c.write.new.self apart apart
    c.self.invariant
    (c.self.invariant.stays c.args.account (was_kept c)) c.requires.key c.write.ensures.rows c.write.ensures.room
    (λ h. let clash : IsSome {T = ShortKey} None = subst (λ (o : Option ShortKey). IsSome o)
    (c.self.invariant.once c.args.account h) (was_kept c) in cc)
    (as_before c.args.account apart (at apart c.args.account) refl)

written : (c : goal.After-write)
    → IsWritten c.args.account (Some c.args.key) c.self.inside.kept.rows c.write.new.self.rows
written c = as_put c.self.inside.kept.rows c.write.new.self.rows c.args.account c.args.key c.requires.key
    c.write.ensures.rows

pub returns-clause-kept : goal.returns-clause-kept
returns-clause-kept c = (written c).own

pub returns-clause-moved : goal.returns-clause-moved
returns-clause-moved c a =
    let apart = c.self.inside.apart.entries in
    let old : Parts = record { kept = c.self.inside.kept.rows; apart = apart } in
    let new : Parts = record { kept = c.write.new.self.rows; apart = apart } in
    subst (λ (p : Parts). account_key new a ≡ moved (account_key p) c.args.account (settled_at (Some c.args.key.key)) a)
    c.self.view_is
    (moves c.args.account (Some c.args.key) (at apart c.args.account) old new (written c)
    (as_before c.args.account apart (at apart c.args.account) refl) a)
