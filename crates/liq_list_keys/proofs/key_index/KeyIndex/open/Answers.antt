use Rattle.std.proofs.Common.{◌≡◌, ℕ, List, Some, None, sym, ap, ◌∙◌, subst}
use Rattle.std.specs.List.{Contains}
use Rattle.liq_types.proofs.Ascending.{put-ascends}
use Rattle.liq_types.specs.Tables.{Table}
use Rattle.liq_types.specs.WellFormed.{Ascends}
use Rattle.liq_tables.specs.WithRoom.{HasRoom, written}
use Rattle.liq_list_keys.specs.ShortKey.{is_short}
use Rattle.liq_list_keys.specs.declared.short_key.ShortKey.{ShortKey}
use Rattle.liq_list_keys.specs.Parts.{Parts, account_key}
use Rattle.liq_list_keys.specs.AccountKey.{settled_at, moved}
use Rattle.liq_list_keys.proofs.Moving.{IsWritten, as_put, as_updated, parted, moves, puts}
use Rattle.liq_list_keys.proofs.key_index.KeyIndex.open.Goals as goal

rows : (c : goal.After-write) → c.write.new.self.rows ≡ written is_short c.self.inside.kept.rows c.args.account
    c.args.kept
rows c = c.write.ensures.rows ∙ ap (λ (t : Table ShortKey). written is_short t c.args.account c.args.kept)
    c.in_ok-reserve.ensures.rows

opened : (c : goal.After-write)
    → IsWritten c.args.account (Some c.args.kept) c.self.inside.kept.rows c.write.new.self.rows
opened c = as_put c.self.inside.kept.rows c.write.new.self.rows c.args.account c.args.kept c.requires (rows c)

-- it is not apart any more
apart : (c : goal.After-write) → IsWritten c.args.account None c.self.inside.apart.entries c.remove.new.self.entries
apart c = as_updated c.args.account c.self.inside.apart c.remove.new.self None c.remove.ensures.updates

room : (c : goal.After-write) (a : ℕ) → HasRoom c.reserve.new.self a → HasRoom c.write.new.self a
room c a h = subst (λ (l : List ℕ). Contains l a) (sym c.write.ensures.room) h

pub invariant_of-self-2 : goal.invariant_of-self-2
invariant_of-self-2 c =
    let old = c.self.inside.kept in
    let new = c.write.new.self in
    let now = puts old.rows new.rows c.args.account c.args.kept c.requires (rows c) in
    parted c.args.account (Some c.args.kept) None old new c.self.inside.apart.entries c.remove.new.self.entries
    c.self.invariant
    (subst (λ (t : Table ShortKey). Ascends t) (sym now) (put-ascends old.rows c.args.account c.args.kept
    c.self.invariant.ascend))
    (λ a h. room c a (c.in_ok-reserve.ensures.kept a h))
    (λ h. room c c.args.account c.in_ok-reserve.ensures.room)
    (λ h. cc) (opened c) (apart c)

pub returns-clause-kept : goal.returns-clause-kept
returns-clause-kept c = (opened c).own

pub returns-clause-ok : goal.returns-clause-ok
returns-clause-ok c a =
    let old : Parts = record { kept = c.self.inside.kept.rows; apart = c.self.inside.apart.entries } in
    let new : Parts = record { kept = c.write.new.self.rows; apart = c.remove.new.self.entries } in
    subst (λ (p : Parts). account_key new a ≡ moved (account_key p) c.args.account (settled_at (Some
    c.args.kept.key)) a)
    c.self.view_is
    (moves c.args.account (Some c.args.kept) None old new (opened c) (apart c) a)
