use Rattle.std.proofs.Common.{◌≡◌, ℕ, List, ap, sym, ◌∙◌, refl, subst, None, Some}
use Rattle.std.specs.List.{Contains}
use Rattle.liq_types.proofs.Ascending.{without-ascends}
use Rattle.liq_types.specs.Tables.{Table, without}
use Rattle.liq_types.specs.WellFormed.{Ascends}
use Rattle.liq_tables.specs.WithRoom.{HasRoom}
use Rattle.liq_list_keys.specs.declared.short_key.ShortKey.{ShortKey}
use Rattle.liq_list_keys.specs.declared.key_index.AccountKey.{AccountKey}
use Rattle.liq_list_keys.specs.Parts.{Parts, account_key}
use Rattle.liq_list_keys.specs.AccountKey.{moved}
use Rattle.liq_list_keys.proofs.Moving.{IsWritten, as_taken, as_updated, moves, parted}
use Rattle.liq_list_keys.proofs.key_index.KeyIndex.aim.Goals as goal

rows : (c : goal.After-take) → c.take.new.self.rows ≡ without c.self.inside.kept.rows c.args.account
rows c = c.take.ensures.rows ∙ ap (λ (t : Table ShortKey). without t c.args.account) c.in_ok-reserve.ensures.rows

-- it is kept no more
taken : (c : goal.After-take) → IsWritten c.args.account None c.self.inside.kept.rows c.take.new.self.rows
taken c = as_taken c.args.account c.self.inside.kept.rows c.take.new.self.rows c.self.invariant.ascend (rows c)

aimed : (c : goal.After-take)
    → IsWritten c.args.account (Some (record { key = c.account_key-key.result.key; next = c.args.next }))
    c.self.inside.apart.entries c.insert.new.self.entries
aimed c = as_updated c.args.account c.self.inside.apart c.insert.new.self (Some (record {
  key = c.account_key-key.result.key;
  next = c.args.next;
})) c.in-Ok.ensures.updates

room : (c : goal.After-take) (a : ℕ) → HasRoom c.reserve.new.self a → HasRoom c.take.new.self a
room c a h = subst (λ (l : List ℕ). Contains l a) (sym c.take.ensures.room) h

pub invariant_of-self-3 : goal.invariant_of-self-3
invariant_of-self-3 c =
    parted c.args.account None (Some (record { key = c.account_key-key.result.key; next = c.args.next }))
    c.self.inside.kept
    c.take.new.self c.self.inside.apart.entries c.insert.new.self.entries c.self.invariant
    (subst (λ (t : Table ShortKey). Ascends t) (sym (rows c)) (without-ascends c.self.inside.kept.rows c.args.account
    c.self.invariant.ascend))
    (λ a h. room c a (c.in_ok-reserve.ensures.kept a h))
    (λ h. cc)
    (λ h. (room c c.args.account c.in_ok-reserve.ensures.room, refl)) (taken c) (aimed c)

pub returns-clause-ok : goal.returns-clause-ok
returns-clause-ok c a =
    let apart = c.self.inside.apart.entries in
    let old : Parts = record { kept = c.self.inside.kept.rows; apart = apart } in
    let new : Parts = record { kept = c.take.new.self.rows; apart = c.insert.new.self.entries } in
    let stand : c.account_key-key.result ≡ account_key c.args.self.now c.args.account =
    c.account_key-key.ensures
    ∙ ap (λ (t : Table ShortKey). account_key (record { kept = t; apart = apart }) c.args.account)
    c.in_ok-reserve.ensures.rows
    ∙ ap (λ (p : Parts). account_key p c.args.account) c.self.view_is in
    let aim : AccountKey = record { key = c.account_key-key.result.key; next = c.args.next } in
    moves c.args.account None (Some aim) old new (taken c) (aimed c) a
    ∙ ap (λ (s : AccountKey). moved (account_key old) c.args.account (record {
      key = s.key;
      next =
          c.args.next;
    }) a) stand
    ∙ ap (λ (p : Parts). moved (account_key p) c.args.account
    (record { key = (account_key c.args.self.now c.args.account).key; next = c.args.next }) a) c.self.view_is
