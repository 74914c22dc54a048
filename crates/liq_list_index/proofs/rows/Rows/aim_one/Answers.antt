use Rattle.std.proofs.Common.{◌≡◌, ℕ, ℤ, Bool, true, false, cond, List, Some, None, Option, refl, sym, ap, ◌∙◌, subst, rules}
use Rattle.std.proofs.lemmas.Int.{to_z-of_z}
use Rattle.std.specs.Prelude.{◌==◌, OnOk}
use Rattle.liq_types.specs.Ranked.{Ranked}
use Rattle.liq_types.specs.declared.events.ListChange.{ListChange}
use Rattle.liq_list_keys.specs.Parts.{Parts, account_key}
use Rattle.liq_list_keys.specs.AccountKey.{moved}
use Rattle.liq_list_keys.specs.declared.key_index.AccountKey.{AccountKey}
use Rattle.liq_list_chunks.proofs.Lists.{on_ok}
use Rattle.liq_list_index.specs.Followed.{listed}
use Rattle.liq_list_index.specs.Rows.{Follows, key_at, next_at}
use Rattle.liq_list_index.proofs.Following.{Sent, gone, put}
use Rattle.liq_list_index.proofs.rows.Rows.aim_one.Goals as goal
use mir.Syntax.{w128}
use mir.Val.{SFits}

-- the key that an account will have
aimed : (stands after : Parts) (account : ℕ) (next : Option ℤ)
    → ((a : ℕ) → account_key after a ≡ moved (account_key stands) account (record {
      key = key_at stands account;
      next = next;
    }) a) → Sent (next_at stands) (next_at after) account next
aimed stands after account next h a = ap (λ (s : AccountKey). s.next) (h a) ∙ by (a == account) where
  by : (b : Bool) → (cond b (record { key = key_at stands account; next = next }) (account_key stands a)).next
      ≡ cond b next (next_at stands a)
  by true = refl
  by false = refl

pub returns-in-Put-clause-next : goal.returns-in-Put-clause-next
returns-in-Put-clause-next c =
    let old = c.args.self.now.stands in
    let new = c.aim.new.self in
    let account = c.in-Put.account in
    let fits : SFits w128 c.in-Put.key = search rules in
    let ok = simp to_z-of_z at c.aim.ensures.ok in
    subst (λ (change : ListChange). OnOk c.aim.result ((list : List Ranked) → Follows (next_at old) list
    → Follows (next_at new) (listed list change))) (sym c.in-Put.is)
    (on_ok c.aim.result (λ moves list h. put (next_at old) (next_at new) list account c.in-Put.key
    (aimed old new account (Some c.in-Put.key) moves) h) ok)

pub returns-in-Gone-clause-next : goal.returns-in-Gone-clause-next
returns-in-Gone-clause-next c =
    let old = c.args.self.now.stands in
    let new = c.aim-in-Gone.new.self in
    let account = c.in-Gone.account in
    subst (λ (change : ListChange). OnOk c.aim-in-Gone.result ((list : List Ranked) → Follows (next_at old) list
    → Follows (next_at new) (listed list change))) (sym c.in-Gone.is)
    (on_ok c.aim-in-Gone.result (λ moves list h. gone (next_at old) (next_at new) list account
    (aimed old new account None moves) h) c.aim-in-Gone.ensures.ok)
