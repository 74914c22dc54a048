use Rattle.std.specs.Prelude.{◌==◌}
use Rattle.std.proofs.Common.{◌≡◌, ℕ, ℤ, Bool, true, false, cond, [], Some, Option, ap, ◌∙◌, sym, refl, pos, get_or, rules}
use Rattle.std.proofs.lemmas.Int.{to_z-of_z}
use Rattle.liq_types.specs.Ranked.{Ranked}
use Rattle.liq_list_keys.specs.Parts.{Parts, account_key}
use Rattle.liq_list_keys.specs.AccountKey.{moved, settled_at}
use Rattle.liq_list_keys.specs.declared.key_index.AccountKey.{AccountKey}
use Rattle.liq_list_index.specs.Rows.{AreSettledBeside, key_at}
use Rattle.liq_list_index.proofs.Behind.{next_follows}
use Rattle.liq_list_index.proofs.Following.{sent}
use Rattle.liq_list_index.proofs.rows.key_index_of.Goals as goal
use mir.Syntax.{w128}
use mir.Val.{SFits}

settled_on : (stands after : Parts) (account : ℕ) (key : Option ℤ)
    → ((a : ℕ) → account_key after a ≡ moved (account_key stands) account (settled_at key) a)
    → AreSettledBeside stands []
    → AreSettledBeside after []
settled_on stands after account key moves h a away =
    ap (λ (s : AccountKey). s.next) (moves a) ∙ by (a == account) ∙ sym (ap (λ (s : AccountKey). s.key) (moves a)) where
      by : (b : Bool) → (cond b (settled_at key) (account_key stands a)).next
          ≡ (cond b (settled_at key) (account_key stands a)).key
      by true = refl
      by false = h a refl

pub loop-place-preserved : goal.loop-place-preserved
loop-place-preserved c =
    let list = c.args.list.now in
    let i = c.loop-place.place-index in
    let d : Ranked = (pos 0, 0) in
    let e : Ranked = get_or list i d in
    let old = c.loop-place.stands in
    let new = c.put_under.new.stands in
    let fits : SFits w128 e.0 = search rules in
    let moves : (a : ℕ) → account_key new a ≡ moved (account_key old) e.1 (settled_at (Some e.0)) a =
    simp to_z-of_z at c.in_ok-put_under.ensures in
    record {
      follows = next_follows list i c.loop-place-test.true d (key_at old) (key_at new) c.requires.ascending
          c.requires.once (sent old new e.1 (Some e.0) moves) c.loop-place.invariant.follows;
      settled = settled_on old new e.1 (Some e.0) moves c.loop-place.invariant.settled;
    }
