use Rattle.std.proofs.Common.{◌≡◌, ℤ, Bool, false, List, None, Some, Option, refl, sym, ap, ◌∙◌, rules}
use Rattle.std.proofs.lemmas.Int.{to_z-of_z}
use Rattle.std.specs.Prelude.{is_some}
use Rattle.liq_types.specs.Ranked.{Ranked}
use Rattle.liq_list_keys.specs.declared.key_index.AccountKey.{AccountKey}
use Rattle.liq_list_chunks.specs.Entries.{with_entry, without_entry}
use Rattle.liq_list_index.specs.Rows.{key_at}
use Rattle.liq_list_index.proofs.Following.{has_put}
use Rattle.liq_list_index.proofs.Shifting.{left_again, opened, shifted}
use Rattle.liq_list_index.proofs.rows.Rows.put_one.Goals as goal
use Rattle.liq_list_index.proofs.rows.Rows.put_one.Goals.{After-open}
use mir.Syntax.{w128, w64}
use mir.Val.{SFits}

-- ---- an account that is kept

pub returns-in-Some-clause-tried : goal.returns-in-Some-clause-tried
returns-in-Some-clause-tried c h =
    let list = c.args.self.now.places in
    let account = c.args.account in
    let stood = c.in-Some.stood.key in
    let kept = c.in_ok-kept.kept.key in
    let key = c.args.key in
    let old = c.args.self.now.stands in
    let wide : SFits w128 key = search rules in
    let from : SFits w64 stood = search rules in
    let to : SFits w64 kept = search rules in
    let moved_entry = simp to_z-of_z at c.in_default-replace.ensures.replaced in
    let same : kept ≡ key = c.in_ok-kept.ensures.same ∙ to_z-of_z w128 key wide in
    has_put old c.keep.new.self list c.replace.new.self account key kept same c.keep.ensures.moved
    (moved_entry ∙ ap (λ (z : ℤ). with_entry (without_entry list (stood, account)) (z, account)) same
    ∙ shifted (key_at old) list account stood (ap (λ (s : AccountKey). s.key) c.in-Some.ensures.key) h key) h

-- ---- one that stands nowhere

none : (o : Option ℤ) (b : Bool) → b ≡ is_some o → b ≡ false → o ≡ None
none None b is h = refl
none (Some k) b is h = cc

out : (c : After-open) → key_at c.args.self.now.stands c.args.account ≡ None
out c = ap (λ (s : AccountKey). s.key) (sym c.account_key.ensures)
    ∙ none c.account_key.result.key c.is_some.result c.is_some.ensures c.if-is_some.false

entered : (c : After-open) → c.insert.new.self ≡ with_entry c.args.self.now.places (c.args.key, c.args.account)
entered c = let fits : SFits w128 c.args.key = search rules in simp to_z-of_z at c.in_default-insert.ensures.entered

pub returns-in-Err-open-clause-tried : goal.returns-in-Err-open-clause-tried
returns-in-Err-open-clause-tried c h =
    let at = (goal.at.returns-in-Err-open-clause-tried c).After-open in
    let key = c.args.key in
    let fits : SFits w128 key = search rules in
    let left = simp to_z-of_z at c.remove.ensures.left in (
      left ∙ ap (λ (l : List Ranked). without_entry l (key, c.args.account)) (entered at)
          ∙ left_again (key_at c.args.self.now.stands) c.args.self.now.places c.args.account key (out at) h,
      c.in-Err-open.ensures.err,
    )

pub returns-clause-tried : goal.returns-clause-tried
returns-clause-tried c h =
    let at = (goal.at.returns-clause-tried c).After-open in
    let list = c.args.self.now.places in
    let old = c.args.self.now.stands in
    let account = c.args.account in
    let key = c.args.key in
    let fits : SFits w128 key = search rules in
    has_put old c.open.new.self list c.insert.new.self account key c.in_ok-kept.kept.key
    (c.in_ok-kept.ensures.same ∙ to_z-of_z w128 key fits) c.in_default-open.ensures.ok
    (entered at ∙ opened (key_at old) list account key (out at) h) h
