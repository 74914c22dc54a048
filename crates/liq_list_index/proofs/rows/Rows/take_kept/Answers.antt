use Rattle.std.proofs.Common.{◌≡◌, ℤ, None, sym, ap, ◌∙◌, subst, rules}
use Rattle.std.proofs.lemmas.Int.{to_z-of_z}
use Rattle.liq_types.specs.Ranked.{without_ranked}
use Rattle.liq_list_keys.specs.declared.key_index.AccountKey.{AccountKey}
use Rattle.liq_list_chunks.specs.Entries.{without_entry}
use Rattle.liq_list_index.specs.Rows.{Follows, key_at}
use Rattle.liq_list_index.proofs.Following.{gone, sent}
use Rattle.liq_list_index.proofs.Shifting.{left_account}
use Rattle.liq_list_index.proofs.rows.Rows.take_kept.Goals as goal
use mir.Syntax.{w64, w128}
use mir.Val.{SFits}

pub returns-clause-tried : goal.returns-clause-tried
returns-clause-tried c h =
    let list = c.args.self.now.places in
    let account = c.args.account in
    let stood = c.in_ok-stood.stood.key in
    let old = c.args.self.now.stands in
    let new = c.leave.new.self in
    let fits : SFits w64 stood = search rules in
    let wide : SFits w128 c.from.result = search rules in
    let left = simp to_z-of_z at c.remove.ensures.left in
    let key : c.from.result ≡ stood = c.from.ensures ∙ to_z-of_z w64 stood fits in
    let stands = c.in_ok-stood.ensures.key in
    let entries : c.remove.new.self ≡ without_ranked list account =
    left
    ∙ ap (λ (z : ℤ). without_entry list (z, account)) key
    ∙ left_account (key_at old) list account stood (ap (λ (s : AccountKey). s.key) stands) h in (
      subst (Follows (key_at new)) (sym entries) (gone (key_at old) (key_at new) list account
          (sent old new account None c.leave.ensures) h),
      entries,
    )
