use Rattle.std.proofs.Common.{◌≡◌, ℤ, ap, sym, ◌∙◌, refl, rules, None, Some}
use Rattle.std.proofs.lemmas.Int.{to_z-of_z}
use Rattle.std.specs.Option.{option_copied}
use Rattle.liq_list_keys.specs.AccountKey.{settled_at}
use Rattle.liq_list_keys.proofs.Moving.{seen}
use Rattle.liq_list_keys.proofs.key_index.KeyIndex.account_key.Goals as goal
use mir.Syntax.{w64, w128}
use mir.Val.{SFits}

pub returns-in-Some : goal.returns-in-Some
returns-in-Some c =
    let kept = c.in-Some.kept.now in
    let fits : SFits w64 kept.key = search rules in
    let wide : SFits w128 c.from.result = search rules in
    let key : c.from.result ≡ kept.key = c.from.ensures ∙ to_z-of_z w64 kept.key fits in
    c.at_rest.ensures
    ∙ ap (λ (z : ℤ). settled_at (Some z)) (to_z-of_z w128 c.from.result wide ∙ key)
    ∙ seen _ c.args.self.now c.args.account (Some kept) _ c.self.view_is (sym c.get.ensures.row
    ∙ ap option_copied c.in-Some.is) refl

pub returns-in-Some-get : goal.returns-in-Some-get
returns-in-Some-get c =
    seen _ c.args.self.now c.args.account None (Some c.in-Some-get.stand.now) c.self.view_is (sym c.get.ensures.row
    ∙ ap option_copied c.in_default.is) (sym c.get-2.ensures.value ∙ ap option_copied c.in-Some-get.is)

pub returns-in-None : goal.returns-in-None
returns-in-None c =
    c.at_rest-in-None.ensures
    ∙ seen _ c.args.self.now c.args.account None None c.self.view_is (sym c.get.ensures.row
    ∙ ap option_copied c.in_default.is) (sym c.get-2.ensures.value ∙ ap option_copied c.in-None.is)
