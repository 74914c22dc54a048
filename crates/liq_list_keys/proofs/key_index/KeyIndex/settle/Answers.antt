use Rattle.std.proofs.Common.{◌≡◌, ℤ, ap, sym, ◌∙◌, subst, rules, None, Some, Option}
use Rattle.std.proofs.lemmas.Bool.{false≢true}
use Rattle.std.proofs.lemmas.Int.{to_z-of_z}
use Rattle.std.specs.Option.{option_copied}
use Rattle.liq_types.proofs.Tests.{some}
use Rattle.liq_types.specs.Tables.{at}
use Rattle.liq_list_keys.specs.Parts.{Parts}
use Rattle.liq_list_keys.specs.AccountKey.{settled_at}
use Rattle.liq_list_keys.proofs.Moving.{IsSettled, IsWritten, apart_settles, as_before, as_put, as_updated, kept_parted, over, unmoved}
use Rattle.liq_list_keys.proofs.key_index.KeyIndex.settle.Goals as goal
use mir.Syntax.{w128}
use mir.Val.{SFits}

pub returns-in_default : goal.returns-in_default
returns-in_default c =
    subst (λ (p : Parts). IsSettled p p c.args.account c.args.made) c.self.view_is
    (unmoved c.args.account c.args.made _ (sym c.get.ensures.value ∙ ap option_copied c.in_default.is))

pub returns-in-None : goal.returns-in-None
returns-in-None c =
    let rows = c.self.inside.kept.rows in
    let stand = c.in-Some.stand.now in
    let there : at c.self.inside.apart.entries c.args.account ≡ Some stand = sym c.get.ensures.value
    ∙ ap option_copied c.in-Some.is in
    let new : Parts = record { kept = rows; apart = c.remove.new.self.entries } in
    let none = c.self.invariant.once c.args.account (some _ stand there) in
    apart_settles c.args.account c.args.made _ c.args.self.now new stand c.side.result None None c.self.view_is none
    there c.side.ensures (ap (λ (o : Option ℤ). settled_at o) (sym c.in-None.is))
    (as_before c.args.account rows None none) (as_updated c.args.account c.self.inside.apart c.remove.new.self None
    c.remove.ensures.updates)

gone_now : (c : goal.After-write)
    → IsWritten c.args.account None c.self.inside.apart.entries c.remove-in-Some-of.new.self.entries
gone_now c = as_updated c.args.account c.self.inside.apart c.remove-in-Some-of.new.self None
    c.remove-in-Some-of.ensures.updates

pub invariant_of-self-in-Some-of : goal.invariant_of-self-in-Some-of
invariant_of-self-in-Some-of c =
    kept_parted c.args.account c.in-Some-of.kept None c.self.inside.kept c.write.new.self c.self.inside.apart.entries
    c.remove-in-Some-of.new.self.entries
    c.self.invariant (c.self.invariant.room c.args.account (some _ c.in-Some.stand.now (sym c.get.ensures.value
    ∙ ap option_copied c.in-Some.is)))
    c.in-Some-of.ensures.kept c.write.ensures.rows c.write.ensures.room false≢true (gone_now c)

pub returns-in-Some-of : goal.returns-in-Some-of
returns-in-Some-of c =
    let kept = c.in-Some-of.kept in
    let stand = c.in-Some.stand.now in
    let there : at c.self.inside.apart.entries c.args.account ≡ Some stand = sym c.get.ensures.value
    ∙ ap option_copied c.in-Some.is in
    let fits : SFits w128 c.in-Some-side.key = search rules in
    let key : kept.key ≡ c.in-Some-side.key = c.in-Some-of.ensures.same ∙ to_z-of_z w128 c.in-Some-side.key fits in
    let kept_now = as_put c.self.inside.kept.rows c.write.new.self.rows c.args.account kept c.in-Some-of.ensures.kept
    c.write.ensures.rows in
    let new : Parts = record { kept = c.write.new.self.rows; apart = c.remove-in-Some-of.new.self.entries } in
    apart_settles c.args.account c.args.made _ c.args.self.now new stand c.side.result (Some kept) None c.self.view_is
    (c.self.invariant.once c.args.account (some _ stand there)) there c.side.ensures
    (ap (λ (z : ℤ). settled_at (Some z)) key ∙ ap (λ (o : Option ℤ). settled_at o) (sym c.in-Some-side.is)) kept_now
    (gone_now c)

pub returns-in-None-of : goal.returns-in-None-of
returns-in-None-of c =
    let rows = c.self.inside.kept.rows in
    let stand = c.in-Some.stand.now in
    let there : at c.self.inside.apart.entries c.args.account ≡ Some stand = sym c.get.ensures.value
    ∙ ap option_copied c.in-Some.is in
    let none = c.self.invariant.once c.args.account (some _ stand there) in
    let fits : SFits w128 c.in-Some-side.key = search rules in
    let new : Parts = record { kept = rows; apart = c.insert.new.self.entries } in
    let updates = over c.insert.result _ (at c.self.inside.apart.entries c.args.account) stand there
    c.insert.ensures.absent c.insert.ensures.updates in
    let own : c.at_rest.result ≡ settled_at c.side.result = c.at_rest.ensures
    ∙ ap (λ (z : ℤ). settled_at (Some z)) (to_z-of_z w128 c.in-Some-side.key fits)
    ∙ ap (λ (o : Option ℤ). settled_at o) (sym c.in-Some-side.is) in
    apart_settles c.args.account c.args.made _ c.args.self.now new stand c.side.result None (Some c.at_rest.result)
    c.self.view_is none there c.side.ensures own (as_before c.args.account rows None none)
    (as_updated c.args.account c.self.inside.apart c.insert.new.self (Some c.at_rest.result) updates)
