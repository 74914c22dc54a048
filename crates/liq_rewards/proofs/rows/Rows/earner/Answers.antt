use Rattle.std.proofs.Common.{◌≡◌, sym, subst, ap, ◌∙◌, refl}
use Rattle.liq_rewards.specs.declared.rows.Row.{Row}
use Rattle.liq_rewards.specs.Earner.{IsSmall}
use Rattle.liq_rewards.specs.Kept.{earner_in}
use Rattle.liq_rewards.specs.Rows.{Counted, all_now, now_of, IsRowOf}
use Rattle.liq_rewards.proofs.Finding.{here, any_default, earner_none}
use Rattle.liq_rewards.proofs.rows.Rows.earner.Goals as goal

pub as_of-requires : goal.as_of-requires
as_of-requires c =
    let k = subst (λ (v : Counted). IsRowOf v.rows c.args.account c.in-Some.place) (sym c.self.view_is)
    c.in-Some.ensures.found in
    let row : c.index.result.now ≡ _ = c.index.ensures
    ∙ any_default c.self.inside.rows.items c.in-Some.place c.index.result.now k.within in
    subst (λ (row : Row). IsSmall (now_of c.args.words.now c.self.inside.offsets row)) (sym row)
    (subst IsSmall (here c.args.words.now c.self.inside.numbers.rows c.self.inside.offsets c.self.inside.rows.items
    c.self.invariant c.args.account c.in-Some.place k)
    (subst (λ (v : Counted). IsSmall (earner_in (all_now c.args.words.now v) c.args.account)) (sym c.self.view_is)
    c.requires))

pub returns-in-Some : goal.returns-in-Some
returns-in-Some c =
    let k = subst (λ (v : Counted). IsRowOf v.rows c.args.account c.in-Some.place) (sym c.self.view_is)
    c.in-Some.ensures.found in
    let row : c.index.result.now ≡ _ = c.index.ensures
    ∙ any_default c.self.inside.rows.items c.in-Some.place c.index.result.now k.within in
    c.as_of.ensures ∙ ap (λ (row : Row). now_of c.args.words.now c.self.inside.offsets row) row
    ∙ sym (here c.args.words.now c.self.inside.numbers.rows c.self.inside.offsets c.self.inside.rows.items
    c.self.invariant c.args.account c.in-Some.place k)
    ∙ ap (λ (v : Counted). earner_in (all_now c.args.words.now v) c.args.account) c.self.view_is

pub returns-in-None : goal.returns-in-None
returns-in-None c = c.none.ensures
    ∙ sym (earner_none c.args.words.now c.args.self.now.offsets c.args.self.now.rows c.args.account
    (c.in-None.ensures.none refl))
