use Rattle.std.proofs.Common.{ℕ, ◌&&◌, nat_lt, ◌∷◌, [], get_or, ◌∙◌, ap}
use Rattle.liq_wire.specs.Fields.{misfit, first_place, isnt_zero}
use Rattle.liq_wire.proofs.decoding.first_misfit.Goals as goal

pub returns : goal.returns
unfolding misfit
returns c =
    let account = c.is_misused.ensures ∙ ap (λ (n : ℕ). nat_lt n 1 && isnt_zero c.args.fields.now.account)
    c.shape_of-accounts.ensures.accounts in
    let other = c.is_misused-2.ensures ∙ ap (λ (n : ℕ). nat_lt n 2 && isnt_zero c.args.fields.now.other)
    c.shape_of-accounts.ensures.accounts in
    let amount = c.is_misused-3.ensures ∙ ap (λ (n : ℕ). nat_lt n 1 && isnt_zero (get_or c.args.fields.now.amounts 0 0))
    c.shape_of-accounts.ensures.amounts in
    let amount_2 = c.is_misused-4.ensures
    ∙ ap (λ (n : ℕ). nat_lt n 2 && isnt_zero (get_or c.args.fields.now.amounts 1 0))
    c.shape_of-accounts.ensures.amounts in
    let amount_3 = c.is_misused-5.ensures
    ∙ ap (λ (n : ℕ). nat_lt n 3 && isnt_zero (get_or c.args.fields.now.amounts 2 0))
    c.shape_of-accounts.ensures.amounts in
    let amount_4 = c.is_misused-6.ensures
    ∙ ap (λ (n : ℕ). nat_lt n 4 && isnt_zero (get_or c.args.fields.now.amounts 3 0))
    c.shape_of-accounts.ensures.amounts in
    let amount_5 = c.is_misused-7.ensures
    ∙ ap (λ (n : ℕ). nat_lt n 5 && isnt_zero (get_or c.args.fields.now.amounts 4 0))
    c.shape_of-accounts.ensures.amounts in
    let before = c.is_misused-8.ensures ∙ ap (λ (n : ℕ). nat_lt n 1 && isnt_zero c.args.fields.now.before)
    c.shape_of-accounts.ensures.hints in
    let after = c.is_misused-9.ensures ∙ ap (λ (n : ℕ). nat_lt n 2 && isnt_zero c.args.fields.now.after)
    c.shape_of-accounts.ensures.hints in
    c.first_place.ensures ∙ (λ i. first_place ((c.is_unknown.ensures i, 0) ∷ (c.fills_gap.ensures i, 1) ∷ (
      account i,
      16,
    ) ∷ (other i, 20) ∷ (amount i, 24) ∷ (amount_2 i, 32) ∷ (amount_3 i, 40) ∷ (amount_4 i, 48) ∷ (amount_5 i, 56)
    ∷ (before i, 64) ∷ (after i, 68) ∷ (c.fills_rest.ensures i, 72) ∷ []))
