-- What tests say where the kit has no lemma of it: numbers, wallets, options, rules that refuse nothing.
use Rattle.std.proofs.Common.{◌≡◌, ℕ, ◌≤◌, Bool, true, false, cond, List, [], ◌∷◌, refl, ap, ◌∙◌, Some, None, Option, arith}
use Rattle.std.specs.Prelude.{◌==◌, Ok, IsSome}
use Rattle.std.specs.Option.{is_some}
use Rattle.std.specs.List.{AllByRecursion}
use Rattle.std.proofs.lemmas.Bool.Decides.{nat_tests}
use Rattle.liq_types.specs.declared.figures.Wallet.{Wallet}
use Rattle.liq_types.specs.declared.replies.Refusal.{Refusal}
use Rattle.liq_types.specs.State.{no_wallet, is_used_wallet}
use Rattle.liq_types.specs.Rules.{Rule, first_refusal, outcome}

pub not_zero : (n : ℕ) → (n == 0) ≡ false → 1 ≤ n
not_zero n e = grind (arith, nat_tests, e)

pub unused : (w : Wallet) → is_used_wallet w ≡ false → w ≡ no_wallet
unused w h =
    let coll : w.coll ≡ 0 = grind (arith, nat_tests, h) in
    let lusd : w.lusd ≡ 0 = grind (arith, nat_tests, h) in
    ap (λ n. record { coll = n; lusd = w.lusd }) coll ∙ ap (λ n. record { coll = 0; lusd = n }) lusd

-- ---- options

module _ {X : Type 0} where
  pub some : (o : Option X) (x : X) → o ≡ Some x → IsSome o
  some None x h = cc
  some (Some y) x h = refl

  pub value_of : (o : Option X) → IsSome o → (x : X) × (o ≡ Some x)
  value_of None h = absurd (let e : false ≡ true = h in cc)
  value_of (Some x) h = (x, refl)

  pub missing : (o : Option X) → is_some o ≡ false → o ≡ None
  missing None h = refl
  missing (Some x) h = cc

-- ---- rules

pub all_false : (rules : List Rule) → first_refusal rules ≡ None
    → AllByRecursion (λ (rule : Rule). rule.0 ≡ false) rules
all_false [] h = tt
all_false (rule ∷ rules) h = by rule.0 h (all_false rules) where
  by : (b : Bool) → cond b (Some rule.1) (first_refusal rules) ≡ None → (first_refusal rules ≡ None
      → AllByRecursion (λ (rule : Rule). rule.0 ≡ false) rules) → (b ≡ false) × AllByRecursion (λ (rule : Rule). rule.0
      ≡ false) rules
  by true k later = cc
  by false k later = (refl, later k)

pub made_by : {X : Type 0} (o : Option Refusal) (x y : X) → outcome o x ≡ Ok y → (o ≡ None) × (x ≡ y)
made_by None x y h = (refl, cc)
made_by (Some refusal) x y h = cc
