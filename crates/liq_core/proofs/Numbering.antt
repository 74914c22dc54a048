-- What is kept of a number is what the rules say of the command.
use Rattle.std.proofs.Common.{◌≡◌, ◌+◌, ◌<◌, Bool, true, false, cond, nat_le, ◌++◌, Some, None, refl, ap, ◌∙◌, arith}
use Rattle.std.specs.Prelude.{map, not, ◌==◌, Ok, Err}
use Rattle.std.proofs.lemmas.Bool.Decides.{nat_tests}
use Rattle.liq_types.specs.declared.amounts.TheConstants.{ACCOUNTS}
use Rattle.liq_types.specs.declared.replies.Refusal.TheVariants.{AccountRange, OutOfTurn}
use Rattle.liq_types.specs.declared.requests.Command.{Command}
use Rattle.liq_types.specs.Rules.{first_refusal}
use Rattle.liq_types.specs.State.{State, client_of}
use Rattle.liq_core_limits.specs.Numbers.{kept_by}
use Rattle.liq_rule_step.specs.Queries.{next_number}
use Rattle.liq_rule_step.specs.Step.{Repeated, Allowed, accounts, in_range, is_repeated, room_rules, rules, ruling, tests, unless_refused}
use Rattle.liq_core.specs.Turn.{IsKept}

module _ (s : State) (c : Command) (within : c.client < ACCOUNTS) where
  -- of a client in range
  ruled : ruling s c ≡ cond (is_repeated s c) (Repeated (client_of s c.client).kept)
      (unless_refused (first_refusal (tests s c)) Allowed)
  ruled =
      let inside : nat_le ACCOUNTS c.client ≡ false = grind (arith, nat_tests, within) in
      ap (λ b. unless_refused (cond b (Some (AccountRange c.client)) None) (cond (is_repeated s c)
      (Repeated (client_of s c.client).kept) (unless_refused (first_refusal (tests s c)) Allowed))) inside

  pub kept_so : IsKept s c (kept_by (client_of s c.client) c.number)
  kept_so = by (is_repeated s c) refl (c.number == (client_of s c.client).last + 1) refl where
    by : (again : Bool) → is_repeated s c ≡ again → (next : Bool) → (c.number == (client_of s c.client).last + 1) ≡ next
        → IsKept s c (cond again (Ok (Some (client_of s c.client).kept)) (cond next (Ok None)
        (Err (OutOfTurn (next_number s c.client)))))
    by true is next e =
        ruled ∙ ap (λ b. cond b (Repeated (client_of s c.client).kept) (unless_refused (first_refusal (tests s c))
        Allowed)) is
    by false is true e = (within, grind (arith, nat_tests, e))
    by false is false e =
        let rest = (map in_range (accounts c.call) ++ rules s c.call) ++ room_rules s c in
        ruled
        ∙ ap (λ b. cond b (Repeated (client_of s c.client).kept) (unless_refused (first_refusal (tests s c))
        Allowed)) is
        ∙ ap (λ b. unless_refused (cond (not b) (Some (OutOfTurn (next_number s c.client))) (first_refusal rest))
        Allowed) e
