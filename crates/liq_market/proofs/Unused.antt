-- The number under which a call is carried out.
use Rattle.std.proofs.Common.{◌≡◌, ℕ, ◌+◌, ◌==◌, ◌&&◌, Bool, true, false, not, cond, List, [], ◌∷◌, Option, Some, None, Ok, Err, Result}
use Rattle.std.proofs.Common.{ap, refl, subst, sym, ◌∙◌, arith}
use Rattle.std.proofs.lemmas.Bool.{ne_eqb}
use Rattle.liq_types.specs.declared.replies.Done.{Done}
use Rattle.liq_types.specs.declared.replies.Refusal.{Refusal}
use Rattle.liq_types.specs.declared.requests.Call.{Call}
use Rattle.liq_types.specs.declared.requests.Command.{Command}
use Rattle.liq_types.specs.State.{State, client_of}
use Rattle.liq_rule_step.specs.Step.{Ruling, Refused, Repeated, Allowed, first_refusal, in_range, is_repeated, next_number, ruling, tests, unless_refused}
use Rattle.liq_market.specs.Answering.{unless_repeated, unused_number}

not_repeated : (o p : Option Refusal) (b : Bool) (kept : Done) (number : ℕ) → b ≡ false
    → unless_repeated (unless_refused o (cond b (Repeated kept) (unless_refused p Allowed))) number ≡ number
not_repeated (Some refusal) p b kept number is = refl
not_repeated None p true kept number is = cc
not_repeated None None false kept number is = refl
not_repeated None (Some refusal) false kept number is = refl

-- a client's next number is not one that comes again
pub next_stays : (s : State) (c : Command) (number : ℕ) → c.number ≡ (client_of s c.client).last + 1
    → unless_repeated (ruling s c) number ≡ number
next_stays s c number next =
    let last = (client_of s c.client).last in
    let other : (c.number ≡ last) → ⊥ = λ same. omega arith in
    let is : is_repeated s c ≡ false =
    ap (λ (b : Bool). b && not (c.number == 0)) (ne_eqb c.number last other) in
    not_repeated (first_refusal (in_range c.client ∷ [])) (first_refusal (tests s c)) (is_repeated s c)
    (client_of s c.client).kept number is

-- the number of a command under which a call is carried out, by the ruling on it
module _ (s : State) (client number : ℕ) (call : Call) (next : number ≡ next_number s client) where
  abbrev command : Command
  command = record { client = client; number = number; call = call }

  pub by_ruling : (given : ℕ) → given ≡ unless_repeated (ruling s command) number → given ≡ unused_number s client call
  by_ruling given is =
      is ∙ ap (λ (n : ℕ). unless_repeated (ruling s (record { client = client; number = n; call = call })) n) next

  pub by_plan : (k : Command) → k ≡ command → ruling s k ≡ Allowed → number ≡ unused_number s client call
  by_plan k same allowed =
      by_ruling number
      (sym (ap (λ (r : Ruling). unless_repeated r number) (ap (λ (c : Command). ruling s c) (sym same) ∙ allowed)))

  pub by_refusal : (refusal : Refusal) → ruling s command ≡ Refused refusal → number ≡ unused_number s client call
  by_refusal refusal is = by_ruling number (sym (ap (λ (r : Ruling). unless_repeated r number) is))

  pub by_reply : (kept : Done) → ruling s command ≡ Repeated kept → 0 ≡ unused_number s client call
  by_reply kept is = by_ruling 0 (sym (ap (λ (r : Ruling). unless_repeated r number) is))

  pub by_turn : number ≡ (client_of s client).last + 1 → number ≡ unused_number s client call
  by_turn turn = by_ruling number (sym (next_stays s command number turn))
