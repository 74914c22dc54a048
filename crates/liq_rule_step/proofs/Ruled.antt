-- Rulings from what is tested.
use Rattle.std.proofs.Common.{◌≡◌, ℕ, ◌+◌, ◌<◌, Bool, true, false, cond, nat_le, List, [], ◌∷◌, ◌++◌, Some, None, Option, ap, ◌∙◌, arith}
use Rattle.std.specs.Prelude.{map, ◌==◌, ◌&&◌, not}
use Rattle.std.specs.List.{AllByRecursion}
use Rattle.std.proofs.lemmas.Bool.Decides.{nat_tests}
use Rattle.liq_types.specs.declared.amounts.TheConstants.{ACCOUNTS}
use Rattle.liq_types.specs.declared.replies.Refusal.{Refusal}
use Rattle.liq_types.specs.declared.replies.Refusal.TheVariants.{AccountRange, OutOfTurn}
use Rattle.liq_types.specs.declared.requests.Command.{Command}
use Rattle.liq_types.specs.Rules.{Rule, first_refusal}
use Rattle.liq_types.proofs.Refused.{passed}
use Rattle.liq_types.specs.State.{State, client_of}
use Rattle.liq_rule_step.specs.Queries.{next_number}
use Rattle.liq_rule_step.specs.Step.{Refused, Repeated, Allowed, unless_refused, ruling, rules, accounts, in_range, is_repeated, tests, room_rules}
use Rattle.liq_rule_step.proofs.Allowed.{none_first}

pub some_first : (front more : List Rule) (refusal : Refusal) → first_refusal front ≡ Some refusal
    → first_refusal (front ++ more) ≡ Some refusal
some_first [] more refusal h = cc
some_first (rule ∷ front) more refusal h = by rule.0 h (some_first front more refusal) where
  by : (b : Bool) → cond b (Some rule.1) (first_refusal front) ≡ Some refusal → (first_refusal front ≡ Some refusal
      → first_refusal (front ++ more) ≡ Some refusal) → cond b (Some rule.1) (first_refusal (front ++ more))
      ≡ Some refusal
  by true e later = e
  by false e later = later e

-- what the tests of a client's next command say
pub next_ruling : (s : State) (c : Command) → c.client < ACCOUNTS → c.number ≡ (client_of s c.client).last + 1
    → ruling s c ≡ unless_refused (first_refusal ((map in_range (accounts c.call) ++ rules s c.call)
    ++ room_rules s c)) Allowed
next_ruling s c within next =
    let last = (client_of s c.client).last in
    let inside : nat_le ACCOUNTS c.client ≡ false = grind (arith, nat_tests, within) in
    let new : (c.number == last && not (c.number == 0)) ≡ false = grind (arith, nat_tests, next) in
    let turn : not (c.number == last + 1) ≡ false = grind (arith, nat_tests, next) in
    let front = map in_range (accounts c.call) ++ rules s c.call in
    let ruled = unless_refused (first_refusal (tests s c)) Allowed in
    ap (λ b. unless_refused (cond b (Some (AccountRange c.client)) None) (cond (is_repeated s c)
    (Repeated (client_of s c.client).kept) ruled)) inside
    ∙ ap (λ b. cond b (Repeated (client_of s c.client).kept) ruled) new
    ∙ ap (λ b. unless_refused (cond b (Some (OutOfTurn (next_number s c.client))) (first_refusal (front
    ++ room_rules s c))) Allowed) turn

-- what the call's accounts or its verb refuse, of a client in range whose number is the next
pub refused_call : (s : State) (c : Command) (refusal : Refusal) → c.client < ACCOUNTS
    → c.number ≡ (client_of s c.client).last + 1 → first_refusal (map in_range (accounts c.call) ++ rules s c.call)
    ≡ Some refusal → ruling s c ≡ Refused refusal
refused_call s c refusal within next h =
    next_ruling s c within next
    ∙ ap (λ (o : Option Refusal). unless_refused o Allowed) (some_first (map in_range (accounts c.call)
    ++ rules s c.call) (room_rules s c) refusal h)

-- what the journal's limits refuse, of a command that its accounts and its verb let pass
pub refused_room : (s : State) (c : Command) (refusal : Refusal) → c.client < ACCOUNTS
    → c.number ≡ (client_of s c.client).last + 1 → first_refusal (map in_range (accounts c.call) ++ rules s c.call)
    ≡ None → first_refusal (room_rules s c) ≡ Some refusal → ruling s c ≡ Refused refusal
refused_room s c refusal within next none h =
    next_ruling s c within next
    ∙ ap (λ (o : Option Refusal). unless_refused o Allowed) (passed (map in_range (accounts c.call)
    ++ rules s c.call) (room_rules s c) none ∙ h)

-- the accounts of a call that nothing refuses
pub accounts_within : (numbers : List ℕ) (more : List Rule) → first_refusal (map in_range numbers ++ more) ≡ None
    → AllByRecursion (λ account. account < ACCOUNTS) numbers
accounts_within [] more h = tt
accounts_within (n ∷ ns) more h =
    let first = none_first (in_range n) (map in_range ns ++ more) h in
    (below n first.0, accounts_within ns more first.1)
  where
    below : (m : ℕ) → nat_le ACCOUNTS m ≡ false → m < ACCOUNTS
    below m e = grind (arith, nat_tests, e)

-- what nothing refuses
pub allowed_call : (s : State) (c : Command) → c.client < ACCOUNTS → c.number ≡ (client_of s c.client).last + 1
    → first_refusal (map in_range (accounts c.call) ++ rules s c.call) ≡ None → first_refusal (room_rules s c) ≡ None
    → ruling s c ≡ Allowed
allowed_call s c within next none room =
    next_ruling s c within next
    ∙ ap (λ (o : Option Refusal). unless_refused o Allowed) (passed (map in_range (accounts c.call)
    ++ rules s c.call) (room_rules s c) none ∙ room)
