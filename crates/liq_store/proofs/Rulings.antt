-- What is answered of a command, and what it tells, by the ruling on it.
use Rattle.std.proofs.Common.{◌≡◌, ◌∙◌, ◌++◌, List, [], append-nil, sym, ap, subst}
use Rattle.liq_types.specs.declared.events.ListChange.{ListChange}
use Rattle.liq_types.specs.declared.replies.Answer.{Answer}
use Rattle.liq_types.specs.declared.replies.Reply.{Reply}
use Rattle.liq_types.specs.declared.requests.Command.{Command}
use Rattle.liq_types.specs.declared.requests.Request.{Request}
use Rattle.liq_types.specs.declared.requests.Request.TheVariants.{Do}
use Rattle.liq_types.specs.State.{State}
use Rattle.liq_core.specs.Core.{Core, StandsFor}
use Rattle.liq_rule_step.specs.Rules.{call_changes}
use Rattle.liq_rule_step.specs.Step.{Ruling, after_ruling, ruling, step}
use Rattle.liq_store.specs.Telling.{told, told_by, told_of}

pub ruled : (core : Core) (s : State) (c : Command) (r : Ruling) (reply : Reply) → ruling s c ≡ r
    → StandsFor core (after_ruling s c r).0 → (after_ruling s c r).1 ≡ reply
    → StandsFor core (step s (Do c)).0 × ((step s (Do c)).1 ≡ reply)
ruled core s c r reply is stands said =
    subst (λ (x : Ruling). StandsFor core (after_ruling s c x).0 × ((after_ruling s c x).1 ≡ reply)) (sym is)
    (stands, said)

pub told_by_ruling : (s : State) (c : Command) (r : Ruling) → ruling s c ≡ r
    → told_of s (Do c) ≡ told_by r (call_changes s c.call)
told_by_ruling s c r is = ap (λ (x : Ruling). told_by x (call_changes s c.call)) is

-- where it tells nothing the changes stay
pub none_told : (s : State) (request : Request) (a : Answer) (before now : List ListChange) → now ≡ before
    → told s request a ≡ [] → now ≡ before ++ told s request a
none_told s request a before now same none = same ∙ sym (append-nil before)
    ∙ ap (λ (more : List ListChange). before ++ more) (sym none)
