-- For which requests memory may be asked.
use Rattle.std.specs.Prelude.{◌≡◌, ◌⊎◌}
use Rattle.liq_types.specs.declared.requests.Request.{Request}
use Rattle.liq_types.specs.declared.requests.Request.TheVariants.{Do, Ask}
use Rattle.liq_types.specs.State.{State}
use Rattle.liq_rule_step.specs.Lists.{PlansList}
use Rattle.liq_rule_step.specs.Step.{Allowed, ruling}

-- a command that makes a step: neither a query nor one that is refused or comes again
abbrev pub IsAccepted : State → Request → Type 0
IsAccepted s (Do command) = ruling s command ≡ Allowed
IsAccepted s (Ask query) = ⊥

-- a command that makes a step, or for which a list of troves is planned
abbrev pub TakesMemory : State → Request → Type 0
TakesMemory s (Do command) = (ruling s command ≡ Allowed) ⊎ PlansList s command
TakesMemory s (Ask query) = ⊥
