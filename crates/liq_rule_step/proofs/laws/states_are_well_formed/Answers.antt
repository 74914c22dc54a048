use Rattle.std.proofs.Common.{ℕ, arith}
use Rattle.liq_types.specs.State.{opening_with}
use Rattle.liq_types.specs.WellFormed.{IsWellFormed}
use Rattle.liq_rule_step.proofs.AlikeReplies.{step_alike, run_alike, alike_itself}
use Rattle.liq_rule_step.proofs.AlikeStep.{effect_alike}
use Rattle.liq_rule_step.proofs.laws.states_are_well_formed.Goals as goal

opening_formed : (limit : ℕ) → IsWellFormed (opening_with limit)
opening_formed limit = (tt, tt, tt, (omega arith, omega arith))

pub returns-clause-opening : goal.returns-clause-opening
returns-clause-opening c = opening_formed

pub returns-clause-step : goal.returns-clause-step
returns-clause-step c s h request = (step_alike (alike_itself s h) request).left

pub returns-clause-effect : goal.returns-clause-effect
returns-clause-effect c s h call = (effect_alike (alike_itself s h) call).left

pub returns-clause-run : goal.returns-clause-run
returns-clause-run c s h requests = (run_alike requests (alike_itself s h)).left
