use Rattle.std.proofs.Common.{◌≡◌, ℕ, inr, Ok, Err, Result, refl, subst}
use Rattle.liq_types.specs.State.{State}
use Rattle.liq_rule_step.specs.Step.{Allowed}
use Rattle.liq_journal.specs.declared.damage.Damage.{Damage}
use Rattle.liq_disk_pair.specs.Replay.{replayed}
use Rattle.liq_disk_replay.specs.Making.{IsUnmade}
use Rattle.liq_follower.proofs.record.take.Goals as goal

-- an allowed command damages no record
clash : (index : ℕ) (s : State) (damage : Damage) → ((rest : Result State Damage) → replayed index Allowed rest
    ≡ Err damage) → ⊥
clash index s damage h = by (h (Ok s)) where
  by : Ok s ≡ Err damage → ⊥
  by is = cc

pub returns-in-Err-Damaged : goal.returns-in-Err-Damaged
returns-in-Err-Damaged c s stands =
    let made = c.in-Err-Damaged.ensures s stands in (
      refl,
      inr (
        c.in-Some.command,
        c.in-Some.ensures.tested,
        λ allowed. clash c.args.index s c.in-Err-Damaged.field-0-0
            (subst (λ r. (rest : Result State Damage) → replayed c.args.index r rest ≡ Err c.in-Err-Damaged.field-0-0)
            allowed
            (subst (λ fault. IsUnmade s c.in-Some.command c.args.index fault) c.in-Err-Damaged.field-0-is made.0)),
      ),
      made.1,
    )
