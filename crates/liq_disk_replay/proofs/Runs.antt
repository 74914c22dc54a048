-- A whole replay is a run, and its commands are few.
use Rattle.std.proofs.Common.{◌≡◌, ℕ, zero, suc, ◌+◌, ◌≤◌, false, cond, List, [], ◌∷◌, ◌++◌, length, Ok, refl, ap, ◌∙◌, arith}
use Rattle.std.specs.Prelude.{map}
use Rattle.liq_types.specs.declared.amounts.TheConstants.{RECORDS_MOST}
use Rattle.liq_types.specs.declared.requests.Command.{Command}
use Rattle.liq_types.specs.declared.requests.Request.TheVariants.{Do}
use Rattle.liq_types.specs.State.{State}
use Rattle.liq_rule_step.specs.Step.{Ruling, Refused, Repeated, Allowed, ruling, after, after_ruling, run, accepted, is_allowed}
use Rattle.liq_types.specs.Verbs.{is_rotate}
use Rattle.liq_rule_step.proofs.Allowed.{allowed_few}
use Rattle.liq_core_hinted.proofs.Steps.{after-records}
use Rattle.liq_disk_pair.specs.Replay.{replay, replayed}
use Rattle.liq_disk_pair.proofs.Generations.{HaveNoRotation}

-- ---- a replay is a run

-- the run accepts all of the commands, and ends there
pub record IsRun (s : State) (commands : List Command) (end : State) : Type 0 where
  pub again : accepted s (map Do commands) ≡ commands
  pub state : (run s (map Do commands)).0 ≡ end

run_one : (s : State) (c : Command) (cs : List Command) (end : State) → ruling s c ≡ Allowed → IsRun (after s c) cs end
    → IsRun s (c ∷ cs) end
run_one s c cs end is h =
    record {
      again = ap (λ r. cond (is_allowed r) (c ∷ []) [] ++ accepted (after_ruling s c r).0 (map Do cs)) is
          ∙ ap (λ (ks : List Command). c ∷ ks) h.again;
      state = ap (λ r. (run (after_ruling s c r).0 (map Do cs)).0) is ∙ h.state;
    }

module _ (end : State) where
  pub replay_runs : (commands : List Command) (index : ℕ) (s : State) → replay index s commands ≡ Ok end
      → IsRun s commands end
  unfolding replay
  replay_runs [] index s h = record { again = refl; state = cc }
  replay_runs (c ∷ cs) index s h = by (ruling s c) refl h (λ k. replay_runs cs (index + 1) (after s c) k) where
    by : (r : Ruling) → ruling s c ≡ r → replayed index r (replay (index + 1) (after s c) cs) ≡ Ok end
        → (replay (index + 1) (after s c) cs ≡ Ok end → IsRun (after s c) cs end) → IsRun s (c ∷ cs) end
    by (Refused refusal) is k more = cc
    by (Repeated kept) is k more = cc
    by Allowed is k more = run_one s c cs end is (more k)

-- ---- its commands are few

module _ (end : State) where
  pub replay_few : (commands : List Command) (index : ℕ) (s : State) → HaveNoRotation commands
      → s.records ≤ RECORDS_MOST → replay index s commands ≡ Ok end → s.records + length commands ≤ RECORDS_MOST
  unfolding replay
  replay_few [] index s none few h = omega arith
  replay_few (c ∷ cs) index s none few h = by (ruling s c) refl h (λ less k. replay_few cs (index + 1) (after s c)
      (λ i d lt. none (suc i) d (omega arith)) less k) where
        stays : is_rotate c.call ≡ false
        stays = none zero c (omega arith)

        counted : (after s c).records ≡ s.records + 1
        counted = after-records s c stays

        by : (r : Ruling) → ruling s c ≡ r → replayed index r (replay (index + 1) (after s c) cs) ≡ Ok end
            → ((after s c).records ≤ RECORDS_MOST → replay (index + 1) (after s c) cs ≡ Ok end
            → (after s c).records + length cs ≤ RECORDS_MOST) → s.records + length (c ∷ cs) ≤ RECORDS_MOST
        by (Refused refusal) is k more = cc
        by (Repeated kept) is k more = cc
        by Allowed is k more =
            let less = allowed_few s c is stays in
            let rest = more (omega (arith, counted, less)) k in
            omega (arith, counted, rest)
