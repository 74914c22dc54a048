-- The fees of a journal come to its fee pool, and can be shared.
use Rattle.std.proofs.Common.{◌≡◌, ℕ, suc, List, [], ◌∷◌, length, Ok, refl, ap, subst, arith}
use Rattle.std.specs.Prelude.{map}
use Rattle.liq_types.specs.declared.events.PoolEvent.{PoolEvent}
use Rattle.liq_types.specs.declared.replies.Done.{Done}
use Rattle.liq_types.specs.declared.requests.Command.{Command}
use Rattle.liq_types.specs.declared.requests.Request.TheVariants.{Do}
use Rattle.liq_types.specs.Image.{IsLimit}
use Rattle.liq_types.specs.State.{State, opening_with}
use Rattle.liq_rule_step.specs.Rules.{done_of}
use Rattle.liq_rule_step.specs.Step.{after}
use Rattle.liq_rule_sound.specs.SoundState.{IsSoundState}
use Rattle.liq_rule_sound.proofs.SoundBounds.{amounts_within}
use Rattle.liq_rule_sound.proofs.SoundStart.{opening_sound}
use Rattle.liq_rule_sound.proofs.SoundStep.{run_sound}
use Rattle.liq_disk_pair.specs.Replay.{replay}
use Rattle.liq_disk_pair.proofs.Generations.{HaveNoRotation}
use Rattle.liq_disk_replay.specs.Retold.{noted}
use Rattle.liq_disk_replay.proofs.Runs.{replay_runs, replay_few}
use Rattle.liq_text_staking.specs.Paid.{Fees, fee_of, fees_along, coll_in, lusd_in}
use Rattle.liq_text_staking.specs.Answering.{CanBeShared}
use Rattle.liq_text_staking.proofs.Adding.{replay_grows}

fees_each : (commands : List Command) (s : State) → length (fees_along s commands) ≡ length commands
fees_each [] s = refl
fees_each (c ∷ cs) s = ap suc (fees_each cs (after s c))

module _ (limit : ℕ) (commands : List Command) (s : State) (came : replay 1 (opening_with limit) commands ≡ Ok s) where
  pub coll_adds_up : coll_in (fees_along (opening_with limit) commands) ≡ s.fee_coll
  coll_adds_up = let grown = replay_grows commands 1 (opening_with limit) s came in omega (arith, grown.coll)

  pub lusd_adds_up : lusd_in (fees_along (opening_with limit) commands) ≡ s.fee_lusd
  lusd_adds_up = let grown = replay_grows commands 1 (opening_with limit) s came in omega (arith, grown.lusd)

  pub can_be_shared : IsLimit limit → HaveNoRotation commands → CanBeShared (fees_along (opening_with limit) commands)
  can_be_shared known none =
      let run = replay_runs s commands 1 (opening_with limit) came in
      let within = amounts_within s (subst IsSoundState run.state (run_sound (map Do commands) (opening_with limit)
      (opening_sound limit known))) in
      let count = replay_few s commands 1 (opening_with limit) none (omega arith) came in
      record {
        coll = omega (arith, coll_adds_up, within.fee_coll);
        lusd = omega (arith, lusd_adds_up, within.fee_lusd);
        few = omega (arith, fees_each commands (opening_with limit), count);
      }

-- ---- as they are noted

abbrev pub fee_noted : ℕ → Done → List PoolEvent → List Fees
fee_noted minute done events = fee_of done ∷ []

pub noted_fees : (commands : List Command) (s : State) → noted fee_noted s commands ≡ fees_along s commands
noted_fees [] s = refl
noted_fees (c ∷ cs) s = ap (λ (fees : List Fees). fee_of (done_of s c.call) ∷ fees) (noted_fees cs (after s c))
