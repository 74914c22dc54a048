-- The generation of a journal is that of the state to which it leads, and decides on which disk it is. Its limit is the
-- state's, too.
use Rattle.std.proofs.Common.{◌≡◌, ℕ, ◌+◌, List, [], ◌∷◌, Ok, Bool, false, sym, ◌∙◌, ap}
use Rattle.std.specs.Prelude.{All}
use Rattle.std.proofs.lemmas.List.Elements.{All-head, All-tail}
use Rattle.liq_types.specs.declared.requests.Command.{Command}
use Rattle.liq_types.specs.State.{State}
use Rattle.liq_rule_step.specs.Step.{after}
use Rattle.liq_types.specs.Verbs.{is_rotate}
use Rattle.liq_rule_step.proofs.Generations.{effect-generation, effect-limit}
use Rattle.liq_journal.specs.Crash.{is_odd}
use Rattle.liq_journal.specs.Written.{Open, Written, found_on}
use Rattle.liq_journal.proofs.Heading.{has_generation}
use Rattle.liq_journal.proofs.Parity.{parity_of}
use Rattle.liq_disk_pair.specs.Replay.{outcome, replay}
use Rattle.liq_disk_pair.proofs.Basing.{base_generation, base_limit, ok_same}
use Rattle.liq_disk_pair.proofs.Replaying.{first_accepted, leads_from, replay_none}

abbrev pub HaveNoRotation : List Command → Type 0
HaveNoRotation commands = All (λ (c : Command). is_rotate c.call ≡ false) commands

-- what each other command leaves, a replay leaves
module _ (number : State → ℕ)
    (stays : (s : State) (c : Command) → is_rotate c.call ≡ false → number (after s c) ≡ number s) where
  replay_stays : (index : ℕ) (s end : State) (cs : List Command) → HaveNoRotation cs → replay index s cs ≡ Ok end
      → number end ≡ number s
  replay_stays index s end [] none came = ap number (sym (ok_same s end (sym (replay_none index s) ∙ came)))
  replay_stays index s end (c ∷ cs) none came =
      let first = first_accepted index s end c cs came in
      let here = All-head (λ (d : Command). is_rotate d.call ≡ false) c cs none in
      let others = All-tail (λ (d : Command). is_rotate d.call ≡ false) c cs none in
      replay_stays (index + 1) (after s c) end cs others first.rest ∙ stays s c here

pub after_generation : (s : State) (c : Command) → is_rotate c.call ≡ false → (after s c).generation ≡ s.generation
after_generation s c none = effect-generation s c.call none

after_limit : (s : State) (c : Command) → is_rotate c.call ≡ false → (after s c).limit ≡ s.limit
after_limit s c none = effect-limit s c.call none

pub outcome_generation : (w : Written) (end : State) → HaveNoRotation w.commands → outcome w ≡ Ok end
    → end.generation ≡ w.generation
outcome_generation w end none came =
    let from = leads_from w end came in
    replay_stays (λ (s : State). s.generation) after_generation 1 from.base end w.commands none from.came
    ∙ base_generation w from.base from.begun

pub outcome_limit : (w : Written) (end : State) → HaveNoRotation w.commands → outcome w ≡ Ok end → end.limit ≡ w.limit
outcome_limit w end none came =
    let from = leads_from w end came in
    replay_stays (λ (s : State). s.limit) after_limit 1 from.base end w.commands none from.came
    ∙ base_limit w from.base from.begun

-- ---- the side of a generation

pub found_parity : (odd : Bool) (bytes : List ℕ) (w : Written) → found_on odd bytes ≡ Open w → odd ≡ is_odd w.generation
found_parity odd bytes w found = sym (parity_of odd w.generation (has_generation odd bytes w found))
