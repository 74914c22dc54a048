-- A replay that goes on to a command that is refused.
use Rattle.std.proofs.Common.{◌≡◌, ℕ, suc, ◌+◌, List, [], ◌∷◌, ◌++◌, length, Result, Ok, Err, refl, sym, ◌∙◌, ap, arith}
use Rattle.liq_types.specs.declared.requests.Command.{Command}
use Rattle.liq_types.specs.Codes.{code_of}
use Rattle.liq_types.specs.State.{State}
use Rattle.liq_rule_step.specs.Step.{Ruling, Refused, Repeated, Allowed, after, ruling}
use Rattle.liq_journal.specs.declared.damage.Damage.{Damage}
use Rattle.liq_journal.specs.declared.damage.What.TheVariants as what
use Rattle.liq_journal.specs.Written.{Written, and_then}
use Rattle.liq_disk_pair.specs.Replay.{outcome, replay, replayed}
use Rattle.liq_disk_pair.proofs.Basing.{base_then, ok_same}
use Rattle.liq_disk_pair.proofs.Replaying.{first_accepted, leads_from, outcome_from, replay_allowed, replay_more, replay_none}

-- the replay ends there, with the damage of this record
pub record EndsAt (index : ℕ) (came : Result State Damage) : Type 0 where
  pub damage : Damage
  pub is : came ≡ Err damage
  pub at : damage.index ≡ index

refused : (index : ℕ) (r : Ruling) (rest : Result State Damage) → (r ≡ Allowed → ⊥)
    → EndsAt index (replayed index r rest)
refused index (Refused refusal) rest isnt =
    record { damage = record { index = index; what = what.Replay (code_of refusal) }; is = refl; at = refl }
refused index (Repeated kept) rest isnt = record {
  damage = record { index = index; what = what.Replay 0 };
  is = refl;
  at = refl;
}
refused index Allowed rest isnt = absurd (isnt refl)

ends_so : (index : ℕ) (a b : Result State Damage) → a ≡ b → EndsAt index b → EndsAt index a
ends_so index a b same e = record { damage = e.damage; is = same ∙ e.is; at = e.at }

replay_refused : (index : ℕ) (s end : State) (cs : List Command) (c : Command) → replay index s cs ≡ Ok end
    → (ruling end c ≡ Allowed → ⊥)
    → EndsAt (index + length cs) (replay index s (cs ++ c ∷ []))
replay_refused index s end [] c came isnt =
    let same : s ≡ end = ok_same s end (sym (replay_none index s) ∙ came) in
    let here = refused index (ruling s c) (replay (index + 1) (after s c) [])
    (λ is. isnt (ap (λ (t : State). ruling t c) (sym same) ∙ is)) in
    let i : index ≡ index + 0 = omega arith in
    record { damage = here.damage; is = replay_more index s c [] ∙ here.is; at = here.at ∙ i }
replay_refused index s end (first ∷ cs) c came isnt =
    let a = first_accepted index s end first cs came in
    let rest = replay_refused (index + 1) (after s first) end cs c a.rest isnt in
    let i : index + 1 + length cs ≡ index + suc (length cs) = omega arith in
    record {
      damage = rest.damage;
      is = replay_allowed index s first (cs ++ c ∷ []) a.allowed
          ∙ rest.is;
      at = rest.at ∙ i;
    }

-- a journal that leads to a state does not go on to a command that the state refuses
pub outcome_refused : (w : Written) (c : Command) (end : State) → outcome w ≡ Ok end → (ruling end c ≡ Allowed → ⊥)
    → EndsAt (1 + length w.commands) (outcome (and_then w c))
outcome_refused w c end came isnt =
    let from = leads_from w end came in
    ends_so (1 + length w.commands) (outcome (and_then w c)) (replay 1 from.base (w.commands ++ c ∷ []))
    (outcome_from (and_then w c) from.base (base_then w c ∙ from.begun))
    (replay_refused 1 from.base end w.commands c from.came isnt)
