-- What a replay comes to, record by record.
use Rattle.std.proofs.Common.{◌≡◌, ℕ, ◌+◌, List, [], ◌∷◌, ◌++◌, length, Result, Ok, Err, refl, sym, ◌∙◌, ap, subst, arith}
use Rattle.liq_types.specs.declared.requests.Command.{Command}
use Rattle.liq_types.specs.Image.{IsLimit}
use Rattle.liq_types.specs.State.{State, opening_with}
use Rattle.liq_types.specs.WellFormed.{IsWellFormed}
use Rattle.liq_rule_step.specs.Step.{Ruling, Refused, Repeated, Allowed, after, ruling}
use Rattle.liq_rule_step.proofs.AlikeReplies.{alike_itself, after_alike}
use Rattle.liq_rule_sound.specs.SoundState.{IsSoundState}
use Rattle.liq_rule_sound.proofs.SoundStart.{opening_sound, started_sound}
use Rattle.liq_rule_sound.proofs.SoundStep.{after_sound}
use Rattle.liq_journal.specs.declared.damage.Damage.{Damage}
use Rattle.liq_journal.specs.Written.{Written, and_then}
use Rattle.liq_disk_pair.specs.Replay.{base_of, outcome, replay, replay_from, replayed}
use Rattle.liq_disk_pair.proofs.Basing.{Begins, base_then, begins, ok_same, opens, outcome_first, sound_formed, starts}
use Rattle.liq_disk_pair.proofs.ImageTables.{tables_read}

-- ---- one record

pub replay_none : (index : ℕ) (s : State) → replay index s [] ≡ Ok s
unfolding replay
replay_none index s = refl

pub replay_more : (index : ℕ) (s : State) (c : Command) (cs : List Command)
    → replay index s (c ∷ cs) ≡ replayed index (ruling s c) (replay (index + 1) (after s c) cs)
unfolding replay
replay_more index s c cs = refl

pub replay_allowed : (index : ℕ) (s : State) (c : Command) (cs : List Command) → ruling s c ≡ Allowed
    → replay index s (c ∷ cs) ≡ replay (index + 1) (after s c) cs
replay_allowed index s c cs allowed = replay_more index s c cs
    ∙ ap (λ (r : Ruling). replayed index r (replay (index + 1) (after s c) cs)) allowed

-- a replay that came to a state accepted its first record
pub record Accepts (index : ℕ) (s : State) (c : Command) (cs : List Command) (end : State) : Type 0 where
  pub allowed : ruling s c ≡ Allowed
  pub rest : replay (index + 1) (after s c) cs ≡ Ok end

accepts : (index : ℕ) (s end : State) (c : Command) (cs : List Command) (r : Ruling) → ruling s c ≡ r
    → replayed index r (replay (index + 1) (after s c) cs) ≡ Ok end → Accepts index s c cs end
accepts index s end c cs (Refused refusal) is came = absurd (cc (came))
accepts index s end c cs (Repeated kept) is came = absurd (cc (came))
accepts index s end c cs Allowed is came = record { allowed = is; rest = came }

pub first_accepted : (index : ℕ) (s end : State) (c : Command) (cs : List Command) → replay index s (c ∷ cs) ≡ Ok end
    → Accepts index s c cs end
first_accepted index s end c cs came = accepts index s end c cs (ruling s c) refl
    (sym (replay_more index s c cs) ∙ came)

-- ---- one record more at the end

pub replay_then : (index : ℕ) (s end : State) (cs : List Command) (c : Command) → replay index s cs ≡ Ok end
    → ruling end c ≡ Allowed → replay index s (cs ++ c ∷ []) ≡ Ok (after end c)
replay_then index s end [] c came allowed =
    let same : s ≡ end = ok_same s end (sym (replay_none index s) ∙ came) in
    replay_allowed index s c [] (ap (λ (t : State). ruling t c) same ∙ allowed) ∙ replay_none (index + 1) (after s c)
    ∙ ap (λ (t : State). Ok (after t c)) same
replay_then index s end (first ∷ cs) c came allowed =
    let a = first_accepted index s end first cs came in
    replay_allowed index s first (cs ++ c ∷ []) a.allowed
    ∙ replay_then (index + 1) (after s first) end cs c a.rest allowed

-- ---- with its beginning

-- a journal that leads to this state begins with one from which its commands lead there
pub record LeadsFrom (w : Written) (end : State) : Type 0 where
  pub base : State
  pub begun : base_of w ≡ Ok base
  pub came : replay 1 base w.commands ≡ Ok end

pub leads_from : (w : Written) (end : State) → outcome w ≡ Ok end → LeadsFrom w end
leads_from w end came = by (base_of w) refl came
  where
    by : (base : Result State Damage) → base_of w ≡ base → replay_from base w.commands ≡ Ok end → LeadsFrom w end
    by (Ok s) begun came = record { base = s; begun = begun; came = came }
    by (Err damage) begun came = absurd (cc (came))

pub outcome_from : (w : Written) (base : State) → base_of w ≡ Ok base → outcome w ≡ replay 1 base w.commands
outcome_from w base begun = ap (λ (r : Result State Damage). replay_from r w.commands) begun

-- the first generation without records
pub outcome_none : (w : Written) → w.generation ≡ 1 → w.commands ≡ [] → outcome w ≡ Ok (opening_with w.limit)
outcome_none w first none =
    let start = opening_with w.limit in
    outcome_first w first ∙ ap (λ (cs : List Command). replay 1 start cs) none ∙ replay_none 1 start

pub outcome_then : (w : Written) (c : Command) (end : State) → outcome w ≡ Ok end → ruling end c ≡ Allowed
    → outcome (and_then w c) ≡ Ok (after end c)
outcome_then w c end came allowed =
    let from = leads_from w end came in
    outcome_from (and_then w c) from.base (base_then w c ∙ from.begun)
    ∙ replay_then 1 from.base end w.commands c from.came allowed

-- ---- well-formed states

pub opening_formed : (limit : ℕ) → IsWellFormed (opening_with limit)
opening_formed limit = (tt, tt, tt, (omega arith, omega arith))

pub base_formed : (w : Written) (s : State) → base_of w ≡ Ok s → IsWellFormed s
base_formed w s came = by (begins w s came)
  where
    by : Begins w s → IsWellFormed s
    by (opens first is) = subst (λ (t : State). IsWellFormed t) (sym is) (opening_formed w.limit)
    by (starts i read is) = subst (λ (t : State). IsWellFormed t) (sym is.state_is) (sound_formed i is.sound)

pub replay_formed : (index : ℕ) (s end : State) (cs : List Command) → IsWellFormed s → replay index s cs ≡ Ok end
    → IsWellFormed end
replay_formed index s end [] formed came =
    subst (λ (t : State). IsWellFormed t) (ok_same s end (sym (replay_none index s) ∙ came)) formed
replay_formed index s end (c ∷ cs) formed came =
    let a = first_accepted index s end c cs came in
    replay_formed (index + 1) (after s c) end cs (after_alike (alike_itself s formed) c).left a.rest

pub outcome_formed : (w : Written) (end : State) → outcome w ≡ Ok end → IsWellFormed end
outcome_formed w end came =
    let from = leads_from w end came in
    replay_formed 1 from.base end w.commands (base_formed w from.base from.begun) from.came

-- ---- sound states, of a journal whose limit is one of two

base_sound : (w : Written) (s : State) → IsLimit w.limit → base_of w ≡ Ok s → IsSoundState s
base_sound w s known came = by (begins w s came)
  where
    by : Begins w s → IsSoundState s
    by (opens first is) = subst (λ (t : State). IsSoundState t) (sym is) (opening_sound w.limit known)
    by (starts i read is) = subst (λ (t : State). IsSoundState t) (sym is.state_is) (started_sound i (record {
      rules = is.sound;
      tables = tables_read (length w.checkpoint) w.checkpoint i read;
    }))

replay_sound : (index : ℕ) (s end : State) (cs : List Command) → IsSoundState s → replay index s cs ≡ Ok end
    → IsSoundState end
replay_sound index s end [] sound came =
    subst (λ (t : State). IsSoundState t) (ok_same s end (sym (replay_none index s) ∙ came)) sound
replay_sound index s end (c ∷ cs) sound came =
    let a = first_accepted index s end c cs came in
    replay_sound (index + 1) (after s c) end cs (after_sound s sound c a.allowed) a.rest

pub outcome_sound : (w : Written) (end : State) → IsLimit w.limit → outcome w ≡ Ok end → IsSoundState end
outcome_sound w end known came =
    let from = leads_from w end came in
    replay_sound 1 from.base end w.commands (base_sound w from.base known from.begun) from.came
