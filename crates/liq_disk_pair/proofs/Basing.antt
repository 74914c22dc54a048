-- The state with which a journal begins.
use Rattle.std.proofs.Common.{◌≡◌, ℕ, List, [], ◌∷◌, length, Option, Some, None, Result, Ok, Err, Bool, true, false, refl, sym, ◌∙◌, ap, if◌then◌else◌}
use Rattle.std.specs.Prelude.{◌*◌, ◌==◌, ◌&&◌, nat_le}
use Rattle.std.specs.List.{AllByRecursion, list_all}
use Rattle.std.proofs.lemmas.Bool.{and_parts, eq-eqb, eqb-true, ne_eqb}
use Rattle.liq_types.specs.declared.amounts.TheConstants.{OFFSET_MOST, P_OPENING}
use Rattle.liq_types.specs.declared.image.Image.{Image}
use Rattle.liq_types.specs.declared.requests.Command.{Command}
use Rattle.liq_types.specs.Soundness.{first_failing, first_unsound, has_sound_words, is_before, soundness}
use Rattle.liq_types.specs.State.{State, opening_with, started}
use Rattle.liq_types.specs.Tables.{EpochScale}
use Rattle.liq_types.specs.WellFormed.{AreFinished, IsBefore, IsWellFormed}
use Rattle.liq_stability.proofs.Tests.{before_in}
use Rattle.liq_rule_step.proofs.Started.{started_formed}
use Rattle.liq_checkpoint.specs.Reading.{image_at}
use Rattle.liq_journal.specs.declared.damage.Damage.{Damage}
use Rattle.liq_journal.specs.Written.{Written, and_then}
use Rattle.liq_disk_pair.specs.Replay.{bad_checkpoint, base_of, is_image_of, outcome, read_base, replay, replay_from, sound_base}

abbrev pub ends_in : State → Result State Damage
ends_in s = Ok s

pub ok_same : (a b : State) → ends_in a ≡ Ok b → a ≡ b
ok_same a b is = cc

-- ---- the first generation, and each later one

abbrev opening_or : Written → Bool → Result State Damage → Result State Damage
opening_or w first base = if first then Ok (opening_with w.limit) else base

abbrev started_or : Written → Bool → Image → Result State Damage
started_or w own i = if own then Ok (started i) else bad_checkpoint w 0

-- what its checkpoint gives
abbrev pub checkpoint_base : Written → Result State Damage
checkpoint_base w = read_base w (image_at (length w.checkpoint) w.checkpoint)

pub base_first : (w : Written) → w.generation ≡ 1 → base_of w ≡ Ok (opening_with w.limit)
unfolding base_of
base_first w first = ap (λ (n : ℕ). opening_or w (n == 1) (checkpoint_base w)) first

pub base_later : (w : Written) → (w.generation ≡ 1 → ⊥) → base_of w ≡ checkpoint_base w
unfolding base_of
base_later w later = ap (λ (b : Bool). opening_or w b (checkpoint_base w)) (ne_eqb w.generation 1 later)

-- a journal begins with the same state, whatever its records are
pub base_then : (w : Written) (c : Command) → base_of (and_then w c) ≡ base_of w
unfolding base_of
base_then w c = refl

-- so the outcome of the first generation is the replay from the opening
pub outcome_first : (w : Written) → w.generation ≡ 1 → outcome w ≡ replay 1 (opening_with w.limit) w.commands
outcome_first w first = ap (λ (base : Result State Damage). replay_from base w.commands) (base_first w first)

pub is_own : (w : Written) (i : Image) → i.generation ≡ w.generation → i.limit ≡ w.limit → is_image_of w i ≡ true
is_own w i same limit = λ k. eq-eqb i.generation w.generation same k && eq-eqb i.limit w.limit limit k

-- an image which breaks no rule, and is of this generation and limit
pub image_base : (w : Written) (i : Image) → first_unsound i 0 ≡ None → i.generation ≡ w.generation → i.limit ≡ w.limit
    → read_base w (Ok i) ≡ Ok (started i)
image_base w i sound same limit =
    ap (sound_base w i) sound ∙ ap (λ (b : Bool). started_or w b i) (is_own w i same limit)

-- a checkpoint that spells it
pub base_read : (w : Written) (i : Image) → (w.generation ≡ 1 → ⊥) → image_at (length w.checkpoint) w.checkpoint ≡ Ok i
    → first_unsound i 0 ≡ None → i.generation ≡ w.generation → i.limit ≡ w.limit → base_of w ≡ Ok (started i)
base_read w i later read sound same limit =
    base_later w later ∙ ap (read_base w) read ∙ image_base w i sound same limit

-- ---- and back

-- the state begins with this image, which breaks no rule and is of the journal's generation and limit
pub record IsStarted (w : Written) (i : Image) (s : State) : Type 0 where
  pub sound : first_unsound i 0 ≡ None
  pub generation_is : i.generation ≡ w.generation
  pub limit_is : i.limit ≡ w.limit
  pub state_is : s ≡ started i

pub data Begins (w : Written) (s : State) : Type 0 where
  opens : w.generation ≡ 1 → s ≡ opening_with w.limit → Begins w s
  starts : (i : Image) → image_at (length w.checkpoint) w.checkpoint ≡ Ok i → IsStarted w i s → Begins w s

module _ (w : Written) (i : Image) (s : State) where
  by_owner : (own : Bool) → first_unsound i 0 ≡ None → is_image_of w i ≡ own
      → started_or w own i ≡ Ok s → IsStarted w i s
  by_owner true sound is came =
      let both = and_parts (i.generation == w.generation) (i.limit == w.limit) is in
      record {
        sound = sound;
        generation_is = eqb-true i.generation w.generation both.0;
        limit_is = eqb-true i.limit w.limit both.1;
        state_is = sym (ok_same (started i) s came);
      }
  by_owner false sound is came = absurd (cc (came))

  by_rules : (fails : Option ℕ) → first_unsound i 0 ≡ fails → sound_base w i fails ≡ Ok s → IsStarted w i s
  by_rules (Some rule) is came = absurd (cc (came))
  by_rules None is came = by_owner (is_image_of w i) is refl came

begins_read : (w : Written) (s : State) (read : Result Image ℕ) → image_at (length w.checkpoint) w.checkpoint ≡ read
    → read_base w read ≡ Ok s → Begins w s
begins_read w s (Err place) is came = absurd (cc (came))
begins_read w s (Ok i) is came = starts i is (by_rules w i s (first_unsound i 0) refl came)

pub begins : (w : Written) (s : State) → base_of w ≡ Ok s → Begins w s
unfolding base_of
begins w s came = by (w.generation == 1) refl came
  where
    by : (first : Bool) → (w.generation == 1) ≡ first → opening_or w first (checkpoint_base w) ≡ Ok s → Begins w s
    by true first came = opens (eqb-true w.generation 1 first) (sym (ok_same (opening_with w.limit) s came))
    by false later came = begins_read w s (image_at (length w.checkpoint) w.checkpoint) refl came

-- ---- its generation and its limit

pub base_generation : (w : Written) (s : State) → base_of w ≡ Ok s → s.generation ≡ w.generation
base_generation w s came = by (begins w s came)
  where
    by : Begins w s → s.generation ≡ w.generation
    by (opens first is) = ap (λ (t : State). t.generation) is ∙ sym first
    by (starts i read is) = ap (λ (t : State). t.generation) is.state_is ∙ is.generation_is

pub base_limit : (w : Written) (s : State) → base_of w ≡ Ok s → s.limit ≡ w.limit
base_limit w s came = by (begins w s came)
  where
    by : Begins w s → s.limit ≡ w.limit
    by (opens first is) = ap (λ (t : State). t.limit) is
    by (starts i read is) = ap (λ (t : State). t.limit) is.state_is ∙ is.limit_is

-- ---- it is well formed

abbrev AllHold : List (ℕ × Bool) → Type 0
AllHold rules = AllByRecursion (λ (rule : ℕ × Bool). rule.1 ≡ true) rules

none_fails : (rules : List (ℕ × Bool)) → first_failing rules ≡ None → AllHold rules
none_fails [] none = tt
none_fails (rule ∷ rules) none = by rule.1 none (none_fails rules)
  where
    by : (holds : Bool) → (if holds then first_failing rules else Some rule.0) ≡ None
        → (first_failing rules ≡ None → AllHold rules) → (holds ≡ true) × AllHold rules
    by true none others = (refl, others none)
    by false none others = absurd (cc (none))

words_sound : (i : Image) → first_unsound i 0 ≡ None → has_sound_words i 0 ≡ true
words_sound i sound = let all = none_fails (soundness i 0) sound in all.1.1.1.1.1.1.1.1.0

abbrev is_finished : EpochScale → EpochScale × ℕ → Bool
is_finished now row = nat_le row.1 (OFFSET_MOST * P_OPENING) && is_before row.0 now

rows_earlier : (now : EpochScale) (rows : List (EpochScale × ℕ)) → list_all (is_finished now) rows ≡ true
    → AllByRecursion (λ (row : EpochScale × ℕ). IsBefore row.0 now) rows
rows_earlier now [] is = tt
rows_earlier now (row ∷ rows) is =
    let all = and_parts (is_finished now row) (list_all (is_finished now) rows) is in
    let one = and_parts (nat_le row.1 (OFFSET_MOST * P_OPENING)) (is_before row.0 now) all.0 in
    (before_in row.0 now one.1, rows_earlier now rows all.1)

are_finished : (i : Image) → first_unsound i 0 ≡ None → AreFinished i
are_finished i sound =
    let words = and_parts _ (list_all (is_finished (i.epoch, i.scale)) i.finished) (words_sound i sound) in
    rows_earlier (i.epoch, i.scale) i.finished words.1

-- what an image begins that breaks no rule
pub sound_formed : (i : Image) → first_unsound i 0 ≡ None → IsWellFormed (started i)
sound_formed i sound = started_formed i (are_finished i sound)
